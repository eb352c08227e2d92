-- What a shared history starts from.
use Rattle.std.specs.Prelude.{ℕ, List, [], Bool, false}
use Rattle.atomic_table.specs.Seated.{TableId}
use Rattle.base_ids.specs.declared.cell_id.CellId.{CellId}
use Rattle.request_text.specs.declared.entry.Entry.{Entry}

pub record Start : Type 0 where
  -- the last number and the moment of the base
  pub number : ℕ
  pub moment : ℕ
  -- how many entries there may be
  pub capacity : ℕ
  -- the entries that were found
  pub found : List Entry
  -- the cells that there are
  pub cells : List CellId
  -- whether an entry, after those before it, touches a cell
  pub touches : List Entry → Entry → CellId → Bool

-- a history that can have no entry
abbrev pub no_start : Start
no_start = record { number = 0; moment = 0; capacity = 0; found = []; cells = []; touches = λ before entry cell. false }

-- the name of no table
abbrev pub no_table : TableId
no_table = record { words = 0; slots = 0; views_name = 0; atom = 0; block = 0; offset = 0; slot_names = [] }
