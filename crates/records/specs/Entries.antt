-- The bytes of an entry. Numbers stand with their most significant byte first. Rule: docs/FORMATS.md, "Entries".
use Rattle.std.specs.Prelude.{ℕ, List, [], ◌∷◌, ◌++◌, codes, replicate}
use Rattle.std.specs.Int.{to_be_bytes, w16, w32, w64}
use Rattle.std.specs.List.{flat_map}
use Rattle.records.specs.Columns.{order_of, load_of}
use Rattle.records.specs.declared.fields.Place.{Place}
use Rattle.records.specs.declared.fields.Head.{Head}
use Rattle.records.specs.declared.fields.Order.{Order}
use Rattle.records.specs.declared.fields.Load.{Load}
use Rattle.request_text.specs.Forms.{form_number}
use Rattle.request_text.specs.Words.{form_of}
use Rattle.request_text.specs.declared.entry.Entry.{Entry}

-- a number in so many bits
abbrev pub u8 : ℕ → List ℕ
u8 n = n ∷ []

unfoldable pub u16 : ℕ → List ℕ
u16 n = to_be_bytes w16 n

unfoldable pub u32 : ℕ → List ℕ
u32 n = to_be_bytes w32 n

unfoldable pub u64 : ℕ → List ℕ
u64 n = to_be_bytes w64 n

-- pieces one after another
abbrev pub joined : List (List ℕ) → List ℕ
joined [] = []
joined (piece ∷ pieces) = piece ++ joined pieces

abbrev pub place_bytes : Place → List ℕ
place_bytes at = joined (u8 at.g ∷ u16 at.s ∷ u8 at.p ∷ [])

-- the first 33 bytes: which entry, when, whose, and of which form
abbrev pub head_bytes : Head → List ℕ
head_bytes head = joined (codes "OGE1" ∷ u64 head.number ∷ u64 head.moment ∷ u64 head.reading ∷ u32 head.player ∷ u8 head.form ∷ [])

-- the next 23: what is to be done
abbrev pub order_bytes : Order → List ℕ
order_bytes order = joined (place_bytes order.from ∷ place_bytes order.to ∷ u8 order.kind ∷ u8 order.mission ∷ u8 order.setting ∷ u32 order.count ∷ u64 order.fleet ∷ [])

-- the next 76: the cargo and the ships of a fleet
abbrev pub load_bytes : Load → List ℕ
load_bytes load = joined (u64 load.metal ∷ u64 load.crystal ∷ u64 load.deuterium ∷ flat_map u32 load.ships ∷ [])

-- the numbers of an entry that every form has
abbrev pub head_of : Entry → Head
head_of entry = record { number = entry.number; moment = entry.moment; reading = entry.reading; player = entry.player.k; form = form_number (form_of entry.req) }

-- the 256 bytes that spell an entry: these, and 124 zeros
unfoldable pub entry_bytes : Entry → List ℕ
entry_bytes entry = joined (head_bytes (head_of entry) ∷ order_bytes (order_of entry.req) ∷ load_bytes (load_of entry.req) ∷ replicate 124 0 ∷ [])
