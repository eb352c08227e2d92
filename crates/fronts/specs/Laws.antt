-- What follows for any shared history.
use Rattle.std.specs.Prelude.{◌≡◌, ℕ, ◌+◌, ◌<◌, Bool, true, false, List, [], ◌∷◌, ◌++◌, length, slice_index_or, Contains}
use Rattle.base_ids.specs.declared.cell_id.CellId.{CellId}
use Rattle.request_text.specs.declared.entry.Entry.{Entry}
use Rattle.fronts.specs.declared.claim.Claim.{Claim}
use Rattle.fronts.specs.declared.claim.Claim.TheVariants.{Cell}
use Rattle.fronts.specs.declared.view.Sent.{Sent}
use Rattle.fronts.specs.Start.{Start}
use Rattle.fronts.specs.History.{IsHistory, entries_of}
use Rattle.fronts.specs.Claims.{Follows}

-- Something that is told of a history and that no entry changes which doesn't touch a cell, as what the cell stands for: if it
-- holds of a front, it holds of each history that goes on from there and touches no cell that is named.
abbrev pub NamedCellsStand : Start → Type 0
NamedCellsStand start =
    (id : CellId) (claims : List Claim) (stands : List Entry → Bool) → Contains claims (Cell id)
    → ((before : List Entry) (entry : Entry) → start.touches before entry id ≡ false → stands before ≡ true → stands (before ++ entry ∷ []) ≡ true)
    → (front history : List Sent) → Follows start claims front history → stands (entries_of front) ≡ true → stands (entries_of history) ≡ true

-- the number of each entry tells its place, so no entry stands in a history twice
abbrev pub NumbersTellPlaces : Start → Type 0
NumbersTellPlaces start =
    (history : List Sent) → IsHistory start history → (k : ℕ) (other : Entry) → k < length (entries_of history)
    → (slice_index_or (entries_of history) k other).number ≡ start.number + k + 1
