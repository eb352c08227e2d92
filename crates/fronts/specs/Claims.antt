-- Claims, and the entries that they concern.
use Rattle.std.specs.Prelude.{◌≡◌, List, [], ◌∷◌, ◌++◌, true, Contains}
use Rattle.fronts.specs.declared.claim.Claim.{Claim}
use Rattle.fronts.specs.declared.claim.Claim.TheVariants.{Pen, Flush, Number, Cell}
use Rattle.fronts.specs.declared.view.Sent.{Sent}
use Rattle.fronts.specs.Start.{Start}
use Rattle.fronts.specs.History.{entries_of}

-- A claim concerns an entry, after those before it: the pen all entries, a number those of that pass, a cell those that
-- touch it.
abbrev pub Concerns : Start → List Sent → Sent → Claim → Type 0
Concerns start before s Pen = Unit {0}
Concerns start before s Flush = ⊥
Concerns start before s (Number number) = s.pass ≡ number
Concerns start before s (Cell id) = start.touches (entries_of before) s.entry id ≡ true

-- these claims concern none of the entries that come after a front
abbrev pub IsQuiet : Start → List Claim → List Sent → List Sent → Type 0
IsQuiet start claims front [] = Unit {0}
IsQuiet start claims front (s ∷ later) =
    ((c : Claim) → Contains claims c → Concerns start front s c → ⊥) × IsQuiet start claims (front ++ s ∷ []) later

-- a history goes on from a front, and these claims concern nothing of what came after it
pub record Follows (start : Start) (claims : List Claim) (front history : List Sent) : Type 0 where
  pub later : List Sent
  pub begins : front ++ later ≡ history
  pub quiet : IsQuiet start claims front later
