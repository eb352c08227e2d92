-- What becomes of calls.
use Rattle.std.specs.Prelude.{◌≡◌, ℕ, Contains}
use Rattle.fronts.specs.declared.claim.Claim.TheVariants.{Number}
use Rattle.fronts.specs.declared.view.View.{View}
use Rattle.fronts.specs.History.{calls_by}

-- the new front has the same calls of each pass whose number the old view has
abbrev pub KeepsCalls : View → View → Type 0
KeepsCalls old new = (n : ℕ) → Contains old.claims (Number n) → calls_by n new.front ≡ calls_by n old.front
