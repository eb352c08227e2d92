-- The places of the kinds of units, in which the units of a part are counted.
use Rattle.std.specs.Prelude.{ℕ, ◌+◌, ◌<◌, ◌==◌, ◌≡◌, get_or, length}
use Rattle.catalog.specs.Kinds.{kind_number}
use Rattle.catalog.specs.declared.classes.TheConstants.{UNIT_KINDS}
use Rattle.catalog.specs.declared.kind.Kind.{Kind}
use Rattle.catalog.specs.declared.kind.Kind.TheVariants.{SmallCargo}
use Rattle.battle.specs.declared.part.Part.{Part}
use Rattle.battle.specs.Trace.{one_if}

-- the number of the kind at a place among the kinds of units
abbrev pub unit_number : ℕ → ℕ
unit_number place = kind_number (get_or UNIT_KINDS place SmallCargo)

-- a part has one unit of a kind more, if the kind is one of units, and is else as it was
pub record GainsOne (kind : Kind) (old new : Part) : Type 0 where
  pub same_part : new ≡ record old { n = new.n }
  pub as_many : length new.n ≡ length old.n
  pub one_more : (place : ℕ) → place < 22 → get_or new.n place 0 ≡ get_or old.n place 0 + one_if (kind_number kind == unit_number place)
