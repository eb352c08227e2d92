-- How many units a line of a founding text may say, and a planet that is founded may have. Rule: docs/RULES.md, "The founding".
use Rattle.std.specs.Prelude.{◌≡◌, ◌≤◌, ℕ, List, true, if◌then◌else◌, slice_index}
use Rattle.catalog.specs.Kinds.{place_in}
use Rattle.catalog.specs.declared.classes.TheConstants.{UNIT_KINDS}
use Rattle.catalog.specs.declared.kind.Kind.{Kind}
use Rattle.catalog.specs.declared.ships.TheConstants.{UNITS}
use Rattle.tick_model.specs.Refusals.{is_dome}

-- one dome of each kind, and of any other unit as many as an account may have
abbrev pub most_units : Kind → ℕ
most_units kind = if is_dome kind then 1 else UNITS

-- of counts in the order of UNIT_KINDS there is at most one dome of each kind
pub record HasLoneDomes (units : List ℕ) : Type 0 where
  pub each : (kind : Kind) → is_dome kind ≡ true → slice_index units (place_in UNIT_KINDS kind) ≤ 1
