-- What the tests begin with.
use Rattle.std.proofs.Common.{◌+◌, ◌≤◌, [], ◌∷◌, replicate, arith, slice_index}
use Rattle.std.specs.Prelude.{Some, sum}
use Rattle.account_cell.specs.Bounds.{AreWithinCaps as AreTechsWithinCaps}
use Rattle.account_cell.specs.declared.account.Account.{Account}
use Rattle.catalog.specs.Kinds.{place_in}
use Rattle.catalog.specs.Levels.{level_cap_of}
use Rattle.catalog.specs.Technologies.{level_in}
use Rattle.catalog.specs.declared.classes.TheConstants.{BUILDINGS}
use Rattle.catalog.specs.declared.kind.Kind.{Kind}
use Rattle.catalog.specs.declared.kind.Kind.TheVariants.{MetalMine}
use Rattle.orders.specs.Granting.{AreCounted}
use Rattle.planet_cell.proofs.Caps.{caps_fresh}
use Rattle.planet_cell.specs.Bounds.{AreWithinCaps}
use Rattle.planet_cell.specs.Planet.{batches_of}
use Rattle.planet_cell.specs.declared.planet.Planet.{Planet}
use Rattle.tick_model.specs.Views.{units_left}

workshop : (kind : Kind) → slice_index (0 ∷ 0 ∷ 0 ∷ 0 ∷ 0 ∷ 0 ∷ 0 ∷ 2 ∷ 1 ∷ 1 ∷ 0 ∷ []) (place_in BUILDINGS kind) + 0 ≤ level_cap_of kind
workshop MetalMine = omega arith
workshop _ = omega arith

pub levels_of_workshops : AreWithinCaps (0 ∷ 0 ∷ 0 ∷ 0 ∷ 0 ∷ 0 ∷ 0 ∷ 2 ∷ 1 ∷ 1 ∷ 0 ∷ []) []
levels_of_workshops = record { each = λ kind class. workshop kind }

pub levels_fresh : AreWithinCaps (replicate 11 0) []
levels_fresh = caps_fresh

learned : (kind : Kind) → level_in (3 ∷ 0 ∷ 0 ∷ 0 ∷ 0 ∷ 0 ∷ 0 ∷ 0 ∷ 0 ∷ 0 ∷ 0 ∷ 0 ∷ 0 ∷ 1 ∷ []) kind + 0 ≤ level_cap_of kind
learned MetalMine = omega arith
learned _ = omega arith

pub levels_learned : AreTechsWithinCaps (3 ∷ 0 ∷ 0 ∷ 0 ∷ 0 ∷ 0 ∷ 0 ∷ 0 ∷ 0 ∷ 0 ∷ 0 ∷ 0 ∷ 0 ∷ 1 ∷ []) []
levels_learned = record { each = λ kind class. learned kind }

-- an account that has as many units as a planet counts them
pub counts : (account : Account) (planet : Planet) → sum planet.units + units_left (batches_of planet) ≤ account.units → AreCounted (Some account) (Some planet)
counts account planet within = λ own. within
