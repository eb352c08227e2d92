-- In what company a fleet flies.
use Rattle.std.proofs.Common.{◌≡◌, true, false, List, [], ◌∷◌, refl, ap, sym, arith}
use Rattle.std.specs.Prelude.{None, Some, length, nat_le}
use Rattle.std.proofs.lemmas.Bool.Decides.{nat_tests}
use Rattle.fleet_rec.specs.Fleets.{first_of}
use Rattle.tick_model.specs.Sending.{arrival_of}
use Rattle.tick_model.specs.Universe.{Fleet}

-- what the first fleet of a raid tells of it
pub led : (fleets : List Fleet) (first : Fleet) → Some first ≡ first_of fleets → (nat_le (length fleets) 0 ≡ false) × (arrival_of fleets ≡ first.second)
led [] first is = absurd cc
led (fleet ∷ fleets) first is = let same : first ≡ fleet = cc in (grind (arith, nat_tests), ap (λ (x : Fleet). x.second) (sym same))

pub leaderless : (fleets : List Fleet) → None ≡ first_of fleets → (nat_le (length fleets) 0 ≡ true) × (arrival_of fleets ≡ 0)
leaderless [] is = (refl, refl)
leaderless (fleet ∷ fleets) is = absurd cc

pub ruleset first_raider = (led, leaderless)
