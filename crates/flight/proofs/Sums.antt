-- Sums over the ships of a fleet, kind by kind.
use Rattle.std.proofs.Common.{◌≡◌, ℕ, zero, suc, ◌+◌, ◌*◌, ◌<◌, ◌≤◌, List, [], ◌∷◌, length, get_or, drop, refl, arith, lit≤}
use Rattle.std.specs.Prelude.{IsTrue, nat_le}
use Rattle.std.specs.List.{list_all}
use Rattle.std.proofs.lemmas.List.{drop_more}
use Rattle.std.proofs.lemmas.Bool.Decides.{nat_tests}
use Rattle.base_num.proofs.Quotients.{floor_bounds}
use Rattle.catalog.specs.Flight.{cargo_of}
use Rattle.catalog.specs.declared.kind.Kind.{Kind}
use Rattle.catalog.specs.declared.kind.Kind.TheVariants.{SmallCargo}
use Rattle.catalog.specs.declared.ships.TheConstants.{UNITS}
use Rattle.flight.specs.Fleets.{total}

-- the sum from a kind on is what the ships of that kind have and the sum from the next kind on
pub total_more : (of_kind : Kind → ℕ) (kinds : List Kind) (counts : List ℕ) (i : ℕ) (d : Kind) → i < length kinds → i < length counts → total of_kind (drop i kinds) (drop i counts) ≡ get_or counts i 0 * of_kind (get_or kinds i d) + total of_kind (drop (i + 1) kinds) (drop (i + 1) counts)
unfolding total
total_more of_kind kinds counts i d here there = rw (drop_more kinds i d here, drop_more counts i 0 there) refl

-- the ships of a kind more are taken into the sum
pub total_step : (of_kind : Kind → ℕ) (kinds : List Kind) (counts : List ℕ) (i : ℕ) (d : Kind) (sum count one whole : ℕ) → i < length kinds → i < length counts → count ≡ get_or counts i 0 → one ≡ of_kind (get_or kinds i d) → sum + total of_kind (drop i kinds) (drop i counts) ≡ whole → sum + count * one + total of_kind (drop (i + 1) kinds) (drop (i + 1) counts) ≡ whole
total_step of_kind kinds counts i d sum count one whole here there counted figured so_far = let more = total_more of_kind kinds counts i d here there in rw (counted, figured) (omega (arith, more, so_far))

-- no ship, no sum
pub total_none : (of_kind : Kind → ℕ) (counts : List ℕ) → total of_kind [] counts ≡ 0
unfolding total
total_none of_kind counts = refl

-- no count is above the most units of a kind
pub count_to : (counts : List ℕ) (i : ℕ) → IsTrue (list_all (λ count. nat_le count UNITS) counts) → get_or counts i 0 ≤ UNITS
count_to [] i within = lit≤ tt
count_to (count ∷ counts) zero within = grind (arith, nat_tests)
count_to (count ∷ counts) (suc i) within = let rest = count_to counts i in grind (arith, nat_tests)

-- no ship has more room than a death star
pub cargo_to : (kind : Kind) → cargo_of kind ≤ 1000000
cargo_to SmallCargo = lit≤ tt
cargo_to _ = lit≤ tt

pub ruleset sums = (total_none)

pub ruleset fuels = (floor_bounds)
