-- Fleets whose numbers rise.
use Rattle.std.proofs.Common.{◌≡◌, ℕ, ◌+◌, ◌<◌, Bool, true, false, List, length, get_or, map, arith, refl, ap, ◌∙◌, subst}
use Rattle.std.specs.Prelude.{◌↔◌, AllPairs, IsTrue, nat_lt}
use Rattle.std.specs.List.{AllAdjacentBelow, IsAllAdjacentAnswer}
use Rattle.std.specs.List.Sorted.{IsStrictlyIncreasing}
use Rattle.std.proofs.Math.ListN as list
use Rattle.std.proofs.lemmas.Bool.Decides.{nat_tests}
use Rattle.std.proofs.lemmas.List.{get_or-map}
use Rattle.std.proofs.lemmas.List.Kept.{AllPairs-from_increasing}
use Rattle.std.proofs.lemmas.List.{length-map}
use Rattle.base_bytes.proofs.Listing.{some-element}
use Rattle.fleet_rec.specs.Fleet.{fleet_seen}
use Rattle.fleet_rec.specs.declared.fleet.Fleet.{Fleet as FleetRecord}
use Rattle.tick_model.specs.Universe.{Fleet}

number_of : Fleet → ℕ
number_of fleet = fleet.number

-- each has a lower number than the next
abbrev pub is_lower : FleetRecord → FleetRecord → Bool
is_lower first second = nat_lt first.number second.number

below-number : (m n : ℕ) → true ≡ nat_lt m n → m < n
below-number m n is = grind (arith, nat_tests)

at-number : (m n : ℕ) → m < n → nat_lt m n ≡ true
at-number m n below = grind (arith, nat_tests)

read-number : (held : List FleetRecord) (k e : ℕ) (d : FleetRecord) → k < length held → get_or (map number_of (map fleet_seen held)) k e ≡ (get_or held k d).number
unfolding number_of
read-number held k e d below =
    let long = length-map held fleet_seen in
    get_or-map number_of (map fleet_seen held) k (fleet_seen d) e (omega (arith, below, long)) ∙ ap number_of (get_or-map fleet_seen held k d (fleet_seen d) below)

increasing : (held : List FleetRecord) → AllAdjacentBelow (λ x y. true ≡ is_lower x y) held (length held) → IsStrictlyIncreasing (map number_of (map fleet_seen held))
increasing held lower k below =
    let long = length-map (map fleet_seen held) number_of ∙ length-map held fleet_seen in
    let within : k + 1 < length held = omega (arith, below, long) in
    let here : k < length held = omega (arith, within) in
    let d = some-element held k here in
    let step = below-number (get_or held k d).number (get_or held (k + 1) d).number (lower k d within) in
    let first = read-number held k 0 d here in
    let second = read-number held (k + 1) 0 d within in
    omega (arith, step, first, second)

rise-all : (held : List FleetRecord) → AllAdjacentBelow (λ x y. true ≡ is_lower x y) held (length held) → AllPairs (λ (a b : Fleet). a.number < b.number) (map fleet_seen held)
unfolding number_of
rise-all held lower = λ i j d before below.
    let long = length-map (map fleet_seen held) number_of in
    let pair = AllPairs-from_increasing (map number_of (map fleet_seen held)) (increasing held lower) i j d.number before (omega (arith, below, long)) in
    let first = list.get_or-map number_of (map fleet_seen held) i d in
    let second = list.get_or-map number_of (map fleet_seen held) j d in
    subst (λ m. m < (get_or (map fleet_seen held) j d).number) first (subst (λ n. get_or (map number_of (map fleet_seen held)) i d.number < n) second pair)

-- fleets rise if each has a lower number than the next, and only then
pub rises : (held : List FleetRecord) (r : Bool) → IsAllAdjacentAnswer (λ x y b. b ≡ is_lower x y) held r → IsTrue r ↔ AllPairs (λ (a b : Fleet). a.number < b.number) (map fleet_seen held)
rises held true lower = (λ yes_true. rise-all held lower, λ rise. refl)
rises held false (k, below, higher) = (
  (λ not_true. absurd cc),
  (λ rise.
      let here : k < length held = omega (arith, below) in
      let d = some-element held k here in
      let long = length-map held fleet_seen in
      let pair = rise k (k + 1) (fleet_seen d) (omega arith) (omega (arith, below, long)) in
      let first = ap (λ (f : Fleet). f.number) (get_or-map fleet_seen held k d (fleet_seen d) here) in
      let second = ap (λ (f : Fleet). f.number) (get_or-map fleet_seen held (k + 1) d (fleet_seen d) below) in
      let is_below : (get_or held k d).number < (get_or held (k + 1) d).number = omega (arith, pair, first, second) in
      let is = at-number (get_or held k d).number (get_or held (k + 1) d).number is_below in
      absurd (cc (is, higher d))),
)
