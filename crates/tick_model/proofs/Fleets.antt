-- The fleets of a player among all.
use Rattle.std.proofs.Common.{◌≡◌, ℕ, inl, inr, Bool, true, false, cond, eqb, ◌&&◌, List, [], ◌∷◌, Option, None, Some, filter, refl, ap, ◌∙◌, sym}
use Rattle.std.specs.List.{list_any}
use Rattle.base_ids.specs.Cells.{same_player}
use Rattle.base_ids.specs.declared.player.Player.{Player}
use Rattle.base_ids.specs.declared.cell_id.CellId.{CellId}
use Rattle.laziness.proofs.Bringing.{never}
use Rattle.tick_model.specs.Rules.{AreApart, IsIn, same_flight}
use Rattle.tick_model.specs.Sending.{belongs_out, fleet_of}
use Rattle.tick_model.specs.Universe.{Fleet}
use Rattle.tick_model.specs.Views.{belongs}
use Rattle.tick_model.proofs.Lists.{and-from, and-is, any-none, fails, from-filter, none-any, number-is, same_number}

-- a fleet is one of these, with this number, of this player
pub record IsFleetOf (player : Player) (number : ℕ) (fleets : List Fleet) (fleet : Fleet) : Type 0 where
  pub within : IsIn fleet fleets
  pub number_is : eqb fleet.number number ≡ true
  pub owner_is : same_player fleet.owner player ≡ true

found_at : (player : Player) (number : ℕ) (first fleet : Fleet) (later : List Fleet) (b : Bool) → (eqb first.number number && same_player first.owner player) ≡ b
    → (fleet_of player number later ≡ Some fleet → IsFleetOf player number later fleet)
    → cond b (Some first) (fleet_of player number later) ≡ Some fleet → IsFleetOf player number (first ∷ later) fleet
found_at player number first fleet later true is rest found =
    let same : first ≡ fleet = cc in
    let both = and-is (eqb first.number number) (same_player first.owner player) is in
    record {
      within = inl (sym same);
      number_is = ap (λ (f : Fleet). eqb f.number number) (sym same) ∙ both.0;
      owner_is = ap (λ (f : Fleet). same_player f.owner player) (sym same) ∙ both.1;
    }
found_at player number first fleet later false is rest found =
    let later_one = rest found in
    record { within = inr later_one.within; number_is = later_one.number_is; owner_is = later_one.owner_is }

-- what is found is such a fleet
pub fleet-found : (player : Player) (number : ℕ) (fleets : List Fleet) (fleet : Fleet) → fleet_of player number fleets ≡ Some fleet → IsFleetOf player number fleets fleet
fleet-found player number [] fleet is = absurd cc
fleet-found player number (first ∷ later) fleet is =
    found_at player number first fleet later (eqb first.number number && same_player first.owner player) refl (fleet-found player number later fleet) is

-- and of fleets that bear different numbers it is found
pub find-fleet : (player : Player) (number : ℕ) (fleets : List Fleet) (fleet : Fleet) → AreApart fleets → IsIn fleet fleets → eqb fleet.number number ≡ true → same_player fleet.owner player ≡ true
    → fleet_of player number fleets ≡ Some fleet
find-fleet player number [] fleet apart is number_is owner_is = absurd is
find-fleet player number (first ∷ later) fleet apart (inl same) number_is owner_is =
    let here : (eqb first.number number && same_player first.owner player) ≡ true =
    ap (λ (f : Fleet). eqb f.number number && same_player f.owner player) (sym same) ∙ and-from (eqb fleet.number number) (same_player fleet.owner player) number_is owner_is in
    ap (λ b. cond b (Some first) (fleet_of player number later)) here ∙ ap Some (sym same)
find-fleet player number (first ∷ later) fleet apart (inr rest) number_is owner_is =
    let other : (eqb first.number number && same_player first.owner player) ≡ false =
    fails (eqb first.number number && same_player first.owner player) (λ here.
    let same : first.number ≡ fleet.number = number-is first.number number (and-is (eqb first.number number) (same_player first.owner player) here).0 ∙ sym (number-is fleet.number number number_is) in
    never (same_flight first fleet) (ap (λ n. eqb n fleet.number) same ∙ same_number fleet.number) (none-any (same_flight first) fleet later apart.0 rest)) in
    ap (λ b. cond b (Some first) (fleet_of player number later)) other ∙ find-fleet player number later fleet apart.1 rest number_is owner_is

apart-kept : (b : Bool) (x : Fleet) (xs : List Fleet) → list_any (same_flight x) xs ≡ false → AreApart xs → AreApart (cond b (x ∷ xs) xs)
apart-kept true x xs other apart = (other, apart)
apart-kept false x xs other apart = apart

-- some of these bear different numbers too
pub apart-filter : (p : Fleet → Bool) (xs : List Fleet) → AreApart xs → AreApart (filter p xs)
apart-filter p [] apart = tt
apart-filter p (x ∷ xs) apart =
    let other = any-none (same_flight x) (filter p xs) (λ y is. none-any (same_flight x) y xs apart.0 (from-filter p y xs is).0) in
    apart-kept (p x) x (filter p xs) other (apart-filter p xs apart.1)

-- a player's fleet that flies out, and has a cell
pub record FliesOut (player : Player) (number : ℕ) (cell : CellId) (fleets : List Fleet) : Type 0 where
  pub fleet : Fleet
  pub is_theirs : IsFleetOf player number fleets fleet
  pub out : fleet.outbound ≡ true
  pub has : belongs cell fleet ≡ true

flies_at : (player : Player) (number : ℕ) (cell : CellId) (fleets : List Fleet) (found : Option Fleet) → fleet_of player number fleets ≡ found → belongs_out cell found ≡ true → FliesOut player number cell fleets
flies_at player number cell fleets None is out = never false out refl
flies_at player number cell fleets (Some fleet) is out =
    let both = and-is fleet.outbound (belongs cell fleet) out in
    record { fleet = fleet; is_theirs = fleet-found player number fleets fleet is; out = both.0; has = both.1 }

pub flies-out : (player : Player) (number : ℕ) (cell : CellId) (fleets : List Fleet) → belongs_out cell (fleet_of player number fleets) ≡ true → FliesOut player number cell fleets
flies-out player number cell fleets out = flies_at player number cell fleets (fleet_of player number fleets) refl out

pub out-flies : (player : Player) (number : ℕ) (cell : CellId) (fleets : List Fleet) → AreApart fleets → FliesOut player number cell fleets → belongs_out cell (fleet_of player number fleets) ≡ true
out-flies player number cell fleets apart flies =
    let found = find-fleet player number fleets flies.fleet apart flies.is_theirs.within flies.is_theirs.number_is flies.is_theirs.owner_is in
    ap (belongs_out cell) found ∙ and-from flies.fleet.outbound (belongs cell flies.fleet) flies.out flies.has
