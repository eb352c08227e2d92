-- Fleets of a group, and what a battle makes of fleets.
use Rattle.std.proofs.Common.{◌≡◌, ℕ, ◌+◌, Bool, true, false, not, cond, ◌==◌, ◌&&◌, ◌||◌, List, [], ◌∷◌, length, map, drop, get_or, ◌<◌, Option, None, Some, filter, arith, refl, ap, ◌∙◌, sym, subst, inl, inr}
use Rattle.std.specs.Prelude.{count_by, is_some, option_map}
use Rattle.std.specs.List.{cons_option, filter_map, find, list_all, list_any}
use Rattle.std.proofs.lemmas.List.{drop_more}
use Rattle.std.proofs.lemmas.List.Sums.{sum_by-cons}
use Rattle.base_ids.specs.Cells.{same_coord}
use Rattle.base_ids.specs.declared.coord.Coord.{Coord}
use Rattle.fleet_rec.specs.Fleet.{fleet_seen}
use Rattle.fleet_rec.specs.Fleets.{MayFight, after_battle, back_or, bears, first_of, is_left, is_raider, turned_if}
use Rattle.fleet_rec.specs.declared.fleet.Fleet.{Fleet}
use Rattle.tick_model.specs.Battles.{back_with, comes_back}
use Rattle.tick_model.specs.Raids.{companions, is_attack, raiders}
use Rattle.tick_model.specs.Rules.{IsIn, same_flight}
use Rattle.tick_model.proofs.Lists.{and-is}
use Rattle.tick_model.specs.Universe.{Fleet as FleetInList}

counted : (own : Bool) (fleet : FleetInList) (fleets : List FleetInList) (n : ℕ) → length fleets ≡ n → length (cond own (fleet ∷ fleets) fleets) ≡ cond own 1 0 + n
counted true fleet fleets n is = omega arith
counted false fleet fleets n is = omega arith

abbrev pub goes : Coord → ℕ → Fleet → Bool
goes at group fleet = fleet.outbound && same_coord fleet.target at && fleet.group == group

-- the companions are as many as those that are seen
pub companions_count : (at : Coord) (group : ℕ) (fleets : List Fleet) → length (companions at group (map fleet_seen fleets)) ≡ count_by (goes at group) fleets
companions_count at group [] = refl
companions_count at group (first ∷ later) =
    counted (goes at group first) (fleet_seen first) (companions at group (map fleet_seen later)) _ (companions_count at group later)
    ∙ sym (sum_by-cons (λ (fleet : Fleet). cond (goes at group fleet) 1 0) first later)

-- something is found exactly if there is something
any-found_at : (p : FleetInList → Bool) (first : FleetInList) (later : List FleetInList) (b : Bool) → list_any p later ≡ is_some (find p later)
    → b || list_any p later ≡ is_some (cond b (Some first) (find p later))
any-found_at p first later true rest = refl
any-found_at p first later false rest = rest

pub any_found : (p : FleetInList → Bool) (fleets : List FleetInList) → list_any p fleets ≡ is_some (find p fleets)
any_found p [] = refl
any_found p (first ∷ later) = any-found_at p first later (p first) (any_found p later)

-- What a battle makes of fleets.

abbrev named : List FleetInList → FleetInList → Bool
named fleets fleet = list_any (same_flight fleet) fleets

found-back : (fought left : List FleetInList) (x : FleetInList) (rest : Option FleetInList) → find (same_flight x) left ≡ rest → named fought x ≡ true
    → (later kept : List FleetInList) → kept ≡ later
    → cond (is_left fought left (back_or x rest)) (back_or x rest ∷ kept) kept ≡ cons_option (option_map (back_with x) rest) later
found-back fought left x None is fights later kept same =
    let none : named left x ≡ false = any_found (same_flight x) left ∙ ap is_some is in
    let gone : is_left fought left x ≡ false = (λ i. not (fights i) || none i) in
    ap (λ b. cond b (x ∷ kept) kept) gone ∙ same
found-back fought left x (Some rest) is fights later kept same =
    let some : named left x ≡ true = any_found (same_flight x) left ∙ ap is_some is in
    let stays : is_left fought left (back_with x rest) ≡ true = (λ i. not (fights i) || some i) in
    ap (λ b. cond b (back_with x rest ∷ kept) kept) stays ∙ ap (λ fleets. back_with x rest ∷ fleets) same

became_at : (fought left : List FleetInList) (x : FleetInList) (b : Bool) → named fought x ≡ b → (later kept : List FleetInList) → kept ≡ later
    → cond (is_left fought left (cond b (back_or x (find (same_flight x) left)) x)) (cond b (back_or x (find (same_flight x) left)) x ∷ kept) kept
    ≡ cons_option (cond b (comes_back left x) (Some x)) later
became_at fought left x true fights later kept same = found-back fought left x (find (same_flight x) left) refl fights later kept same
became_at fought left x false apart later kept same =
    let stays : is_left fought left x ≡ true = ap (λ b. not b || named left x) apart in
    ap (λ b. cond b (x ∷ kept) kept) stays ∙ ap (λ fleets. x ∷ fleets) same

-- those that fought and are left have turned back, and the others that fought are gone
pub after_fight : (fought left fleets : List FleetInList)
    → filter (is_left fought left) (filter_map (λ fleet. Some (turned_if fought left fleet)) fleets) ≡ after_battle fought left fleets
after_fight fought left [] = refl
after_fight fought left (x ∷ fleets) =
    became_at fought left x (named fought x) refl (after_battle fought left fleets) (filter (is_left fought left) (filter_map (λ fleet. Some (turned_if fought left fleet)) fleets)) (after_fight fought left fleets)

-- what is looked for from a place on
pub numbered_more : (number : ℕ) (fleets : List Fleet) (i : ℕ) (fleet : Fleet) → i < length fleets → fleet ≡ get_or fleets i fleet
    → find (bears number) (map fleet_seen (drop i fleets)) ≡ cond (number == fleet.number) (Some (fleet_seen fleet)) (find (bears number) (map fleet_seen (drop (i + 1) fleets)))
numbered_more number fleets i fleet here is =
    ap (λ (xs : List Fleet). find (bears number) (map fleet_seen xs)) (drop_more fleets i fleet here ∙ ap (λ (x : Fleet). x ∷ drop (i + 1) fleets) (sym is))

pub fight_from : (fought left before after : List FleetInList) → after ≡ filter_map (λ fleet. Some (turned_if fought left fleet)) before
    → filter (is_left fought left) after ≡ after_battle fought left before
fight_from fought left before after turned = ap (filter (is_left fought left)) turned ∙ after_fight fought left before

-- the first that attacks is this one, or one of those behind it
first_one : (fleet : FleetInList) (attacks : Bool) (later : List FleetInList) → first_of (cond attacks (fleet ∷ later) later) ≡ cond attacks (Some fleet) (first_of later)
first_one fleet true later = refl
first_one fleet false later = refl

first_by : (fleet : FleetInList) (goes : Bool) (later : List FleetInList)
    → first_of (filter (λ x. is_attack x.mission) (cond goes (fleet ∷ later) later)) ≡ cond (goes && is_attack fleet.mission) (Some fleet) (first_of (filter (λ x. is_attack x.mission) later))
first_by fleet true later = first_one fleet (is_attack fleet.mission) (filter (λ x. is_attack x.mission) later)
first_by fleet false later = refl

-- the first raider from a place on
pub raider_more : (at : Coord) (group : ℕ) (fleets : List Fleet) (i : ℕ) (fleet : Fleet) → i < length fleets → fleet ≡ get_or fleets i fleet
    → first_of (raiders at group (map fleet_seen (drop i fleets)))
    ≡ cond (is_raider at group (fleet_seen fleet)) (Some (fleet_seen fleet)) (first_of (raiders at group (map fleet_seen (drop (i + 1) fleets))))
raider_more at group fleets i fleet here is =
    ap (λ (xs : List Fleet). first_of (raiders at group (map fleet_seen xs))) (drop_more fleets i fleet here ∙ ap (λ (x : Fleet). x ∷ drop (i + 1) fleets) (sym is))
    ∙ first_by (fleet_seen fleet) (goes at group fleet) (companions at group (map fleet_seen (drop (i + 1) fleets)))

-- if all fleets fly out, any of them may fight
out-all : (fleets : List Fleet) → list_all (λ fleet. fleet.outbound) fleets ≡ true → (fleet : FleetInList) → IsIn fleet (map fleet_seen fleets) → fleet.outbound ≡ true
out-all [] all fleet is = absurd is
out-all (first ∷ later) all fleet (inl same) = ap (λ (f : FleetInList). f.outbound) same ∙ (and-is first.outbound (list_all (λ other. other.outbound) later) all).0
out-all (first ∷ later) all fleet (inr is) = out-all later (and-is first.outbound (list_all (λ other. other.outbound) later) all).1 fleet is

pub all_out : (fleets : List Fleet) (seen : List FleetInList) → map fleet_seen fleets ≡ seen → list_all (λ fleet. fleet.outbound) fleets ≡ true → (fought : List FleetInList) → MayFight fought seen
all_out fleets seen are all fought fleet is named = out-all fleets all fleet (subst (IsIn fleet) (sym are) is)
