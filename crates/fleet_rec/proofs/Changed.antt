-- What changes of a list of fleets, and what is then seen of it.
use Rattle.std.proofs.Common.{◌≡◌, ℕ, zero, suc, ◌+◌, ◌<◌, Bool, true, false, not, cond, ◌==◌, List, [], ◌∷◌, ◌++◌, length, map, take, drop, get_or, set, None, Some, Option, filter, inl, inr, arith, refl, ap, ◌∙◌, sym}
use Rattle.std.specs.List.{filter_map}
use Rattle.std.proofs.lemmas.List.{drop-set-lt, drop_more, map_more, map_push, take_more_set}
use Rattle.std.proofs.lemmas.Bool.{eq-eqb}
use Rattle.std.proofs.lemmas.List.Elements.{filter_map-append}
use Rattle.fleet_rec.specs.Fleet.{fleet_seen, numbered}
use Rattle.fleet_rec.specs.Fleets.{AreOutbound, after_landing, last_numbered}
use Rattle.fleet_rec.specs.declared.fleet.Fleet.{Fleet}
use Rattle.tick_model.specs.Rules.{AreApart, IsIn}
use Rattle.tick_model.specs.Universe.{Fleet as FleetInList}
use Rattle.tick_model.proofs.Lists.{fleet-one}

kept_case : (b : Bool) (fleet : Fleet) (fleets : List Fleet) (seen : List FleetInList) → map fleet_seen fleets ≡ seen → map fleet_seen (cond b (fleet ∷ fleets) fleets) ≡ cond b (fleet_seen fleet ∷ seen) seen
kept_case true fleet fleets seen is = ap (λ (xs : List FleetInList). fleet_seen fleet ∷ xs) is
kept_case false fleet fleets seen is = is

-- those that stay are seen to stay
pub kept_seen : (stays : FleetInList → Bool) (fleets : List Fleet) → map fleet_seen (filter (λ fleet. stays (fleet_seen fleet)) fleets) ≡ filter stays (map fleet_seen fleets)
kept_seen stays [] = refl
kept_seen stays (first ∷ later) = kept_case (stays (fleet_seen first)) first (filter (λ fleet. stays (fleet_seen fleet)) later) (filter stays (map fleet_seen later)) (kept_seen stays later)

removed_case : (b : Bool) (number : ℕ) (fleet : Fleet) (fleets : List Fleet) (seen : List FleetInList) → (fleet.number == number) ≡ b → map fleet_seen fleets ≡ after_landing number None seen
    → map fleet_seen (cond (not b) (fleet ∷ fleets) fleets) ≡ after_landing number None (fleet_seen fleet ∷ seen)
removed_case true number fleet fleets seen same is = rw same is
removed_case false number fleet fleets seen same is = rw same (ap (λ (xs : List FleetInList). fleet_seen fleet ∷ xs) is)

-- the fleet of a number is seen to go
pub removed_seen : (number : ℕ) (fleets : List Fleet) → map fleet_seen (filter (λ fleet. not (fleet.number == number)) fleets) ≡ after_landing number None (map fleet_seen fleets)
removed_seen number [] = refl
removed_seen number (first ∷ later) = removed_case (first.number == number) number first (filter (λ fleet. not (fleet.number == number)) later) (map fleet_seen later) refl (removed_seen number later)

-- a fleet of a list is seen in it
pub seen_in : (fleets : List Fleet) (i : ℕ) (fleet : Fleet) → i < length fleets → fleet ≡ get_or fleets i fleet → IsIn (fleet_seen fleet) (map fleet_seen fleets)
seen_in [] i fleet here is = absurd (omega arith)
seen_in (first ∷ later) zero fleet here is = inl (ap fleet_seen is)
seen_in (first ∷ later) (suc i) fleet here is = inr (seen_in later i fleet (omega arith) is)

-- so if it has the number it flies out
pub outbound_at : (number : ℕ) (fleets : List Fleet) (i : ℕ) (fleet : Fleet) → AreOutbound number (map fleet_seen fleets) → i < length fleets → fleet ≡ get_or fleets i fleet → fleet.number ≡ number
    → fleet.outbound ≡ true
outbound_at number fleets i fleet flies here is same = flies (fleet_seen fleet) (seen_in fleets i fleet here is) same

-- one more fleet of a list has become what it becomes
pub changed_more : (became : FleetInList → Option FleetInList) (old new : List Fleet) (i : ℕ) (fleet now : Fleet)
    → map fleet_seen (take i new) ≡ filter_map became (map fleet_seen (take i old)) → i < length old → i < length new → fleet ≡ get_or old i fleet → became (fleet_seen fleet) ≡ Some (fleet_seen now)
    → map fleet_seen (take (i + 1) (set new i now)) ≡ filter_map became (map fleet_seen (take (i + 1) old))
changed_more became old new i fleet now so_far here there is becomes =
    let front = map fleet_seen (take i old) in
    let one : filter_map became (fleet_seen fleet ∷ []) ≡ fleet_seen now ∷ [] = rw becomes refl in
    let last : map fleet_seen (take (i + 1) old) ≡ front ++ fleet_seen fleet ∷ [] =
    map_more fleet_seen old i fleet here ∙ ap (λ (x : Fleet). front ++ fleet_seen x ∷ []) (sym is) in
    ap (map fleet_seen) (take_more_set new i now there)
    ∙ map_push fleet_seen (take i new) now
    ∙ ap (λ (xs : List FleetInList). xs ++ fleet_seen now ∷ []) so_far
    ∙ sym (ap (filter_map became) last ∙ filter_map-append became front (fleet_seen fleet ∷ []) ∙ ap (λ (xs : List FleetInList). filter_map became front ++ xs) one)

-- what is left of a list is not changed yet
pub still_there : (new old : List Fleet) (i : ℕ) (fleet : Fleet) → i < length new → i < length old → drop i new ≡ drop i old → fleet ≡ get_or new i fleet → fleet ≡ get_or old i fleet
still_there new old i fleet there here same is =
    let heads : get_or new i fleet ∷ drop (i + 1) new ≡ get_or old i fleet ∷ drop (i + 1) old = sym (drop_more new i fleet there) ∙ same ∙ drop_more old i fleet here in
    let first : get_or new i fleet ≡ get_or old i fleet = cc heads in
    is ∙ first

pub still_left : (new old : List Fleet) (i : ℕ) (now : Fleet) → i < length new → i < length old → drop i new ≡ drop i old → drop (i + 1) (set new i now) ≡ drop (i + 1) old
still_left new old i now there here same =
    let heads : get_or new i now ∷ drop (i + 1) new ≡ get_or old i now ∷ drop (i + 1) old = sym (drop_more new i now there) ∙ same ∙ drop_more old i now here in
    let rest : drop (i + 1) new ≡ drop (i + 1) old = cc heads in
    drop-set-lt (i + 1) new i now (omega arith) ∙ rest

-- the last fleet is seen to get its number
pub numbered_seen : (number : ℕ) (fleets : List Fleet) (place : ℕ) (last next : Fleet) → place + 1 ≡ length fleets → last ≡ get_or fleets place last → fleet_seen next ≡ numbered number (fleet_seen last)
    → map fleet_seen (set fleets place next) ≡ last_numbered number (map fleet_seen fleets)
numbered_seen number [] place last next spot here is = absurd (omega arith)
numbered_seen number (first ∷ []) zero last next spot here is = ap (λ (x : FleetInList). x ∷ []) (is ∙ ap (λ (x : Fleet). numbered number (fleet_seen x)) here)
numbered_seen number (first ∷ []) (suc place) last next spot here is = absurd (omega arith)
numbered_seen number (first ∷ second ∷ later) zero last next spot here is = absurd (omega arith)
numbered_seen number (first ∷ second ∷ later) (suc place) last next spot here is =
    ap (λ (xs : List FleetInList). fleet_seen first ∷ xs) (numbered_seen number (second ∷ later) place last next (omega arith) here is)

-- a fleet that is the last gets its number
pub numbered_push : (number : ℕ) (fleets : List FleetInList) (fleet : FleetInList) → last_numbered number (fleets ++ fleet ∷ []) ≡ fleets ++ numbered number fleet ∷ []
numbered_push number [] fleet = refl
numbered_push number (first ∷ []) fleet = refl
numbered_push number (first ∷ second ∷ later) fleet = ap (λ (xs : List FleetInList). first ∷ xs) (numbered_push number (second ∷ later) fleet)

-- of fleets with distinct numbers one flies out, so all of its number do
pub apart_outbound : (fleets : List FleetInList) (fleet : FleetInList) → AreApart fleets → IsIn fleet fleets → fleet.outbound ≡ true → AreOutbound fleet.number fleets
apart_outbound fleets fleet apart there out other is same =
    let one : other ≡ fleet = fleet-one fleets other fleet apart is there (eq-eqb other.number fleet.number same) in
    ap (λ (x : FleetInList). x.outbound) one ∙ out
