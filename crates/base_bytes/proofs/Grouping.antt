-- How the groups of fleets are noted, one fleet after another.
use Rattle.std.proofs.Common.{◌≡◌, ℕ, ◌+◌, ◌<◌, ◌≤◌, ◌++◌, Bool, true, false, cond, eqb, not, ◌&&◌, List, [], ◌∷◌, Option, None, Some, All, inl, inr, length, get_or, map, take, drop, arith, refl, ap, ◌∙◌, sym, subst}
use Rattle.std.specs.Prelude.{AllPairs}
use Rattle.std.proofs.lemmas.Bool.Decides.{nat_tests}
use Rattle.std.proofs.lemmas.List.{get_or-map, get_or_append_left, length-append, length-map, map-append, take_more, take-append-drop}
use Rattle.std.proofs.lemmas.List.Elements.{All-contains, All-push, All-weaker, filter-append}
use Rattle.std.specs.BTreeMap.{BTreeMap, Updates, get}
use Rattle.std.specs.Ordering.{is_eq, nat_cmp}
use Rattle.base_bytes.proofs.Among.{has-place, pairs-first, pairs-later}
use Rattle.base_bytes.proofs.Owned.{place-one, place-same}
use Rattle.base_bytes.proofs.Placed.{at-place}
use Rattle.base_bytes.specs.Tallies.{AreNoted, AreOf, CanJoin, FitInGroups, IsNoted}
use Rattle.base_bytes.specs.declared.group_rules.Group.{Group}
use Rattle.base_ids.specs.Cells.{same_coord}
use Rattle.base_ids.specs.declared.coord.Coord.{Coord}
use Rattle.fleet_rec.specs.Fleet.{fleet_seen}
use Rattle.fleet_rec.specs.declared.fleet.Fleet.{Fleet as FleetRecord}
use Rattle.tick_model.proofs.Lists.{and-from, from-filter, in-filter, in-second, not-false, not-true, same_number}
use Rattle.tick_model.specs.Raids.{outbound_in}
use Rattle.tick_model.specs.Rules.{ArriveTogether, IsIn}
use Rattle.tick_model.specs.Universe.{Fleet}
use Rattle.tick_model.specs.declared.codes.TheConstants.{MOST_IN_GROUP}

-- a fleet flies out in a group
abbrev flies_in : ℕ → Fleet → Bool
flies_in group fleet = fleet.outbound && eqb fleet.group group

out-alone : (b : Bool) (fleet : Fleet) (kept : List Fleet) → b ≡ false → kept ++ cond b (fleet ∷ []) [] ≡ kept
out-alone true fleet kept other = absurd cc
out-alone false fleet [] other = refl
out-alone false fleet (first ∷ kept) other = ap (λ l. first ∷ l) (out-alone false fleet kept refl)

-- a fleet of another group doesn't change those of this one
others-kept : (group : ℕ) (fleets : List Fleet) (fleet : Fleet) → flies_in group fleet ≡ false → outbound_in group (fleets ++ fleet ∷ []) ≡ outbound_in group fleets
others-kept group fleets fleet other =
    filter-append (flies_in group) fleets (fleet ∷ []) ∙ out-alone (flies_in group fleet) fleet (outbound_in group fleets) other

-- a fleet that flies out comes to those of its group
one-joins : (fleets : List Fleet) (fleet : Fleet) → fleet.outbound ≡ true → outbound_in fleet.group (fleets ++ fleet ∷ []) ≡ outbound_in fleet.group fleets ++ fleet ∷ []
one-joins fleets fleet out =
    filter-append (flies_in fleet.group) fleets (fleet ∷ [])
    ∙ ap (λ b. outbound_in fleet.group fleets ++ cond b (fleet ∷ []) []) (and-from fleet.outbound (eqb fleet.group fleet.group) out (same_number fleet.group))

-- before the first fleet no group is noted
pub none-noted : (groups : BTreeMap ℕ Group) → groups.entries ≡ [] → AreNoted groups []
none-noted groups none group = rw none refl

-- a fleet that is on its way back changes no group
pub back-noted : (groups : BTreeMap ℕ Group) (fleets : List Fleet) (fleet : Fleet) → fleet.outbound ≡ false → AreNoted groups fleets → AreNoted groups (fleets ++ fleet ∷ [])
back-noted groups fleets fleet back noted group =
    subst (IsNoted (get nat_cmp groups group)) (sym (others-kept group fleets fleet (ap (λ b. b && eqb fleet.group group) back))) (noted group)

found-at : (a b : ℕ) → is_eq (nat_cmp a b) ≡ eqb a b
found-at a b = grind (arith, nat_tests)

equal-at : (a b : ℕ) → eqb a b ≡ true → a ≡ b
equal-at a b same = grind (arith, nat_tests)

noted-at : (old new : BTreeMap ℕ Group) (fleets : List Fleet) (fleet : Fleet) (noted : Group) (group : ℕ) (b : Bool) → eqb fleet.group group ≡ b
    → Updates nat_cmp old new fleet.group (Some noted) → fleet.outbound ≡ true → AreOf noted (outbound_in fleet.group fleets ++ fleet ∷ []) → AreNoted old fleets
    → IsNoted (get nat_cmp new group) (outbound_in group (fleets ++ fleet ∷ []))
noted-at old new fleets fleet noted group true same updates out are before =
    let here = subst (AreOf noted) (sym (one-joins fleets fleet out)) are in
    let mine = subst (λ o. IsNoted o (outbound_in fleet.group (fleets ++ fleet ∷ []))) (sym updates.1) here in
    subst (λ (g : ℕ). IsNoted (get nat_cmp new g) (outbound_in g (fleets ++ fleet ∷ []))) (equal-at fleet.group group same) mine
noted-at old new fleets fleet noted group false other updates out are before =
    let apart = updates.2 group (found-at fleet.group group ∙ other) in
    let still = subst (IsNoted (get nat_cmp old group)) (sym (others-kept group fleets fleet (and-second fleet.outbound (eqb fleet.group group) other))) (before group) in
    subst (λ o. IsNoted o (outbound_in group (fleets ++ fleet ∷ []))) (sym apart) still
  where
    and-second : (a b : Bool) → b ≡ false → a && b ≡ false
    and-second true b other = other
    and-second false b other = refl

-- a fleet that flies out is noted in its group
pub out-noted : (old new : BTreeMap ℕ Group) (fleets : List Fleet) (fleet : Fleet) (noted : Group)
    → Updates nat_cmp old new fleet.group (Some noted) → fleet.outbound ≡ true → AreOf noted (outbound_in fleet.group fleets ++ fleet ∷ []) → AreNoted old fleets
    → AreNoted new (fleets ++ fleet ∷ [])
out-noted old new fleets fleet noted updates out are before group =
    noted-at old new fleets fleet noted group (eqb fleet.group group) refl updates out are before

-- of a list whose pairs hold each one holds with the last
pairs-last : {A : Type 0} (R : A → A → Type 0) (x y : A) (xs : List A) → AllPairs R (xs ++ y ∷ []) → IsIn x xs → R x y
pairs-last R x y [] pairs is = absurd is
pairs-last R x y (first ∷ xs) pairs (inl same) =
    subst (λ a. R a y) (sym same) (pairs-first R first y (xs ++ y ∷ []) pairs (in-second y xs (y ∷ []) (inl refl)))
pairs-last R x y (first ∷ xs) pairs (inr later) = pairs-last R x y xs (pairs-later R first (xs ++ y ∷ []) pairs) later

-- if fleets fit into their groups, the last one could join the others of its group
pub last-joins : (fleets : List Fleet) (fleet : Fleet) → fleet.outbound ≡ true → FitInGroups (fleets ++ fleet ∷ []) → CanJoin fleet (outbound_in fleet.group fleets)
last-joins fleets fleet out fit =
    let group = outbound_in fleet.group fleets in
    let long = ap length (one-joins fleets fleet out) ∙ length-append group (fleet ∷ []) in
    let few = fit.1 fleet.group in
    record {
      together = λ k d below.
          let other = get_or group k d in
          let flies = from-filter (flies_in fleet.group) other fleets (at-place group k d below) in
          let both = and-is other.outbound (eqb other.group fleet.group) flies.1 in
          pairs-last ArriveTogether other fleet fleets fit.0 flies.0 both.0 out (equal-at other.group fleet.group both.1);
      room = omega (arith, long, few);
    }
  where
    and-is : (a b : Bool) → a && b ≡ true → (a ≡ true) × (b ≡ true)
    and-is true b both = (refl, both)
    and-is false b both = absurd cc

few-noted : (noted : Option Group) (fleets : List Fleet) → IsNoted noted fleets → length fleets ≤ MOST_IN_GROUP
few-noted None fleets none = let short = ap length none in omega (arith, short)
few-noted (Some group) fleets are = are.few

together-noted : (noted : Option Group) (fleets : List Fleet) (a b : Fleet) → IsNoted noted fleets → IsIn a fleets → IsIn b fleets → (a.target ≡ b.target) × (a.second ≡ b.second)
together-noted None fleets a b none is_a is_b = absurd (subst (IsIn a) none is_a)
together-noted (Some group) fleets a b are is_a is_b =
    let arrives = λ (fleet : Fleet). (fleet.target ≡ group.target) × (fleet.second ≡ group.second) in
    let first = All-contains arrives fleets a are.together (has-place a fleets is_a) in
    let second = All-contains arrives fleets b are.together (has-place b fleets is_b) in
    (first.0 ∙ sym second.0, first.1 ∙ sym second.1)

-- fleets that are noted fit into their groups
pub noted-fit : (groups : BTreeMap ℕ Group) (fleets : List Fleet) → AreNoted groups fleets → FitInGroups fleets
noted-fit groups fleets noted = (
  (λ i j d before below out_a out_b same.
      let a = get_or fleets i d in
      let b = get_or fleets j d in
      let is_a = in-filter (flies_in a.group) a fleets (at-place fleets i d (omega (arith, before, below))) (and-from a.outbound (eqb a.group a.group) out_a (same_number a.group)) in
      let one_group = ap (λ g. eqb g a.group) (sym same) ∙ same_number a.group in
      let is_b = in-filter (flies_in a.group) b fleets (at-place fleets j d below) (and-from b.outbound (eqb b.group a.group) out_b one_group) in
      together-noted (get nat_cmp groups a.group) (outbound_in a.group fleets) a b (noted a.group) is_a is_b),
  (λ group. few-noted (get nat_cmp groups group) (outbound_in group fleets) (noted group)),
)

-- the first ones of fleets that fit into their groups fit
fit-front : (fleets later : List Fleet) → FitInGroups (fleets ++ later) → FitInGroups fleets
fit-front fleets later fit = (
  (λ i j d before below.
      let long = length-append fleets later in
      let within : j < length (fleets ++ later) = omega (arith, below, long) in
      let sooner : i < length fleets = omega (arith, before, below) in
      let pair = fit.0 i j d before within in
      subst (λ f. ArriveTogether f (get_or fleets j d)) (get_or_append_left fleets later d i sooner)
      (subst (λ f. ArriveTogether (get_or (fleets ++ later) i d) f) (get_or_append_left fleets later d j below) pair)),
  (λ group.
      let long = ap length (filter-append (flies_in group) fleets later) ∙ length-append (outbound_in group fleets) (outbound_in group later) in
      let few = fit.1 group in
      omega (arith, long, few)),
)

-- one fleet more of a list
pub seen-more : (held : List FleetRecord) (i : ℕ) (fleet : FleetRecord) → i < length held → fleet ≡ get_or held i fleet
    → map fleet_seen (take (i + 1) held) ≡ map fleet_seen (take i held) ++ fleet_seen fleet ∷ []
seen-more held i fleet below is =
    ap (map fleet_seen) (take_more held i fleet below) ∙ map-append fleet_seen (take i held) (get_or held i fleet ∷ [])
    ∙ ap (λ (f : FleetRecord). map fleet_seen (take i held) ++ fleet_seen f ∷ []) (sym is)

-- those up to a fleet fit, if all fit
pub fit-upto : (held : List FleetRecord) (i : ℕ) (fleet : FleetRecord) → i < length held → fleet ≡ get_or held i fleet → FitInGroups (map fleet_seen held)
    → FitInGroups (map fleet_seen (take i held) ++ fleet_seen fleet ∷ [])
fit-upto held i fleet below is fit =
    let parts = map-append fleet_seen (take (i + 1) held) (drop (i + 1) held) in
    let whole = ap (map fleet_seen) (sym (take-append-drop (i + 1) held)) ∙ parts in
    subst FitInGroups (seen-more held i fleet below is) (fit-front (map fleet_seen (take (i + 1) held)) (map fleet_seen (drop (i + 1) held)) (subst FitInGroups whole fit))

-- a fleet that can join those of a group arrives where and when the group does
pub must-agree : (group : Group) (fleet : Fleet) (seen : List Fleet) → AreOf group seen → CanJoin fleet seen → (fleet.target ≡ group.target) × (fleet.second ≡ group.second)
must-agree group fleet seen are can =
    let some = are.some in
    let of_group = are.together 0 fleet (omega (arith, some)) in
    let of_fleet = can.together 0 fleet (omega (arith, some)) in
    (sym of_fleet.0 ∙ of_group.0, sym of_fleet.1 ∙ of_group.1)

-- the group with a fleet more
pub joined-are : (group new : Group) (fleet : Fleet) (seen : List Fleet) → fleet.target ≡ group.target → fleet.second ≡ group.second → group.count < MOST_IN_GROUP
    → new.target ≡ group.target → new.second ≡ group.second → new.count ≡ group.count + 1 → AreOf group seen → AreOf new (seen ++ fleet ∷ [])
joined-are group new fleet seen same_target same_second room target second count are =
    let long = length-append seen (fleet ∷ []) in
    let counted = are.counted in
    let arrives = λ (g : Group) (f : Fleet). (f.target ≡ g.target) × (f.second ≡ g.second) in
    let of_group = All-push (arrives group) seen fleet are.together (same_target, same_second) in
    record {
      counted = omega (arith, long, counted, count);
      some = omega (arith, long);
      few = omega (arith, long, counted, room);
      together = All-weaker (arrives group) (arrives new) (λ f both. (both.0 ∙ sym target, both.1 ∙ sym second)) (seen ++ fleet ∷ []) of_group;
    }

-- what `==` and `!=` of two places say
same-place : (a b : Coord) → same_coord a b ≡ (eqb a.g b.g && (eqb a.s b.s && eqb a.p b.p))
same-place a b = regrouped (eqb a.g b.g) (eqb a.s b.s) (eqb a.p b.p)
  where
    regrouped : (x y z : Bool) → ((x && y) && z) ≡ (x && (y && z))
    regrouped true y z = refl
    regrouped false y z = refl

pub place-equal : (a b : Coord) → not (eqb a.g b.g && (eqb a.s b.s && eqb a.p b.p)) ≡ false → a ≡ b
place-equal a b is = place-one a b (same-place a b ∙ not-false (eqb a.g b.g && (eqb a.s b.s && eqb a.p b.p)) is)

pub place-unequal : (a b : Coord) → not (eqb a.g b.g && (eqb a.s b.s && eqb a.p b.p)) ≡ true → a ≡ b → ⊥
place-unequal a b other same =
    let apart = not-true (eqb a.g b.g && (eqb a.s b.s && eqb a.p b.p)) other in
    absurd (cc (place-same a b same, same-place a b, apart))

-- what holds of all fleets that are seen holds of what is seen of one
pub seen-one : (P : Fleet → Type 0) (held : List FleetRecord) (i : ℕ) (fleet : FleetRecord) → i < length held → fleet ≡ get_or held i fleet → All P (map fleet_seen held) → P (fleet_seen fleet)
seen-one P held i fleet below is all =
    let long = length-map held fleet_seen in
    subst P (get_or-map fleet_seen held i fleet (fleet_seen fleet) below ∙ ap fleet_seen (sym is)) (all i (fleet_seen fleet) (omega (arith, below, long)))
