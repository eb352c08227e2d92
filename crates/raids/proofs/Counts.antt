-- Counts of units, kind by kind: what stands again, and what was lost.
use Rattle.std.proofs.Common.{◌≡◌, ℕ, ◌+◌, ◌-◌, ◌*◌, ◌/◌, ◌<◌, ◌≤◌, ◌∙◌, cond, List, [], ◌∷◌, ◌++◌, length, take, drop, get_or, set, min, refl, ap, sym, arith}
use Rattle.std.specs.Prelude.{sum_by}
use Rattle.std.proofs.lemmas.List.Sums.{sum_by-append, sum_by-cons}
use Rattle.std.proofs.lemmas.List.{append-nil, append_assoc, drop_all, drop_more, take_all, take_more_set}
use Rattle.battle.specs.declared.part.Part.{Part}
use Rattle.catalog.specs.declared.amounts.TheConstants.{CAP}
use Rattle.catalog.specs.declared.kind.Kind.{Kind}
use Rattle.flight.specs.Fleets.{total}
use Rattle.raids.specs.Losses.{crystal_of, metal_of}
use Rattle.spoils.specs.Defences.{rebuilt}
use Rattle.tick_model.specs.Battles.{debris_after, is_defence, losses, units_after, wrecks}
use Rattle.tick_model.specs.Flights.{left_by}
use Rattle.tick_model.specs.declared.debris.Debris.{Debris}

-- one kind more of the units after a battle
pub units_more : (kinds : List Kind) (before left units : List ℕ) (i : ℕ) (d : Kind) (count : ℕ) (whole : List ℕ)
    → i < length kinds → i < length before → i < length left → i < length units
    → count ≡ cond (is_defence (get_or kinds i d)) (get_or left i 0 + rebuilt (get_or before i 0 - get_or left i 0)) (get_or left i 0)
    → take i units ++ units_after (drop i kinds) (drop i before) (drop i left) ≡ whole
    → take (i + 1) (set units i count) ++ units_after (drop (i + 1) kinds) (drop (i + 1) before) (drop (i + 1) left) ≡ whole
units_more kinds before left units i d count whole one two three four counted is =
    let rest = units_after (drop (i + 1) kinds) (drop (i + 1) before) (drop (i + 1) left) in
    let more : units_after (drop i kinds) (drop i before) (drop i left) ≡ count ∷ rest =
    rw (drop_more kinds i d one, drop_more before i 0 two, drop_more left i 0 three, counted) refl in
    ap (λ (xs : List ℕ). xs ++ rest) (take_more_set units i count four)
    ∙ append_assoc (take i units) (count ∷ []) rest
    ∙ ap (λ (xs : List ℕ). take i units ++ xs) (sym more)
    ∙ is

-- and then no kind is left
pub units_all : (kinds : List Kind) (before left units : List ℕ) (i : ℕ) (whole : List ℕ) → length kinds ≤ i → length units ≤ i
    → take i units ++ units_after (drop i kinds) (drop i before) (drop i left) ≡ whole → units ≡ whole
units_all kinds before left units i whole one two is =
    let none : units_after (drop i kinds) (drop i before) (drop i left) ≡ [] = rw (drop_all i kinds one) refl in
    sym (append-nil units) ∙ ap (λ (xs : List ℕ). xs ++ []) (sym (take_all i units two)) ∙ ap (λ (xs : List ℕ). take i units ++ xs) (sym none) ∙ is

-- one kind more of what was lost
pub lost_more : (of_kind : Kind → ℕ) (kinds : List Kind) (before left : List ℕ) (i : ℕ) (d : Kind) (lost : ℕ) → i < length kinds → i < length before → i < length left
    → lost ≡ get_or before i 0 - get_or left i 0
    → total of_kind (drop i kinds) (left_by (drop i before) (drop i left))
    ≡ lost * of_kind (get_or kinds i d) + total of_kind (drop (i + 1) kinds) (left_by (drop (i + 1) before) (drop (i + 1) left))
unfolding total
lost_more of_kind kinds before left i d lost one two three counted = rw (drop_more kinds i d one, drop_more before i 0 two, drop_more left i 0 three, counted) refl

pub raised_more : (sum one rest all most new whole : ℕ) → new ≡ min (sum + one) most → all ≡ one + rest → min (sum + all) most ≡ whole → min (new + rest) most ≡ whole
raised_more sum one rest all most new whole raised more is = omega (arith, raised, more, is)

-- and then no kind is left
pub raised_all : (of_kind : Kind → ℕ) (kinds : List Kind) (counts : List ℕ) (i sum most whole : ℕ) → length kinds ≤ i → sum ≤ most
    → min (sum + total of_kind (drop i kinds) counts) most ≡ whole → sum ≡ whole
unfolding total
raised_all of_kind kinds counts i sum most whole all less is =
    let none : total of_kind (drop i kinds) counts ≡ 0 = rw (drop_all i kinds all) refl in
    omega (arith, none, less, is)

-- one part more of what was lost
pub losses_more : (f : List ℕ → ℕ) (parts lefts : List Part) (i : ℕ) (d e : Part) → i < length parts → i < length lefts
    → sum_by f (losses (drop i parts) (drop i lefts)) ≡ f (left_by (get_or parts i d).n (get_or lefts i e).n) + sum_by f (losses (drop (i + 1) parts) (drop (i + 1) lefts))
losses_more f parts lefts i d e one two =
    let more : losses (drop i parts) (drop i lefts) ≡ left_by (get_or parts i d).n (get_or lefts i e).n ∷ losses (drop (i + 1) parts) (drop (i + 1) lefts) =
    rw (drop_more parts i d one, drop_more lefts i e two) refl in
    ap (sum_by f) more ∙ sum_by-cons f (left_by (get_or parts i d).n (get_or lefts i e).n) (losses (drop (i + 1) parts) (drop (i + 1) lefts))

pub debris_is : (there result : Debris) (lost : List (List ℕ))
    → result.metal ≡ min (there.metal + 3 * sum_by (total metal_of wrecks) lost / 10) CAP
    → result.crystal ≡ min (there.crystal + 3 * sum_by (total crystal_of wrecks) lost / 10) CAP
    → result ≡ debris_after there lost
unfolding debris_after
debris_is there result lost metal crystal = λ i. record { metal = metal i; crystal = crystal i }

-- what was lost of one part more
pub raised_last : (f : List ℕ → ℕ) (lost : List (List ℕ)) (last : List ℕ) (sum most new : ℕ) → sum ≡ min (sum_by f lost) most → new ≡ min (sum + f last) most
    → new ≡ min (sum_by f (lost ++ last ∷ [])) most
raised_last f lost last sum most new so_far raised =
    let both = sum_by-append f lost (last ∷ []) in
    let one : sum_by f (last ∷ []) ≡ f last + 0 = sum_by-cons f last [] in
    omega (arith, so_far, raised, both, one)
