-- What is left of a side is a side.
use Rattle.std.proofs.Common.{◌≡◌, ℕ, ◌+◌, ◌<◌, ◌≤◌, List, [], ◌∷◌, length, map, Bool, true, false, cond, ◌&&◌, inl, inr, ap, ◌∙◌, sym, subst, refl, arith}
use Rattle.std.specs.Prelude.{nat_le, ◌==◌}
use Rattle.std.specs.List.{count_by, enumerate_from, flat_map, sum_by}
use Rattle.std.specs.List.Sorted.{IsStrictlyIncreasing}
use Rattle.std.proofs.lemmas.Bool.{and_right, cases_eq, ne_eqb}
use Rattle.std.proofs.lemmas.Bool.Decides.{nat_tests}
use Rattle.std.proofs.lemmas.List.{length-append, length-map}
use Rattle.std.proofs.lemmas.List.Sums.{count_by-le-length, sum_by-cons, sum-map}
use Rattle.catalog.specs.Kinds.{kind_number}
use Rattle.catalog.specs.declared.classes.TheConstants.{UNIT_KINDS}
use Rattle.catalog.specs.declared.kind.Kind.{Kind}
use Rattle.battle.proofs.Kept.{is_one, kinds_rise}
use Rattle.battle.proofs.Places.{Rise}
use Rattle.battle.proofs.UnitCounts.{length-part}
use Rattle.battle.specs.declared.fighter.Fighter.{Fighter}
use Rattle.battle.specs.declared.part.Part.{Part}
use Rattle.battle.specs.Outcomes.{count_of, survivors}
use Rattle.battle.specs.Sides.{IsSide, part_fighters}
use Rattle.battle.specs.declared.limits.TheConstants.{MOST_UNITS}

-- a number behind its kinds is not among them
none_later : (part from : ℕ) (f : Fighter) (kinds : List Kind) → kind_number f.kind < from → Rise from (map kind_number kinds) → sum_by (λ kind. cond (is_one part kind f) 1 0) kinds ≡ 0
unfolding Rise
none_later part from f [] before rise = refl
none_later part from f (kind ∷ kinds) before (after, rise) =
    let rest = none_later part (kind_number kind + 1) f kinds (omega (arith, before, after)) rise in
    let differs = ne_eqb (kind_number f.kind) (kind_number kind) (λ same. omega (arith, before, after, same)) in
    sum_by-cons (λ k. cond (is_one part k f) 1 0) kind kinds ∙ rw (and_right (f.part == part) (kind_number f.kind == kind_number kind) differs) (omega (arith, rest))

at_most : (own same : Bool) → cond {A = ℕ} (own && same) 1 0 ≤ cond own 1 0
at_most true true = omega arith
at_most true false = omega arith
at_most false same = omega arith

at_once : (from part : ℕ) → cond {A = ℕ} (part == from) 1 0 + cond {A = ℕ} (nat_le (from + 1) part) 1 0 ≤ cond (nat_le from part) 1 0
at_once from part = grind (arith, nat_tests)

-- a unit is of one kind at most, and of one part
one_kind : (part from : ℕ) (f : Fighter) (kinds : List Kind) → Rise from (map kind_number kinds) → sum_by (λ kind. cond (is_one part kind f) 1 0) kinds ≤ cond (f.part == part) 1 0
unfolding Rise
one_kind part from f [] rise = omega arith
one_kind part from f (kind ∷ kinds) (after, rise) =
    let whole = sum_by-cons (λ k. cond (is_one part k f) 1 0) kind kinds in
    elim (cases_eq (kind_number f.kind) (kind_number kind)) [
      | inl same ↦
          let rest = none_later part (kind_number kind + 1) f kinds (omega (arith, same)) rise in
          let first = at_most (f.part == part) (kind_number f.kind == kind_number kind) in
          omega (arith, whole, rest, first)
      | inr differs ↦
          let rest = one_kind part (kind_number kind + 1) f kinds rise in
          let first : cond {A = ℕ} (is_one part kind f) 1 0 ≡ 0 = rw (and_right (f.part == part) (kind_number f.kind == kind_number kind) (ne_eqb (kind_number f.kind) (kind_number kind) differs)) refl in
          omega (arith, whole, rest, first)
    ]

-- sums of sums
sum_none : {X : Type 0} (xs : List X) → sum_by (λ x. 0) xs ≡ 0
sum_none [] = refl
sum_none (x ∷ xs) = let rest = sum_none xs in sum_by-cons (λ y. 0) x xs ∙ omega (arith, rest)

sum_alike : {X : Type 0} (f g : X → ℕ) (xs : List X) → ((x : X) → f x ≡ g x) → sum_by f xs ≡ sum_by g xs
sum_alike f g [] same = refl
sum_alike f g (x ∷ xs) same =
    let rest = sum_alike f g xs same in
    let here = same x in
    let left_side = sum_by-cons f x xs in
    let right_side = sum_by-cons g x xs in
    omega (arith, rest, here, left_side, right_side)

sum_plus : {X : Type 0} (f g : X → ℕ) (xs : List X) → sum_by (λ x. f x + g x) xs ≡ sum_by f xs + sum_by g xs
sum_plus f g [] = refl
sum_plus f g (x ∷ xs) =
    let rest = sum_plus f g xs in
    let both = sum_by-cons (λ y. f y + g y) x xs in
    let one = sum_by-cons f x xs in
    let other = sum_by-cons g x xs in
    omega (arith, rest, both, one, other)

-- the units of a part, over all kinds
all_kinds : (part : ℕ) (living : List Fighter) → sum_by (count_of living part) UNIT_KINDS ≤ count_by (λ f. f.part == part) living
all_kinds part [] = let none = sum_none UNIT_KINDS in omega (arith, none)
all_kinds part (f ∷ living) =
    let rest = all_kinds part living in
    let first = one_kind part 0 f UNIT_KINDS kinds_rise in
    let split = sum_alike (count_of (f ∷ living) part) (λ kind. cond (is_one part kind f) 1 0 + count_of living part kind) UNIT_KINDS
    (λ kind. sum_by-cons (λ g. cond (is_one part kind g) 1 0) f living) in
    let both = sum_plus (λ kind. cond (is_one part kind f) 1 0) (count_of living part) UNIT_KINDS in
    let whole = sum_by-cons (λ g. cond (g.part == part) 1 0) f living in
    omega (arith, rest, first, split, both, whole)

-- units of a part and of later ones
split_parts : (from : ℕ) (living : List Fighter) → count_by (λ f. f.part == from) living + count_by (λ f. nat_le (from + 1) f.part) living ≤ count_by (λ f. nat_le from f.part) living
split_parts from [] = omega arith
split_parts from (f ∷ living) =
    let rest = split_parts from living in
    let one = sum_by-cons (λ g. cond (g.part == from) 1 0) f living in
    let later = sum_by-cons (λ g. cond (nat_le (from + 1) g.part) 1 0) f living in
    let whole = sum_by-cons (λ g. cond (nat_le from g.part) 1 0) f living in
    let here = at_once from f.part in
    omega (arith, rest, one, later, whole, here)

-- the units that are left of the parts from a place on
abbrev left_from : List Fighter → ℕ → List Part → List Part
left_from living from parts = map (λ placed. record placed.1 { n = map (count_of living placed.0) UNIT_KINDS }) (enumerate_from from parts)

units_left : (living : List Fighter) (from : ℕ) (parts : List Part)
    → length (flat_map (λ placed. part_fighters placed.0 placed.1) (enumerate_from from (left_from living from parts))) ≤ count_by (λ f. nat_le from f.part) living
units_left living from [] = omega arith
units_left living from (p ∷ parts) =
    let rest = units_left living (from + 1) parts in
    let counts = map (count_of living from) UNIT_KINDS in
    let own = length-part from (record p { n = counts }) (length-map UNIT_KINDS (count_of living from)) in
    let summed = sum-map (count_of living from) UNIT_KINDS in
    let kinds = all_kinds from living in
    let split = split_parts from living in
    let both = length-append (part_fighters from (record p { n = counts })) (flat_map (λ placed. part_fighters placed.0 placed.1) (enumerate_from (from + 1) (left_from living (from + 1) parts))) in
    omega (arith, rest, own, summed, kinds, split, both)

numbers_left : (living : List Fighter) (from : ℕ) (parts : List Part) → map (λ (p : Part). p.number) (left_from living from parts) ≡ map (λ (p : Part). p.number) parts
numbers_left living from [] = refl
numbers_left living from (p ∷ parts) = ap (λ ns. p.number ∷ ns) (numbers_left living (from + 1) parts)

-- what is left of a side is a side
pub still_side : (living : List Fighter) (parts : List Part) → IsSide parts → length living ≤ MOST_UNITS → IsSide (survivors living parts)
still_side living parts side most =
    record {
      numbers = subst IsStrictlyIncreasing (sym (numbers_left living 0 parts)) side.numbers;
      most = (let fewer = units_left living 0 parts in let within = count_by-le-length (λ f. nat_le 0 f.part) living in omega (arith, fewer, within, most));
    }
