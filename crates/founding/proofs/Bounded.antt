-- What a line writes keeps a planet's fields and its domes.
use Rattle.std.proofs.Common.{◌≡◌, ℕ, zero, suc, ◌+◌, ◌<◌, ◌≤◌, inl, inr, true, cond, List, [], ◌∷◌, length, replicate, sum, arith, refl, ap, ◌∙◌, sym, subst, get_or-set_other}
use Rattle.std.specs.Prelude.{slice_index, slice_set}
use Rattle.std.proofs.lemmas.Bool.{cases_eq}
use Rattle.std.proofs.lemmas.List.Sums.{sum_by-cons}
use Rattle.catalog.specs.Kinds.{kind_number, place_in}
use Rattle.catalog.specs.declared.classes.TheConstants.{UNIT_KINDS}
use Rattle.catalog.specs.declared.kind.Kind.{Kind}
use Rattle.tick_model.specs.Refusals.{is_dome}
use Rattle.tick_model.proofs.Raising.{dome-place, one-kind, same-place, set-here}
use Rattle.founding.specs.Bounds.{HasLoneDomes, most_units}

none-written : (n place : ℕ) → slice_index (replicate n 0) place ≤ 1
none-written zero place = omega arith
none-written (suc n) zero = omega arith
none-written (suc n) (suc place) = none-written n place

-- there is no dome at first
pub no-domes : HasLoneDomes (replicate 22 0)
no-domes = record { each = λ kind is. none-written 22 (place_in UNIT_KINDS kind) }

one-most : (kind : Kind) (count : ℕ) → is_dome kind ≡ true → count ≤ most_units kind → count ≤ 1
one-most kind count is most = let one : most_units kind ≡ 1 = ap (λ b. cond b 1 100000) is in omega (arith, most, one)

-- and none comes to another one
pub written-domes : (units : List ℕ) (kind : Kind) (place count : ℕ) → HasLoneDomes units → count ≤ most_units kind → place ≡ place_in UNIT_KINDS kind → HasLoneDomes (slice_set units place count)
written-domes units kind place count domes most at = record {
  each = λ dome is.
      let within = (dome-place dome is).0 in
      elim (cases_eq place (place_in UNIT_KINDS dome)) [
        | inl here ↦
            (let same = one-kind kind dome (same-place (kind_number kind) (kind_number dome) UNIT_KINDS within (sym at ∙ here)) in
            let one = one-most kind count (ap is_dome same ∙ is) most in
            subst (λ (n : ℕ). slice_index (slice_set units place count) n ≤ 1) here (let there = set-here units place count in omega (arith, there, one)))
        | inr other ↦
            (let kept : slice_index (slice_set units place count) (place_in UNIT_KINDS dome) ≡ slice_index units (place_in UNIT_KINDS dome) = get_or-set_other units _ _ _ _ (λ same. other (sym same)) in
            let before = domes.each dome is in
            omega (arith, kept, before))
      ];
}

written-sum : (ns : List ℕ) (place n : ℕ) → sum (slice_set ns place n) ≤ sum ns + n
written-sum [] place n = omega arith
written-sum (first ∷ ns) zero n = let new = sum_by-cons (λ (m : ℕ). m) n ns in let old = sum_by-cons (λ (m : ℕ). m) first ns in omega (arith, new, old)
written-sum (first ∷ ns) (suc place) n =
    let new = sum_by-cons (λ (m : ℕ). m) first (slice_set ns place n) in
    let old = sum_by-cons (λ (m : ℕ). m) first ns in
    let rest = written-sum ns place n in
    omega (arith, new, old, rest)

-- a level that has fields leaves the levels within them
pub written-fields : (levels : List ℕ) (place level fields : ℕ) → sum levels + level ≤ fields → sum (slice_set levels place level) ≤ fields
written-fields levels place level fields room = let most = written-sum levels place level in omega (arith, room, most)

pub ruleset bounded = (no-domes, written-domes, written-fields)
