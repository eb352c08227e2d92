-- How many units a part and a side have.
use Rattle.std.proofs.Common.{◌≡◌, ℕ, ◌+◌, ◌<◌, ◌≤◌, List, [], ◌∷◌, length, map, drop, get_or, replicate, refl, ap, sym, ◌∙◌, arith, length-append, inl, inr, ◌-◌}
use Rattle.std.proofs.lemmas.Bool.{cases_lt}
use Rattle.std.specs.List.{enumerate_from, flat_map, sum, zip}
use Rattle.std.proofs.lemmas.List.Sums.{sum_by-cons}
use Rattle.std.proofs.lemmas.List.{drop_more, get_or-map, length-map, length-replicate}
use Rattle.std.specs.List.Sorted.{IsStrictlyIncreasing}
use Rattle.catalog.specs.declared.classes.TheConstants.{UNIT_KINDS}
use Rattle.catalog.specs.declared.kind.Kind.{Kind}
use Rattle.battle.specs.declared.fighter.Fighter.{Fighter}
use Rattle.battle.specs.declared.part.Part.{Part}
use Rattle.battle.specs.Sides.{fighter, part_fighters}

-- the units of some kinds
pub length-kinds : (part : ℕ) (levels : List ℕ) (kinds : List Kind) (counts : List ℕ) → length counts ≡ length kinds
    → length (flat_map (λ counted. replicate counted.1 (fighter part levels counted.0)) (zip kinds counts)) ≡ sum counts
length-kinds part levels [] [] e = refl
length-kinds part levels [] (n ∷ ns) e = absurd (omega arith)
length-kinds part levels (k ∷ ks) [] e = absurd (omega arith)
length-kinds part levels (k ∷ ks) (n ∷ ns) e =
    length-append (replicate n (fighter part levels k)) _
    ∙ ap (λ (m : ℕ). m + length (flat_map (λ counted. replicate counted.1 (fighter part levels counted.0)) (zip ks ns))) (length-replicate n (fighter part levels k))
    ∙ ap (λ (m : ℕ). n + m) (length-kinds part levels ks ns (omega arith))
    ∙ sym (sum_by-cons (λ x. x) n ns)

-- the units of a part
pub length-part : (place : ℕ) (p : Part) → length p.n ≡ 22 → length (part_fighters place p) ≡ sum p.n
length-part place p long = length-kinds place p.techs.n UNIT_KINDS p.n long

-- the units of the parts from a place on
abbrev pub rest_of : ℕ → List Part → List Fighter
rest_of place parts = flat_map (λ placed. part_fighters placed.0 placed.1) (enumerate_from place parts)

-- one part more
pub length-rest : (parts : List Part) (i : ℕ) (d : Part) → i < length parts
    → length (rest_of i (drop i parts)) ≡ length (part_fighters i (get_or parts i d)) + length (rest_of (i + 1) (drop (i + 1) parts))
length-rest parts i d within = rw (drop_more parts i d within) (length-append (part_fighters i (get_or parts i d)) (rest_of (i + 1) (drop (i + 1) parts)))

-- the number of the part at a place
pub number_at : (parts : List Part) (i : ℕ) (d : Part) → i < length parts → get_or (map (λ (p : Part). p.number) parts) i 0 ≡ (get_or parts i d).number
number_at parts i d within = get_or-map (λ (p : Part). p.number) parts i d 0 within

-- one part more comes after the part before it
pub ordered_more : (parts : List Part) (place : ℕ) (d : Part) → 1 ≤ place → place < length parts → (get_or parts (place - 1) d).number < (get_or parts place d).number
    → ((k : ℕ) → k + 1 < place → get_or (map (λ (p : Part). p.number) parts) k 0 < get_or (map (λ (p : Part). p.number) parts) (k + 1) 0)
    → (k : ℕ) → k + 1 < place + 1 → get_or (map (λ (p : Part). p.number) parts) k 0 < get_or (map (λ (p : Part). p.number) parts) (k + 1) 0
ordered_more parts place d some within next before k below =
    elim (cases_lt (k + 1) place) [
      | inl earlier ↦ before k earlier
      | inr last ↦
          let here : k + 1 ≡ place = omega arith in
          let back : place - 1 ≡ k = omega arith in
          let e = rw (back, ← here) at next in
          omega (arith, e, number_at parts k d (omega arith), number_at parts (k + 1) d (omega arith))
    ]

-- a part that does not come after the part before it breaks the order
pub not_ordered : (parts : List Part) (place : ℕ) (d : Part) → 1 ≤ place → place < length parts → (get_or parts place d).number ≤ (get_or parts (place - 1) d).number
    → IsStrictlyIncreasing (map (λ (p : Part). p.number) parts) → ⊥
not_ordered parts place d some within back ordered =
    let here : place - 1 + 1 ≡ place = omega arith in
    let next = ordered (place - 1) (rw here (rw (length-map parts (λ (p : Part). p.number)) within)) in
    let e = rw here at next in
    omega (arith, e, number_at parts (place - 1) d (omega arith), number_at parts place d within)

pub ruleset part_counts = (length-part)
