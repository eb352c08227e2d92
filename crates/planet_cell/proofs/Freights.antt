-- Ships that join the units of a planet, or leave them.
use Rattle.std.proofs.Common.{◌≡◌, ℕ, ◌≤◌, List, [], ◌∷◌, ◌++◌, length, take, drop, refl, ap, ◌∙◌}
use Rattle.std.proofs.lemmas.List.{drop_all, take-append-drop}
use Rattle.tick_model.specs.Flights.{joined_by, left_by}

joined_none : (counts : List ℕ) → joined_by counts [] ≡ counts
joined_none [] = refl
joined_none (count ∷ counts) = refl

left_none : (counts : List ℕ) → left_by counts [] ≡ counts
left_none [] = refl
left_none (count ∷ counts) = refl

-- when all ships are counted, no count changes any more
pub joined_all : (counts ships : List ℕ) (i : ℕ) → length ships ≤ i → take i counts ++ joined_by (drop i counts) (drop i ships) ≡ counts
joined_all counts ships i all =
    ap (λ (xs : List ℕ). take i counts ++ joined_by (drop i counts) xs) (drop_all i ships all) ∙ ap (λ (xs : List ℕ). take i counts ++ xs) (joined_none (drop i counts)) ∙ take-append-drop i counts

pub left_all : (counts ships : List ℕ) (i : ℕ) → length ships ≤ i → take i counts ++ left_by (drop i counts) (drop i ships) ≡ counts
left_all counts ships i all =
    ap (λ (xs : List ℕ). take i counts ++ left_by (drop i counts) xs) (drop_all i ships all) ∙ ap (λ (xs : List ℕ). take i counts ++ xs) (left_none (drop i counts)) ∙ take-append-drop i counts

pub ruleset counted = (joined_all, left_all)
