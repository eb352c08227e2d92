-- Sums over cells of which one part is more.
use Rattle.std.proofs.Common.{◌≡◌, ℕ, ◌+◌, inl, inr, true, false, not, cond, List, [], ◌∷◌, ◌||◌, sum_by, arith, refl, ap, ◌∙◌, sym, subst}
use Rattle.std.proofs.lemmas.List.Sums.{sum_by-cons}
use Rattle.std.specs.List.{list_any}
use Rattle.base_ids.specs.Cells.{same_cell}
use Rattle.base_ids.specs.declared.cell_id.CellId.{CellId}
use Rattle.laziness.proofs.Bringing.{never, test}
use Rattle.tick_model.specs.Rules.{is_once}
use Rattle.tick_model.proofs.Lists.{cell-is, not-true}

same-sums : (cell : CellId) (f g : CellId → ℕ) (cells : List CellId) → list_any (same_cell cell) cells ≡ false → ((x : CellId) → same_cell cell x ≡ false → g x ≡ f x) → sum_by g cells ≡ sum_by f cells
same-sums cell f g [] none same = refl
same-sums cell f g (first ∷ cells) none same =
    elim (test (same_cell cell first)) [
      | inl here ↦ absurd (never true refl (sym (ap (λ b. b || list_any (same_cell cell) cells) here) ∙ none))
      | inr apart ↦
          (let rest : list_any (same_cell cell) cells ≡ false = sym (ap (λ b. b || list_any (same_cell cell) cells) apart) ∙ none in
          sum_by-cons g first cells ∙ (λ i. same first apart i + same-sums cell f g cells rest same i) ∙ sym (sum_by-cons f first cells))
    ]

one-more : (a b c d : ℕ) → a ≡ b + d → a + c ≡ (b + c) + d
one-more a b c d same = omega (arith, same)

more-later : (a b c d : ℕ) → b ≡ c + d → a + b ≡ (a + c) + d
more-later a b c d same = omega (arith, same)

-- a sum of which one part has so much more
pub sum-more : (cell : CellId) (f g : CellId → ℕ) (d : ℕ) (cells : List CellId) → is_once cell cells ≡ true → ((x : CellId) → same_cell cell x ≡ false → g x ≡ f x) → g cell ≡ f cell + d
    → sum_by g cells ≡ sum_by f cells + d
sum-more cell f g d [] once same more = never false once refl
sum-more cell f g d (first ∷ cells) once same more =
    elim (test (same_cell cell first)) [
      | inl here ↦
          (let none : list_any (same_cell cell) cells ≡ false = not-true (list_any (same_cell cell) cells) (sym (ap (λ b. cond b (not (list_any (same_cell cell) cells)) (is_once cell cells)) here) ∙ once) in
          let place = cell-is cell first here in
          let now : g first ≡ f first + d = subst (λ x. g x ≡ f x + d) place more in
          sum_by-cons g first cells ∙ (λ i. g first + same-sums cell f g cells none same i) ∙ one-more (g first) (f first) (sum_by f cells) d now ∙ ap (λ n. n + d) (sym (sum_by-cons f first cells)))
      | inr apart ↦
          (let later : is_once cell cells ≡ true = sym (ap (λ b. cond b (not (list_any (same_cell cell) cells)) (is_once cell cells)) apart) ∙ once in
          sum_by-cons g first cells
          ∙ (λ i. same first apart i + sum_by g cells)
          ∙ more-later (f first) (sum_by g cells) (sum_by f cells) d (sum-more cell f g d cells later same more)
          ∙ ap (λ n. n + d) (sym (sum_by-cons f first cells)))
    ]
