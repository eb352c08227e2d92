-- What it does to a universe with stamps that cells are brought to a second, and that an event acts.
use Rattle.std.proofs.Common.{◌≡◌, ℕ, ◌+◌, ◌-◌, ◌<◌, ◌≤◌, ◌⊎◌, inl, inr, Bool, true, false, cond, arith, refl, ap, ◌∙◌, sym, subst}
use Rattle.laziness.specs.Model.{Model}
use Rattle.laziness.specs.Laws.{ModelLaws, Stands, ComesFrom, Agree}
use Rattle.laziness.specs.Stamps.{Stamps, bring_to, event_acts}

pub test : (b : Bool) → (b ≡ true) ⊎ (b ≡ false)
test true = inl refl
test false = inr refl

pub never : {A : Type 0} (b : Bool) → b ≡ true → b ≡ false → A
never b yea nay = let both : true ≡ false = sym yea ∙ nay in absurd cc

pub early : (m n : ℕ) → (m ≤ n) ⊎ (n < m)
early m n = grind arith

-- a cell after it has gained until a second
abbrev pub until : (M : Model) → ℕ → Stamps M → M.Id → M.View
until M s f x = M.gains (s - f.at x) (M.view f.universe x)

-- a cell is alike in two universes: brought to a second that both can reach it is the same
abbrev pub AlikeAt : (M : Model) → Stamps M → Stamps M → M.Id → Type 0
AlikeAt M f g x = (s : ℕ) → f.at x ≤ s → g.at x ≤ s → until M s f x ≡ until M s g x

abbrev pub Alike : (M : Model) → (M.Id → Bool) → Stamps M → Stamps M → Type 0
Alike M S f g = (x : M.Id) → S x ≡ true → AlikeAt M f g x

-- gains only add to what was gained
pub gains-until : (M : Model) → ModelLaws M → (s t a : ℕ) (v : M.View) → a ≤ s → s ≤ t → M.gains (t - s) (M.gains (s - a) v) ≡ M.gains (t - a) v
gains-until M L s t a v after later =
    let sum : (s - a) + (t - s) ≡ t - a = omega arith in
    L.gains_more (s - a) (t - s) v ∙ ap (λ n. M.gains n v) sum

pub gains-now : (M : Model) → ModelLaws M → (s : ℕ) (v : M.View) → M.gains (s - s) v ≡ v
gains-now M L s v = let none : s - s ≡ 0 = omega arith in ap (λ n. M.gains n v) none ∙ L.gains_none v

pub stands-advanced : (M : Model) → ModelLaws M → (k : M.Id → ℕ) (u : M.Universe) (e : M.Event) → Stands M u e → Stands M (M.advance k u) e
stands-advanced M L k u e stands =
    subst (λ v. M.Owes v e) (sym (L.advanced k u (M.home e))) (L.gains_keep (k (M.home e)) (M.view u (M.home e)) e stands)

pub stands-before : (M : Model) → ModelLaws M → (k : M.Id → ℕ) (u : M.Universe) (e : M.Event) → Stands M (M.advance k u) e → Stands M u e
stands-before M L k u e stands =
    L.gains_make_none (k (M.home e)) (M.view u (M.home e)) e (subst (λ v. M.Owes v e) (L.advanced k u (M.home e)) stands)

pub view-inside : (M : Model) → ModelLaws M → (S : M.Id → Bool) (t : ℕ) (f : Stamps M) (x : M.Id) → S x ≡ true → M.view (bring_to M S t f).universe x ≡ until M t f x
view-inside M L S t f x inside =
    L.advanced (λ y. cond (S y) (t - f.at y) 0) f.universe x ∙ ap (λ b. M.gains (cond b (t - f.at x) 0) (M.view f.universe x)) inside

pub view-outside : (M : Model) → ModelLaws M → (S : M.Id → Bool) (t : ℕ) (f : Stamps M) (x : M.Id) → S x ≡ false → M.view (bring_to M S t f).universe x ≡ M.view f.universe x
view-outside M L S t f x outside =
    L.advanced (λ y. cond (S y) (t - f.at y) 0) f.universe x
    ∙ ap (λ b. M.gains (cond b (t - f.at x) 0) (M.view f.universe x)) outside
    ∙ L.gains_none (M.view f.universe x)

pub at-inside : (M : Model) → (S : M.Id → Bool) (t : ℕ) (f : Stamps M) (x : M.Id) → S x ≡ true → (bring_to M S t f).at x ≡ t
at-inside M S t f x inside = ap (λ b. cond b t (f.at x)) inside

pub at-outside : (M : Model) → (S : M.Id → Bool) (t : ℕ) (f : Stamps M) (x : M.Id) → S x ≡ false → (bring_to M S t f).at x ≡ f.at x
at-outside M S t f x outside = ap (λ b. cond b t (f.at x)) outside

-- what an event needs of the universe that it acts in
pub record Acts (M : Model) (f : Stamps M) (e : M.Event) : Type 0 where
  pub fine : M.Fine f.universe
  pub stands : Stands M f.universe e

pub acts-fine : (M : Model) → ModelLaws M → (f : Stamps M) (e : M.Event) → Acts M f e → M.Fine (event_acts M e f).universe
acts-fine M L f e a =
    let k = λ (x : M.Id). cond (M.footprint e x) (M.second_of e - f.at x) 0 in
    L.effect_fine (M.advance k f.universe) e (L.advance_fine k f.universe a.fine) (stands-advanced M L k f.universe e a.stands)

pub acts-outside : (M : Model) → ModelLaws M → (f : Stamps M) (e : M.Event) (x : M.Id) → Acts M f e → M.footprint e x ≡ false → M.view (event_acts M e f).universe x ≡ M.view f.universe x
acts-outside M L f e x a outside =
    let k = λ (x : M.Id). cond (M.footprint e x) (M.second_of e - f.at x) 0 in
    L.outside (M.advance k f.universe) e x (L.advance_fine k f.universe a.fine) (stands-advanced M L k f.universe e a.stands) outside
    ∙ view-outside M L (M.footprint e) (M.second_of e) f x outside

pub acts-count : (M : Model) → ModelLaws M → (f : Stamps M) (e : M.Event) → M.count (event_acts M e f).universe ≡ M.count f.universe
acts-count M L f e =
    let k = λ (x : M.Id). cond (M.footprint e x) (M.second_of e - f.at x) 0 in
    L.effect_count (M.advance k f.universe) e ∙ L.advance_count k f.universe

pub acts-falls : (M : Model) → ModelLaws M → (f : Stamps M) (e : M.Event) → Acts M f e → M.measure (event_acts M e f).universe < M.measure f.universe
acts-falls M L f e a =
    let k = λ (x : M.Id). cond (M.footprint e x) (M.second_of e - f.at x) 0 in
    subst (λ n. M.measure (event_acts M e f).universe < n) (L.advance_measure k f.universe)
    (L.falls (M.advance k f.universe) e (L.advance_fine k f.universe a.fine) (stands-advanced M L k f.universe e a.stands))

-- an event that stands after another one stood before, or it is later and comes from it
pub arises : (M : Model) → ModelLaws M → (f : Stamps M) (e d : M.Event) → Acts M f e → Stands M (event_acts M e f).universe d
    → Stands M f.universe d ⊎ ((M.second_of e < M.second_of d) × ComesFrom M f.universe e d)
arises M L f e d a stands =
    let k = λ (x : M.Id). cond (M.footprint e x) (M.second_of e - f.at x) 0 in
    elim (test (M.footprint e (M.home d))) [
      | inl inside ↦ elim (L.arises (M.advance k f.universe) e d (L.advance_fine k f.universe a.fine) (stands-advanced M L k f.universe e a.stands) inside stands) [
        | inl before ↦ inl (stands-before M L k f.universe d before)
        | inr new ↦ inr (
          new.0,
          elim new.1 [
            | inl within ↦ inl within
            | inr other ↦ inr (other.0, stands-before M L k f.universe other.0 other.1, other.2, other.3, other.4)
          ],
        )
      ]
      | inr outside ↦ inl (subst (λ v. M.Owes v d) (acts-outside M L f e (M.home d) a outside) stands)
    ]

-- cells that are alike owe the same
pub alike-stands : (M : Model) → ModelLaws M → (f g : Stamps M) (e : M.Event) → AlikeAt M f g (M.home e) → Stands M f.universe e → Stands M g.universe e
alike-stands M L f g e alike stands =
    let s = f.at (M.home e) + g.at (M.home e) in
    L.gains_make_none (s - g.at (M.home e)) (M.view g.universe (M.home e)) e
    (subst (λ v. M.Owes v e) (alike s (omega arith) (omega arith)) (L.gains_keep (s - f.at (M.home e)) (M.view f.universe (M.home e)) e stands))

-- cells that are the same at the same second are alike
pub alike-same : (M : Model) (f g : Stamps M) (x : M.Id) → M.view f.universe x ≡ M.view g.universe x → f.at x ≡ g.at x → AlikeAt M f g x
alike-same M f g x view at s before before' = λ i. M.gains (s - at i) (view i)

pub alike-back : (M : Model) (f g : Stamps M) (x : M.Id) → AlikeAt M f g x → AlikeAt M g f x
alike-back M f g x alike s before before' = sym (alike s before' before)

-- an event that acts on two footprints that are alike leaves them the same
pub acts-same : (M : Model) → ModelLaws M → (f g : Stamps M) (e : M.Event) → Acts M f e → Acts M g e
    → Alike M (M.footprint e) f g → ((x : M.Id) → M.footprint e x ≡ true → f.at x ≤ M.second_of e) → ((x : M.Id) → M.footprint e x ≡ true → g.at x ≤ M.second_of e)
    → (x : M.Id) → M.footprint e x ≡ true → M.view (event_acts M e f).universe x ≡ M.view (event_acts M e g).universe x
acts-same M L f g e a b alike early_f early_g x inside =
    let k = λ (x : M.Id). cond (M.footprint e x) (M.second_of e - f.at x) 0 in
    let l = λ (x : M.Id). cond (M.footprint e x) (M.second_of e - g.at x) 0 in
    let agree : Agree M (M.footprint e) (M.advance k f.universe) (M.advance l g.universe) = λ y inside_y.
    view-inside M L (M.footprint e) (M.second_of e) f y inside_y
    ∙ alike y inside_y (M.second_of e) (early_f y inside_y) (early_g y inside_y)
    ∙ sym (view-inside M L (M.footprint e) (M.second_of e) g y inside_y) in
    L.depends (M.advance k f.universe) (M.advance l g.universe) e (L.advance_fine k f.universe a.fine) (L.advance_fine l g.universe b.fine)
    (stands-advanced M L k f.universe e a.stands) (stands-advanced M L l g.universe e b.stands) agree x inside

-- at the same second
pub acts-at : (M : Model) (f g : Stamps M) (e : M.Event) (x : M.Id) → M.footprint e x ≡ true → (event_acts M e f).at x ≡ (event_acts M e g).at x
acts-at M f g e x inside = at-inside M (M.footprint e) (M.second_of e) f x inside ∙ sym (at-inside M (M.footprint e) (M.second_of e) g x inside)

pub acts-alike : (M : Model) → ModelLaws M → (f g : Stamps M) (e : M.Event) → Acts M f e → Acts M g e
    → Alike M (M.footprint e) f g → ((x : M.Id) → M.footprint e x ≡ true → f.at x ≤ M.second_of e) → ((x : M.Id) → M.footprint e x ≡ true → g.at x ≤ M.second_of e)
    → Alike M (M.footprint e) (event_acts M e f) (event_acts M e g)
acts-alike M L f g e a b alike early_f early_g x inside =
    alike-same M (event_acts M e f) (event_acts M e g) x (acts-same M L f g e a b alike early_f early_g x inside) (acts-at M f g e x inside)
