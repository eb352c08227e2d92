-- What holds of all kinds, found by going over the list of them.
use Rattle.std.proofs.Common.{◌≡◌, ℕ, zero, suc, ◌+◌, ◌<◌, List, get_or, arith, inl, inr, subst, sym, ap, ◌⊎◌, refl}
use Rattle.catalog.proofs.Places.{every_kind}
use Rattle.catalog.specs.declared.kind.Kind.{Kind}
use Rattle.catalog.specs.declared.kind.TheConstants.{KINDS}

last-or-before : (k i : ℕ) → k < i + 1 → (k < i) ⊎ (k ≡ i)
last-or-before zero zero below = inr refl
last-or-before zero (suc i) below = inl (omega arith)
last-or-before (suc k) zero below = absurd (omega (arith, below))
last-or-before (suc k) (suc i) below =
    elim (last-or-before k i (omega (arith, below))) [
      | inl earlier ↦ inl (omega (arith, earlier))
      | inr last ↦ inr (ap suc last)
    ]

-- one element more
pub held-more : {X : Type 0} (P : X → Type 0) (xs : List X) (i : ℕ) → ((k : ℕ) (d : X) → k < i → P (get_or xs k d)) → ((d : X) → P (get_or xs i d))
    → (k : ℕ) (d : X) → k < i + 1 → P (get_or xs k d)
held-more P xs i before here k d below =
    elim (last-or-before k i below) [
      | inl earlier ↦ before k d earlier
      | inr last ↦ subst (λ n. P (get_or xs n d)) (sym last) (here d)
    ]

-- all kinds
pub held-by-all : (P : Kind → Type 0) (i : ℕ) → ((k : ℕ) (d : Kind) → k < i → P (get_or KINDS k d)) → 47 ≡ i → (kind : Kind) → P kind
held-by-all P i held all kind = every_kind P (λ k d below. held k d (omega (arith, below, all))) kind
