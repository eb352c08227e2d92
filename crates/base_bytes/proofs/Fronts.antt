-- The front of bytes, as long as it is, and what stands behind it.
use Rattle.std.proofs.Common.{◌≡◌, ℕ, List, ◌++◌, length, take, drop, ◌∙◌, ap}
use Rattle.std.proofs.lemmas.List.{drop_at, take_at}

-- what is taken of bytes, and what is left of them
pub record Split (n : ℕ) (bytes front more : List ℕ) : Type 0 where
  pub taken : take n bytes ≡ front
  pub left : drop n bytes ≡ more

pub front_split : (n : ℕ) (bytes front more : List ℕ) → length front ≡ n → bytes ≡ front ++ more → Split n bytes front more
front_split n bytes front more size is = record {
  taken = ap (λ (l : List ℕ). take n l) is ∙ take_at front more n size;
  left = ap (λ (l : List ℕ). drop n l) is ∙ drop_at front more n size;
}
