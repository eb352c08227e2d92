-- A number at the front of bytes, and what stands behind it.
use Rattle.std.proofs.Common.{◌≡◌, ℕ, ◌<◌, ◌≤◌, ◌^◌, List, ◌++◌, length, take, drop, refl, ◌∙◌, ap, arith, length-append, w16, w32, w64}
use Rattle.records.specs.Entries.{u16, u32, u64}
use Rattle.std.proofs.lemmas.List.{take_at, drop_at}
use Rattle.std.proofs.lemmas.Nat.{from_be_bytes-to_be_bytes_2, from_be_bytes-to_be_bytes_4, from_be_bytes-to_be_bytes_8}
use Rattle.std.specs.Int.{from_be_bytes, to_be_bytes}

-- what is taken of bytes that a number's bytes begin, and what is left
pub record Taken (value : ℕ) (size : ℕ) (old : List ℕ) (n : ℕ) (more : List ℕ) : Type 0 where
  pub within : size ≤ length old
  pub is : value ≡ n
  pub left : drop size old ≡ more

pub taken_16 : (old : List ℕ) (n : ℕ) (more : List ℕ) → n < 2 ^ 16 → old ≡ u16 n ++ more → Taken (from_be_bytes w16 (take 2 old)) 2 old n more
unfolding u16
taken_16 old n more fits is = record {
  within = omega (arith, ap length is, length-append (to_be_bytes w16 n) more);
  is = ap (λ (l : List ℕ). from_be_bytes w16 l) (ap (λ (l : List ℕ). take 2 l) is ∙ take_at (to_be_bytes w16 n) more 2 refl) ∙ from_be_bytes-to_be_bytes_2 n fits;
  left = ap (λ (l : List ℕ). drop 2 l) is ∙ drop_at (to_be_bytes w16 n) more 2 refl;
}

pub taken_32 : (old : List ℕ) (n : ℕ) (more : List ℕ) → n < 2 ^ 32 → old ≡ u32 n ++ more → Taken (from_be_bytes w32 (take 4 old)) 4 old n more
unfolding u32
taken_32 old n more fits is = record {
  within = omega (arith, ap length is, length-append (to_be_bytes w32 n) more);
  is = ap (λ (l : List ℕ). from_be_bytes w32 l) (ap (λ (l : List ℕ). take 4 l) is ∙ take_at (to_be_bytes w32 n) more 4 refl) ∙ from_be_bytes-to_be_bytes_4 n fits;
  left = ap (λ (l : List ℕ). drop 4 l) is ∙ drop_at (to_be_bytes w32 n) more 4 refl;
}

pub taken_64 : (old : List ℕ) (n : ℕ) (more : List ℕ) → n < 2 ^ 64 → old ≡ u64 n ++ more → Taken (from_be_bytes w64 (take 8 old)) 8 old n more
unfolding u64
taken_64 old n more fits is = record {
  within = omega (arith, ap length is, length-append (to_be_bytes w64 n) more);
  is = ap (λ (l : List ℕ). from_be_bytes w64 l) (ap (λ (l : List ℕ). take 8 l) is ∙ take_at (to_be_bytes w64 n) more 8 refl) ∙ from_be_bytes-to_be_bytes_8 n fits;
  left = ap (λ (l : List ℕ). drop 8 l) is ∙ drop_at (to_be_bytes w64 n) more 8 refl;
}

pub length-u16 : (n : ℕ) → length (u16 n) ≡ 2
unfolding u16
length-u16 n = refl

pub length-u32 : (n : ℕ) → length (u32 n) ≡ 4
unfolding u32
length-u32 n = refl

pub length-u64 : (n : ℕ) → length (u64 n) ≡ 8
unfolding u64
length-u64 n = refl
