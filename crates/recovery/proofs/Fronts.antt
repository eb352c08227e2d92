-- What the first bytes of an area tell of it.
use Rattle.std.proofs.Common.{◌≡◌, ℕ, ◌+◌, ◌-◌, ◌<◌, ◌≤◌, inl, inr, List, ◌++◌, codes, length, take, drop, get_or, ap, ◌∙◌, sym, arith, length-drop, append-nil}
use Rattle.std.proofs.lemmas.List.{drop-drop, drop-take, get_or-drop, get_or-take, length-take, take-take}
use Rattle.std.proofs.lemmas.Bool.{cases_lt}
use Rattle.std.proofs.lemmas.Nat.{be_bytes_8}
use Rattle.std.proofs.Math.ListN.{get_or-eq_default}
use Rattle.std.proofs.Math.Seq.{take-add}
use Rattle.std.specs.Int.{from_be_bytes, w64}
use Rattle.records.specs.Entries.{u64}
use Rattle.recovery.specs.Areas.{IsOpen, sized_bytes}
use Rattle.recovery.specs.Reopening.{IsHeadIn, generation_of, kept_digest, size_of}
use Rattle.recovery.specs.declared.head.Head.{Head}

-- bytes that stand within the first ones
pub front-take : (k n m : ℕ) (xs : List ℕ) → n + k ≤ m → take k (drop n (take m xs)) ≡ take k (drop n xs)
front-take k n m xs fits =
    let parts : m ≡ n + (m - n) = omega arith in
    ap (λ (j : ℕ). take k (drop n (take j xs))) parts ∙ ap (λ (l : List ℕ). take k l) (drop-take n (m - n) xs) ∙ take-take k (m - n) (drop n xs) (omega arith)

-- a byte is below 256, and past the end there is none
small : (front : List ℕ) (at : ℕ) → ((i : ℕ) → get_or front i 0 < 256) → (i : ℕ) → get_or (take 8 (drop at front)) i 0 < 256
small front at bytes i = elim (cases_lt i 8) [
  | inr past ↦
      let none : get_or (take 8 (drop at front)) i 0 ≡ 0 = get_or-eq_default (take 8 (drop at front)) 0 (let long = length-take 8 (drop at front) in omega (arith, past, long)) in
      omega (arith, none)
  | inl within ↦
      let same : get_or (take 8 (drop at front)) i 0 ≡ get_or front (at + i) 0 = get_or-take 8 (drop at front) i 0 within ∙ get_or-drop at front i 0 in
      let byte = bytes (at + i) in
      omega (arith, same, byte)
]

-- a number is spelled by its bytes
number-spelled : (front : List ℕ) (at n : ℕ) → at + 8 ≤ length front → ((i : ℕ) → get_or front i 0 < 256) → n ≡ from_be_bytes w64 (take 8 (drop at front)) → u64 n ≡ take 8 (drop at front)
unfolding u64
number-spelled front at n fits bytes is =
    let long : length (take 8 (drop at front)) ≡ 8 = (let first = length-take 8 (drop at front) in let rest = length-drop at front in omega (arith, fits, first, rest)) in
    be_bytes_8 (take 8 (drop at front)) n long (small front at bytes) is

-- so the mark and both numbers are the first 24 bytes behind the gate
pub front-sized : (front : List ℕ) (generation size : ℕ) → length front ≡ 58 → ((i : ℕ) → get_or front i 0 < 256) → take 8 (drop 1 front) ≡ codes "OGAREA01"
    → generation ≡ from_be_bytes w64 (take 8 (drop 9 front)) → size ≡ from_be_bytes w64 (take 8 (drop 17 front)) → sized_bytes generation size ≡ take 24 (drop 1 front)
front-sized front generation size long bytes marked generation_is size_is =
    let first = number-spelled front 9 generation (omega (arith, long)) bytes generation_is in
    let second = number-spelled front 17 size (omega (arith, long)) bytes size_is in
    let rest : take 16 (drop 9 front) ≡ take 8 (drop 9 front) ++ take 8 (drop 17 front) = take-add 8 8 (drop 9 front) ∙ ap (λ (l : List ℕ). take 8 (drop 9 front) ++ take 8 l) (drop-drop 8 9 front) in
    let all : take 24 (drop 1 front) ≡ take 8 (drop 1 front) ++ take 16 (drop 9 front) = take-add 8 16 (drop 1 front) ∙ ap (λ (l : List ℕ). take 8 (drop 1 front) ++ take 16 l) (drop-drop 8 1 front) in
    (λ i. sym marked i ++ (first i ++ append-nil (second i) i)) ∙ sym (all ∙ ap (λ (l : List ℕ). take 8 (drop 1 front) ++ l) rest)

-- the head of an area is read from them
pub head-read : (content front : List ℕ) (head : Head) → IsOpen content → front ≡ take 58 content → length front ≡ 58 → ((i : ℕ) → get_or front i 0 < 256) → head.generation ≡ from_be_bytes w64 (take 8 (drop 9 front))
    → head.size ≡ from_be_bytes w64 (take 8 (drop 17 front)) → head.digest ≡ take 32 (drop 25 front) → IsHeadIn content head
unfolding generation_of size_of kept_digest
head-read content front head opens same long bytes generation size digest = record {
  opens = opens;
  generation_is = generation ∙ ap (λ (l : List ℕ). from_be_bytes w64 l) (piece 8 9 (omega arith));
  size_is = size ∙ ap (λ (l : List ℕ). from_be_bytes w64 l) (piece 8 17 (omega arith));
  digest_is = digest ∙ piece 32 25 (omega arith);
  sized_is = front-sized front head.generation head.size long bytes (piece 8 1 (omega arith) ∙ opens.marked.1) generation size ∙ piece 24 1 (omega arith);
}
  where
    piece : (k n : ℕ) → n + k ≤ 58 → take k (drop n front) ≡ take k (drop n content)
    piece k n fits = ap (λ (l : List ℕ). take k (drop n l)) same ∙ front-take k n 58 content fits
