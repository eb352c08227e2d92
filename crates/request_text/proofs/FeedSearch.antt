-- The first line feed of some bytes, found among those from a place on.
use Rattle.std.proofs.Common.{◌≡◌, ℕ, zero, suc, ◌+◌, ◌-◌, ◌<◌, ◌≤◌, ◌⊎◌, inl, inr, List, length, take, drop, get_or, ap, sym, subst, ◌∙◌, arith, eq-eqb}
use Rattle.std.proofs.lemmas.List.{get_or-drop, length-drop, take_all}
use Rattle.std.proofs.lemmas.Bool.{eqb-true}
use Rattle.memchr.specs.Find.{NoneBefore, Nowhere, Passes, is_byte}
use Rattle.base_text.specs.Parts.{Lacks}
use Rattle.request_text.specs.Feeds.{IsClean, IsFirstFeed}

early : (m n : ℕ) → (m < n) ⊎ (n ≤ m)
early m zero = inr (omega arith)
early zero (suc n) = inl (omega arith)
early (suc m) (suc n) = more (early m n)
  where
    more : (m < n) ⊎ (n ≤ m) → (suc m < suc n) ⊎ (suc n ≤ suc m)
    more (inl h) = inl (omega (arith, h))
    more (inr h) = inr (omega (arith, h))

-- the bytes from a place on
rest_of : List ℕ → ℕ → List ℕ
rest_of bytes clean = take (length bytes - clean) (drop clean bytes)

whole_rest : (bytes : List ℕ) (clean : ℕ) → rest_of bytes clean ≡ drop clean bytes
unfolding rest_of
whole_rest bytes clean = let left = length-drop clean bytes in take_all (length bytes - clean) (drop clean bytes) (omega (arith, left))

-- a byte behind the place, as it stands among all bytes
rest_at : (bytes : List ℕ) (clean k : ℕ) → get_or (rest_of bytes clean) k 0 ≡ get_or bytes (clean + k) 0
rest_at bytes clean k = ap (λ b. get_or b k 0) (whole_rest bytes clean) ∙ get_or-drop clean bytes k 0

rest_length : (bytes : List ℕ) (clean : ℕ) → clean ≤ length bytes → clean + length (rest_of bytes clean) ≡ length bytes
rest_length bytes clean within = let whole = ap length (whole_rest bytes clean) in let left = length-drop clean bytes in omega (arith, whole, left)

-- no byte up to a place behind is a feed
clean_to : (bytes : List ℕ) (clean count : ℕ) → IsClean bytes clean → Nowhere (Passes (is_byte 10) (rest_of bytes clean)) 0 count → IsClean bytes (clean + count)
clean_to bytes clean count before none k under feed = either (early k clean)
  where
    either : (k < clean) ⊎ (clean ≤ k) → ⊥
    either (inl early) = before k early feed
    either (inr late) =
        let place : clean + (k - clean) ≡ k = omega (arith, late) in
        let zero : 0 ≤ k - clean = omega arith in
        let within : k - clean < count = omega (arith, late, under) in
        none (k - clean) zero within (eq-eqb _ 10 (rest_at bytes clean (k - clean) ∙ ap (λ n. get_or bytes n 0) place ∙ feed))

pub no_feed : (bytes : List ℕ) (clean : ℕ) → clean ≤ length bytes → IsClean bytes clean
    → Nowhere (Passes (is_byte 10) (take (length bytes - clean) (drop clean bytes))) 0 (length (take (length bytes - clean) (drop clean bytes))) → Lacks 10 bytes
unfolding rest_of
no_feed bytes clean within before none = record { apart = subst (IsClean bytes) (rest_length bytes clean within) (clean_to bytes clean (length (rest_of bytes clean)) before none) }

pub feed_found : (bytes : List ℕ) (clean place : ℕ) → clean ≤ length bytes → IsClean bytes clean
    → NoneBefore (Passes (is_byte 10) (take (length bytes - clean) (drop clean bytes))) 0 (length (take (length bytes - clean) (drop clean bytes))) place
    → Passes (is_byte 10) (take (length bytes - clean) (drop clean bytes)) place → IsFirstFeed bytes (clean + place)
unfolding rest_of
feed_found bytes clean place within before first passes =
    let all = rest_length bytes clean within in
    let high = first.high in
    record {
      within = omega (arith, all, high);
      before = clean_to bytes clean place before first.before;
      here = sym (rest_at bytes clean place) ∙ eqb-true _ 10 passes;
    }
