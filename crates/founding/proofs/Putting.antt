-- What a list has after one more element is put in its place.
use Rattle.std.proofs.Common.{◌≡◌, ℕ, suc, ◌+◌, ◌≤◌, Bool, true, false, cond, not, List, [], ◌∷◌, length, None, Some, ap, ◌∙◌, refl, arith}
use Rattle.std.specs.Prelude.{count_by, if◌then◌else◌, nat_lt, ◌||◌, unwrap_or}
use Rattle.std.specs.List.{insert, list_any, position, position_or_len}
use Rattle.std.proofs.lemmas.Bool.{ltb-false}
use Rattle.std.proofs.lemmas.List.Sums.{sum_by-cons}
use Rattle.founding.specs.Drafts.{put}

-- one more
pub length-put : {A : Type 0} (before : A → A → Bool) (new : A) (xs : List A) → length (put before new xs) ≡ length xs + 1
length-put before new [] = refl
length-put before new (x ∷ xs) = either (before new x) (length-put before new xs)
  where
    either : (b : Bool) → length (put before new xs) ≡ length xs + 1 → length (if b then new ∷ x ∷ xs else x ∷ put before new xs) ≡ length (x ∷ xs) + 1
    either true rest = omega arith
    either false rest = omega arith

-- it counts, if it is one of those that count
pub count_by-put : {A : Type 0} (test : A → Bool) (before : A → A → Bool) (new : A) (xs : List A) → count_by test (put before new xs) ≡ count_by test xs + cond (test new) 1 0
count_by-put test before new [] = refl
count_by-put {A} test before new (x ∷ xs) = either (before new x) (count_by-put test before new xs)
  where
    one : A → ℕ
    one a = cond (test a) 1 0

    either : (b : Bool) → count_by test (put before new xs) ≡ count_by test xs + one new → count_by test (if b then new ∷ x ∷ xs else x ∷ put before new xs) ≡ count_by test (x ∷ xs) + one new
    either true rest = let all = sum_by-cons one new (x ∷ xs) in omega (arith, all)
    either false rest = let old = sum_by-cons one x xs in let all = sum_by-cons one x (put before new xs) in omega (arith, old, all, rest)

or_swap : (a b c : Bool) → (a || (b || c)) ≡ (b || (a || c))
or_swap true true c = refl
or_swap true false c = refl
or_swap false true c = refl
or_swap false false c = refl

-- some element passes, if the new one does or one did
pub list_any-put : {A : Type 0} (test : A → Bool) (before : A → A → Bool) (new : A) (xs : List A) → list_any test (put before new xs) ≡ (test new || list_any test xs)
list_any-put test before new [] = refl
list_any-put test before new (x ∷ xs) = either (before new x) (list_any-put test before new xs)
  where
    either : (b : Bool) → list_any test (put before new xs) ≡ (test new || list_any test xs) → list_any test (if b then new ∷ x ∷ xs else x ∷ put before new xs) ≡ (test new || list_any test (x ∷ xs))
    either true rest = refl
    either false rest = ap (λ r. test x || r) rest ∙ or_swap (test x) (test new) (list_any test xs)

inserted_first : {A : Type 0} (b : Bool) (new x : A) (xs rest : List A) (n : ℕ) → insert xs n new ≡ rest
    → insert (x ∷ xs) (cond (not b) (1 + n) 0) new ≡ (if b then new ∷ x ∷ xs else x ∷ rest)
inserted_first true new x xs rest n same = refl
inserted_first false new x xs rest n same = let next : 1 + n ≡ suc n = omega arith in ap (λ k. insert (x ∷ xs) k new) next ∙ ap (λ l. x ∷ l) same

-- an element that is inserted just before the first one that it comes before is put in its place
put-inserted : {A : Type 0} (before : A → A → Bool) (new : A) (xs : List A) → insert xs (position_or_len (before new) xs) new ≡ put before new xs
put-inserted before new [] = refl
put-inserted before new (x ∷ xs) = inserted_first (before new x) new x xs (put before new xs) (position_or_len (before new) xs) (put-inserted before new xs)

position-within : {A : Type 0} (p : A → Bool) (xs : List A) → position_or_len p xs ≤ length xs
position-within p [] = omega arith
position-within p (x ∷ xs) = either (p x) (position-within p xs)
  where
    either : (b : Bool) → position_or_len p xs ≤ length xs → cond (not b) (1 + position_or_len p xs) 0 ≤ length (x ∷ xs)
    either true rest = omega arith
    either false rest = omega (arith, rest)

position-else : {A : Type 0} (p : A → Bool) (xs : List A) → unwrap_or (position p xs) (length xs) ≡ position_or_len p xs
position-else p xs = either (nat_lt (position_or_len p xs) (length xs)) refl
  where
    either : (b : Bool) → nat_lt (position_or_len p xs) (length xs) ≡ b → unwrap_or (cond b (Some (position_or_len p xs)) None) (length xs) ≡ position_or_len p xs
    either true below = refl
    either false above = let most = position-within p xs in let least = ltb-false (position_or_len p xs) (length xs) above in omega (arith, most, least)

-- the same by the position of that one, or at the end if there is none
pub put-position : {A : Type 0} (before : A → A → Bool) (new : A) (xs : List A) → insert xs (unwrap_or (position (before new) xs) (length xs)) new ≡ put before new xs
put-position before new xs = ap (λ n. insert xs n new) (position-else (before new) xs) ∙ put-inserted before new xs

pub position-room : {A : Type 0} (p : A → Bool) (xs : List A) → unwrap_or (position p xs) (length xs) ≤ length xs
position-room p xs = let same = position-else p xs in let most = position-within p xs in omega (arith, same, most)
