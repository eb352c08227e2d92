-- Bytes that come and go in pieces.
use Rattle.std.proofs.Common.{◌≡◌, ℕ, ◌-◌, ◌≤◌, ◌<◌, List, [], ◌∷◌, get_or, ◌++◌, length, take, drop, arith, ap, ◌∙◌, sym, append_assoc}
use Rattle.std.proofs.lemmas.List.{take_all, take-append-drop, length-drop}
use Rattle.std.proofs.Math.Seq.{take-append_seam}
use Rattle.std.specs.Prelude.{Result, Ok, Err, OnErr}

enough : (rest : List ℕ) (n : ℕ) → length (drop n rest) ≤ length rest - n
enough rest n = let left = length-drop n rest in omega (arith, left)

-- what was written and what is left are the bytes, also after one more piece
pub written_more : (bytes gone rest : List ℕ) (n : ℕ) → bytes ≡ gone ++ rest → bytes ≡ (gone ++ take n rest) ++ take (length rest - n) (drop n rest)
written_more bytes gone rest n parts =
    parts ∙ ap (λ xs. gone ++ xs) (sym (ap (λ xs. take n rest ++ xs) (take_all (length rest - n) (drop n rest) (enough rest n)) ∙ take-append-drop n rest)) ∙ sym (append_assoc gone (take n rest) _)

-- what was written is a front of the bytes
pub written_front : (bytes gone rest : List ℕ) → bytes ≡ gone ++ rest → take (length gone) bytes ≡ gone
written_front bytes gone rest parts = ap (take (length gone)) parts ∙ take-append_seam gone rest

-- a list of one element is that element
pub one_item : {A : Type 0} (xs : List A) (x : A) → 1 ≤ length xs → length xs < 2 → x ≡ get_or xs 0 x → xs ≡ x ∷ []
one_item [] x least most is = absurd (omega (arith, least))
one_item (y ∷ []) x least most is = ap (λ z. z ∷ []) (sym is)
one_item (y ∷ z ∷ more) x least most is = absurd (omega (arith, most))

-- what holds anyway holds where a call failed
pub on_err : {T E : Type 0} (result : Result T E) {P : Type 0} → P → OnErr result P
on_err (Ok x) holds = tt
on_err (Err e) holds = holds
