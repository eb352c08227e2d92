-- What is read where a base stands.
use Rattle.std.proofs.Common.{◌≡◌, ℕ, ◌-◌, ◌≤◌, inl, inr, List, ◌++◌, length, take, drop, min, ap, ◌∙◌, sym, arith, length-append, length-drop}
use Rattle.std.proofs.lemmas.Bool.{cases_lt}
use Rattle.std.proofs.lemmas.List.{length-take, take-append-le, take-take, take_all}

take-min : (n : ℕ) (xs : List ℕ) → take (min n (length xs)) xs ≡ take n xs
take-min n xs = elim (cases_lt n (length xs)) [
  | inl less ↦ ap (λ (k : ℕ). take k xs) (let same : min n (length xs) ≡ n = omega (arith, less) in same)
  | inr most ↦ ap (λ (k : ℕ). take k xs) (let all : min n (length xs) ≡ length xs = omega (arith, most) in all) ∙ take_all (length xs) xs (omega arith) ∙ sym (take_all n xs most)
]

-- the room is filled and then cut to what was read
pub base-read : (seen into old items cut : List ℕ) (size count room : ℕ) → count ≡ min (length old) (length (drop 57 seen)) → into ≡ take count (drop 57 seen) ++ drop count old → length old ≡ room → room ≡ min size (length seen - 57)
    → cut ≡ take count (take room (into ++ drop (length into) items)) → cut ≡ take size (drop 57 seen)
base-read seen into old items cut size count room count_is into_is old_long room_is cut_is =
    let there = drop 57 seen in
    let long : length there ≡ length seen - 57 = length-drop 57 seen in
    let most : count ≡ min size (length there) = omega (arith, count_is, old_long, room_is, long) in
    let front : length (take count there) ≡ count = (let first = length-take count there in omega (arith, first, most)) in
    let within : count ≤ length into = (let all = ap length into_is ∙ length-append (take count there) (drop count old) in omega (arith, all, front)) in
    let fits : count ≤ room = omega (arith, count_is, old_long) in
    cut_is ∙ take-take count room (into ++ drop (length into) items) fits ∙ take-append-le count into (drop (length into) items) within ∙ ap (λ (l : List ℕ). take count l) into_is
    ∙ take-append-le count (take count there) (drop count old) (omega (arith, front)) ∙ take-take count count there (omega arith) ∙ ap (λ (k : ℕ). take k there) most ∙ take-min size there
