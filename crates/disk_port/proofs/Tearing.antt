-- What a write or a cut leaves where it is.
use Rattle.std.proofs.Common.{◌≡◌, ℕ, ◌+◌, ◌<◌, ◌≤◌, List, ◌++◌, length, take, drop, get_or, refl, sym, ◌∙◌, ap, arith, length-append}
use Rattle.std.proofs.lemmas.List.{same_lists, get_or_default, get_or-take, length-take, length-take-le, take-append-le, take-take, take_at, drop_at, append_assoc}
use Rattle.disk_port.specs.Contents.{written, Torn, Shortened}

-- two contents that agree up to a place have one front
same_front : (p : ℕ) (xs ys : List ℕ) → p ≤ length xs → p ≤ length ys → ((i : ℕ) → i < p → get_or ys i 0 ≡ get_or xs i 0) → take p ys ≡ take p xs
same_front p xs ys in_xs in_ys same =
    same_lists (take p ys) (take p xs) (length-take-le p ys in_ys ∙ sym (length-take-le p xs in_xs))
    (λ k d h.
    let below : k < p = omega (arith, length-take-le p ys in_ys) in
    get_or-take p ys k d below ∙ get_or_default ys k d 0 (omega arith) ∙ same k below ∙ get_or_default xs k 0 d (omega arith) ∙ sym (get_or-take p xs k d below))

pub torn-front : (at n p : ℕ) (old new : List ℕ) → Torn at n old new → p ≤ at → p ≤ length old → take p new ≡ take p old
torn-front at n p old new torn before in_old = same_front p old new in_old (omega (arith, torn.no_shorter)) (λ i h. torn.below i (omega arith) (omega arith))

pub shortened-front : (len p : ℕ) (old new : List ℕ) → Shortened len old new → p ≤ len → p ≤ length old → take p new ≡ take p old
shortened-front len p old new short before in_old = same_front p old new in_old (omega (arith, short.no_shorter)) (λ i h. short.below i (omega arith) (omega arith))

pub written-front : (at p : ℕ) (old bytes : List ℕ) → p ≤ at → p ≤ length old → take p (written old at bytes) ≡ take p old
written-front at p old bytes before in_old =
    let front : p ≤ length (take at old) = omega (arith, length-take at old) in
    take-append-le p (take at old ++ bytes) (drop (at + length bytes) old) (omega (arith, length-append (take at old) bytes))
    ∙ take-append-le p (take at old) bytes front ∙ take-take p at old before

pub written-there : (at : ℕ) (old bytes : List ℕ) → at ≤ length old → take (length bytes) (drop at (written old at bytes)) ≡ bytes
written-there at old bytes in_old =
    ap (λ (l : List ℕ). take (length bytes) (drop at l)) (append_assoc (take at old) bytes (drop (at + length bytes) old))
    ∙ ap (λ (l : List ℕ). take (length bytes) l) (drop_at (take at old) (bytes ++ drop (at + length bytes) old) at (length-take-le at old in_old))
    ∙ take_at bytes (drop (at + length bytes) old) (length bytes) refl

pub written-behind : (at : ℕ) (old bytes : List ℕ) → at ≤ length old → drop (at + length bytes) (written old at bytes) ≡ drop (at + length bytes) old
written-behind at old bytes in_old =
    drop_at (take at old ++ bytes) (drop (at + length bytes) old) (at + length bytes) (omega (arith, length-append (take at old) bytes, length-take-le at old in_old))
