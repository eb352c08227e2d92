-- The bytes of a window, after a step of its start and after a read behind them.
use Rattle.std.proofs.Common.{◌≡◌, ℕ, ◌+◌, ◌-◌, ◌≤◌, Option, Result, Ok, Err, MatchResult, List, ◌++◌, length, take, drop, slice_range, sym, ap, ◌∙◌, arith}
use Rattle.std.proofs.lemmas.List.{drop-take, drop-drop, length-take-le, take-append-le, take_at}
use Rattle.std.specs.Io.{ReadsAtMost}
use Rattle.std.specs.Io.KnownBytes.{Consumes, Keeps, ReadConsumes}
use Rattle.std.proofs.Math.Seq.{take-append-add}
use borrow.Rule.Slice.PartMut.{put_mid, post_of}

-- some of the bytes were passed
pub passed : (xs : List ℕ) (start end count : ℕ) → start + count ≤ end → slice_range xs (start + count) end ≡ drop count (slice_range xs start end)
passed xs start end count inside =
    let parts : end - start ≡ count + (end - (start + count)) = omega arith in
    sym (ap (λ j. drop count (take j (drop start xs))) parts ∙ drop-take count _ (drop start xs) ∙ ap (take (end - (start + count))) (drop-drop count start xs))

-- others were read behind the first so many bytes
pub read_on : (a n k : ℕ) (xs ys zs : List ℕ) → take a xs ≡ zs → a ≤ length xs → n ≤ length ys → take (a + n) (put_mid a k xs ys) ≡ zs ++ take n ys
read_on a n k xs ys zs front within few =
    let whole : length (take a xs) ≡ a = length-take-le a xs within in
    ap (λ m. take (m + n) (take a xs ++ (ys ++ post_of a k xs))) (sym whole) ∙ take-append-add (take a xs) (ys ++ post_of a k xs) n
    ∙ ap (λ zs. take a xs ++ zs) (take-append-le n ys (post_of a k xs) few) ∙ ap (λ f. f ++ take n ys) front

-- what a read behind the first so many bytes does to them and to the source
pub behind : {E : Type 0} (a k : ℕ) (xs ys zs : List ℕ) (before after : Option (List ℕ)) (r : Result ℕ E) → take a xs ≡ zs → a ≤ length xs → ReadsAtMost r ys → ReadConsumes before after r ys
    → MatchResult r (λ n. (got : List ℕ) × (length got ≡ n) × (take (a + n) (put_mid a k xs ys) ≡ zs ++ got) × Consumes before after got) (λ _. (take a (put_mid a k xs ys) ≡ zs) × Keeps before after)
behind a k xs ys zs before after (Ok n) front within bound bytes = (take n ys, sym bound.1, read_on a n k xs ys zs front within bound.0, bytes.0)
behind a k xs ys zs before after (Err e) front within bound bytes =
    let whole : length (take a xs) ≡ a = length-take-le a xs within in
    (take_at (take a xs) (ys ++ post_of a k xs) a whole ∙ front, bytes)
