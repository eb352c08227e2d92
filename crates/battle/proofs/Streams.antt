-- Where a stream stands after some of its words, and which words come then.
use Rattle.std.proofs.Common.{◌≡◌, ℕ, zero, suc, ◌+◌, refl, ap, add-zero, arith}
use Rattle.rand_pcg.specs.Lcg.{Lcg}
use Rattle.rand_pcg.specs.Pcg.{pcg32}
use Rattle.draws.specs.Draws.{after, word_at}

-- some words after others
pub after_more : (m n : ℕ) (stream : Lcg) → after m (after n stream) ≡ after (n + m) stream
unfolding after
after_more zero n stream = rw add-zero refl
after_more (suc m) n stream =
    let e : n + suc m ≡ suc (n + m) = omega arith in rw e (ap (λ (at : Lcg). (pcg32 at).1) (after_more m n stream))

-- the stream behind its first word is the stream after one word
pub after_one : (stream : Lcg) → (pcg32 stream).1 ≡ after 1 stream
unfolding after
after_one stream = refl

-- the first word
pub first_word : (stream : Lcg) → (pcg32 stream).0 ≡ word_at stream 0
unfolding after
first_word stream = refl

-- the word at a place after some words
pub word_more : (m n : ℕ) (stream : Lcg) → word_at (after n stream) m ≡ word_at stream (n + m)
word_more m n stream = ap (λ (at : Lcg). (pcg32 at).0) (after_more m n stream)
