-- The words of a stream are numbers of 32 bits, and a stream goes from word to word.
use Rattle.std.proofs.Common.{◌≡◌, ℕ, zero, suc, ◌+◌, ◌-◌, ◌*◌, ◌/◌, ◌%◌, ◌^◌, ◌<◌, ◌≤◌, refl, ap, arith, mod-lt, pow_pos, add-one, ◌∙◌}
use Rattle.std.proofs.Math.Nat.{mul-le-mul_left, div-mul-le_self}
use Rattle.std.proofs.lemmas.Nat.{or_lt, shr_le}
use Rattle.std.specs.Int.{w32, rotate_right}
use Rattle.rand_pcg.specs.Lcg.{Lcg}
use Rattle.rand_pcg.specs.Pcg.{pcg32}
use Rattle.draws.specs.Draws.{after, draw, word_at}

-- a word of 32 bits stays one when it is turned round
turned_fits : (word turns : ℕ) → word < 2 ^ 32 → rotate_right w32 word turns < 2 ^ 32
turned_fits word turns fits =
    or_lt 32 (word / 2 ^ (turns % 32)) (word * 2 ^ ((32 - turns % 32) % 32) % 2 ^ 32) (omega (arith, shr_le word (turns % 32))) (mod-lt _ (pow_pos 32))

-- the word at any state
pub word_fits : (stream : Lcg) → (pcg32 stream).0 < 2 ^ 32
word_fits stream = turned_fits _ (stream.state / 2 ^ 59) (mod-lt _ (pow_pos 32))

-- each word of a stream
pub word_at_fits : (stream : Lcg) (count : ℕ) → word_at stream count < 2 ^ 32
word_at_fits stream count = word_fits (after count stream)

-- what a word of 32 bits gives below n is below n
pub draw_below : (word n : ℕ) → word < 2 ^ 32 → 1 ≤ n → draw word n < n
draw_below word n fits some =
    let most : n * (word + 1) ≤ n * 2 ^ 32 = mul-le-mul_left n (omega arith) in omega (arith, most, div-mul-le_self (word * n) (2 ^ 32))

-- after no words a stream stands where it starts
pub after_none : (stream : Lcg) → after 0 stream ≡ stream
unfolding after
after_none stream = refl

-- the next word leads one place on
pub after_next : (stream : Lcg) (count : ℕ) → (pcg32 (after count stream)).1 ≡ after (count + 1) stream
unfolding after
after_next stream count = rw add-one refl

-- the first word comes before the others
pub after_first : (stream : Lcg) (count : ℕ) → after count (pcg32 stream).1 ≡ after (count + 1) stream
unfolding after
after_first stream zero = refl
after_first stream (suc count) =
    let same : count + 1 + 1 ≡ suc count + 1 = omega arith in
    ap (λ (at : Lcg). (pcg32 at).1) (after_first stream count) ∙ after_next stream (count + 1) ∙ ap (λ (place : ℕ). after place stream) same

pub ruleset words = (word_at_fits, draw_below)

pub ruleset places = (after_none, after_next, after_first)
