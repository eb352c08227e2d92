-- The words of a battle and the numbers that are drawn from them. Rule: docs/RULES.md, "Draws".
use Rattle.std.specs.Prelude.{ℕ, zero, suc, ◌*◌, ◌/◌, ◌^◌}
use Rattle.rand_pcg.specs.Lcg.{Lcg, started, increment_of}
use Rattle.rand_pcg.specs.Pcg.{multiplier_64, pcg32}

-- where the words of a battle start: the stream of this number, from the universe's seed
abbrev pub stream_start : ℕ → ℕ → Lcg
stream_start seed number = started 64 multiplier_64 seed (increment_of 64 number)

-- where a stream stands after so many words
unfoldable pub after : ℕ → Lcg → Lcg
after zero stream = stream
after (suc count) stream = (pcg32 (after count stream)).1

-- the word of a stream that has so many words before it
abbrev pub word_at : Lcg → ℕ → ℕ
word_at stream count = (pcg32 (after count stream)).0

-- the number below n that a word of 32 bits gives
abbrev pub draw : ℕ → ℕ → ℕ
draw word n = word * n / 2 ^ 32
