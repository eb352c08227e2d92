-- Draws from a stream of words. Rule: docs/RULES.md, "Draws".
use Rattle.std.specs.Prelude.{ℕ}
use Rattle.draws.specs.Draws.{draw, word_at}
use Rattle.rand_pcg.specs.Lcg.{Lcg}

-- the number below n by the word that has so many words before it
abbrev pub drawn : Lcg → ℕ → ℕ → ℕ
drawn stream before n = draw (word_at stream before) n
