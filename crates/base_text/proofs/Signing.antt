-- The spelling of a number with its sign.
use Rattle.std.proofs.Common.{◌≡◌, ℕ, ◌^◌, ◌<◌, ℤ, pos, negsuc, ◌≤ℤ◌, List, sym, ◌∙◌, arith}
use Rattle.std.specs.Int.Signed.{mag}
use Rattle.std.specs.Fmt.{signed_decimal}
use Rattle.std.proofs.lemmas.Fmt.{signed_decimal_injective}
use Rattle.std.proofs.lemmas.Int.{ints}

small_size : (z : ℤ) → negsuc 32768 ≤ℤ z → z ≤ℤ pos 32768 → mag z < 2 ^ 63
small_size (pos n) low high = omega (arith, ints)
small_size (negsuc n) low high = omega (arith, ints)

-- a word spells one number
pub one_number : (word : List ℕ) (y z : ℤ) → negsuc 32768 ≤ℤ y → y ≤ℤ pos 32768 → negsuc 32768 ≤ℤ z → z ≤ℤ pos 32768 → word ≡ signed_decimal y → word ≡ signed_decimal z → y ≡ z
one_number word y z a b c d e f = signed_decimal_injective y z (small_size y a b) (small_size z c d) (sym e ∙ f)
