-- The spelling of a number is text.
use Rattle.std.proofs.Common.{◌≡◌, ℕ, ◌<◌, ◌^◌, ℤ, List, arith}
use Rattle.std.specs.Fmt.{decimal, signed_decimal}
use Rattle.std.specs.Int.Signed.{mag}
use Rattle.std.specs.Prelude.{FitsSigned, pos, negsuc}
use Rattle.std.specs.Int.{w16}
use Rattle.std.proofs.lemmas.Int.{ints}
use Rattle.std.specs.Str.{IsUtf8}
use Rattle.std.proofs.lemmas.Fmt.{IsAscii-decimal, IsAscii-signed}
use Rattle.std.proofs.lemmas.Str.{IsUtf8-from_ascii}

pub decimal_is_text : (word : List ℕ) (n : ℕ) → n < 2 ^ 64 → word ≡ decimal n → IsUtf8 word
decimal_is_text word n small spelled = rw spelled (IsUtf8-from_ascii (decimal n) (IsAscii-decimal n small))

pub signed_decimal_is_text : (word : List ℕ) (z : ℤ) → mag z < 2 ^ 63 → word ≡ signed_decimal z → IsUtf8 word
signed_decimal_is_text word z small spelled = rw spelled (IsUtf8-from_ascii (signed_decimal z) (IsAscii-signed z small))

-- a number of 16 bits is small
pub fits_small : (z : ℤ) → FitsSigned w16 z → mag z < 2 ^ 63
fits_small (pos n) fits = omega (arith, ints)
fits_small (negsuc n) fits = omega (arith, ints)
