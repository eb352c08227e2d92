-- Texts without a given byte, and that the spelling of a number has digits alone.
use Rattle.std.proofs.Common.{◌≡◌, ◌≢◌, ℕ, zero, suc, ◌+◌, ◌/◌, ◌%◌, ◌<◌, ◌≤◌, Bool, true, false, cond, ℤ, pos, negsuc, List, [], ◌∷◌, ◌++◌, length, get_or, sym, ap, arith, eqb, lt-ltb}
use Rattle.std.specs.Fmt.{decimal, signed_decimal, digits, digits_onto, digit_glyph}
use Rattle.base_text.specs.Parts.{Lacks}

pub lacks-nil : (c : ℕ) → Lacks c []
lacks-nil c = record { apart = λ k h e. omega arith }

pub lacks-cons : (c x : ℕ) (xs : List ℕ) → x ≢ c → Lacks c xs → Lacks c (x ∷ xs)
lacks-cons c x xs other free = record { apart = at }
  where
    at : (k : ℕ) → k < length (x ∷ xs) → get_or (x ∷ xs) k 0 ≢ c
    at zero h e = other e
    at (suc k) h e = free.apart k (omega arith) e

lacks-tail : (c x : ℕ) (xs : List ℕ) → Lacks c (x ∷ xs) → Lacks c xs
lacks-tail c x xs free = record { apart = λ k h. free.apart (suc k) (omega arith) }

pub lacks-append : (c : ℕ) (xs ys : List ℕ) → Lacks c xs → Lacks c ys → Lacks c (xs ++ ys)
lacks-append c [] ys front back = back
lacks-append c (x ∷ xs) ys front back = lacks-cons c x (xs ++ ys) (front.apart 0 (omega arith)) (lacks-append c xs ys (lacks-tail c x xs front) back)

-- the digit that is written is no other byte
glyph_apart : (c d : ℕ) → d < 10 → ¬ ((48 ≤ c) × (c ≤ 57)) → digit_glyph false d ≢ c
glyph_apart c d small other e = let is : digit_glyph false d ≡ 48 + d = ap (λ (b : Bool). cond b (48 + d) (87 + d)) (lt-ltb d 10 small) in other (omega arith, omega arith)

lacks-cond : (c : ℕ) (b : Bool) (xs ys : List ℕ) → Lacks c xs → Lacks c ys → Lacks c (cond b xs ys)
lacks-cond c true xs ys front back = front
lacks-cond c false xs ys front back = back

lacks-digits_onto : (c k n : ℕ) (after : List ℕ) → ¬ ((48 ≤ c) × (c ≤ 57)) → Lacks c after → Lacks c (digits_onto k 10 false n after)
lacks-digits_onto c zero n after other free = free
lacks-digits_onto c (suc k) n after other free =
    let here : Lacks c (digit_glyph false (n % 10) ∷ after) = lacks-cons c _ after (glyph_apart c (n % 10) (omega arith) other) free in
    lacks-cond c (eqb (n / 10) 0) _ _ here (lacks-digits_onto c k (n / 10) _ other here)

-- a number's digits have no byte but digits
pub lacks-decimal : (c n : ℕ) → ¬ ((48 ≤ c) × (c ≤ 57)) → Lacks c (decimal n)
unfolding digits
lacks-decimal c n other = lacks-digits_onto c 64 n [] other (lacks-nil c)

-- and with a sign no byte but digits and `-`
pub lacks-signed_decimal : (c : ℕ) (z : ℤ) → c ≢ 45 → ¬ ((48 ≤ c) × (c ≤ 57)) → Lacks c (signed_decimal z)
lacks-signed_decimal c (pos n) sign other = lacks-decimal c n other
lacks-signed_decimal c (negsuc n) sign other = lacks-cons c 45 (decimal (suc n)) (λ e. sign (sym e)) (lacks-decimal c (suc n) other)

pub decimal_lacks_space : (n : ℕ) → Lacks 32 (decimal n)
decimal_lacks_space n = lacks-decimal 32 n (λ h. omega (arith, h.0))

pub decimal_lacks_colon : (n : ℕ) → Lacks 58 (decimal n)
decimal_lacks_colon n = lacks-decimal 58 n (λ h. omega (arith, h.1))

pub decimal_lacks_minus : (n : ℕ) → Lacks 45 (decimal n)
decimal_lacks_minus n = lacks-decimal 45 n (λ h. omega (arith, h.0))

pub decimal_lacks_at : (n : ℕ) → Lacks 64 (decimal n)
decimal_lacks_at n = lacks-decimal 64 n (λ h. omega (arith, h.1))

pub signed_decimal_lacks_space : (z : ℤ) → Lacks 32 (signed_decimal z)
signed_decimal_lacks_space z = lacks-signed_decimal 32 z (λ e. omega arith) (λ h. omega (arith, h.0))
