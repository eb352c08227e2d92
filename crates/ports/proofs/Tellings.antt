-- What one more reading does to the readings that a clock in memory has told.
use Rattle.std.specs.Prelude.{◌≡◌, ℕ, suc, ◌+◌, ◌-◌, ◌^◌, ◌≤◌, min, Bool, true, false, nat_eq, List, [], ◌∷◌, ◌++◌, None, Some, IfSome, refl, if◌then◌else◌}
use Rattle.std.proofs.Common.{arith, ap, sym, subst, ◌∙◌, append_assoc}
use Rattle.std.proofs.lemmas.Bool.Decides.{nat_tests}
use Rattle.std.specs.declared.option.Option.{Option}
use Rattle.std.proofs.lemmas.List.{append-nil}
use Rattle.ports.specs.Readings.{TellsReading, TellsReadings, reading_at, first_readings, readings_told}

-- a list that is known after was known before, and has gained the reading
known-after : (old now : Bool) (xs ys : List ℕ) (reading : ℕ) → (now ≡ false → old ≡ false) → (now ≡ false → ys ≡ xs ++ reading ∷ []) → TellsReading (if old then None else Some xs) (if now then None else Some ys) reading
known-after old true xs ys reading known gains = tt
known-after true false xs ys reading known gains = absurd (cc (known refl))
known-after false false xs ys reading known gains = gains refl

-- the first readings and one more
first_readings-more : (readings : List ℕ) (n m : ℕ) → m ≡ suc n → first_readings readings m ≡ first_readings readings n ++ reading_at readings n ∷ []
unfolding first_readings
first_readings-more readings n m e = ap (λ k. first_readings readings k) e

-- the readings told after one more call, whose count may have come to its last value
pub tells-next : (readings : List ℕ) (n m : ℕ) → n ≤ 2 ^ 64 - 1 → m ≡ min (n + 1) (2 ^ 64 - 1) → TellsReading (readings_told readings n) (readings_told readings m) (reading_at readings n)
unfolding readings_told
tells-next readings n m bound e = known-after (nat_eq n (2 ^ 64 - 1)) (nat_eq m (2 ^ 64 - 1)) (first_readings readings n) (first_readings readings m) (reading_at readings n) (λ h. grind (arith, nat_tests)) (λ h. first_readings-more readings n m (grind (arith, nat_tests)))

-- no reading is told at first
pub told-first : (readings : List ℕ) (n : ℕ) → n ≡ 0 → IfSome (readings_told readings n) (λ told. told ≡ [])
unfolding readings_told first_readings
told-first readings n e = let P : ℕ → Type 0 = λ k. IfSome (readings_told readings k) (λ told. told ≡ []) in subst P (sym e) refl

-- the lemmas of a clock in memory
pub ruleset tellings = (tells-next, told-first)

-- no reading more
pub tells-none : (told : Option (List ℕ)) → TellsReadings told told []
tells-none None = tt
tells-none (Some before) = sym (append-nil before)

-- one reading more
pub tells-more : (a b c : Option (List ℕ)) (readings : List ℕ) (reading : ℕ) → TellsReadings a b readings → TellsReading b c reading → TellsReadings a c (readings ++ reading ∷ [])
tells-more a None None readings reading first second = tt
tells-more a None (Some z) readings reading first second = absurd second
tells-more a (Some y) None readings reading first second = tt
tells-more None (Some y) (Some z) readings reading first second = absurd first
tells-more (Some x) (Some y) (Some z) readings reading first second = second ∙ ap (λ told. told ++ reading ∷ []) first ∙ append_assoc x readings (reading ∷ [])

-- some readings more
pub tells-all : (a b c : Option (List ℕ)) (readings others : List ℕ) → TellsReadings a b readings → TellsReadings b c others → TellsReadings a c (readings ++ others)
tells-all a None None readings others first second = tt
tells-all a None (Some z) readings others first second = absurd second
tells-all a (Some y) None readings others first second = tt
tells-all None (Some y) (Some z) readings others first second = absurd first
tells-all (Some x) (Some y) (Some z) readings others first second = second ∙ ap (λ told. told ++ others) first ∙ append_assoc x readings others
