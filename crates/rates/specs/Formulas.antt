-- What one kind of work makes, needs or gives an hour, by its level or count and the tenths at which it works. Each number
-- is rounded once, at the end; of satellites also what one of them gives. Rules: docs/RULES.md, "Mines" and "Energy".
use Rattle.std.specs.Prelude.{ℕ, ◌*◌, ◌/◌, ◌^◌, ℤ, pos, ◌+ℤ◌, ◌-ℤ◌, ◌*ℤ◌, unsigned_abs}
use Rattle.base_num.specs.Division.{IsFloor, IsCeiling, ceiling}

-- a rate for each level, a tenth more from each level to the next, at so many tenths, rounded down:
-- this is what a mine makes and what a solar plant gives
unfoldable pub output : ℕ → ℕ → ℕ → ℕ
output rate level tenths = rate * level * 11 ^ level * tenths / (10 ^ level * 10)

-- that much is made or given, by the two bounds of the quotient
abbrev pub IsOutput : ℕ → ℕ → ℕ → ℕ → Type 0
IsOutput rate level tenths made = IsFloor (rate * level * 11 ^ level * tenths) (10 ^ level * 10) made

-- the same as an output, rounded up: this is what a mine or a synthesizer needs
unfoldable pub intake : ℕ → ℕ → ℕ → ℕ
intake rate level tenths = ceiling (rate * level * 11 ^ level * tenths) (10 ^ level * 10)

-- that much is needed, by the two bounds of the quotient
abbrev pub IsIntake : ℕ → ℕ → ℕ → ℕ → Type 0
IsIntake rate level tenths need = IsCeiling (rate * level * 11 ^ level * tenths) (10 ^ level * 10) need

-- how much a temperature is above -140 degrees: no planet is colder
abbrev pub warmth : ℤ → ℕ
warmth t = unsigned_abs (t +ℤ pos 140)

-- by how much a temperature, taken twice, is below 1280 degrees: no planet is as warm
abbrev pub coldness : ℤ → ℕ
coldness t = unsigned_abs (pos 1280 -ℤ (pos 2 *ℤ t))

-- what a synthesizer makes: the more, the colder its planet is
unfoldable pub synthesized : ℕ → ℤ → ℕ → ℕ
synthesized level t tenths = 10 * level * 11 ^ level * coldness t * tenths / (10 ^ level * 1000 * 10)

-- a synthesizer makes so much, by the two bounds of the quotient
abbrev pub IsSynthesized : ℕ → ℤ → ℕ → ℕ → Type 0
IsSynthesized level t tenths made = IsFloor (10 * level * 11 ^ level * coldness t * tenths) (10 ^ level * 1000 * 10) made

-- what satellites give: the more, the warmer their planet is; what one gives is rounded down first
unfoldable pub collected : ℕ → ℤ → ℕ → ℕ
collected count t tenths = count * (warmth t / 6) * tenths / 10

-- Satellites give so much: what one gives is rounded down, and what they all give together, at so many tenths.
pub record IsCollected (count : ℕ) (t : ℤ) (tenths given : ℕ) : Type 0 where
  pub one : ℕ
  pub one_is : IsFloor (warmth t) 6 one
  pub all_is : IsFloor (count * one * tenths) 10 given
