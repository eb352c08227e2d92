-- How long a building, a research and a unit take. Rule: docs/RULES.md, "Costs and durations".
use Rattle.std.specs.Prelude.{◌≡◌, ℕ, ◌+◌, ◌*◌, ◌/◌, ◌^◌, ◌≤◌, ◌<◌, max}
use Rattle.base_num.specs.Division.{IsFloor}
use Rattle.catalog.specs.Levels.{level_cap_of}
use Rattle.catalog.specs.declared.kind.Kind.TheVariants.{Robotics, Shipyard, Lab, Nanite}
use Rattle.prices.specs.declared.duration.Helpers.{Helpers}
use Rattle.prices.specs.declared.duration.Helpers.TheVariants.{Building, Research, Yard}

-- no helper has a level above its cap
abbrev pub IsWithinCaps : Helpers → Type 0
IsWithinCaps (Building robotics nanite) = (robotics ≤ level_cap_of Robotics) × (nanite ≤ level_cap_of Nanite)
IsWithinCaps (Research lab) = lab ≤ level_cap_of Lab
IsWithinCaps (Yard shipyard nanite) = (shipyard ≤ level_cap_of Shipyard) × (nanite ≤ level_cap_of Nanite)

-- the units of metal and crystal that are worked in an hour, in a universe of this speed
abbrev pub hourly_work : Helpers → ℕ → ℕ
hourly_work (Building robotics nanite) speed = 2500 * (1 + robotics) * 2 ^ nanite * speed
hourly_work (Research lab) speed = 1000 * (1 + lab) * speed
hourly_work (Yard shipyard nanite) speed = 2500 * (1 + shipyard) * 2 ^ nanite * speed

-- what is divided by an hour's work to give the seconds: an hour has 3600 of them
abbrev pub work_of : ℕ → ℕ → ℕ
work_of metal crystal = 3600 * (metal + crystal)

-- the seconds that so much metal and crystal take: at least 1
abbrev pub seconds_of : ℕ → ℕ → Helpers → ℕ → ℕ
seconds_of metal crystal helpers speed = max 1 (work_of metal crystal / hourly_work helpers speed)

-- the same by bounds: the quotient rounded down, or 1 if an hour's work is more
pub record IsDuration (metal crystal : ℕ) (helpers : Helpers) (speed seconds : ℕ) : Type 0 where
  pub floored : hourly_work helpers speed ≤ work_of metal crystal → IsFloor (work_of metal crystal) (hourly_work helpers speed) seconds
  pub least : work_of metal crystal < hourly_work helpers speed → seconds ≡ 1
