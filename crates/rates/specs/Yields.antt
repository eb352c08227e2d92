-- What a planet yields an hour. Rules: docs/RULES.md, "Mines" and "Yields".
use Rattle.std.specs.Prelude.{◌≡◌, ℕ, ◌+◌, ◌*◌, ◌/◌, ◌^◌, ◌≤◌, min, ◌==◌, if◌then◌else◌}
use Rattle.base_num.specs.Division.{IsFloor}
use Rattle.catalog.specs.declared.kind.Kind.TheVariants.{MetalMine, CrystalMine, DeuteriumSynth}
use Rattle.rates.specs.Energy.{setting, given_of, need_of, IsGiven, IsNeeded}
use Rattle.rates.specs.Formulas.{output, synthesized, IsOutput, IsSynthesized}
use Rattle.rates.specs.Stock.{hourly_yield}
use Rattle.rates.specs.declared.resources.Resources.{Resources}
use Rattle.rates.specs.declared.works.Hourly.{Hourly}
use Rattle.rates.specs.declared.works.Works.{Works}

-- what the two mines and the synthesizer make at speed 1 if all the energy that they need is given
unfoldable pub mines_of : Works → Resources
mines_of works =
    record {
      metal = output 30 works.metal (setting works MetalMine);
      crystal = output 20 works.crystal (setting works CrystalMine);
      deuterium = synthesized works.deuterium works.t (setting works DeuteriumSynth);
    }

-- what a mine adds at a speed, with so much energy given and needed: if less is given than needed, its share, rounded
-- down once; if none is needed, no mine works
unfoldable pub scaled : ℕ → ℕ → ℕ → ℕ → ℕ
scaled mine speed given need = if need == 0 then 0 else mine * speed * min given need / need

-- the hourly yields of a planet with these works at a speed, and its energy: the basic income, which no energy
-- scales, and what the mines add
unfoldable pub hourly_of : Works → ℕ → Hourly
hourly_of works speed =
    record {
      metal = (hourly_yield speed).metal + scaled (mines_of works).metal speed (given_of works) (need_of works);
      crystal = (hourly_yield speed).crystal + scaled (mines_of works).crystal speed (given_of works) (need_of works);
      deuterium = (hourly_yield speed).deuterium + scaled (mines_of works).deuterium speed (given_of works) (need_of works);
      given = given_of works;
      need = need_of works;
    }

-- The two mines and the synthesizer make so much, each rounded down.
pub record AreMines (works : Works) (metal crystal deuterium : ℕ) : Type 0 where
  pub metal_is : IsOutput 30 works.metal (setting works MetalMine) metal
  pub crystal_is : IsOutput 20 works.crystal (setting works CrystalMine) crystal
  pub deuterium_is : IsSynthesized works.deuterium works.t (setting works DeuteriumSynth) deuterium

-- A mine's share: nothing if no energy is needed, and else one quotient of the whole product, rounded down.
pub record IsScaled (mine speed given need share : ℕ) : Type 0 where
  pub idle : need ≡ 0 → share ≡ 0
  pub working : 1 ≤ need → IsFloor (mine * speed * min given need) need share

-- The rules of a planet's yields and energy: each number that is rounded has a name here or in the records that are
-- cited, and its two bounds.
pub record AreYields (works : Works) (speed : ℕ) (hourly : Hourly) : Type 0 where
  pub given : IsGiven works hourly.given
  pub need : IsNeeded works hourly.need
  pub metal_mine : ℕ
  pub crystal_mine : ℕ
  pub synthesizer : ℕ
  pub mines : AreMines works metal_mine crystal_mine synthesizer
  pub metal_share : ℕ
  pub metal_share_is : IsScaled metal_mine speed hourly.given hourly.need metal_share
  pub metal : hourly.metal ≡ (hourly_yield speed).metal + metal_share
  pub crystal_share : ℕ
  pub crystal_share_is : IsScaled crystal_mine speed hourly.given hourly.need crystal_share
  pub crystal : hourly.crystal ≡ (hourly_yield speed).crystal + crystal_share
  pub deuterium_share : ℕ
  pub deuterium_share_is : IsScaled synthesizer speed hourly.given hourly.need deuterium_share
  pub deuterium : hourly.deuterium ≡ (hourly_yield speed).deuterium + deuterium_share

-- No yield and no energy of works in range comes near what 64 bits hold.
pub record AreSmall (hourly : Hourly) : Type 0 where
  pub metal : hourly.metal ≤ 2 ^ 23
  pub crystal : hourly.crystal ≤ 2 ^ 23
  pub deuterium : hourly.deuterium ≤ 2 ^ 23
  pub given : hourly.given ≤ 2 ^ 23
  pub need : hourly.need ≤ 2 ^ 23
