-- What recyclers take of a debris field, step by step. Rule: docs/RULES.md, "Harvest".
use Rattle.std.specs.Prelude.{ℕ, ◌+◌, ◌-◌, ◌/◌, ◌≡◌, min}
use Rattle.catalog.specs.declared.amounts.Amounts.{Amounts}
use Rattle.spoils.specs.Shares.{IsShare}

-- units that are taken in each step, in the order of the steps
pub record Scraping : Type 0 where
  pub first_metal : ℕ
  pub first_crystal : ℕ
  pub second_metal : ℕ

-- into this room, of so much metal and crystal of the debris
unfoldable pub scraping : ℕ → ℕ → ℕ → Scraping
scraping room metal crystal =
    let first_metal = min (room / 2) metal in
    let first_crystal = min (room - first_metal) crystal in
    let second_metal = min (room - first_metal - first_crystal) (metal - first_metal) in
    record { first_metal = first_metal; first_crystal = first_crystal; second_metal = second_metal }

-- each step is a share of the room that the steps before it leave
pub record IsScraping (room metal crystal : ℕ) (steps : Scraping) : Type 0 where
  pub first_metal : IsShare room 2 metal steps.first_metal
  pub first_crystal : IsShare (room - steps.first_metal) 1 crystal steps.first_crystal
  pub second_metal : IsShare (room - steps.first_metal - steps.first_crystal) 1 (metal - steps.first_metal) steps.second_metal

-- what is taken in all, into this room, of the debris: it is what some such steps take together
pub record Scrapes (room : ℕ) (debris taken : Amounts) : Type 0 where
  pub steps : Scraping
  pub shares : IsScraping room debris.m debris.c steps
  pub metal : taken.m ≡ steps.first_metal + steps.second_metal
  pub crystal : taken.c ≡ steps.first_crystal
  pub deuterium : taken.d ≡ 0
