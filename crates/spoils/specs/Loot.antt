-- What winners load of a planet's stocks, step by step. Rule: docs/RULES.md, "Loot".
use Rattle.std.specs.Prelude.{ℕ, ◌+◌, ◌-◌, ◌/◌, ◌≡◌, min}
use Rattle.catalog.specs.declared.amounts.Amounts.{Amounts}
use Rattle.spoils.specs.Shares.{IsShare}

-- units that are loaded in each step, in the order of the steps
pub record Loading : Type 0 where
  pub first_metal : ℕ
  pub first_crystal : ℕ
  pub first_deuterium : ℕ
  pub second_metal : ℕ
  pub second_crystal : ℕ

-- into this room, of so much metal, crystal and deuterium that may be taken
unfoldable pub loading : ℕ → ℕ → ℕ → ℕ → Loading
loading room metal crystal deuterium =
    let first_metal = min (room / 3) metal in
    let first_crystal = min ((room - first_metal) / 2) crystal in
    let first_deuterium = min (room - first_metal - first_crystal) deuterium in
    let second_metal = min ((room - first_metal - first_crystal - first_deuterium) / 2) (metal - first_metal) in
    let second_crystal = min (room - first_metal - first_crystal - first_deuterium - second_metal) (crystal - first_crystal) in
    record {
      first_metal = first_metal;
      first_crystal = first_crystal;
      first_deuterium = first_deuterium;
      second_metal = second_metal;
      second_crystal = second_crystal;
    }

-- each step is a share of the room that the steps before it leave
pub record IsLoading (room metal crystal deuterium : ℕ) (steps : Loading) : Type 0 where
  pub first_metal : IsShare room 3 metal steps.first_metal
  pub first_crystal : IsShare (room - steps.first_metal) 2 crystal steps.first_crystal
  pub first_deuterium : IsShare (room - steps.first_metal - steps.first_crystal) 1 deuterium steps.first_deuterium
  pub second_metal : IsShare (room - steps.first_metal - steps.first_crystal - steps.first_deuterium) 2 (metal - steps.first_metal) steps.second_metal
  pub second_crystal : IsShare (room - steps.first_metal - steps.first_crystal - steps.first_deuterium - steps.second_metal) 1 (crystal - steps.first_crystal) steps.second_crystal

-- what is loaded in all, into this room, of what may be taken: it is what some such steps load together
pub record Loads (room : ℕ) (may loaded : Amounts) : Type 0 where
  pub steps : Loading
  pub shares : IsLoading room may.m may.c may.d steps
  pub metal : loaded.m ≡ steps.first_metal + steps.second_metal
  pub crystal : loaded.c ≡ steps.first_crystal + steps.second_crystal
  pub deuterium : loaded.d ≡ steps.first_deuterium
