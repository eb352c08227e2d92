-- What fits into the free room of fleets.
use Rattle.std.proofs.Common.{◌≡◌, ◌∙◌, ℕ, ◌+◌, ◌-◌, ◌/◌, ◌≤◌, List, inl, inr, min, ap, sym, refl, arith}
use Rattle.std.specs.Prelude.{sum_by}
use Rattle.std.proofs.lemmas.Bool.{cases_lt}
use Rattle.catalog.specs.declared.amounts.TheConstants.{CAP}
use Rattle.raids.specs.declared.plundering.TheConstants.{PLENTY}
use Rattle.reply_text.specs.declared.units.Units.{Units}
use Rattle.rates.specs.declared.resources.Resources.{Resources}
use Rattle.rates.specs.Stock.{whole}
use Rattle.spoils.specs.Loot.{Loading, loading}
use Rattle.tick_model.specs.Battles.{loot}
use Rattle.tick_model.specs.Flights.{free_room}
use Rattle.tick_model.specs.Universe.{Fleet}

-- Into so much room as is counted at most, all fits that may be taken.
all_fits : (room metal crystal deuterium : ℕ) → metal ≤ CAP → crystal ≤ CAP → deuterium ≤ CAP → PLENTY ≤ room
    → loading room metal crystal deuterium ≡ record { first_metal = metal; first_crystal = crystal; first_deuterium = deuterium; second_metal = 0; second_crystal = 0 }
unfolding loading
all_fits room metal crystal deuterium one two three much =
    let first : min (room / 3) metal ≡ metal = omega (arith, one, much) in
    let second : min ((room - metal) / 2) crystal ≡ crystal = omega (arith, one, two, much) in
    let third : min (room - metal - crystal) deuterium ≡ deuterium = omega (arith, one, two, three, much) in
    let fourth : min ((room - metal - crystal - deuterium) / 2) (metal - metal) ≡ 0 = omega arith in
    let fifth : min (room - metal - crystal - deuterium - 0) (crystal - crystal) ≡ 0 = omega arith in
    rw (first, second, third, fourth, fifth) refl

counted_same : (room metal crystal deuterium : ℕ) → metal ≤ CAP → crystal ≤ CAP → deuterium ≤ CAP
    → loading (min room PLENTY) metal crystal deuterium ≡ loading room metal crystal deuterium
counted_same room metal crystal deuterium one two three =
    elim (cases_lt room PLENTY) [
      | inl less ↦
          let same : min room PLENTY ≡ room = omega (arith, less) in
          ap (λ (n : ℕ). loading n metal crystal deuterium) same
      | inr more ↦
          all_fits (min room PLENTY) metal crystal deuterium one two three (omega (arith, more)) ∙ sym (all_fits room metal crystal deuterium one two three (omega (arith, more)))
    ]

pub loot_is : (fleets : List Fleet) (stock there : Resources) (room : ℕ) (taken : Units) → room ≡ min (sum_by free_room fleets) PLENTY → there ≡ whole stock
    → there.metal / 2 ≤ CAP → there.crystal / 2 ≤ CAP → there.deuterium / 2 ≤ CAP
    → let steps = loading room (there.metal / 2) (there.crystal / 2) (there.deuterium / 2) in
    taken.metal ≡ steps.first_metal + steps.second_metal → taken.crystal ≡ steps.first_crystal + steps.second_crystal → taken.deuterium ≡ steps.first_deuterium
    → taken ≡ loot fleets stock
unfolding loot
loot_is fleets stock there room taken counted whole_is one two three metal crystal deuterium =
    let all = sum_by free_room fleets in
    let same : loading room (there.metal / 2) (there.crystal / 2) (there.deuterium / 2) ≡ loading all ((whole stock).metal / 2) ((whole stock).crystal / 2) ((whole stock).deuterium / 2) =
    ap (λ (n : ℕ). loading n (there.metal / 2) (there.crystal / 2) (there.deuterium / 2)) counted
    ∙ counted_same all (there.metal / 2) (there.crystal / 2) (there.deuterium / 2) one two three
    ∙ ap (λ (r : Resources). loading all (r.metal / 2) (r.crystal / 2) (r.deuterium / 2)) whole_is in
    let metals = metal ∙ ap (λ (s : Loading). s.first_metal + s.second_metal) same in
    let crystals = crystal ∙ ap (λ (s : Loading). s.first_crystal + s.second_crystal) same in
    let deuteriums = deuterium ∙ ap (λ (s : Loading). s.first_deuterium) same in
    λ i. record { metal = metals i; crystal = crystals i; deuterium = deuteriums i }
