use Rattle.std.proofs.Common.{◌≡◌, ◌-◌, map, sum, refl, ap, ◌∙◌, sym, subst}
use Rattle.std.specs.List.Sorted.{IsStrictlyIncreasing}
use Rattle.std.specs.BTreeMap.{get}
use Rattle.base_ids.specs.declared.cell_id.CellId.TheVariants.{Account as AccountId}
use Rattle.fleet_rec.specs.Fleet.{fleet_seen}
use Rattle.happenings.specs.Fighting.{AreOwnersHeld, AreRaiders, raid_in}
use Rattle.happenings.specs.Orders.{place_order}
use Rattle.tick_model.specs.Universe.{Fleet, PlanetFields}
use Rattle.happenings.proofs.Fightable.{fought-so, owners-held, raid-here, raider-numbers, target-found, target-held}
use Rattle.happenings.proofs.Cargoes.{no-place}
use Rattle.raids.specs.Leaving.{fleets_seen}
use Rattle.tick_model.specs.Events.{fights, footprint}
use Rattle.happenings.proofs.Fought.{fields_grown}
use Rattle.happenings.proofs.held.Held.battle.Goals as goal

pub unreachable-requires : goal.unreachable-requires
unreachable-requires c =
    let one = fleet_seen c.args.one.now in
    no-place (target-held c.args.rules.now c.args.self.now one c.requires.fight).cell (get place_order c.args.self.now.planets one.target) c.in_default.ensures.value
    (target-found c.args.rules.now c.args.self.now one c.requires.fight)

pub raiders-requires-2 : goal.raiders-requires-2
raiders-requires-2 c =
    let one = fleet_seen c.args.one.now in
    subst (AreOwnersHeld c.args.self.now) (raid-here c.args.rules.now c.args.self.now one c.requires.fight c.in-Some.cell.now (sym c.in-Some.ensures.value) ∙ sym c.in_ok-raid.ensures)
    (owners-held c.args.rules.now c.args.self.now one c.requires.fight)

pub techs_of-techs-requires : goal.techs_of-techs-requires
techs_of-techs-requires c =
    let rules = c.args.rules.now in
    let held = c.args.self.now in
    let one = fleet_seen c.args.one.now in
    let cell = c.in-Some.cell.now in
    let planet = c.in_ok-planet.field-0 in
    let fields = fields_grown rules one.second cell planet c.in_ok-planet.ensures.stand in
    c.requires.fight.within (AccountId planet.planet.owner)
    (ap (λ (p : PlanetFields). footprint (fights (raid_in held one)) (AccountId p.owner)) fields ∙ c.requires.fight.owner cell (sym c.in-Some.ensures.value))

pub fight-requires-clause-rising : goal.fight-requires-clause-rising
fight-requires-clause-rising c =
    let one = fleet_seen c.args.one.now in
    let number = map (λ (f : Fleet). f.number) in
    let same = raid-here c.args.rules.now c.args.self.now one c.requires.fight c.in-Some.cell.now (sym c.in-Some.ensures.value) ∙ sym c.in_ok-raid.ensures in
    let all = c.deref.result.now in
    let fleets : fleets_seen all ≡ c.in_ok-raid.raid = ap fleets_seen c.deref.ensures.value ∙ c.in_ok-raiders.ensures.fleets_are in
    subst IsStrictlyIncreasing (ap number (same ∙ sym fleets) ∙ sym (raider-numbers all)) c.requires.fight.rising

pub returns : goal.returns
returns c =
    let rules = c.args.rules.now in
    let held = c.args.self.now in
    let one = fleet_seen c.args.one.now in
    let cell = c.in-Some.cell.now in
    let found = sym c.in-Some.ensures.value in
    let planet = c.in_ok-planet.field-0.planet in
    let all = c.deref.result.now in
    let same = raid-here rules held one c.requires.fight cell found ∙ sym c.in_ok-raid.ensures in
    let are : AreRaiders held (raid_in held one).fleets all =
    subst (λ fleets. AreRaiders held fleets all) (sym same) (subst (AreRaiders held c.in_ok-raid.raid) (sym c.deref.ensures.value) c.in_ok-raiders.ensures) in
    let fields = fields_grown rules one.second cell c.in_ok-planet.field-0 c.in_ok-planet.ensures.stand in
    let lost : c.total.result - c.total-2.result ≡ sum planet.units - sum c.in_ok-after.after.units = λ i. c.total.ensures i - c.total-2.ensures i in
    fought-so rules held one c.requires.fight cell planet all _ c.techs_of-techs.result found fields are c.techs_of-techs.ensures c.in_ok-after.ensures refl refl (sym same) refl lost
