use Rattle.std.proofs.Common.{◌≡◌, ◌+◌, ◌≤◌, ◌++◌, [], ◌∷◌, ap, ◌∙◌, arith, length, map, refl, subst, suc, sym, take, take_all}
use Rattle.base_ids.specs.declared.cell_id.CellId.TheVariants.{Account as AccountId}
use Rattle.fleet_rec.proofs.Changed.{seen_in}
use Rattle.fleet_rec.specs.Fleet.{fleet_seen}
use Rattle.happenings.specs.Fighting.{AreRaiders}
use Rattle.tick_model.specs.Rules.{IsIn}
use Rattle.raids.specs.declared.aftermath.Raider.{Raider}
use Rattle.happenings.proofs.Fought.{raiders-more}
use Rattle.happenings.proofs.held.Held.raiders.Goals as goal

pub fleets-init : goal.fleets-init
fleets-init c = subst (AreRaiders c.args.self.now []) (sym c.new-raiders.ensures.items) (record { fleets_are = refl; techs = λ k d below. absurd (omega (arith, below)) })

pub techs_of-requires : goal.techs_of-requires
techs_of-requires c =
    let items = c.as_slice-fleet-items.result.now in
    let fleet = c.fleet-item.result in
    c.requires (fleet_seen fleet) (subst (IsIn (fleet_seen fleet)) c.as_slice-fleet-items.ensures (seen_in items c.fleets.fleet-index fleet c.fleets-test.true c.fleet-item.is))

pub fleets-preserved : goal.fleets-preserved
fleets-preserved c =
    let items = c.as_slice-fleet-items.result.now in
    let held = c.args.self.now in
    let raider : Raider = record { fleet = c.fleet-item.result; techs = c.techs_of.result } in
    let next : suc c.fleets.fleet-index ≡ c.fleets.fleet-index + 1 = omega arith in
    subst (λ i. AreRaiders held (map fleet_seen (take i items)) c.push.new.self.items) next
    (subst (AreRaiders held (map fleet_seen (take (suc c.fleets.fleet-index) items))) (sym (c.in_ok-push.ensures.items))
    (raiders-more held items c.fleets.fleet-index c.fleets.raiders.items raider c.fleets-test.true c.fleet-item.is c.fleets.invariant c.techs_of.ensures))

pub returns : goal.returns
returns c =
    let items = c.as_slice-fleet-items.result.now in
    let end : length items ≤ c.fleets.fleet-index = omega arith in
    let all : map fleet_seen (take c.fleets.fleet-index items) ≡ c.args.fleets.now = ap (map fleet_seen) (take_all c.fleets.fleet-index items end) ∙ c.as_slice-fleet-items.ensures in
    subst (λ fleets. AreRaiders c.args.self.now fleets c.fleets.raiders.items) all c.fleets.invariant
