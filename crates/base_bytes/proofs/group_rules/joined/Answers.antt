use Rattle.std.proofs.Common.{◌∙◌, refl, sym}
use Rattle.base_bytes.proofs.Grouping.{joined-are, must-agree, place-equal, place-unequal}
use Rattle.fleet_rec.specs.Fleet.{fleet_seen}
use Rattle.base_bytes.proofs.group_rules.joined.Goals.{then-ne-via-then-ne, then-ne-via-else-ne+then-fleet-group}
use Rattle.base_bytes.proofs.group_rules.joined.Goals as goal

pub returns-then-ne : goal.returns-then-ne
returns-then-ne c = λ seen are can.
    let fleet = c.args.fleet.now in
    let group = c.args.group.now in
    let agree = must-agree group (fleet_seen fleet) seen are can in
    elim c.then-ne.branch [
      | then-ne-via-then-ne w ↦ place-unequal fleet.target group.target (sym c.ne.ensures ∙ w.if-ne.true) agree.0
      | then-ne-via-else-ne+then-fleet-group w ↦ absurd (w.if-fleet-group.true agree.1)
    ]

pub returns : goal.returns
returns c = λ seen are.
    let fleet = c.args.fleet.now in
    let group = c.args.group.now in
    let target = place-equal fleet.target group.target (sym c.ne.ensures ∙ c.if-ne.false) in
    joined-are group _ (fleet_seen fleet) seen target c.if-fleet-group.false c.if-group-ge-MOST_IN_GROUP.false refl refl refl are
