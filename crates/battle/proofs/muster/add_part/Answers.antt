use Rattle.std.proofs.Common.{◌∙◌, arith}
use Rattle.std.proofs.lemmas.List.{length-map}
use Rattle.catalog.specs.declared.classes.TheConstants.{UNIT_KINDS}
use Rattle.catalog.specs.declared.kind.Kind.TheVariants.{SmallCargo}
use Rattle.battle.specs.Arrays.{all_seen}
use Rattle.battle.specs.Course.{unhurt}
use Rattle.battle.specs.Sides.{part_fighters}
use Rattle.battle.proofs.Musters.{kind_more, kind_room}
use Rattle.battle.proofs.Shown.{length_seen}
use Rattle.battle.proofs.muster.add_part.Goals as goal

pub add_units-requires-clause-room : goal.add_units-requires-clause-room
add_units-requires-clause-room c =
    let now = all_seen c.kinds.table.items 0 c.kinds.units.items in
    let initial = all_seen c.args.table.now.items 0 c.args.units.now.items in
    let room = kind_room now initial c.args.place c.args.part.now.techs.n UNIT_KINDS c.args.part.now.n c.kinds.i SmallCargo 0 (omega arith) (omega arith) c.kinds.invariant.same in
    let here = length_seen c.kinds.table.items 0 c.kinds.units.items in
    let there = length_seen c.args.table.now.items 0 c.args.units.now.items in
    let whole = length-map (part_fighters c.args.place c.args.part.now) unhurt in
    omega (arith, room, here, there, whole, c.requires.room)

pub kinds-preserved : goal.kinds-preserved
kinds-preserved c =
    let e = kind_more (all_seen c.kinds.table.items 0 c.kinds.units.items) c.args.place c.args.part.now.techs.n UNIT_KINDS c.args.part.now.n c.kinds.i _ _ (omega arith) (omega arith) in
    record {
      same = rw (c.in_ok-add_units.ensures.shown, c.new-fighter.ensures) (e ∙ c.kinds.invariant.same);
      mustered = c.in_ok-add_units.ensures.mustered;
    }
