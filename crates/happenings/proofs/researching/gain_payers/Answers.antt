use Rattle.std.proofs.Common.{sym, take}
use Rattle.happenings.proofs.Researched.{one_gained_more, payer_behind}
use Rattle.happenings.proofs.researching.gain_payers.Goals as goal

pub gain_payer-requires : goal.gain_payer-requires
gain_payer-requires c =
    let items = c.args.items.now in
    let k = c.items.item-index in
    payer_behind c.args.rules.now c.args.second items (take k items) k c.item-item.result c.args.planets.now c.items.planets c.items-test.true (sym c.item-item.is) c.requires c.items.invariant.gains

pub items-preserved : goal.items-preserved
items-preserved c =
    record {
      gains = one_gained_more c.args.rules.now c.args.second c.args.items.now c.items.item-index c.item-item.result c.args.planets.now c.items.planets c.gain_payer.new.planets
          c.items-test.true (sym c.item-item.is) c.items.invariant.gains c.gain_payer.ensures.gains;
      placed = λ placed. c.gain_payer.ensures.placed (c.items.invariant.placed placed);
    }
