use Rattle.std.proofs.Common.{◌≡◌, ◌<◌, arith, get_or, length, subst, sym, ℕ}
use Rattle.tick_model.specs.Yards.{count_of}
use Rattle.std.proofs.Math.ListN.{length-set}
use Rattle.founding.proofs.Bounded.{written-domes}
use Rattle.founding.proofs.Totals.{sum-written}
use Rattle.founding.proofs.sketch.Sketch.manned_with.Goals as goal

pub invariant_of-self-clause-kinds : goal.invariant_of-self-clause-kinds
invariant_of-self-clause-kinds c = let same = length-set c.args.self.units c.place_of_unit.result c.args.new.count in let all = c.args.self.kinds in omega (arith, same, all)

pub invariant_of-self-clause-within_units : goal.invariant_of-self-clause-within_units
invariant_of-self-clause-within_units c =
    let all = sum-written c.args.self.units c.place_of_unit.result c.args.new.count (omega (arith, c.place_of_unit.ensures.within)) in
    let most = c.requires in
    omega (arith, all, most)

pub invariant_of-self-clause-lone_domes : goal.invariant_of-self-clause-lone_domes
invariant_of-self-clause-lone_domes c =
    written-domes c.args.self.units c.args.new.unit.kind c.place_of_unit.result c.args.new.count c.args.self.lone_domes c.args.new.count_to c.place_of_unit.ensures.value

pub returns-clause-total : goal.returns-clause-total
unfolding count_of
returns-clause-total c = λ none.
    let within : c.place_of_unit.result < length c.args.self.units = omega (arith, c.place_of_unit.ensures.within) in
    let all = sum-written c.args.self.units c.place_of_unit.result c.args.new.count within in
    let zero : get_or c.args.self.units c.place_of_unit.result 0 ≡ 0 = subst (λ (n : ℕ). get_or c.args.self.units n 0 ≡ 0) (sym c.place_of_unit.ensures.value) none in
    omega (arith, all, zero)
