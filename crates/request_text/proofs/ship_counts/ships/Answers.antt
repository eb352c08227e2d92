use Rattle.std.proofs.Common.{◌≡◌, List, [], ℕ, true, ap, ◌∙◌, arith, rules, subst}
use Rattle.std.proofs.lemmas.List.{take_all}
use Rattle.std.proofs.Math.ListN.{length-set}
use Rattle.base_text.specs.Parts.{parts}
use Rattle.catalog.specs.declared.kind.Kind.TheVariants.{MetalMine}
use Rattle.request_text.proofs.ShipParts.{any_ship, are_within, counts-none, once_more, parts_text, read_all, read_more, read_over, text_parts, within_more}
use Rattle.request_text.proofs.Tails.{if_none}
use Rattle.request_text.proofs.ship_counts.ships.Goals as goal

pub returns-in_err-count : goal.returns-in_err-count
returns-in_err-count c = if_none c.from_residual.result _ _ c.from_residual.ensures (λ ships spells.
    let here = c.kinds.invariant.once ships.n ships.kinds ships.within (ap (parts 44) spells ∙ text_parts ships) in
    counts-none c.kinds.i MetalMine ships.n c.kinds.parts c.kinds-test.true ships.kinds ships.within c.in_err-count.ensures here.1)

pub kinds-preserved : goal.kinds-preserved
kinds-preserved c =
    let i = c.kinds.i in
    let n = c.kinds.n in
    let count = c.in_ok-count.count in
    let counted = c.in_ok-count.ensures in
    let old = c.kinds.parts in
    let new = c.next_ship_count.new.parts in
    record {
      long = length-set n i count ∙ c.kinds.invariant.long;
      read = read_more i n count _ old new c.kinds-test.true c.kinds.invariant.long counted c.kinds.invariant.read;
      within = within_more i n count (omega arith) counted.within c.kinds.invariant.within;
      once = λ ns long small is. once_more i n ns count old new c.kinds-test.true c.kinds.invariant.long long small counted (c.kinds.invariant.once ns long small is);
    }

pub returns-then-not-is_at_end : goal.returns-then-not-is_at_end
returns-then-not-is_at_end c = λ ships spells.
    let here = c.kinds.invariant.once ships.n ships.kinds ships.within (ap (parts 44) spells ∙ text_parts ships) in
    let none = read_over c.kinds.i ships.n c.kinds.parts c.kinds-test.false here.1 in
    search rules

pub invariant_of-result : goal.invariant_of-result
invariant_of-result c =
    let none : c.kinds.parts ≡ [] = search rules in
    let long = c.kinds.invariant.long in
    let is = read_all c.kinds.i c.args.word.now c.kinds.n c.kinds.parts c.kinds-test.false long none c.kinds.invariant.read in
    record {
      kinds = long;
      within = subst (λ (n : List ℕ). are_within n ≡ true) (take_all c.kinds.i c.kinds.n (omega arith)) c.kinds.invariant.within;
      some = any_ship c.args.word.now c.kinds.n long is;
    }

pub returns : goal.returns
returns c =
    let none : c.kinds.parts ≡ [] = search rules in
    let long = c.kinds.invariant.long in
    parts_text c.args.word.now c.kinds.n (read_all c.kinds.i c.args.word.now c.kinds.n c.kinds.parts c.kinds-test.false long none c.kinds.invariant.read)
