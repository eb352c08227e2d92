use Rattle.std.proofs.Common.{refl, rules}
use Rattle.std.proofs.lemmas.List.{get_or_default}
use Rattle.account_cell.specs.Account.{research_item}
use Rattle.account_cell.specs.declared.research_item.ResearchItem.{ResearchItem}
use Rattle.base_bytes.proofs.Meeting.{adds-research, met-all, met-next, met-stop, not-new, was-new}
use Rattle.tick_model.specs.Universe.{Researches}
use Rattle.base_bytes.proofs.distinct.Met.meet_research.Goals as goal

pub returns-then-not-branch : goal.returns-then-not-branch
returns-then-not-branch c =
    met-stop (research_item c.args.account.now.player) Researches (λ x. refl) c.args.account.now.research.items c.deref-item-items.result.now c.items.item-index _ c.args.self.now c.items.self c.items.self
    c.deref-item-items.ensures.value c.items-test.true (λ d. search (rules, get_or_default)) c.items.invariant
    (not-new _ _ c.in_ok-insert.ensures.added c.if-not-branch.true)

pub items-preserved : goal.items-preserved
items-preserved c =
    met-next (research_item c.args.account.now.player) Researches (λ x. refl) c.args.account.now.research.items c.deref-item-items.result.now c.items.item-index _ c.args.self.now c.items.self _
    c.deref-item-items.ensures.value c.items-test.true (λ d. search (rules, get_or_default)) c.items.invariant
    (was-new _ _ c.in_ok-insert.ensures.added c.if-not-branch.false) (adds-research c.items.self c.insert.new.self _ c.in_ok-insert.ensures.updates)

pub returns : goal.returns
returns c =
    met-all (research_item c.args.account.now.player) c.args.account.now.research.items c.deref-item-items.result.now c.items.item-index c.args.self.now c.items.self
    c.deref-item-items.ensures.value c.items-test.false c.items.invariant
