use Rattle.std.proofs.Common.{All, arith, refl, subst, sym}
use Rattle.std.specs.List.{Contains}
use Rattle.account_cell.specs.declared.research_item.ResearchItem.{ResearchItem}
use Rattle.base_bytes.proofs.Checks.{not_all, one_more}
use Rattle.base_bytes.proofs.account_rules.is_at_home.Goals as goal

pub items-preserved : goal.items-preserved
items-preserved c =
    let below = c.items-test.true in
    let home = λ (item : ResearchItem). Contains c.args.account.now.planets.items item.at in
    let item = c.item-item.result in
    one_more home c.deref-item-items.result.now c.items.item-index item (omega (arith, below)) c.item-item.is
    (subst (λ places. Contains places item.at) c.deref.ensures.value (c.if-not-has_place.ensures.0 refl)) c.items.invariant

pub returns-then-not-has_place : goal.returns-then-not-has_place
returns-then-not-has_place c =
    let below = c.items-test.true in
    let home = λ (item : ResearchItem). Contains c.args.account.now.planets.items item.at in
    let item = c.item-item.result in
    let fails = λ (there : home item). c.if-not-has_place.ensures.1 (subst (λ places. Contains places item.at) (sym c.deref.ensures.value) there) in (
      λ no_true. absurd cc,
      λ all. absurd (not_all home c.deref-item-items.result.now c.items.item-index item (omega (arith, below)) c.item-item.is (λ there. let one = fails there in absurd cc) (subst (All home) (sym c.deref-item-items.ensures.value) all)),
    )

pub returns : goal.returns
returns c =
    let past = c.items-test.false in
    let home = λ (item : ResearchItem). Contains c.args.account.now.planets.items item.at in
    (λ yes_true. subst (All home) c.deref-item-items.ensures.value (λ k d below. c.items.invariant k d (omega arith) (omega (arith, below, past))), λ all. refl)
