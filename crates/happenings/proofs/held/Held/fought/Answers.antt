use Rattle.std.proofs.Common.{◌≡◌, ◌+◌, ◌≤◌, ◌++◌, ◌∷◌, [], suc, length, take, ap, ◌∙◌, sym, subst, arith, take_all}
use Rattle.std.proofs.Math.Seq.{take-suc}
use Rattle.happenings.proofs.Copying.{picks_more}
use Rattle.happenings.specs.Fighting.{fought_at}
use Rattle.happenings.specs.Held.{PicksFrom}
use Rattle.happenings.specs.Sights.{names_held}
use Rattle.happenings.proofs.Fought.{fought-all}
use Rattle.happenings.proofs.held.Held.fought.Goals as goal

pub names-preserved : goal.names-preserved
names-preserved c =
    let items = c.deref-name-items.result.now in
    let there = fought_at c.args.rules.now c.args.battle.now c.args.self.now in
    let one : suc c.names.name-index ≡ c.names.name-index + 1 = omega arith in
    let next = take-suc items c.names.name-index c.name-item.result c.names-test.true in
    let more = picks_more there c.names.fought c.fight_cell.new.other (take c.names.name-index items) c.name-item.result c.names.invariant.0 c.in_ok-fight_cell.ensures.copies in (
      subst (λ i. PicksFrom there (take i items) c.fight_cell.new.other) one
          (subst (λ names. PicksFrom there names c.fight_cell.new.other) (ap (λ name. take c.names.name-index items ++ name ∷ []) c.name-item.is ∙ sym next) more),
      c.in_ok-fight_cell.ensures.named c.names.invariant.1,
    )

pub returns-clause-fought : goal.returns-clause-fought
returns-clause-fought c =
    let held = c.args.self.now in
    let rules = c.args.rules.now in
    let battle = c.args.battle.now in
    let items = c.deref-name-items.result.now in
    let end : length items ≤ c.names.name-index = omega arith in
    let all : take c.names.name-index items ≡ names_held held = take_all c.names.name-index items end ∙ c.deref-name-items.ensures.value ∙ c.in_ok-names.ensures in
    fought-all rules battle held c.names.fought (subst (λ names. PicksFrom (fought_at rules battle held) names c.names.fought) all c.names.invariant.0)
