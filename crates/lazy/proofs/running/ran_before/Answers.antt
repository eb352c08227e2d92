use Rattle.std.proofs.Common.{◌≡◌, ◌+◌, ◌++◌, [], ◌∷◌, take, ap, ◌∙◌, sym, subst}
use Rattle.std.proofs.lemmas.List.{take_more}
use Rattle.happenings.specs.Held.{PicksFrom}
use Rattle.happenings.proofs.Copying.{picks_more}
use Rattle.lazy.specs.Running.{ran_at}
use Rattle.lazy.proofs.running.ran_before.Goals as goal

pub names-preserved : goal.names-preserved
names-preserved c =
    let names = c.args.names.now in
    let i = c.names.name-index in
    let name = c.name-item.result in
    let there = ran_at c.args.rules.now c.args.limit c.args.cells.now in
    let more : take i names ++ name ∷ [] ≡ take (i + 1) names = ap (λ n. take i names ++ n ∷ []) c.name-item.is ∙ sym (take_more names i name c.names-test.true) in (
      subst (λ xs. PicksFrom there xs c.run_cell.new.ran) more (picks_more there c.names.ran c.run_cell.new.ran (take i names) name c.names.invariant.0 c.in_ok-run_cell.ensures.copies),
      c.in_ok-run_cell.ensures.named c.names.invariant.1,
    )
