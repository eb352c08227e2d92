use Rattle.std.proofs.Common.{◌≡◌, ◌∙◌, subst, sym}
use Rattle.happenings.specs.Held.{PicksFrom}
use Rattle.happenings.specs.Sights.{names_held}
use Rattle.lazy.specs.Running.{ran_at}
use Rattle.lazy.proofs.Turns.{yards-run}
use Rattle.lazy.proofs.running.run_yards.Goals as goal

pub returns-clause-runs : goal.returns-clause-runs
returns-clause-runs c =
    let names : c.deref.result.now ≡ names_held c.args.cells.now = c.deref.ensures.value ∙ c.in_ok-names.ensures in
    let same : c.deref-2.result.now ≡ c.deref.result.now = c.deref-2.ensures.value ∙ sym c.deref.ensures.value in
    let picks = subst (λ xs. PicksFrom (ran_at c.args.rules.now c.first_turn-limit.result c.args.cells.now) xs c.in_ok-ran.ran) same c.in_ok-ran.ensures.picks in
    yards-run c.args.rules.now c.args.moment c.first_turn-limit.result c.args.cells.now c.in_ok-ran.ran c.put_all.new.self c.deref.result.now names
    c.first_turn-limit.ensures.value picks c.put_all.ensures.merges
