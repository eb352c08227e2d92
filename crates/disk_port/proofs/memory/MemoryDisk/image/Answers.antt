use Rattle.std.proofs.Common.{◌≡◌, ◌-◌, ◌==◌, List, ℕ, IfOk, drop, false, ◌∙◌, subst, arith}
use Rattle.std.proofs.lemmas.Bool.Decides.{nat_tests}
use Rattle.std.proofs.lemmas.Grind.{common_steps}
use Rattle.disk_port.specs.History.{marked_after}
use Rattle.disk_port.specs.Memory.{IsFresh}
use Rattle.disk_port.proofs.Telling.{picked_is_left, picked_marked}
use Rattle.disk_port.proofs.memory.MemoryDisk.image.Goals as goal

pub returns-in_err-marked-in_default-clause-left : goal.returns-in_err-marked-in_default-clause-left
returns-in_err-marked-in_default-clause-left c = picked_is_left c.args.self.now c.args.pick

pub returns-in-0-clause-left : goal.returns-in-0-clause-left
returns-in-0-clause-left c = picked_is_left c.args.self.now c.args.pick

pub returns-in-1-clause-left : goal.returns-in-1-clause-left
returns-in-1-clause-left c = picked_is_left c.args.self.now c.args.pick

pub returns-in_ok-marked-in_default-clause-left : goal.returns-in_ok-marked-in_default-clause-left
returns-in_ok-marked-in_default-clause-left c = picked_is_left c.args.self.now c.args.pick

pub returns-in_ok-marked-in_default-clause-picked : goal.returns-in_ok-marked-in_default-clause-picked
returns-in_ok-marked-in_default-clause-picked c =
    let disk = c.args.self.now in
    let content = c.deref-in_default-3.result.now in
    let marked : content ≡ marked_after (c.args.pick - 2) disk.kept.items (drop disk.synced disk.changes.items) = grind (arith, common_steps) in
    let not_0 : (c.args.pick == 0) ≡ false = grind (arith, nat_tests) in
    let not_1 : (c.args.pick == 1) ≡ false = grind (arith, nat_tests) in
    let F : List ℕ → Type 0 = λ (l : List ℕ). IfOk c.new-in_default.result (λ made. IsFresh made l) in
    subst F (marked ∙ picked_marked disk c.args.pick not_0 not_1) c.new-in_default.ensures.fresh
