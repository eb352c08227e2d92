use Rattle.std.proofs.Common.{◌≡◌, false, true}
use Rattle.founding.proofs.Judging.{stranger_untaught, teach_tested}
use Rattle.founding.proofs.draft.Draft.may_teach.Goals as goal

pub returns-in-Some : goal.returns-in-Some
returns-in-Some c = teach_tested c.args.self.now c.args.new c.in-Some.account.now c.level.result c.in-Some.ensures.value c.level.ensures

pub returns-in-None : goal.returns-in-None
returns-in-None c = (λ (is : false ≡ true). absurd (cc), λ may. absurd (stranger_untaught c.args.self.now c.args.new c.in-None.ensures.value may))
