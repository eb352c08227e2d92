-- The cells that have gained are on their course. Each event leaves fewer that still come.
use Rattle.happenings.specs.Sights.{names_held}
use Rattle.lazy.proofs.Coursing.{AreEqual, Courses}
use Rattle.lazy.proofs.Waiting.{waiting_in}
use Rattle.ticking.proofs.passing.pass_second.Given as goal

abbrev pub invariant-events : goal.invariant-events
invariant-events l = Courses AreEqual l.rules l.initial.later l.now l.later

abbrev pub decreases-events : goal.decreases-events
decreases-events l = waiting_in l.later (names_held l.initial.later)
