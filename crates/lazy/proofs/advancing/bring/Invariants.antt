-- The cells are on their course. Each event leaves fewer to come.
use Rattle.happenings.specs.Sights.{names_held}
use Rattle.lazy.proofs.Coursing.{AgreeThen, Courses}
use Rattle.lazy.proofs.Waiting.{waiting_in}
use Rattle.lazy.proofs.advancing.bring.Given as goal

abbrev pub invariant-events : goal.invariant-events
invariant-events l = Courses AgreeThen l.rules l.fn.cells l.moment l.cells

abbrev pub decreases-events : goal.decreases-events
decreases-events l = waiting_in l.cells (names_held l.fn.cells)
