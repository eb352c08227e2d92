-- The cells so far are those that were there, and those of the fleets so far that land by the moment.
use Rattle.happenings.proofs.Brought.{AreAdded}
use Rattle.happenings.proofs.looking.add_landings.Given as goal

abbrev pub invariant-fleets : goal.invariant-fleets
invariant-fleets l = AreAdded l.moment l.fleets l.fleet-index l.initial.ids l.ids
