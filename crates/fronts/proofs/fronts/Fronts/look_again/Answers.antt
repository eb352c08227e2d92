use Rattle.fronts.proofs.TokenSteps.{note_with_front}
use Rattle.fronts.proofs.fronts.Fronts.look_again.Goals as goal

pub invariant_of-note : goal.invariant_of-note
invariant_of-note g c = let h = c.look_as.ensures in note_with_front g.O.Origin.start c.note.inside.token c.look_as.new.token h.view h.history c.note.invariant
