use Rattle.std.proofs.Common.{◌≡◌, ◌∙◌, subst}
use mathlib.Core.Option.{some}
use lib.ListN.{get_elem?}
use Rattle.std.specs.Slots.{slots_items}
use Rattle.fronts.specs.declared.view.View.{View}
use Rattle.fronts.proofs.Closing.{calls_at_end, entries_at_end, marks_at_end}
use Rattle.fronts.proofs.fronts.Fronts.close.Goals as goal

pub returns-clause-entries : goal.returns-clause-entries
returns-clause-entries g c =
    let s = c.close_with-closed.ensures.values.2 in
    let at = subst (λ (v : View). get_elem? s.0.views c.token.inside.seat.id ≡ some v) (c.token.view_is ∙ c.last.view_is) s.1.1 in
    entries_at_end g.O.Origin.start s.0 (slots_items c.close_with-closed.result.words) c.token.inside.seat.id c.args.last s.1.0 at s.2 c.requires.rights.0 c.requires.rights.1 c.word-entries.result c.word-entries.ensures

pub returns-clause-calls : goal.returns-clause-calls
returns-clause-calls g c =
    let s = c.close_with-closed.ensures.values.2 in
    let at = subst (λ (v : View). get_elem? s.0.views c.token.inside.seat.id ≡ some v) (c.token.view_is ∙ c.last.view_is) s.1.1 in
    calls_at_end g.O.Origin.start s.0 (slots_items c.close_with-closed.result.words) c.token.inside.seat.id c.args.last s.1.0 at s.2 c.requires.rights.0 c.requires.rights.1 c.requires.joined

pub returns-clause-marks : goal.returns-clause-marks
returns-clause-marks g c =
    let s = c.close_with-closed.ensures.values.2 in
    let at = subst (λ (v : View). get_elem? s.0.views c.token.inside.seat.id ≡ some v) (c.token.view_is ∙ c.last.view_is) s.1.1 in
    marks_at_end g.O.Origin.start s.0 (slots_items c.close_with-closed.result.words) c.token.inside.seat.id c.args.last s.1.0 at s.2 c.requires.rights.0 c.requires.rights.1
