use Rattle.std.proofs.Common.{◌≡◌, true, sym, ap, ◌∙◌, subst}
use Rattle.std.specs.Prelude.{◌&&◌}
use Rattle.base_text.specs.Parts.{words}
use Rattle.request_text.specs.Timing.{is_timed}
use Rattle.request_text.proofs.Calls.{ReadsTimed, read_timed}
use Rattle.request_text.proofs.call.Call.read.Goals as goal

pub returns-then-names_reading : goal.returns-then-names_reading
returns-then-names_reading c =
    let whole = c.new-words.ensures in
    let named = sym (ap is_timed whole) ∙ sym c.names_reading.ensures ∙ c.if-names_reading.true in
    let timed : (c.args.script && is_timed (words c.args.line.now)) ≡ true = (λ i. c.if-script.true i && named i) in
    read_timed c.args.script c.args.line.now c.next_timed.result timed (subst (λ all. ReadsTimed all c.next_timed.result) whole c.next_timed.ensures)
