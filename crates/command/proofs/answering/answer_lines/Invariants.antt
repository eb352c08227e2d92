-- The lines that were taken so far were answered.
use Rattle.std.proofs.Common.{◌≡◌, ℕ, ◌+◌, ◌*◌, ◌≤◌, List, [], length}
use Rattle.request_text.specs.LineReading.{Known, Sees, ahead, taken}
use Rattle.request_text.specs.declared.line_reader.TheConstants.{MOST_TAKEN}
use Rattle.lazy.specs.Keeping.{Keeps, KeepsSome}
use Rattle.tick_model.specs.Universe.{Universe}
use Rattle.command.proofs.Progress.{Come}
use Rattle.command.proofs.answering.answer_lines.Given as goal

abbrev pub invariant-script : goal.invariant-script
invariant-script g l =
    let left = g.S.Source.left in
    let told = g.C.Clock.told in
    let written = g.K.Sink.written in
    record {
      keeps : KeepsSome l.universe;
      room : 2 * l.universe.number + ahead l.lines ≤ MOST_TAKEN;
      source_faults : g.S.Source.faults l.source ≡ g.S.Source.faults l.fn.source;
      sink_faults : g.K.Sink.faults l.sink ≡ g.K.Sink.faults l.fn.sink;
      counts : Known (left l.fn.source) (left l.source) (λ before after. taken l.lines + length after ≡ taken l.fn.lines + length before);
      come : Known (left l.fn.source) (left l.source) (λ before after. (text : List ℕ) (base : Universe) → Sees l.fn.lines before text
          → Keeps base [] l.fn.universe → Come l.lines after base l.universe text (told l.fn.clock) (told l.clock) (written l.fn.sink) (written l.sink));
    }

abbrev pub decreases-script : goal.decreases-script
decreases-script g l = ahead l.lines
