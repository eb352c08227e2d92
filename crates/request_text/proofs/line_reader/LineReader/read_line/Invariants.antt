-- The reader sees what it saw before, and no byte before the place is a line feed.
use Rattle.std.proofs.Common.{◌≡◌, ◌+◌, ◌-◌, ◌≤◌, ◌⊎◌, length}
use Rattle.base_text.specs.Parts.{Lacks}
use Rattle.request_text.specs.Feeds.{IsClean}
use Rattle.request_text.specs.LineReading.{Known, Stays, ahead, kept, taken}
use Rattle.request_text.specs.LineSteps.{IsReading}
use Rattle.request_text.specs.declared.line_reader.TheConstants.{MOST_TAKEN}
use Rattle.request_text.proofs.line_reader.LineReader.read_line.Given as goal

abbrev pub invariant-pieces : goal.invariant-pieces
invariant-pieces g l =
    let source = g.S.Source in
    record {
      reads : IsReading l.self;
      within : l.clean ≤ length (kept l.self);
      clean : IsClean (kept l.self) l.clean;
      stays : Known (source.left l.fn.src) (source.left l.src) (λ left more. Stays l.fn.self left l.self more);
      counts : Known (source.left l.fn.src) (source.left l.src) (λ left more. taken l.self + length more ≡ taken l.fn.self + length left);
      later : taken l.fn.self ≤ taken l.self;
      nearer : ahead l.self ≤ ahead l.fn.self;
      faults : source.faults l.src ≡ source.faults l.fn.src;
      unread : ((l.src ≡ l.fn.src) × (kept l.self ≡ kept l.fn.self)) ⊎ Lacks 10 (kept l.fn.self);
    }

abbrev pub decreases-pieces : goal.decreases-pieces
decreases-pieces g l = MOST_TAKEN - taken l.self
