-- So many lines of the whole text were answered, and what is ahead gets less with each.
use Rattle.std.proofs.Common.{ℕ, List, ◌+◌, ◌≤◌}
use Rattle.request_text.specs.LineReading.{ahead, Known, Sees}
use Rattle.request_text.proofs.LineHearing.{Reached}
use Rattle.request_text.proofs.line_reader_tests.count_lines.Given as goal

abbrev pub invariant-lines : goal.invariant-lines
invariant-lines g l =
    let left = g.S.Source.left in
    record {
      few : l.count + ahead l.reader ≤ ahead l.fn.reader;
      reached : Known (left l.fn.src) (left l.src) (λ before after. (text : List ℕ) → Sees l.fn.reader before text → Reached l.reader after text l.count);
    }

abbrev pub decreases-lines : goal.decreases-lines
decreases-lines g l = ahead l.reader
