-- The lines so far have said the draft, and the reader sees the others.
use Rattle.std.proofs.Common.{◌≡◌, ℕ, List, ◌+◌, ◌≤◌, length, Some}
use Rattle.request_text.specs.LineReading.{ahead, taken, Known, Sees}
use Rattle.founding.specs.DraftMaps.{draft_of, IsKept}
use Rattle.founding.proofs.Hearing.{Drawn}
use Rattle.founding.proofs.read_text.read.Given as goal

abbrev pub invariant-lines : goal.invariant-lines
invariant-lines g l =
    let left = g.S.Source.left in
    record {
      kept : IsKept l.draft;
      drawn : Known (left l.fn.source) (left l.source) (λ before after. (text : List ℕ) → Sees l.fn.lines before text → Drawn (Some (draft_of l.draft)) l.number l.lines after text);
      counted : l.number + ahead l.lines ≤ 2 + ahead l.fn.lines;
      near : ahead l.lines ≤ ahead l.fn.lines;
      consumed : Known (left l.fn.source) (left l.source) (λ before after. taken l.lines + length after ≡ taken l.fn.lines + length before);
      faults : g.S.Source.faults l.source ≡ g.S.Source.faults l.fn.source;
    }

abbrev pub decreases-lines : goal.decreases-lines
decreases-lines g l = ahead l.lines
