-- A rest of the text is seen, and no read has failed.
use Rattle.std.proofs.Common.{◌≡◌, ◌+◌, length}
use Rattle.request_text.specs.LineReading.{Known, ahead, taken}
use Rattle.command.proofs.FoundingTexts.{SeesRest}
use Rattle.command.proofs.foundings.drop_rest.Given as goal

abbrev pub invariant-rest : goal.invariant-rest
invariant-rest g l =
    let left = g.S.Source.left in
    record {
      faults : g.S.Source.faults l.source ≡ g.S.Source.faults l.fn.source;
      counts : Known (left l.fn.source) (left l.source) (λ before after. taken l.lines + length after ≡ taken l.fn.lines + length before);
      sees : Known (left l.fn.source) (left l.source) (λ before after. SeesRest l.fn.lines before l.lines after);
    }

abbrev pub decreases-rest : goal.decreases-rest
decreases-rest g l = ahead l.lines
