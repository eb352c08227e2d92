use Rattle.std.proofs.Common.{IsTrue}
use Rattle.disk_port.proofs.Pairs.{pair-started, left_called, right_called, pair-joined, pair-now}
use Rattle.disk_port.proofs.laws.pairs_chain.Goals as goal

pub returns : goal.returns
returns g c =
    let story = g.D.Disk.story in
    let laws = g.met.D.Disk.laws in
    record {
      started = λ disks test each. pair-started story disks (λ i j. IsTrue (test i j)) each;
      left_called = λ old mid new test lefts rights left_tells right_tells so_far calls stands other leads.
          left_called story old mid new (λ i j. IsTrue (test i j)) (λ i. IsTrue (lefts i)) (λ j. IsTrue (rights j)) laws left_tells right_tells so_far calls stands other leads;
      right_called = λ old mid new test lefts rights left_tells right_tells so_far calls stands other leads.
          right_called story old mid new (λ i j. IsTrue (test i j)) (λ i. IsTrue (lefts i)) (λ j. IsTrue (rights j)) laws left_tells right_tells so_far calls stands other leads;
      joined = λ old mid new test first second. pair-joined story old mid new (λ i j. IsTrue (test i j)) first second;
      now = λ old new test each. pair-now story old new (λ i j. IsTrue (test i j)) each;
    }
