use Rattle.std.proofs.Common.{IsTrue}
use Rattle.disk_port.proofs.Moments.{started, goes_on, joined, now-since, rests-now, seen-now}
use Rattle.disk_port.proofs.laws.moments_chain.Goals as goal

pub returns : goal.returns
returns g c =
    let story = g.D.Disk.story in
    let laws = g.met.D.Disk.laws in
    record {
      started = λ disk test told each. started story disk (λ image. IsTrue (test image)) laws told each;
      goes_on = λ old mid new test so_far time here. goes_on story old mid new (λ image. IsTrue (test image)) so_far time here;
      joined = λ old mid new test first second. joined story old mid new (λ image. IsTrue (test image)) first second;
      now = λ old new test told each. now-since story old new (λ image. IsTrue (test image)) laws told each;
      rests = λ old new test rests each. rests-now story old new (λ image. IsTrue (test image)) rests each;
      seen = λ disk test told each. seen-now story disk (λ image. IsTrue (test image)) laws told each;
    }
