-- Laws of contents that a crash tears, and of how what holds of each image goes on from call to call. Where a law is about a
-- test on contents, it holds of any fact on contents in the same way.
use Rattle.std.specs.Prelude.{◌≡◌, ℕ, ◌+◌, ◌<◌, ◌≤◌, Bool, IsTrue, List, length, take, drop, slice_index}
use Rattle.disk_port.specs.Contents.{written, Torn, Shortened}
use Rattle.disk_port.specs.Story.{Story}
use Rattle.disk_port.specs.Disk.{Rests, Elapses}
use Rattle.disk_port.specs.Moments.{EachNow, EachSince}
use Rattle.disk_port.specs.Pairs.{EachPairNow, EachPairSince}
use Rattle.disk_port.specs.declared.disks.Disks.{Disks}

-- What stands before the range of a write and behind it stays. A crash may leave all of the write, or nothing of it.
pub record WritesTear : Type 0 where
  pub front : (at n p : ℕ) (old new : List ℕ) → Torn at n old new → p ≤ at → p ≤ length old → take p new ≡ take p old
  pub byte : (at n i : ℕ) (old new : List ℕ) → Torn at n old new → at + n ≤ i → i < length old → slice_index new i ≡ slice_index old i
  pub whole : (at : ℕ) (old bytes : List ℕ) → Torn at (length bytes) old (written old at bytes)
  pub nothing : (at n : ℕ) (content : List ℕ) → Torn at n content content

-- What stands before a cut stays. A crash may leave all of the cut, or nothing of it.
pub record CutsTear : Type 0 where
  pub front : (len p : ℕ) (old new : List ℕ) → Shortened len old new → p ≤ len → p ≤ length old → take p new ≡ take p old
  pub whole : (len : ℕ) (old : List ℕ) → Shortened len old (take len old)
  pub nothing : (len : ℕ) (content : List ℕ) → Shortened len content content

-- What a write leaves: what stood before it, then its bytes, and then what stood behind them.
pub record WritesHold : Type 0 where
  pub front : (at p : ℕ) (old bytes : List ℕ) → p ≤ at → p ≤ length old → take p (written old at bytes) ≡ take p old
  pub there : (at : ℕ) (old bytes : List ℕ) → at ≤ length old → take (length bytes) (drop at (written old at bytes)) ≡ bytes
  pub behind : (at : ℕ) (old bytes : List ℕ) → at ≤ length old → drop (at + length bytes) (written old at bytes) ≡ drop (at + length bytes) old

module _ {D : Type 0} (story : Story D) where
  -- a test that each image now passes
  abbrev pub Passing : D → (List ℕ → Bool) → Type 0
  Passing disk test = EachNow story disk (λ c. IsTrue (test c))

  -- a test that each image since a state passes
  abbrev pub PassingSince : D → D → (List ℕ → Bool) → Type 0
  PassingSince old new test = EachSince story old new (λ c. IsTrue (test c))

  -- What each image passes goes on from call to call, and holds of each image at the end.
  pub record MomentsChain : Type 0 where
    pub started : (disk : D) (test : List ℕ → Bool) → story.tells disk → Passing disk test → PassingSince disk disk test
    pub goes_on : (old mid new : D) (test : List ℕ → Bool) → PassingSince old mid test → Elapses story mid new → Passing new test → PassingSince old new test
    pub joined : (old mid new : D) (test : List ℕ → Bool) → PassingSince old mid test → PassingSince mid new test → PassingSince old new test
    pub now : (old new : D) (test : List ℕ → Bool) → story.tells new → PassingSince old new test → Passing new test
    pub rests : (old new : D) (test : List ℕ → Bool) → Rests story old new → Passing old test → Passing new test
    pub seen : (disk : D) (test : List ℕ → Bool) → story.tells disk → Passing disk test → IsTrue (test (story.seen disk))

  -- a test that each pair of images since a state of two disks passes
  abbrev pub PairsPassing : Disks D → Disks D → (List ℕ → List ℕ → Bool) → Type 0
  PairsPassing old new test = EachPairSince story old new (λ i j. IsTrue (test i j))

  -- What each pair of images passes goes on with each step of one of two disks, and holds of each pair at the end.
  pub record PairsChain : Type 0 where
    pub started : (disks : Disks D) (test : List ℕ → List ℕ → Bool) → EachPairNow story disks (λ i j. IsTrue (test i j)) → PairsPassing disks disks test
    pub left_called : (old mid new : Disks D) (test : List ℕ → List ℕ → Bool) (lefts rights : List ℕ → Bool) → story.tells new.left → story.tells new.right → PairsPassing old mid test
        → PassingSince mid.left new.left lefts → new.right ≡ mid.right → Passing mid.right rights
        → ((i j : List ℕ) → IsTrue (lefts i) → IsTrue (rights j) → IsTrue (test i j)) → PairsPassing old new test
    pub right_called : (old mid new : Disks D) (test : List ℕ → List ℕ → Bool) (lefts rights : List ℕ → Bool) → story.tells new.left → story.tells new.right → PairsPassing old mid test
        → PassingSince mid.right new.right rights → new.left ≡ mid.left → Passing mid.left lefts
        → ((i j : List ℕ) → IsTrue (lefts i) → IsTrue (rights j) → IsTrue (test i j)) → PairsPassing old new test
    pub joined : (old mid new : Disks D) (test : List ℕ → List ℕ → Bool) → PairsPassing old mid test → PairsPassing mid new test → PairsPassing old new test
    pub now : (old new : Disks D) (test : List ℕ → List ℕ → Bool) → PairsPassing old new test → EachPairNow story new (λ i j. IsTrue (test i j))
