-- What a disk tells of itself. An image is a content that a crash may leave.
use Rattle.std.specs.Prelude.{ℕ, ◌≤◌, List}

-- For each state of the disk. A moment is a number that doesn't fall.
pub record Story (D : Type 0) : Type 1 where
  -- it tells its content; of a disk that doesn't nothing below says anything
  pub tells : D → Type 0
  -- what a read gives
  pub seen : D → List ℕ
  -- which images a crash now may leave
  pub leaves : D → List ℕ → Type 0
  -- this moment
  pub moment : D → ℕ
  -- which images a crash at that moment or at a later one might have left
  pub left_since : D → ℕ → List ℕ → Type 0

-- what holds of each state that tells
pub record Lawful {D : Type 0} (story : Story D) : Type 0 where
  -- the disk as it reads is one of its images
  pub reads : (disk : D) → story.tells disk → story.leaves disk (story.seen disk)
  -- now is one of the moments since an earlier one
  pub now : (disk : D) (t : ℕ) (c : List ℕ) → story.tells disk → t ≤ story.moment disk → story.leaves disk c → story.left_since disk t c
  -- and the only one since now
  pub only_now : (disk : D) (c : List ℕ) → story.tells disk → story.left_since disk (story.moment disk) c → story.leaves disk c

-- A fact on what a call did, if the disk tells after it; then it told before it.
abbrev pub Told : {D : Type 0} → Story D → D → D → Type 0 → Type 0
Told story old new P = story.tells new → story.tells old × P
