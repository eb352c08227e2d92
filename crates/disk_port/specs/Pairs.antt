-- Two disks, and what a crash leaves of both at one moment.
--
-- A snapshot is a state of both. A run is a list of snapshots, from the one after the first step on: in each step one disk
-- alone was called, once or several times, and the other one stood. A moment of the run lies in one step.
use Rattle.std.specs.Prelude.{◌≡◌, ◌⊎◌, ℕ, List, [], ◌∷◌}
use Rattle.disk_port.specs.Story.{Story}
use Rattle.disk_port.specs.Disk.{Passes}
use Rattle.disk_port.specs.declared.disks.Disks.{Disks}

module _ {D : Type 0} (story : Story D) where
  -- one disk was called, and the other one stands
  abbrev pub Steps : Disks D → Disks D → Type 0
  Steps old new = (Passes story old.left new.left × (new.right ≡ old.right)) ⊎ (Passes story old.right new.right × (new.left ≡ old.left))

  -- these snapshots lead from the first one to the last one
  abbrev pub IsRun : Disks D → List (Disks D) → Disks D → Type 0
  IsRun first [] last = last ≡ first
  IsRun first (next ∷ rest) last = Steps first next × IsRun next rest last

  -- A pair of images that a crash in a step might have left: each disk leaves an image of a moment since the step's start.
  -- For the one that stood this is an image that a crash may leave of it as it stands.
  abbrev pub LeftInStep : Disks D → Disks D → List ℕ → List ℕ → Type 0
  LeftInStep old new i j = story.left_since new.left (story.moment old.left) i × story.left_since new.right (story.moment old.right) j

  -- a pair of images that a crash at a moment of a run might have left
  abbrev pub LeftInRun : Disks D → List (Disks D) → List ℕ → List ℕ → Type 0
  LeftInRun first [] i j = story.leaves first.left i × story.leaves first.right j
  LeftInRun first (next ∷ rest) i j = LeftInStep first next i j ⊎ LeftInRun next rest i j

  -- a crash now leaves no pair but what has P
  abbrev pub EachPairNow : Disks D → (List ℕ → List ℕ → Type 0) → Type 0
  EachPairNow disks P = (i j : List ℕ) → story.leaves disks.left i → story.leaves disks.right j → P i j

  -- A crash at any moment since the old state of both left no pair but what has P, by this run.
  pub record EachPairSince (old new : Disks D) (P : List ℕ → List ℕ → Type 0) : Type 0 where
    pub snapshots : List (Disks D)
    pub is_run : IsRun old snapshots new
    pub each : (i j : List ℕ) → LeftInRun old snapshots i j → P i j
