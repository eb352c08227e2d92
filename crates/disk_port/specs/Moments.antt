-- What holds of every image that a crash may leave, now and at each moment since an earlier state.
use Rattle.std.specs.Prelude.{◌⊎◌, ℕ, ◌≤◌, List}
use Rattle.disk_port.specs.Contents.{Torn}
use Rattle.disk_port.specs.Story.{Story}
use Rattle.disk_port.specs.Disk.{Passes}

module _ {D : Type 0} (story : Story D) where
  -- a crash now leaves nothing but what has P
  abbrev pub EachNow : D → (List ℕ → Type 0) → Type 0
  EachNow disk P = (c : List ℕ) → story.leaves disk c → P c

  -- an image from before, or what a crash may leave of it if so many bytes are written from this place on
  abbrev pub TornFrom : D → ℕ → ℕ → List ℕ → Type 0
  TornFrom disk at n c = (d : List ℕ) × story.leaves disk d × Torn at n d c

  -- A crash at any moment since the old state, also during a call, left nothing but what has P.
  pub record EachSince (old new : D) (P : List ℕ → Type 0) : Type 0 where
    pub passes : Passes story old new
    pub each : (c : List ℕ) → story.left_since new (story.moment old) c → P c
    -- for a run that began earlier
    pub no_other : (t : ℕ) (c : List ℕ) → t ≤ story.moment old → story.left_since new t c → story.left_since old t c ⊎ P c
