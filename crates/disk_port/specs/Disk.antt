-- What the calls of a disk do to what it tells.
use Rattle.std.specs.Prelude.{◌≡◌, ◌⊎◌, ℕ, ◌≤◌, List, Result, OnOk, OnErr}
use Rattle.disk_port.specs.Story.{Story}

module _ {D : Type 0} (story : Story D) where
  -- a call that only looks: what a read gives stays, and so does each image, and none is added
  pub record Rests (old new : D) : Type 0 where
    pub seen : story.seen new ≡ story.seen old
    pub none_added : (c : List ℕ) → story.leaves new c → story.leaves old c
    pub none_lost : (c : List ℕ) → story.leaves old c → story.leaves new c

  -- A call that a crash may cut short: each image after it is an image before it of which the crash left what it may. No
  -- image is lost, and if the call succeeds none of these is missing.
  pub record Tears {T E : Type 0} (may : List ℕ → List ℕ → Type 0) (old new : D) (result : Result T E) : Type 0 where
    pub no_other : (c : List ℕ) → story.leaves new c → (d : List ℕ) × story.leaves old d × may d c
    pub none_lost : (c : List ℕ) → story.leaves old c → story.leaves new c
    pub all : OnOk result ((d c : List ℕ) → story.leaves old d → may d c → story.leaves new c)

  -- A sync: if it succeeds a crash leaves what a read gives, and if it fails it settles nothing. Either way what a read
  -- gives stays, and no image is added.
  pub record Settles {T E : Type 0} (old new : D) (result : Result T E) : Type 0 where
    pub seen : story.seen new ≡ story.seen old
    pub none_added : (c : List ℕ) → story.leaves new c → story.leaves old c
    pub settled : OnOk result ((c : List ℕ) → story.leaves new c → c ≡ story.seen new)
    pub none_lost : OnErr result ((c : List ℕ) → story.leaves old c → story.leaves new c)

  -- Time goes on, and what might have been left is not forgotten.
  pub record Passes (old new : D) : Type 0 where
    pub later : story.moment old ≤ story.moment new
    pub kept : (t : ℕ) (c : List ℕ) → t ≤ story.moment old → story.left_since old t c → story.left_since new t c

  -- One call: a crash since an earlier moment might have left what it might have left before, or what it may leave now.
  pub record Elapses (old new : D) : Type 0 where
    pub passes : Passes old new
    pub no_other : (t : ℕ) (c : List ℕ) → t ≤ story.moment old → story.left_since new t c → story.left_since old t c ⊎ story.leaves new c
