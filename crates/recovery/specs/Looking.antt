-- What reads and syncs do to a disk.
use Rattle.std.specs.Prelude.{◌≡◌}
use Rattle.disk_port.specs.Moments.{EachSince}
use Rattle.disk_port.specs.Story.{Story}

module _ {D : Type 0} (story : Story D) where
  -- what a read gives stays, and a crash at any moment since left nothing but an image from before
  pub record Looks (old new : D) : Type 0 where
    pub seen : story.seen new ≡ story.seen old
    pub since : EachSince story old new (story.leaves old)
