-- What is always true of a token's view.
use Rattle.std.specs.Prelude.{◌≡◌, ◌≢◌, [], Contains}
use Rattle.fronts.specs.declared.claim.Claim.TheVariants.{Number}
use Rattle.fronts.specs.declared.view.View.{View}
use Rattle.fronts.specs.Start.{Start}
use Rattle.fronts.specs.History.{IsHistory}
use Rattle.fronts.specs.Claims.{Follows}

-- its front is a history, and it remembers nothing else
pub record IsToken (start : Start) (v : View) : Type 0 where
  pub is_history : IsHistory start v.front
  pub nothing_heard : v.heard ≡ []
  pub nothing_kept : v.kept ≡ []

-- a pass has a number, and nobody else appends under it
pub record IsPass (start : Start) (v : View) : Type 0 where
  pub is_token : IsToken start v
  pub some_number : v.number ≢ 0
  pub own_number : Contains v.claims (Number v.number)

-- a note has no number, and may give none
pub record IsNote (start : Start) (v : View) : Type 0 where
  pub is_token : IsToken start v
  pub no_number : v.number ≡ 0
  pub no_next : v.next ≡ 0

-- Each of two fronts is a beginning of the new one, and no entry that came after it concerns its claims.
pub record Unites (start : Start) (v w new : View) : Type 0 where
  pub first : Follows start v.claims v.front new.front
  pub second : Follows start w.claims w.front new.front
