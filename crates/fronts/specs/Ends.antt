-- The end of a shared history.
use Rattle.std.specs.Prelude.{◌≡◌, ◌≢◌, ℕ, ◌<◌, ◌≤◌, List, ◌++◌, All, Contains}
use Rattle.fronts.specs.declared.claim.Claim.TheVariants.{Number}
use Rattle.fronts.specs.declared.view.Sent.{Sent}
use Rattle.fronts.specs.declared.view.View.{View}
use Rattle.fronts.specs.Start.{Start}
use Rattle.fronts.specs.History.{found_by}

-- all passes were joined: it may give numbers, and has each one that was given
pub record HasAllNumbers (v : View) : Type 0 where
  pub may_give : v.next ≢ 0
  pub numbers : (n : ℕ) → 1 ≤ n → n < v.next → Contains v.claims (Number n)

-- the front begins with what was found, and after that each entry is the call of a pass that was joined
pub record HasAllCalls (start : Start) (v : View) : Type 0 where
  pub later : List Sent
  pub begins : found_by start ++ later ≡ v.front
  pub calls : All (λ s. (1 ≤ s.pass) × (s.pass < v.next)) later
