-- What each step on a word tells its caller: of the view before, the number that was found, and the view after.
use Rattle.std.specs.Prelude.{◌≡◌, ◌≢◌, ℕ, ◌+◌, ◌≤◌, [], length}
use Rattle.atomic_table.specs.Table.{Step, Me}
use Rattle.request_text.specs.declared.entry.Entry.{Entry}
use Rattle.fronts.specs.declared.view.View.{View}
use Rattle.fronts.specs.Start.{Start}
use Rattle.fronts.specs.History.{IsHistory, calls_by}
use Rattle.fronts.specs.Claims.{Follows}
use Rattle.fronts.specs.Views.{appended, marked, with_durable, with_front}

module _ {S : Type 0} where
  -- the history was seen whole, and its length found
  pub record Looks (start : Start) (step : Step S) (me : Me S View) (found : ℕ) (after : Me S View) : Type 0 where
    pub view : after.0 ≡ with_front me.0 after.0.front
    pub slots : after.1 ≡ me.1
    pub length_is : found ≡ length after.0.front
    pub is_history : IsHistory start after.0.front
    pub follows : Follows start me.0.claims me.0.front after.0.front

  -- what was remembered is a beginning of the front
  pub record Hears (start : Start) (step : Step S) (me : Me S View) (found : ℕ) (after : Me S View) : Type 0 where
    pub view : after.0 ≡ with_front me.0 me.0.front
    pub slots : after.1 ≡ me.1
    pub follows : length me.0.heard ≤ length me.0.front → Follows start me.0.kept me.0.heard me.0.front
    -- nobody has called under the number that it may give next
    pub unused : me.0.next ≢ 0 → calls_by me.0.next me.0.front ≡ []

  -- an entry was appended to all that there was
  pub record Appends (entry : Entry) (step : Step S) (me : Me S View) (found : ℕ) (after : Me S View) : Type 0 where
    pub view : after.0 ≡ appended me.0 entry
    pub slots : after.1 ≡ me.1
    pub length_is : found ≡ length me.0.front

  -- the count of durable entries was found, which is no less than was known
  pub record Reads (step : Step S) (me : Me S View) (found : ℕ) (after : Me S View) : Type 0 where
    pub view : after.0 ≡ with_durable me.0 found
    pub slots : after.1 ≡ me.1
    pub least : me.0.durable ≤ found

  -- so many more entries count as durable
  pub record Settles (step : Step S) (me : Me S View) (found : ℕ) (after : Me S View) : Type 0 where
    pub view : after.0 ≡ with_durable me.0 (me.0.durable + step.first)
    pub slots : after.1 ≡ me.1

  -- a mark was given
  pub record Marks (step : Step S) (me : Me S View) (found : ℕ) (after : Me S View) : Type 0 where
    pub view : after.0 ≡ marked me.0
    pub slots : after.1 ≡ me.1
