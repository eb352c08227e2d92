-- The rule that every step keeps: what is true of the two words and of all views at any moment.
use Rattle.std.specs.Prelude.{◌≡◌, ◌≢◌, ℕ, ◌<◌, ◌≤◌, List, [], ◌∷◌, length, sum_by, All, Contains}
use mathlib.Core.Option.{some}
use lib.ListN.{get_elem?}
use Rattle.atomic_table.specs.Table.{State}
use Rattle.fronts.specs.declared.claim.Claim.{Claim}
use Rattle.fronts.specs.declared.claim.Claim.TheVariants.{Pen, Flush, Number}
use Rattle.fronts.specs.declared.view.Sent.{Sent}
use Rattle.fronts.specs.declared.view.View.{View}
use Rattle.fronts.specs.Start.{Start}
use Rattle.fronts.specs.History.{IsHistory}
use Rattle.fronts.specs.Claims.{Follows}

-- what is true of one view, the i-th, of the history
pub record Sees (start : Start) (history : List Sent) (owner : Claim → ℕ) (giver next i : ℕ) (v : View) : Type 0 where
  -- its front is a beginning of the history, and its claims concern nothing of what came after
  pub seen : Follows start v.claims v.front history
  pub heard : Follows start v.kept v.heard history
  pub keeps : (c : Claim) → Contains v.kept c → Contains v.claims c
  -- no other view has its claims
  pub owns : (c : Claim) → Contains v.claims c → owner c ≡ i
  -- its numbers were given
  pub numbers : (n : ℕ) → Contains v.claims (Number n) → n < next
  -- one view may give the numbers that were not given yet
  pub gives : v.next ≢ 0 → (i ≡ giver) × (v.next ≡ next)

-- what is true of one view's counts
pub record Counts (settled given : ℕ) (v : View) : Type 0 where
  -- it knows no more than there is
  pub no_more : v.durable ≤ settled
  pub no_more_marks : v.given ≤ given
  -- whoever has the pen, or may flush, knows exactly
  pub pen : Contains v.claims Pen → v.durable ≡ settled
  pub flush : Contains v.claims Flush → (v.durable ≡ settled) × (v.given ≡ given)

-- There is one history. Its length is the first word, and the second says how many of its entries are durable.
pub record IsKept (start : Start) (count durable : ℕ) (views : List View) : Type 0 where
  pub history : List Sent
  -- who has a claim, who may give numbers, the least number that was not given, and how many marks were given
  pub owner : Claim → ℕ
  pub giver : ℕ
  pub next : ℕ
  pub given : ℕ
  pub length_is : count ≡ length history
  pub is_history : IsHistory start history
  -- numbers that were not given have no entry
  pub numbers : All (λ s. s.pass < next) history
  pub less : durable ≤ count
  -- the marks that were given are those that views have
  pub marks : sum_by (λ v. v.marks) views ≡ given
  pub sees : (i : ℕ) (v : View) → get_elem? views i ≡ some v → Sees start history owner giver next i v
  pub counts : (i : ℕ) (v : View) → get_elem? views i ≡ some v → Counts durable given v

pub record Holds {S : Type 0} (start : Start) (state : State S View) : Type 0 where
  pub count : ℕ
  pub durable : ℕ
  pub words : state.words ≡ count ∷ durable ∷ []
  pub kept : IsKept start count durable state.views
