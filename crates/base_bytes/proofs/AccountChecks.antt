-- What is tested of an account's queue holds of the items that it stands for.
use Rattle.std.proofs.Common.{◌≡◌, ℕ, ◌+◌, ◌≤◌, true, List, [], ◌∷◌, map, drop, refl, get_or, sym, subst, arith}
use Rattle.std.specs.Prelude.{◌==◌, ◌&&◌, All, None, Some, slice_get}
use Rattle.std.specs.Bool.{Decides}
use Rattle.std.proofs.lemmas.Bool.Decides.{nat_tests}
use Rattle.std.proofs.lemmas.List.Elements.{All-map, All-weaker}
use Rattle.account_cell.proofs.Counts.{queued_items}
use Rattle.account_cell.specs.Account.{account_fields, research_item, research_of}
use Rattle.account_cell.specs.declared.account.Account.{Account}
use Rattle.account_cell.specs.declared.research_item.ResearchItem.{ResearchItem}
use Rattle.base_bytes.proofs.Checks.{all-mapped}
use Rattle.base_bytes.specs.Kept.{IsDrawn}
use Rattle.base_bytes.proofs.Owned.{place-one, place-same}
use Rattle.base_ids.specs.declared.coord.Coord.{Coord}
use Rattle.base_ids.specs.declared.player.Player.{Player}
use Rattle.catalog.specs.Classes.{is_technology}
use Rattle.catalog.specs.Levels.{level_cap_of}
use Rattle.catalog.specs.Technologies.{level_in}
use Rattle.catalog.specs.declared.kind.Kind.{Kind}
use Rattle.tick_model.specs.Limits.{KeepsTechs, Rises, Waits}
use Rattle.tick_model.specs.Moments.{IsTimed}
use Rattle.tick_model.specs.Refusals.{queued}

capped : (account : Account) (kind : Kind) → is_technology kind ≡ true → level_in account.techs.n kind + queued kind (research_of account) ≤ level_cap_of kind
capped account kind is =
    let same = queued_items kind account.player account.research.items in
    let most = account.within_levels.each kind is in
    omega (arith, same, most)

research-waits : (player : Player) (item : ResearchItem) → (item.level ≡ 0) × (item.second ≡ 0) → Waits (research_item player item)
research-waits player item idle = (idle.0, refl, idle.1)

research-idle : (player : Player) (item : ResearchItem) → Waits (research_item player item) → (item.level ≡ 0) × (item.second ≡ 0)
research-idle player item waits = (waits.0, waits.2)

one-item : (a b : ResearchItem) → Some a ≡ Some b → a ≡ b
one-item a b same = cc

rises : (level : Kind → ℕ) (player : Player) (items : List ResearchItem) (first : ResearchItem) → Some first ≡ slice_get items 0 → first.level ≡ level first.kind.kind + 1
    → All (λ (item : ResearchItem). (item.level ≡ 0) × (item.second ≡ 0)) (drop 1 items) → Rises level (map (research_item player) items)
rises level player [] first is up idle = tt
rises level player (head ∷ later) first is up idle = (
  subst (λ (item : ResearchItem). item.level ≡ level item.kind.kind + 1) (one-item first head is) up,
  All-map Waits (research_item player) later (All-weaker _ (λ (item : ResearchItem). Waits (research_item player item)) (research-waits player) later idle),
)

risen : (level : Kind → ℕ) (player : Player) (items : List ResearchItem) (first : ResearchItem) → Some first ≡ slice_get items 0 → Rises level (map (research_item player) items)
    → (first.level ≡ level first.kind.kind + 1) × All (λ (item : ResearchItem). (item.level ≡ 0) × (item.second ≡ 0)) (drop 1 items)
risen level player [] first is up = absurd cc
risen level player (head ∷ later) first is up = (
  subst (λ (item : ResearchItem). item.level ≡ level item.kind.kind + 1) (sym (one-item first head is)) up.0,
  All-weaker (λ (item : ResearchItem). Waits (research_item player item)) _ (research-idle player) later (all-mapped Waits (research_item player) later up.1),
)

rises-none : (level : Kind → ℕ) (player : Player) (items : List ResearchItem) → None ≡ slice_get items 0 → Rises level (map (research_item player) items)
rises-none level player [] is = tt
rises-none level player (head ∷ later) is = absurd cc

pub techs_kept : (account : Account) (first : ResearchItem) → Some first ≡ slice_get account.research.items 0 → first.level ≡ level_in account.techs.n first.kind.kind + 1
    → All (λ (item : ResearchItem). (item.level ≡ 0) × (item.second ≡ 0)) (drop 1 account.research.items) → KeepsTechs (account_fields account) (research_of account)
techs_kept account first is up idle = record { capped = capped account; rising = rises (level_in account.techs.n) account.player account.research.items first is up idle }

pub kept_techs : (account : Account) (first : ResearchItem) → Some first ≡ slice_get account.research.items 0 → KeepsTechs (account_fields account) (research_of account)
    → (first.level ≡ level_in account.techs.n first.kind.kind + 1) × All (λ (item : ResearchItem). (item.level ≡ 0) × (item.second ≡ 0)) (drop 1 account.research.items)
kept_techs account first is kept = risen (level_in account.techs.n) account.player account.research.items first is kept.rising

pub idle_kept : (account : Account) → None ≡ slice_get account.research.items 0 → KeepsTechs (account_fields account) (research_of account)
idle_kept account is = record { capped = capped account; rising = rises-none (level_in account.techs.n) account.player account.research.items is }

pub research_drawn : (number : ℕ) (player : Player) (items : List ResearchItem) → All (λ (item : ResearchItem). (1 ≤ item.number) × (item.number ≤ number)) items → All (IsDrawn number) (map (research_item player) items)
research_drawn number player items drawn = All-map (IsDrawn number) (research_item player) items drawn

pub drawn_research : (number : ℕ) (player : Player) (items : List ResearchItem) → All (IsDrawn number) (map (research_item player) items) → All (λ (item : ResearchItem). (1 ≤ item.number) × (item.number ≤ number)) items
drawn_research number player items drawn = all-mapped (IsDrawn number) (research_item player) items drawn

timed : (moment : ℕ) (player : Player) (item : ResearchItem) → IsTimed moment (research_item player item)
timed moment player item = record { ends = item.in_time; paced = omega arith; next = λ yard. absurd cc }

-- what is researched has its time by its kind
pub research_timed : (moment : ℕ) (account : Account) → All (IsTimed moment) (research_of account)
research_timed moment account = All-map (IsTimed moment) (research_item account.player) account.research.items (λ k d below. timed moment account.player (get_or account.research.items k d))

-- the test of two places tells whether they are one
pub tells_places : (a b : Coord) → Decides (a.g == b.g && (a.s == b.s && a.p == b.p)) (a ≡ b)
tells_places a b = (
  λ yes_true. place-one a b (grind (arith, nat_tests)),
  λ same. let there = place-same a b same in grind (arith, nat_tests),
)
