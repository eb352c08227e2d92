-- How many fleets a base has at most.
use Rattle.std.proofs.Common.{◌≡◌, ℕ, ◌+◌, ◌*◌, ◌≤◌, ◌<◌, ◌^◌, Bool, true, false, cond, List, [], ◌∷◌, length, sum_by, inl, inr, arith, refl, subst}
use Rattle.std.specs.Prelude.{map}
use Rattle.std.specs.List.{Contains}
use Rattle.std.proofs.lemmas.List.Elements.{All-contains}
use Rattle.std.proofs.lemmas.List.Sums.{sum_by-cons}
use Rattle.account_cell.specs.declared.account.Account.{Account}
use Rattle.base_bytes.specs.Sound.{HasSlots, IsSound}
use Rattle.base_bytes.specs.declared.base.Base.{Base}
use Rattle.base_bytes.specs.declared.limits.TheConstants.{MOST_PLAYERS}
use Rattle.base_bytes.proofs.Among.{has-place, is-among}
use Rattle.base_bytes.proofs.Flying.{each-fleet, owned-by}
use Rattle.base_bytes.proofs.Owned.{player-same}
use Rattle.base_ids.specs.Cells.{same_player}
use Rattle.base_ids.specs.declared.player.Player.{Player}
use Rattle.catalog.specs.declared.kind.Kind.TheVariants.{Computer}
use Rattle.planet_cell.specs.declared.planet.Planet.{Planet}
use Rattle.tick_model.specs.Lines.{own_fleets}
use Rattle.tick_model.specs.Rules.{IsIn}
use Rattle.tick_model.specs.Universe.{Fleet}

-- how many of some fleets are an account's
flown : List Fleet → Account → ℕ
flown fleets account = length (own_fleets account.player fleets)

more-at : (b : Bool) (fleet : Fleet) (kept : List Fleet) → length kept ≤ length (cond b (fleet ∷ kept) kept)
more-at true fleet kept = omega arith
more-at false fleet kept = omega arith

one-at : (b : Bool) (fleet : Fleet) (kept : List Fleet) → b ≡ true → length kept + 1 ≤ length (cond b (fleet ∷ kept) kept)
one-at true fleet kept same = omega arith
one-at false fleet kept same = absurd cc

-- with one fleet more no account has fewer
no-fewer : (account : Account) (fleet : Fleet) (fleets : List Fleet) → flown fleets account ≤ flown (fleet ∷ fleets) account
unfolding flown
no-fewer account fleet fleets = more-at (same_player fleet.owner account.player) fleet (own_fleets account.player fleets)

-- and its owner has one more
owner-more : (account : Account) (fleet : Fleet) (fleets : List Fleet) → fleet.owner ≡ account.player → flown fleets account + 1 ≤ flown (fleet ∷ fleets) account
unfolding flown
owner-more account fleet fleets same = one-at (same_player fleet.owner account.player) fleet (own_fleets account.player fleets) (player-same fleet.owner account.player same)

all-no-fewer : (accounts : List Account) (fleet : Fleet) (fleets : List Fleet) → sum_by (flown fleets) accounts ≤ sum_by (flown (fleet ∷ fleets)) accounts
all-no-fewer [] fleet fleets = omega arith
all-no-fewer (account ∷ accounts) fleet fleets =
    let before = sum_by-cons (flown fleets) account accounts in
    let after = sum_by-cons (flown (fleet ∷ fleets)) account accounts in
    let here = no-fewer account fleet fleets in
    let rest = all-no-fewer accounts fleet fleets in
    omega arith

one-more : (accounts : List Account) (fleet : Fleet) (fleets : List Fleet) → IsIn fleet.owner (map (λ (account : Account). account.player) accounts)
    → sum_by (flown fleets) accounts + 1 ≤ sum_by (flown (fleet ∷ fleets)) accounts
one-more [] fleet fleets is = absurd is
one-more (account ∷ accounts) fleet fleets (inl same) =
    let before = sum_by-cons (flown fleets) account accounts in
    let after = sum_by-cons (flown (fleet ∷ fleets)) account accounts in
    let here = owner-more account fleet fleets same in
    let rest = all-no-fewer accounts fleet fleets in
    omega arith
one-more (account ∷ accounts) fleet fleets (inr later) =
    let before = sum_by-cons (flown fleets) account accounts in
    let after = sum_by-cons (flown (fleet ∷ fleets)) account accounts in
    let here = no-fewer account fleet fleets in
    let rest = one-more accounts fleet fleets later in
    omega arith

-- if all owners are accounts, no fleet is left out
all-flown : (accounts : List Account) (fleets : List Fleet) → ((fleet : Fleet) → IsIn fleet fleets → IsIn fleet.owner (map (λ (account : Account). account.player) accounts))
    → length fleets ≤ sum_by (flown fleets) accounts
all-flown accounts [] owned = omega arith
all-flown accounts (fleet ∷ fleets) owned =
    let first = one-more accounts fleet fleets (owned fleet (inl refl)) in
    let rest = all-flown accounts fleets (λ other is. owned other (inr is)) in
    omega arith

-- no account has more fleets than the highest level of computers allows
few-slots : (fleets : List Fleet) (account : Account) → HasSlots fleets account → flown fleets account ≤ 21
unfolding flown
few-slots fleets account slots =
    let level = account.within_levels.each Computer refl in
    omega (arith, slots, level)

few-flown : (accounts : List Account) (fleets : List Fleet) → ((account : Account) → IsIn account accounts → HasSlots fleets account) → sum_by (flown fleets) accounts ≤ 21 * length accounts
few-flown [] fleets slots = omega arith
few-flown (account ∷ accounts) fleets slots =
    let all = sum_by-cons (flown fleets) account accounts in
    let here = few-slots fleets account (slots account (inl refl)) in
    let rest = few-flown accounts fleets (λ other is. slots other (inr is)) in
    omega arith

-- the owner of a fleet is an account
owner-known : (base : Base) (fleet : Fleet) → IsSound base → IsIn fleet base.fleets → IsIn fleet.owner (map (λ (account : Account). account.player) base.accounts.items)
owner-known base fleet sound is =
    let flies = each-fleet base fleet sound is in
    let home = owned-by fleet.owner base.planets.items fleet.origin flies.leaves in
    let players = map (λ (account : Account). account.player) base.accounts.items in
    let listed = All-contains (λ (p : Planet). Contains players p.owner) base.planets.items home.0 sound.owned (has-place home.0 base.planets.items home.1) in
    subst (λ (k : Player). IsIn k players) home.3 (is-among home.0.owner players listed)

-- a base has no more fleets than its accounts may have
pub few-fleets : (base : Base) → IsSound base → length base.accounts.items ≤ MOST_PLAYERS → length base.fleets < 2 ^ 32
few-fleets base sound few =
    let all = all-flown base.accounts.items base.fleets (λ fleet is. owner-known base fleet sound is) in
    let each = few-flown base.accounts.items base.fleets (λ account is. All-contains (HasSlots base.fleets) base.accounts.items account sound.slots (has-place account base.accounts.items is)) in
    omega arith
