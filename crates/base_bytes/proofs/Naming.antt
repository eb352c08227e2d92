-- Whose account is among those that rise.
use Rattle.std.proofs.Common.{◌≡◌, ℕ, true, Bool, List, Result, length, map, refl, subst, sym, ◌∙◌}
use Rattle.std.specs.Prelude.{AllPairs, IsTrue, ◌↔◌}
use Rattle.std.specs.List.{Contains, list_any}
use Rattle.std.specs.List.Sorted.{IsBinarySearchResult, IsSearchInRange}
use Rattle.std.specs.Result.{is_ok}
use Rattle.account_cell.specs.declared.account.Account.{Account}
use Rattle.base_bytes.proofs.Among.{from-map, has-place, in-map, is-among}
use Rattle.base_bytes.proofs.Owned.{player-one, player-same}
use Rattle.base_ids.specs.Cells.{same_player}
use Rattle.base_ids.specs.Order.{player_before}
use Rattle.base_ids.specs.declared.player.Player.{Player}
use Rattle.closure.proofs.Comparing.{player_cmp, players_follow}
use Rattle.closure.proofs.Searching.{searched}
use Rattle.tick_model.proofs.Lists.{any-in, in-any}

-- what a binary search answers
pub named-answer : (accounts : List Account) (player : Player) (r : Result ℕ ℕ) (found : Bool) → AllPairs (λ (a b : Account). player_before a.player b.player ≡ true) accounts
    → IsSearchInRange r (length accounts) → IsBinarySearchResult (λ (a : Account). player_cmp a.player player) accounts r → found ≡ is_ok r
    → IsTrue found ↔ Contains (map (λ (a : Account). a.player) accounts) player
named-answer accounts player r found rise within result is =
    let here = is ∙ searched (λ (a : Account). a.player) player_cmp player_before same_player players_follow accounts accounts player r rise refl within result in
    let test = λ (a : Account). same_player player a.player in (
      λ added.
          let one = any-in test accounts (sym here ∙ added) in
          subst (Contains (map (λ (a : Account). a.player) accounts)) (sym (player-one player one.0.player one.2))
          (has-place one.0.player (map (λ (a : Account). a.player) accounts) (in-map (λ (a : Account). a.player) one.0 accounts one.1)),
      λ has.
          let one = from-map (λ (a : Account). a.player) player accounts (is-among player (map (λ (a : Account). a.player) accounts) has) in
          here ∙ in-any test one.0 accounts one.1 (player-same player one.0.player one.2),
    )
