-- What comes of a fleet that is called back.
use Rattle.std.proofs.Common.{◌≡◌, ℕ, ◌+◌, Bool, true, false, List, [], refl, ap, sym, subst, ◌∙◌, arith}
use Rattle.std.specs.Prelude.{IfSome, None, Option, Some, if◌then◌else◌}
use Rattle.std.proofs.lemmas.List.{append-nil}
use Rattle.account_cell.specs.declared.account.Account.{Account}
use Rattle.base_ids.specs.Cells.{same_coord}
use Rattle.base_ids.specs.declared.cell_id.CellId.{CellId}
use Rattle.base_ids.specs.declared.cell_id.CellId.TheVariants.{Account as AccountId, Planet as PlanetId}
use Rattle.base_ids.specs.declared.coord.Coord.{Coord}
use Rattle.base_ids.specs.declared.fleet_number.FleetNumber.{FleetNumber}
use Rattle.base_ids.specs.declared.player.Player.{Player}
use Rattle.orders.proofs.Answered.{caller_fleets, caller_is, caller_own, refused_comes, some_into, some_map}
use Rattle.orders.proofs.Sent.{account_left, view_left}
use Rattle.orders.specs.Acting.{AreShown, Comes, IsLeftAs, IsSeenAs, account_seen, elsewhere, fleets_after, origin_of, outbound, planet_seen, seen_after, target_of}
use Rattle.orders.specs.Sending.{AreCalledBack, called_back_in}
use Rattle.orders.specs.declared.parts.Acted.{Acted}
use Rattle.orders.specs.declared.parts.Parts.{Parts}
use Rattle.planet_cell.specs.declared.planet.Planet.{Planet}
use Rattle.reply_text.specs.OrderLines.{back_line}
use Rattle.request_text.specs.declared.request.Request.TheVariants.{Recall}
use Rattle.tick_model.specs.Changes.{Change, new_fleet, owns}
use Rattle.tick_model.specs.Flights.{recalled_at, turned}
use Rattle.tick_model.specs.Requests.{Outcome, Sight, granted, on_account, outcome, own_seen, recalls, recalls_own, refused}
use Rattle.tick_model.specs.Sending.{fleet_of}
use Rattle.tick_model.specs.Universe.{Fleet, Own, QueueClass}
use Rattle.tick_model.specs.Views.{View}
use Rattle.tick_model.specs.declared.codes.TheConstants.{NOT_OUTBOUND, NO_FLEET}
use Rattle.tick_model.specs.declared.rules.Rules.{Rules}

-- what comes of the request, by the fleet that the caller's account has of that number
recalls_found : (sight : Sight) (player : Player) (rules : Rules) (moment : ℕ) (number : FleetNumber) (parts : Parts) (account : Account) (found : Option Fleet) → AreShown sight player rules moment (Recall number) parts
    → parts.caller ≡ Some account → fleet_of account.player number.f parts.fleets.caller ≡ found → outcome sight player (Recall number) ≡ recalls sight number.f found
recalls_found sight player rules moment number parts account found shown here is =
    let whose = caller_is sight player rules moment (Recall number) parts account shown here in
    let fleets = caller_fleets sight player rules moment (Recall number) parts account shown here in
    ap (λ (x : Own). on_account sight x (recalls_own sight player number.f)) (caller_own sight player rules moment (Recall number) parts account shown here)
    ∙ (λ i. recalls sight number.f (fleet_of (sym whose i) number.f (fleets i)))
    ∙ ap (recalls sight number.f) is

-- the caller has no such fleet
pub no_fleet : (sight : Sight) (player : Player) (rules : Rules) (moment : ℕ) (number : FleetNumber) (parts : Parts) (account : Account) (acted : Acted) → AreShown sight player rules moment (Recall number) parts
    → parts.caller ≡ Some account → fleet_of account.player number.f parts.fleets.caller ≡ None → acted.code ≡ NO_FLEET → acted.body ≡ []
    → Comes sight player (Recall number) (outcome sight player (Recall number)) parts parts acted
no_fleet sight player rules moment number parts account acted shown here none code body =
    refused_comes sight player rules moment (Recall number) parts acted NO_FLEET shown (recalls_found sight player rules moment number parts account None shown here none) code (omega arith) body

-- it is on its way back
unfoldable recalls_by : Sight → ℕ → Fleet → Bool → Outcome
recalls_by sight number fleet out =
    if out
    then granted (back_line (recalled_at fleet sight.moment)) (new_fleet (owns sight.seen) number (λ flown. Some (turned flown (recalled_at flown sight.moment) flown.cargo)))
    else refused sight NOT_OUTBOUND

pub not_outbound : (sight : Sight) (player : Player) (rules : Rules) (moment : ℕ) (number : FleetNumber) (parts : Parts) (account : Account) (fleet : Fleet) (acted : Acted) → AreShown sight player rules moment (Recall number) parts
    → parts.caller ≡ Some account → fleet_of account.player number.f parts.fleets.caller ≡ Some fleet → fleet.outbound ≡ false → acted.code ≡ NOT_OUTBOUND → acted.body ≡ []
    → Comes sight player (Recall number) (outcome sight player (Recall number)) parts parts acted
unfolding recalls_by
not_outbound sight player rules moment number parts account fleet acted shown here found back code body =
    refused_comes sight player rules moment (Recall number) parts acted NOT_OUTBOUND shown
    (recalls_found sight player rules moment number parts account (Some fleet) shown here found ∙ ap (recalls_by sight number.f fleet) back) code (omega arith) body

-- the fleets of a cell after one is called back
called_back_is : (own : CellId → Own) (cell : CellId) (number moment : ℕ) (fleets : List Fleet)
    → called_back_in cell number moment fleets ≡ fleets_after (new_fleet own number (λ flown. Some (turned flown (recalled_at flown moment) flown.cargo))) cell fleets
called_back_is own cell number moment fleets = sym (append-nil (called_back_in cell number moment fleets))

-- a place where one is called back
place_left : (sight : Sight) (change : Change) (at : Coord) (planet : Option Planet) (fleets left : List Fleet) → IsSeenAs sight at planet fleets → change.own (PlanetId at) ≡ own_seen sight (PlanetId at)
    → ((class : QueueClass) → change.requeued (PlanetId at) class ≡ false) → ((x : List Fleet) → x ≡ [] → fleets_after change (PlanetId at) x ≡ []) → left ≡ fleets_after change (PlanetId at) fleets
    → IsLeftAs sight change at planet left
place_left sight change at None fleets left seen own stays none flown =
    record {
      place = tt;
      seen = view_left sight change (PlanetId at) (planet_seen None fleets) (planet_seen None left) seen.seen (ap (λ (x : View). x.own) (sym seen.seen) ∙ sym own)
          (λ class. ap (λ (x : View). x.queue class) (sym seen.seen) ∙ sym (ap (λ (b : Bool). if b then change.items else (sight.seen (PlanetId at)).queue class) (stays class)))
          (sym (none [] refl)) refl refl;
    }
place_left sight change at (Some planet) fleets left seen own stays none flown =
    record {
      place = seen.place;
      seen = view_left sight change (PlanetId at) (planet_seen (Some planet) fleets) (planet_seen (Some planet) left) seen.seen (ap (λ (x : View). x.own) (sym seen.seen) ∙ sym own)
          (λ class. ap (λ (x : View). x.queue class) (sym seen.seen) ∙ sym (ap (λ (b : Bool). if b then change.items else (sight.seen (PlanetId at)).queue class) (stays class)))
          flown refl refl;
    }

-- the places of a fleet that flies out
out_is : (fleet : Fleet) → fleet.outbound ≡ true → outbound (Some fleet) ≡ Some fleet
out_is fleet out = ap (λ (b : Bool). if b then Some fleet else None) out

elsewhere_if : (b : Bool) (to : Coord) (P Q : Coord → Type 0) → (P to → Q to) → IfSome (if b then None else Some to) P → IfSome (if b then None else Some to) Q
elsewhere_if true to P Q follows here = here
elsewhere_if false to P Q follows here = follows here

elsewhere_map : (from to : Coord) (P Q : Coord → Type 0) → (P to → Q to) → IfSome (elsewhere from to) P → IfSome (elsewhere from to) Q
elsewhere_map from to P Q follows here = elsewhere_if (same_coord from to) to P Q follows here

pub recalled_comes : (sight : Sight) (player : Player) (rules : Rules) (moment : ℕ) (number : FleetNumber) (old new : Parts) (account : Account) (fleet : Fleet) (acted : Acted) → AreShown sight player rules moment (Recall number) old
    → old.caller ≡ Some account → fleet_of account.player number.f old.fleets.caller ≡ Some fleet → fleet.outbound ≡ true
    → new.caller ≡ old.caller → new.from ≡ old.from → new.to ≡ old.to → new.to_owner ≡ old.to_owner → acted.code ≡ 0 → acted.body ≡ back_line (recalled_at fleet moment)
    → AreCalledBack account old.to_owner fleet number.f moment old.fleets new.fleets
    → Comes sight player (Recall number) (outcome sight player (Recall number)) old new acted
unfolding recalls_by
recalled_comes sight player rules moment number old new account fleet acted shown here found out left_caller left_from left_to left_owner code body back =
    let whose : account.player ≡ player = caller_is sight player rules moment (Recall number) old account shown here in
    let time : sight.moment ≡ moment = shown.moment_is in
    let grant = recalls_by sight number.f fleet true in
    let came : outcome sight player (Recall number) ≡ grant =
    recalls_found sight player rules moment number old account (Some fleet) shown here found ∙ ap (recalls_by sight number.f fleet) out in
    let change = grant.change in
    let called : (cell : CellId) (fleets : List Fleet) → called_back_in cell number.f moment fleets ≡ fleets_after change cell fleets =
    λ cell fleets. ap (λ (t : ℕ). called_back_in cell number.f t fleets) (sym time) ∙ called_back_is (owns sight.seen) cell number.f sight.moment fleets in
    let none : (cell : CellId) (fleets : List Fleet) → fleets ≡ [] → fleets_after change cell fleets ≡ [] = λ cell fleets is. ap (fleets_after change cell) is in
    let mine : fleet_of player number.f old.fleets.caller ≡ Some fleet = subst (λ (x : Player). fleet_of x number.f old.fleets.caller ≡ Some fleet) whose found in
    let flies : outbound (fleet_of player number.f old.fleets.caller) ≡ Some fleet = ap outbound mine ∙ out_is fleet out in
    let view : sight.seen (AccountId player) ≡ account_seen (Some account) old.fleets.caller = shown.caller ∙ ap (λ (x : Option Account). account_seen x old.fleets.caller) here in
    let units : (sight.seen (AccountId player)).units ≡ (sight.seen (AccountId player)).units + 0 = omega arith in
    let caller_left : account_seen new.caller new.fleets.caller ≡ seen_after sight change (AccountId player) =
    (λ i. account_seen ((left_caller ∙ here) i) (back.caller i))
    ∙ ap (λ (x : Player). account_seen (Some account) (called_back_in (AccountId x) number.f moment old.fleets.caller)) whose
    ∙ account_left sight change player account old.fleets.caller (called_back_in (AccountId player) number.f moment old.fleets.caller) view (ap (λ (x : View). x.own) (sym view)) (λ class. refl)
    (called (AccountId player) old.fleets.caller) in
    let seen_from : IsSeenAs sight fleet.origin old.from old.fleets.from = subst (λ (x : Option Fleet). IfSome (origin_of x) (λ at. IsSeenAs sight at old.from old.fleets.from)) flies shown.from in
    let from_left : IsLeftAs sight change fleet.origin new.from new.fleets.from =
    subst (λ (x : Option Planet). IsLeftAs sight change fleet.origin x new.fleets.from) (sym left_from)
    (place_left sight change fleet.origin old.from old.fleets.from new.fleets.from seen_from refl (λ class. refl) (none (PlanetId fleet.origin)) (back.from ∙ called (PlanetId fleet.origin) old.fleets.from)) in
    let seen_to : IfSome (elsewhere fleet.origin fleet.target) (λ at. IsSeenAs sight at old.to old.fleets.to) = subst (λ (x : Option Fleet). IfSome (target_of x) (λ at. IsSeenAs sight at old.to old.fleets.to)) flies shown.to in
    let to_left : IfSome (elsewhere fleet.origin fleet.target) (λ at. IsLeftAs sight change at new.to new.fleets.to) =
    elsewhere_map fleet.origin fleet.target (λ at. IsSeenAs sight at old.to old.fleets.to) (λ at. IsLeftAs sight change at new.to new.fleets.to)
    (λ seen. subst (λ (x : Option Planet). IsLeftAs sight change fleet.target x new.fleets.to) (sym left_to)
    (place_left sight change fleet.target old.to old.fleets.to new.fleets.to seen refl (λ class. refl) (none (PlanetId fleet.target)) (back.to ∙ called (PlanetId fleet.target) old.fleets.to))) seen_to in
    let comes : Comes sight player (Recall number) grant old new acted =
    record {
      code = code;
      body = body ∙ ap (λ (t : ℕ). back_line (recalled_at fleet t)) (sym time);
      whose = some_into new.caller (λ x. x.player ≡ player) account (left_caller ∙ here) whose;
      caller = caller_left ∙ (λ i. record (seen_after sight change (AccountId player)) { units = units i });
      from = subst (λ (x : Option Fleet). IfSome (origin_of x) (λ at. IsLeftAs sight change at new.from new.fleets.from)) (sym flies) from_left;
      to = subst (λ (x : Option Fleet). IfSome (target_of x) (λ at. IsLeftAs sight change at new.to new.fleets.to)) (sym flies) to_left;
      to_owner = left_owner;
      linked = some_map old.to_owner (λ x. new.fleets.to_owner ≡ called_back_in (AccountId x.player) number.f moment old.fleets.to_owner) (λ x. new.fleets.to_owner ≡ fleets_after change (AccountId x.player) old.fleets.to_owner)
          (λ x is. is ∙ called (AccountId x.player) old.fleets.to_owner) back.to_owner;
    } in
    subst (λ (x : Outcome). Comes sight player (Recall number) x old new acted) (sym came) comes
