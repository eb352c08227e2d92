-- What a request can go by in the universe that held cells show: the parts that are taken from them.
use Rattle.std.proofs.Common.{◌≡◌, ℕ, Bool, true, false, cond, ◌&&◌, ◌||◌, List, filter, refl, ap, ◌∙◌, sym, subst, inl, inr, Option, Some, None}
use Rattle.std.proofs.Math.Path.{fun_ext}
use Rattle.std.proofs.lemmas.Map.Views.{list_any-from_Contains}
use Rattle.std.specs.Prelude.{IfSome, MatchOption, is_some, option_map}
use Rattle.std.specs.BTreeMap.{get}
use Rattle.std.specs.List.{filter_map}
use Rattle.account_cell.specs.declared.account.Account.{Account as AccountOfProgram}
use Rattle.base_ids.specs.Cells.{same_cell, same_coord}
use Rattle.base_ids.specs.declared.cell_id.CellId.{CellId}
use Rattle.base_ids.specs.declared.cell_id.CellId.TheVariants.{Account, Planet}
use Rattle.base_ids.specs.declared.coord.Coord.{Coord}
use Rattle.base_ids.specs.declared.player.Player.{Player}
use Rattle.base_ids.specs.declared.system.System.{System}
use Rattle.closure.specs.declared.places.Places.{Places}
use Rattle.happenings.specs.Held.{Shows, ShowsCell, Stand, account_stand, held_at, holds, planet_stand}
use Rattle.happenings.specs.Orders.{place_order, player_order}
use Rattle.happenings.specs.Queues.{seen_of}
use Rattle.happenings.specs.declared.held.AccountCell.{AccountCell}
use Rattle.happenings.specs.declared.held.Held.{Held}
use Rattle.happenings.specs.declared.held.PlanetCell.{PlanetCell}
use Rattle.laziness.proofs.Bringing.{never, test}
use Rattle.laziness.specs.Laws.{IsReady}
use Rattle.laziness.specs.Stamps.{Stamps, brought}
use Rattle.lazy.proofs.Outcoming.{at_number}
use Rattle.lazy.specs.Planning.{CanAnswer, HoldsSame}
use Rattle.lazy.specs.Taking.{AreTaken, IsTaken, IsTakenOf, other_owner, planets_seen, seen_by}
use Rattle.orders.specs.Acting.{AllBelong, AreShown, IsSeenAs, account_seen, elsewhere, from_place, origin_of, outbound, planet_shown, planets_in, system_named, target_of, to_place}
use Rattle.orders.specs.declared.parts.Parts.{Parts}
use Rattle.orders.specs.declared.parts.SystemPlanet.{SystemPlanet}
use Rattle.request_text.specs.declared.entry.Entry.{Entry}
use Rattle.request_text.specs.declared.request.Request.{Request}
use Rattle.request_text.specs.declared.request.Request.TheVariants.{Planet as PlanetOf, Account as AccountOf, Fleets as FleetsOf, System as SystemOf, Build, Research, Yard as YardOf, Set, Send, Join, Recall}
use Rattle.tick_model.proofs.Keeping.{game_cells}
use Rattle.tick_model.proofs.Lists.{and-from, and-is, cell-is, cell-itself, cell-turned, fails, filter-all, from-filter}
use Rattle.tick_model.specs.Game.{game}
use Rattle.tick_model.specs.Requests.{asked, in_system, is_listed, is_there, names}
use Rattle.tick_model.specs.Sending.{belongs_out, fleet_of}
use Rattle.tick_model.specs.Step.{sight_of}
use Rattle.tick_model.specs.Universe.{Fleet, Setting, State}
use Rattle.tick_model.specs.Views.{View, belongs, nothing_seen, shown, view}
use Rattle.tick_model.specs.declared.rules.Rules.{Rules}

pub if_some_is : {A : Type 0} (o : Option A) (P Q : A → Type 0) → ((x : A) → o ≡ Some x → P x → Q x) → IfSome o P → IfSome o Q
if_some_is None P Q f p = tt
if_some_is (Some x) P Q f p = f x refl p

matched-some : {A : Type 0} (o : Option A) (N : Type 0) (P Q : A → Type 0) → ((x : A) → o ≡ Some x → P x → Q x) → MatchOption o N P → IfSome o Q
matched-some None N P Q f p = tt
matched-some (Some x) N P Q f p = f x refl p

-- what is held is there
pub held-there : (held : Held) (cell : CellId) → holds held cell ≡ true → is_there (seen_of (held_at held cell)).own ≡ true
held-there held (Account player) there = account-there (get player_order held.accounts player) there
  where
    account-there : (o : Option AccountCell) → is_some (option_map account_stand o) ≡ true → is_there (seen_of (option_map account_stand o)).own ≡ true
    account-there None there = never false there refl
    account-there (Some cell) there = refl
held-there held (Planet at) there = planet-there (get place_order held.planets at) there
  where
    planet-there : (o : Option PlanetCell) → is_some (option_map planet_stand o) ≡ true → is_there (seen_of (option_map planet_stand o)).own ≡ true
    planet-there None there = never false there refl
    planet-there (Some cell) there = refl

seen-as : (o : Option Stand) (seen : View) → is_some o ≡ true → IfSome o (λ stand. stand.seen ≡ seen) → seen_of o ≡ seen
seen-as None seen there is = never false there refl
seen-as (Some stand) seen there is = is

seen-none : (o : Option Stand) → is_some o ≡ false → seen_of o ≡ nothing_seen
seen-none None none = refl
seen-none (Some stand) none = never true refl none

shown-as : (b : Bool) (o : Option Stand) (seen : View) → IfSome o (λ stand. stand.seen ≡ seen) → (is_some o ≡ true → b ≡ true) → (b ≡ true → is_some o ≡ true) → cond b seen nothing_seen ≡ seen_of o
shown-as true o seen is asks holds = sym (seen-as o seen (holds refl) is)
shown-as false o seen is asks holds = sym (seen-none o (fails (is_some o) (λ there. never false (asks there) refl)))

-- what has passed a test passes it again
filter-twice : {A : Type 0} (p : A → Bool) (xs : List A) → filter p (filter p xs) ≡ filter p xs
filter-twice p xs = filter-all p (filter p xs) (λ x is. (from-filter p x xs is).1)

-- the fleets of an account that is there
with-fleets : (o : Option AccountOfProgram) (fleets : List Fleet) → is_there (account_seen o fleets).own ≡ true → (account_seen o fleets).fleets ≡ fleets
with-fleets None fleets there = never false there refl
with-fleets (Some account) fleets there = refl

same-place : (a b : Coord) → Some a ≡ Some b → same_cell (Planet a) (Planet b) ≡ true
same-place a b is = let same : a ≡ b = cc is in subst (λ x. same_cell (Planet a) (Planet x) ≡ true) same (cell-itself (Planet a))

either-first : (a b : Bool) → a ≡ true → (a || b) ≡ true
either-first true b is = refl
either-first false b is = never false is refl

either-second : (a b : Bool) → b ≡ true → (a || b) ≡ true
either-second true b is = refl
either-second false b is = is

near-belongs : (a b c : Bool) → a ≡ true → (a || b || c) ≡ true
near-belongs true true c is = refl
near-belongs true false c is = refl
near-belongs false b c is = never false is refl

far-belongs : (a b c : Bool) → c ≡ true → (a || b || c) ≡ true
far-belongs true true true is = refl
far-belongs true false true is = refl
far-belongs false true true is = refl
far-belongs false false true is = refl
far-belongs a b false is = never false is refl

-- the place of origin, and the target, of a fleet that flies out are among its cells
origin-belongs : (found : Option Fleet) (at : Coord) → origin_of (outbound found) ≡ Some at → belongs_out (Planet at) found ≡ true
origin-belongs None at is = absurd (cc is)
origin-belongs (Some fleet) at is = origin-at fleet.outbound refl is
  where
    origin-at : (b : Bool) → fleet.outbound ≡ b → origin_of (cond b (Some fleet) None) ≡ Some at → fleet.outbound && belongs (Planet at) fleet ≡ true
    origin-at true out is = and-from fleet.outbound (belongs (Planet at) fleet) out (near-belongs (same_cell (Planet fleet.origin) (Planet at)) (same_cell (Account fleet.owner) (Planet at))
        (fleet.outbound && (same_cell (Planet fleet.target) (Planet at) || same_cell (Account fleet.target_owner) (Planet at))) (same-place fleet.origin at is))
    origin-at false out is = absurd (cc is)

elsewhere-is : (from to at : Coord) → elsewhere from to ≡ Some at → same_cell (Planet to) (Planet at) ≡ true
elsewhere-is from to at is = there (same_coord from to) is
  where
    there : (b : Bool) → cond b None (Some to) ≡ Some at → same_cell (Planet to) (Planet at) ≡ true
    there true is = absurd (cc is)
    there false is = same-place to at is

target-belongs : (found : Option Fleet) (at : Coord) → target_of (outbound found) ≡ Some at → belongs_out (Planet at) found ≡ true
target-belongs None at is = absurd (cc is)
target-belongs (Some fleet) at is = target-at fleet.outbound refl is
  where
    target-at : (b : Bool) → fleet.outbound ≡ b → target_of (cond b (Some fleet) None) ≡ Some at → fleet.outbound && belongs (Planet at) fleet ≡ true
    target-at true out is =
        and-from fleet.outbound (belongs (Planet at) fleet) out
        (far-belongs (same_cell (Planet fleet.origin) (Planet at)) (same_cell (Account fleet.owner) (Planet at))
        (fleet.outbound && (same_cell (Planet fleet.target) (Planet at) || same_cell (Account fleet.target_owner) (Planet at)))
        (and-from fleet.outbound (same_cell (Planet fleet.target) (Planet at) || same_cell (Account fleet.target_owner) (Planet at)) out
        (either-first (same_cell (Planet fleet.target) (Planet at)) (same_cell (Account fleet.target_owner) (Planet at)) (elsewhere-is fleet.origin fleet.target at is))))
    target-at false out is = absurd (cc is)

-- the places that a request is about are named by it
names-from : (seen : CellId → View) (player : Player) (req : Request) (at : Coord) → from_place player (seen (Account player)).fleets req ≡ Some at → names seen player req (Planet at) ≡ true
names-from seen player (PlanetOf place) at is = same-place place at is
names-from seen player (Build place building) at is = same-place place at is
names-from seen player (Research place technology) at is = same-place place at is
names-from seen player (YardOf place unit count) at is = same-place place at is
names-from seen player (Set place work tenths) at is = same-place place at is
names-from seen player (Send from to mission setting ships cargo) at is = either-first (same_cell (Planet from) (Planet at)) (same_cell (Planet to) (Planet at)) (same-place from at is)
names-from seen player (Recall number) at is = origin-belongs (fleet_of player number.f (seen (Account player)).fleets) at is
names-from seen player AccountOf at is = absurd (cc is)
names-from seen player FleetsOf at is = absurd (cc is)
names-from seen player (SystemOf system) at is = absurd (cc is)
names-from seen player (Join number from to setting ships cargo) at is = either-first (same_cell (Planet from) (Planet at)) (same_cell (Planet to) (Planet at)) (same-place from at is)

names-to : (seen : CellId → View) (player : Player) (req : Request) (at : Coord) → to_place player (seen (Account player)).fleets req ≡ Some at → names seen player req (Planet at) ≡ true
names-to seen player (Send from to mission setting ships cargo) at is = either-second (same_cell (Planet from) (Planet at)) (same_cell (Planet to) (Planet at)) (elsewhere-is from to at is)
names-to seen player (Recall number) at is = target-belongs (fleet_of player number.f (seen (Account player)).fleets) at is
names-to seen player (PlanetOf place) at is = absurd (cc is)
names-to seen player (Build place building) at is = absurd (cc is)
names-to seen player (Research place technology) at is = absurd (cc is)
names-to seen player (YardOf place unit count) at is = absurd (cc is)
names-to seen player (Set place work tenths) at is = absurd (cc is)
names-to seen player AccountOf at is = absurd (cc is)
names-to seen player FleetsOf at is = absurd (cc is)
names-to seen player (SystemOf system) at is = absurd (cc is)
names-to seen player (Join number from to setting ships cargo) at is = either-second (same_cell (Planet from) (Planet at)) (same_cell (Planet to) (Planet at)) (elsewhere-is from to at is)

names-system : (seen : CellId → View) (player : Player) (req : Request) (system : System) (cell : CellId) → system_named req ≡ Some system → in_system system cell ≡ true → names seen player req cell ≡ true
names-system seen player (SystemOf named) system cell is inside = let same : named ≡ system = cc is in ap (λ x. in_system x cell) same ∙ inside
names-system seen player (PlanetOf place) system cell is inside = absurd (cc is)
names-system seen player (Build place building) system cell is inside = absurd (cc is)
names-system seen player (Research place technology) system cell is inside = absurd (cc is)
names-system seen player (YardOf place unit count) system cell is inside = absurd (cc is)
names-system seen player (Set place work tenths) system cell is inside = absurd (cc is)
names-system seen player AccountOf system cell is inside = absurd (cc is)
names-system seen player FleetsOf system cell is inside = absurd (cc is)
names-system seen player (Send from to mission setting ships cargo) system cell is inside = absurd (cc is)
names-system seen player (Recall number) system cell is inside = absurd (cc is)
names-system seen player (Join number from to setting ships cargo) system cell is inside = absurd (cc is)

-- the planets of a system show the same if its cells do
planets-same : (system : System) (one other : CellId → View) (cells : List CellId) → ((cell : CellId) → in_system system cell ≡ true → one cell ≡ other cell)
    → planets_seen system cells one ≡ planets_seen system cells other
planets-same system one other cells same = ap (λ (f : CellId → Option SystemPlanet). filter_map f cells) (fun_ext (λ cell. shown-at cell (in_system system cell) refl))
  where
    shown-at : (cell : CellId) (b : Bool) → in_system system cell ≡ b → cond b (planet_shown cell (one cell).own) None ≡ cond b (planet_shown cell (other cell).own) None
    shown-at cell true inside = ap (λ (v : View). planet_shown cell v.own) (same cell inside)
    shown-at cell false inside = refl

-- an entry with this request
abbrev pub entry_of : Player → Request → ℕ → Entry
entry_of player req moment = record { number = 0; moment = moment; reading = 0; player = player; req = req }

module _ (setting : Setting) (kept : Rules) (places : Places) (held : Held) (player : Player) (req : Request) (moment : ℕ) (f : Stamps (game setting))
    (can : CanAnswer setting kept places held player req moment f) (now : Held) (same : HoldsSame held now) (shows : Shows setting now (brought (game setting) (holds held) moment f)) where
  abbrev brought_state : State
  brought_state = (brought (game setting) (holds held) moment f).universe

  abbrev seen : CellId → View
  seen = view setting.cells brought_state

  abbrev asks : CellId → Bool
  asks = asked setting.cells seen player req

  -- the request can act there
  pub is-ready : IsReady (game setting) (holds held) moment (entry_of player req moment) brought_state
  is-ready = (game_cells setting).ready (holds held) moment (entry_of player req moment) f can.advance.can_bring can.covers

  -- what is asked for is held
  pub asked-held : (cell : CellId) → asks cell ≡ true → holds now cell ≡ true
  asked-held cell is = same cell ∙ is-ready.covers cell is

  -- what is held is seen as the universe has it
  held-seen : (cell : CellId) → IfSome (held_at now cell) (λ stand. stand.seen ≡ seen cell)
  held-seen cell =
      if_some_is (held_at now cell) (ShowsCell setting (brought (game setting) (holds held) moment f) cell) (λ stand. stand.seen ≡ seen cell) (λ stand is shown. shown.seen) (shows cell)

  -- and listed
  held-listed : (cell : CellId) → holds now cell ≡ true → is_listed setting.cells cell ≡ true
  held-listed cell there =
      let own = ap (λ (v : View). is_there v.own) (sym (seen-as (held_at now cell) (seen cell) there (held-seen cell))) ∙ held-there now cell there in
      list_any-from_Contains (record { refl = cell-itself; symm = cell-turned; congr = λ x y z one. ap (λ a. same_cell a z) (cell-is x y one) }) cell setting.cells
      (is-ready.fine.listed cell own)

  asked-from : (cell : CellId) → is_listed setting.cells (Account player) ≡ true → is_listed setting.cells cell ≡ true → (same_cell (Account player) cell || names seen player req cell) ≡ true → asks cell ≡ true
  asked-from cell caller listed named =
      and-from (is_listed setting.cells (Account player) && is_listed setting.cells cell) (same_cell (Account player) cell || names seen player req cell)
      (and-from (is_listed setting.cells (Account player)) (is_listed setting.cells cell) caller listed) named

  caller-asked : is_listed setting.cells (Account player) ≡ true → asks (Account player) ≡ true
  caller-asked listed = asked-from (Account player) listed listed (ap (λ b. b || names seen player req (Account player)) (cell-itself (Account player)))

  either : (a b : Bool) → b ≡ true → (a || b) ≡ true
  either true b is = refl
  either false b is = is

  pub shown-account : shown asks seen (Account player) ≡ seen_by now player (Account player)
  shown-account =
      let all = shown-as (asks (Account player)) (held_at now (Account player)) (seen (Account player)) (held-seen (Account player))
      (λ there. caller-asked (held-listed (Account player) there)) (asked-held (Account player)) in
      elim (test (holds now (Account player))) [
        | inl there ↦ all ∙ sym (ap (λ b. cond b (seen_of (held_at now (Account player))) nothing_seen) there)
        | inr none ↦ all ∙ seen-none (held_at now (Account player)) none ∙ sym (ap (λ b. cond b (seen_of (held_at now (Account player))) nothing_seen) none)
      ]

  -- a cell that the request names, if the caller is held, is shown as it is held
  shown-cell : (cell : CellId) → (holds now (Account player) ≡ true → names seen player req cell ≡ true) → shown asks seen cell ≡ seen_by now player cell
  shown-cell cell named =
      elim (test (holds now (Account player))) [
        | inl there ↦
            shown-as (asks cell) (held_at now cell) (seen cell) (held-seen cell)
            (λ held. asked-from cell (held-listed (Account player) there) (held-listed cell held) (either (same_cell (Account player) cell) (names seen player req cell) (named there)))
            (asked-held cell)
            ∙ sym (ap (λ b. cond b (seen_of (held_at now cell)) nothing_seen) there)
        | inr none ↦
            let unasked : asks cell ≡ false = fails (asks cell) (λ is.
            let listed = and-is (is_listed setting.cells (Account player) && is_listed setting.cells cell) (same_cell (Account player) cell || names seen player req cell) is in
            let caller = (and-is (is_listed setting.cells (Account player)) (is_listed setting.cells cell) listed.0).0 in
            never (holds now (Account player)) (asked-held (Account player) (caller-asked caller)) none) in
            ap (λ b. cond b (seen cell) nothing_seen) unasked ∙ sym (ap (λ b. cond b (seen_of (held_at now cell)) nothing_seen) none)
      ]

  -- all fleets that are shown of a cell belong to it
  shown-belong : (cell : CellId) → AllBelong cell (shown asks seen cell).fleets
  shown-belong cell = belong-at (asks cell)
    where
      belong-at : (b : Bool) → AllBelong cell (cond b (seen cell) nothing_seen).fleets
      belong-at true = filter-twice (belongs cell) brought_state.fleets
      belong-at false = refl

  module _ (parts : Parts) (taken : AreTaken setting.cells (seen_by now player) player req parts) where
    -- the caller's fleets are the ones that the universe has
    caller-fleets : holds now (Account player) ≡ true → parts.fleets.caller ≡ (seen (Account player)).fleets
    caller-fleets there =
        let held_own : seen_by now player (Account player) ≡ seen_of (held_at now (Account player)) = ap (λ b. cond b (seen_of (held_at now (Account player))) nothing_seen) there in
        let as_there = seen-as (held_at now (Account player)) (seen (Account player)) there (held-seen (Account player)) in
        let own_there : is_there (account_seen parts.caller parts.fleets.caller).own ≡ true = ap (λ (v : View). is_there v.own) (sym taken.caller.seen ∙ held_own) ∙ held-there now (Account player) there in
        sym (with-fleets parts.caller parts.fleets.caller own_there) ∙ ap (λ (v : View). v.fleets) (sym taken.caller.seen ∙ held_own ∙ as_there)

    from-named : (at : Coord) → from_place player parts.fleets.caller req ≡ Some at → holds now (Account player) ≡ true → names seen player req (Planet at) ≡ true
    from-named at named there = names-from seen player req at (ap (λ fleets. from_place player fleets req) (sym (caller-fleets there)) ∙ named)

    to-named : (at : Coord) → to_place player parts.fleets.caller req ≡ Some at → holds now (Account player) ≡ true → names seen player req (Planet at) ≡ true
    to-named at named there = names-to seen player req at (ap (λ fleets. to_place player fleets req) (sym (caller-fleets there)) ∙ named)

    -- the parts that were taken are what the request goes by
    pub are-shown : AreShown (at_number 0 (sight_of setting player req moment brought_state)) player kept moment req parts
    are-shown = record {
      rules_are = can.advance.rules;
      moment_is = refl;
      number_is = refl;
      belong = shown-belong;
      whose = taken.caller.whose;
      caller = shown-account ∙ taken.caller.seen;
      from = matched-some (from_place player parts.fleets.caller req) (parts.from ≡ None) (λ at. IsTaken (seen_by now player (Planet at)) at parts.from parts.fleets.from)
          (λ at. IsSeenAs (at_number 0 (sight_of setting player req moment brought_state)) at parts.from parts.fleets.from)
          (λ at named place. record { place = place.place; seen = shown-cell (Planet at) (from-named at named) ∙ place.seen }) taken.from;
      to = matched-some (to_place player parts.fleets.caller req) (parts.to ≡ None) (λ at. IsTaken (seen_by now player (Planet at)) at parts.to parts.fleets.to)
          (λ at. IsSeenAs (at_number 0 (sight_of setting player req moment brought_state)) at parts.to parts.fleets.to)
          (λ at named place. record { place = place.place; seen = shown-cell (Planet at) (to-named at named) ∙ place.seen }) taken.to;
      to_owner = owner-belongs (other_owner player parts.to) parts.to_owner parts.fleets.to_owner taken.to_owner;
      seen = if_some_is (system_named req) (λ system. parts.seen.items ≡ planets_seen system setting.cells (seen_by now player))
          (λ system. parts.seen.items ≡ planets_in system (at_number 0 (sight_of setting player req moment brought_state)))
          (λ system named is. is ∙ planets-same system (seen_by now player) (shown asks seen) setting.cells
          (λ cell inside. sym (shown-cell cell (λ there. names-system seen player req system cell named inside)))) taken.seen;
    }
      where
        held-belong : (cell : CellId) → AllBelong cell (seen_by now player cell).fleets
        held-belong cell = belong-held (holds now (Account player)) (held_at now cell) (held-seen cell)
          where
            belong-held : (b : Bool) (o : Option Stand) → IfSome o (λ stand. stand.seen ≡ seen cell) → AllBelong cell (cond b (seen_of o) nothing_seen).fleets
            belong-held false o is = refl
            belong-held true None is = refl
            belong-held true (Some stand) is = subst (λ (v : View). AllBelong cell v.fleets) (sym is) (filter-twice (belongs cell) brought_state.fleets)

        owner-belongs : (named : Option Player) (account : Option AccountOfProgram) (fleets : List Fleet)
            → MatchOption named (account ≡ None) (λ owner. IsTakenOf (seen_by now player (Account owner)) owner account fleets)
            → IfSome account (λ a. AllBelong (Account a.player) fleets)
        owner-belongs named None fleets is = tt
        owner-belongs None (Some a) fleets is = absurd (cc is)
        owner-belongs (Some owner) (Some a) fleets is =
            let place : a.player ≡ owner = is.whose in
            subst (λ (k : Player). AllBelong (Account k) fleets) (sym place)
            (subst (λ (v : View). AllBelong (Account owner) v.fleets) is.seen (held-belong (Account owner)))
