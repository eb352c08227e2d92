-- A request that acted on parts that were taken from held cells, and the universe in which it acted.
use Rattle.std.proofs.Common.{◌≡◌, ℕ, ◌+◌, Bool, true, false, cond, eqb, ◌||◌, List, [], refl, ap, ◌∙◌, sym, subst, inl, inr, Option, Some, None}
use Rattle.std.proofs.Math.Path.{fun_ext}
use Rattle.std.specs.Prelude.{IfSome, MatchOption, is_some, option_map}
use Rattle.account_cell.specs.declared.account.Account.{Account as AccountOfProgram}
use Rattle.base_ids.specs.Cells.{same_cell, same_player}
use Rattle.base_ids.specs.declared.cell_id.CellId.{CellId}
use Rattle.base_ids.specs.declared.cell_id.CellId.TheVariants.{Account, Planet}
use Rattle.base_ids.specs.declared.coord.Coord.{Coord}
use Rattle.base_ids.specs.declared.player.Player.{Player}
use Rattle.closure.specs.declared.places.Places.{Places}
use Rattle.fleet_rec.specs.Fleet.{fleet_seen}
use Rattle.happenings.proofs.Acting.{held-seen}
use Rattle.happenings.specs.Held.{IsEqual, IsNamed, Puts, Shows, ShowsCell, Stand, held_at, holds}
use Rattle.happenings.specs.Numbering.{fleet_numbered, numbered_stand}
use Rattle.happenings.specs.Queues.{class_of, home_of, seen_held, seen_of}
use Rattle.happenings.specs.declared.held.Held.{Held}
use Rattle.laziness.proofs.Bringing.{at-inside, never, test}
use Rattle.laziness.proofs.Holding.{can-good}
use Rattle.laziness.proofs.Preparing.{prepares}
use Rattle.laziness.specs.Stamps.{Stamps, brought, happened, request_acts}
use Rattle.lazy.proofs.Counting.{units-made, units-other}
use Rattle.lazy.proofs.Outcoming.{ComesTo, IsGranted, StandsAt, after_view, answer-same, at_number, comes-to, flown, is_named, number-units, number_seen, own-same, view-ordered}
use Rattle.lazy.proofs.Parting.{IsApart, IsForeign, apart-own, apart-queue, apart-view, granted-stands, own-there}
use Rattle.lazy.proofs.Showing.{are-shown, asked-held, held-there, is-ready}
use Rattle.lazy.proofs.Stepping.{left_view, own_after, refused-stepped, step-view, stepped-seen}
use Rattle.lazy.specs.Planning.{CanAnswer, HoldsSame}
use Rattle.lazy.specs.Plans.{IsOrdered, IsPlan, fleet_ordered, ordered_at, queue_ordered}
use Rattle.lazy.specs.Taking.{AreTaken, IsTakenOf, PutsAccount, PutsParts, PutsPlanet, other_owner, seen_by}
use Rattle.lazy.specs.declared.ordered.Ordered.{Ordered}
use Rattle.lazy.specs.declared.ordered.Ordered.TheVariants.{Item as ItemOrdered, Fleet as FleetSent}
use Rattle.orders.specs.Acting.{Acts, AreShown, Comes, IsLeftAs, IsSeenAs, account_seen, fleets_after, from_place, planet_seen, seen_after, to_place, units_after, units_ordered}
use Rattle.orders.specs.declared.parts.Acted.{Acted}
use Rattle.orders.specs.declared.parts.Parts.{Parts}
use Rattle.planet_cell.specs.Planet.{fields_of}
use Rattle.planet_cell.specs.declared.planet.Planet.{Planet as PlanetOfProgram}
use Rattle.request_text.specs.declared.entry.Entry.{Entry}
use Rattle.request_text.specs.declared.request.Request.{Request}
use Rattle.tick_model.proofs.Asked.{shown-account, shown-there}
use Rattle.tick_model.proofs.GameLaws.{game_laws}
use Rattle.tick_model.proofs.Lists.{cell-is, cell-turned, fails, number-turned, player-from, same_number}
use Rattle.tick_model.specs.Changes.{Change, write}
use Rattle.tick_model.specs.Game.{game}
use Rattle.tick_model.specs.Requests.{Answer, Outcome, Sight, asked, is_there, outcome, own_seen}
use Rattle.tick_model.specs.Rules.{KeepsRules}
use Rattle.tick_model.specs.Step.{sight_of, step}
use Rattle.tick_model.specs.Universe.{AccountFields, Fleet, Own, PlanetFields, Setting, State, of_account, of_nothing, of_planet}
use Rattle.tick_model.specs.Views.{View, belongs, nothing_seen, shown, view}
use Rattle.tick_model.specs.declared.rules.Rules.{Rules}

reply-is : (setting : Setting) (player : Player) (req : Request) (moment number : ℕ) (answer : Answer) (state : State) → number ≡ state.number + 1
    → answer ≡ (outcome (sight_of setting player req moment state) player req).answer
    → record { number = number; moment = moment; code = answer.code; body = answer.body } ≡ (step setting player req moment state).reply
unfolding step
reply-is setting player req moment number answer state count is = (λ i. record { number = count i; moment = moment; code = (is i).code; body = (is i).body })

if_shown : (o : Option Stand) (P Q : Stand → Type 0) → ((stand : Stand) → P stand → Q stand) → IfSome o P → IfSome o Q
if_shown None P Q g p = tt
if_shown (Some stand) P Q g p = g stand p

-- What a number makes of what is held.

numbered-cond : (b : Bool) (stand : Stand) (new : View) → cond b (Some (record stand { seen = new })) (Some stand) ≡ Some (record stand { seen = cond b new stand.seen })
numbered-cond true stand new = refl
numbered-cond false stand new = refl

numbered-here : (number : ℕ) (ordered : Option Ordered) (held : Held) (cell : CellId) (stand : Stand) → held_at held cell ≡ Some stand
    → ordered_at number ordered held cell ≡ Some (record stand { seen = number_seen number ordered cell stand.seen })
numbered-here number None held cell stand is = is
numbered-here number (Some (ItemOrdered queue)) held cell stand is =
    ap (λ o. cond (same_cell (home_of queue) cell) (option_map (numbered_stand number (class_of queue)) o) o) is
    ∙ numbered-cond (same_cell (home_of queue) cell) stand (numbered_stand number (class_of queue) stand).seen
numbered-here number (Some (FleetSent fleet)) held cell stand is =
    ap (λ o. cond (belongs cell (fleet_seen fleet)) (option_map (fleet_numbered number) o) o) is
    ∙ numbered-cond (belongs cell (fleet_seen fleet)) stand (fleet_numbered number stand).seen

none-either : (b : Bool) (g : Stand → Stand) (o : Option Stand) → o ≡ None → cond b (option_map g o) o ≡ None
none-either true g o is = ap (option_map g) is
none-either false g o is = is

numbered-none : (number : ℕ) (ordered : Option Ordered) (held : Held) (cell : CellId) → held_at held cell ≡ None → ordered_at number ordered held cell ≡ None
numbered-none number None held cell is = is
numbered-none number (Some (ItemOrdered queue)) held cell is = none-either (same_cell (home_of queue) cell) (numbered_stand number (class_of queue)) (held_at held cell) is
numbered-none number (Some (FleetSent fleet)) held cell is = none-either (belongs cell (fleet_seen fleet)) (fleet_numbered number) (held_at held cell) is

-- What is put back.

-- a part is the one of this cell
abbrev hits_account : Option AccountOfProgram → CellId → Bool
hits_account None cell = false
hits_account (Some account) cell = same_cell (Account account.player) cell

abbrev hits_planet : Option Coord → Option PlanetOfProgram → CellId → Bool
hits_planet (Some at) (Some planet) cell = same_cell (Planet planet.at) cell
hits_planet None planet cell = false
hits_planet (Some at) None cell = false

put-account : (account : Option AccountOfProgram) (fleets : List Fleet) (moment : ℕ) (old new : Held) (cell : CellId) → PutsAccount account fleets moment old new
    → held_at new cell ≡ cond (hits_account account cell) (Some (record { second = moment; seen = account_seen account fleets })) (held_at old cell)
put-account None fleets moment old new cell puts = puts cell
put-account (Some account) fleets moment old new cell puts = puts cell

put-planet : (named : Option Coord) (planet : Option PlanetOfProgram) (fleets : List Fleet) (moment : ℕ) (old new : Held) (cell : CellId) → PutsPlanet named planet fleets moment old new
    → held_at new cell ≡ cond (hits_planet named planet cell) (Some (record { second = moment; seen = planet_seen planet fleets })) (held_at old cell)
put-planet None planet fleets moment old new cell puts = puts cell
put-planet (Some at) None fleets moment old new cell puts = puts cell
put-planet (Some at) (Some planet) fleets moment old new cell puts = puts cell

account-some : (o : Option AccountOfProgram) (fleets : List Fleet) → is_there (account_seen o fleets).own ≡ true → (a : AccountOfProgram) × (o ≡ Some a)
account-some None fleets there = never false there refl
account-some (Some a) fleets there = (a, refl)

planet-some : (o : Option PlanetOfProgram) (fleets : List Fleet) → is_there (planet_seen o fleets).own ≡ true → (p : PlanetOfProgram) × (o ≡ Some p)
planet-some None fleets there = never false there refl
planet-some (Some p) fleets there = (p, refl)

seen-held : (o : Option Stand) → is_there (seen_of o).own ≡ true → is_some o ≡ true
seen-held None there = never false there refl
seen-held (Some stand) there = refl

shown-asked : (b : Bool) (seen : View) → is_there (cond b seen nothing_seen).own ≡ true → b ≡ true
shown-asked true seen there = refl
shown-asked false seen there = never false there refl

held-if : (P : Stand → Type 0) (b : Bool) (stand : Stand) (o : Option Stand) → (b ≡ true → P stand) → (b ≡ false → IfSome o P) → IfSome (cond b (Some stand) o) P
held-if P true stand o here else_here = here refl
held-if P false stand o here else_here = else_here refl

held-still : (b : Bool) (stand : Stand) (o there : Option Stand) → (b ≡ true → is_some there ≡ true) → is_some o ≡ is_some there → is_some (cond b (Some stand) o) ≡ is_some there
held-still true stand o there here else_here = sym (here refl)
held-still false stand o there here else_here = else_here

if-some-held : (o : Option Stand) (P Q : Stand → Type 0) → ((stand : Stand) → o ≡ Some stand → P stand → Q stand) → IfSome o P → IfSome o Q
if-some-held None P Q f p = tt
if-some-held (Some stand) P Q f p = f stand refl p

module _ (setting : Setting) (kept : Rules) (places : Places) (held : Held) (player : Player) (req : Request) (moment : ℕ) (f : Stamps (game setting))
    (can : CanAnswer setting kept places held player req moment f) (now : Held) (same : HoldsSame held now) (named : IsNamed now)
    (shows : Shows setting now (brought (game setting) (holds held) moment f)) where
  abbrev brought_there : Stamps (game setting)
  brought_there = brought (game setting) (holds held) moment f

  abbrev state : State
  state = brought_there.universe

  abbrev sight : Sight
  sight = sight_of setting player req moment state

  abbrev seen : CellId → View
  seen = view setting.cells state

  abbrev asks : CellId → Bool
  asks = asked setting.cells seen player req

  -- what the request comes to, by its number
  abbrev came : ℕ → Outcome
  came number = outcome (at_number number sight) player req

  comes_to : ComesTo sight player req came
  comes_to = comes-to sight player req

  -- its number
  abbrev drawn : ℕ
  drawn = state.number + 1

  -- what it makes of each cell, with its number and with 0
  abbrev after_step : CellId → View
  after_step cell = view setting.cells (step setting player req moment state).state cell

  abbrev left0 : CellId → View
  left0 cell = left_view setting player req moment state (came 0).change cell

  -- the number of the last request
  count-is : state.number ≡ f.universe.number
  count-is = (prepares (game setting) (game_laws setting) (holds held) moment f (can-good (game setting) (game_laws setting) (holds held) moment f can.advance.can_bring)).count

  inside : (cell : CellId) → asks cell ≡ true → holds now cell ≡ true
  inside = asked-held setting kept places held player req moment f can now same shows

  fine : KeepsRules setting state
  fine = (is-ready setting kept places held player req moment f can now same shows).fine

  stepped : (cell : CellId) → after_step cell ≡ record (left_view setting player req moment state (came drawn).change cell) { units = (after_step cell).units }
  stepped = stepped-seen setting player req moment state (holds held) (is-ready setting kept places held player req moment f can now same shows)

  held-view : (cell : CellId) → holds now cell ≡ true → seen_held now cell ≡ seen cell
  held-view cell there = held-seen setting now brought_there cell shows there

  -- the units of all accounts but the caller's stay
  apart-units : (cell : CellId) → same_cell (Account player) cell ≡ false → (after_step cell).units ≡ (seen cell).units
  apart-units (Planet at) apart = refl
  apart-units (Account k) apart =
      ap (λ (v : View). v.units) (step-view setting player req moment state (Account k))
      ∙ units-other setting player req moment state came drawn k (number-turned k.k player.k ∙ apart) fine comes_to

  caller-units : (after_step (Account player)).units ≡ units_after (seen (Account player)).units req (came drawn)
  caller-units = ap (λ (v : View). v.units) (step-view setting player req moment state (Account player)) ∙ units-made setting player req moment state came drawn fine comes_to

  -- an entry of this request acts in the same way
  entry-view : (entry : Entry) → entry.player ≡ player → entry.req ≡ req → (cell : CellId) → after_step cell ≡ view setting.cells (request_acts (game setting) (holds held) moment entry f).universe cell
  entry-view entry is_player is_req cell = (λ i. view setting.cells (step setting (sym is_player i) (sym is_req i) moment state).state cell)

  module _ (parts after : Parts) (taken : AreTaken setting.cells (seen_by now player) player req parts) (acted : Acted) (acts : Acts kept moment req parts after acted) where
    shown_parts : AreShown (at_number 0 sight) player kept moment req parts
    shown_parts = are-shown setting kept places held player req moment f can now same shows parts taken

    comes : Comes (at_number 0 sight) player req (came 0) parts after acted
    comes = acts (at_number 0 sight) player shown_parts

    answered : record { code = acted.code; body = acted.body } ≡ (outcome sight player req).answer
    answered = (λ i. record { code = comes.code i; body = comes.body i }) ∙ answer-same sight player req came 0 drawn comes_to

    replied : (number : ℕ) → number ≡ f.universe.number + 1 → record { number = number; moment = moment; code = acted.code; body = acted.body } ≡ (step setting player req moment state).reply
    replied number next =
        reply-is setting player req moment number (record { code = acted.code; body = acted.body }) state (next ∙ ap (λ n. n + 1) (sym count-is)) answered

    -- the plan of a request that is refused: the cells as they are
    pub refused-plan : (acted.code ≡ 0 → ⊥) → IsPlan setting held player req moment f (record { cells = now; moment = moment; code = acted.code; body = acted.body; ordered = None })
    refused-plan denied =
        let reason : (outcome sight player req).answer.code ≡ 0 → ⊥ = λ none. denied (ap (λ (a : Answer). a.code) answered ∙ none) in
        record {
          same = same;
          named = named;
          shows = λ number entry next is_player is_req cell.
              if_shown (held_at now cell) (ShowsCell setting brought_there cell) (ShowsCell setting (request_acts (game setting) (holds held) moment entry f) cell)
              (λ stand shown. record {
                second = shown.second;
                seen = shown.seen ∙ sym (refused-stepped setting player req moment state cell reason) ∙ entry-view entry is_player is_req cell;
              }) (shows cell);
          replied = replied;
        }

    -- A request that is granted.
    module _ (zero : acted.code ≡ 0) where
      code_is : (came 0).answer.code ≡ 0
      code_is = sym comes.code ∙ zero

      given : IsGranted sight player req
      given = granted-stands setting player req moment state fine 0 comes_to code_is

      caller-asked : asks (Account player) ≡ true
      caller-asked = shown-account asks seen (Account player) given.account given.caller

      caller-held : holds now (Account player) ≡ true
      caller-held = inside (Account player) caller-asked

      -- so what is taken is what is held
      taken-held : (cell : CellId) → seen_by now player cell ≡ seen_held now cell
      taken-held cell = ap (λ b. cond b (seen_held now cell) nothing_seen) caller-held

      -- the caller's fleets
      caller-fleets : flown sight player ≡ parts.fleets.caller
      caller-fleets =
          let there : is_there (account_seen parts.caller parts.fleets.caller).own ≡ true = ap (λ (v : View). is_there v.own) (sym shown_parts.caller) ∙ ap is_there given.caller in
          let account = account-some parts.caller parts.fleets.caller there in
          ap (λ (v : View). v.fleets) shown_parts.caller ∙ ap (λ (o : Option AccountOfProgram). (account_seen o parts.fleets.caller).fleets) account.1

      abbrev from_named : Option Coord
      from_named = from_place player parts.fleets.caller req

      abbrev to_named : Option Coord
      to_named = to_place player parts.fleets.caller req

      from-is : from_place player (flown sight player) req ≡ from_named
      from-is = ap (λ fleets. from_place player fleets req) caller-fleets

      to-is : to_place player (flown sight player) req ≡ to_named
      to-is = ap (λ fleets. to_place player fleets req) caller-fleets

      -- a cell is left at the moment as the request leaves it, but for the number 0
      record IsLeft (cell : CellId) (stand : Stand) : Type 0 where
        second_is : stand.second ≡ moment
        seen_is : stand.seen ≡ record (left0 cell) { units = (after_step cell).units }
        there : holds now cell ≡ true

      -- what is asked for is shown as it is
      asked-view : (cell : CellId) → asks cell ≡ true → seen_after (at_number 0 sight) (came 0).change cell ≡ left0 cell
      asked-view cell has =
          ap (λ v. after_view (came 0).change cell v ((came 0).change.own cell)) (shown-there asks seen cell has)
          ∙ ap (λ b. after_view (came 0).change cell (seen cell) (cond b ((came 0).change.own cell) (seen cell).own)) (sym has)

      -- The caller's account.
      left-caller : (o : Option AccountOfProgram) (fleets : List Fleet) → IfSome o (λ a. a.player ≡ player)
          → account_seen o fleets ≡ record (seen_after (at_number 0 sight) (came 0).change (Account player)) { units = units_after (sight.seen (Account player)).units req (came 0) }
          → (cell : CellId) → hits_account o cell ≡ true → IsLeft cell (record { second = moment; seen = account_seen o fleets })
      left-caller None fleets whose is cell hits = never false hits refl
      left-caller (Some a) fleets whose is cell hits =
          let units : units_after (sight.seen (Account player)).units req (came 0) ≡ (after_step (Account player)).units =
          ap (λ (v : View). units_after v.units req (came 0)) (shown-there asks seen (Account player) caller-asked)
          ∙ ap (λ (x : Answer). (seen (Account player)).units + cond (eqb x.code 0) (units_ordered req) 0) (answer-same sight player req came 0 drawn comes_to)
          ∙ sym caller-units in
          let view_is = asked-view (Account player) caller-asked in
          subst (λ c. IsLeft c (record { second = moment; seen = account_seen (Some a) fleets })) (ap Account (sym whose) ∙ cell-is (Account a.player) cell hits)
          (record { second_is = refl; seen_is = is ∙ (λ i. record (view_is i) { units = units i }); there = caller-held })

      -- A planet.
      left-planet : (at : Coord) (p : PlanetOfProgram) (fleets : List Fleet) → IsLeftAs (at_number 0 sight) (came 0).change at (Some p) fleets
          → (cell : CellId) → same_cell (Planet p.at) cell ≡ true → IsLeft cell (record { second = moment; seen = planet_seen (Some p) fleets })
      left-planet at p fleets left cell hits =
          let stands : is_there (own_seen sight (Planet at)) ≡ true = sym (own-there setting player req moment state fine 0 (Planet at) comes_to) ∙ ap (λ (v : View). is_there v.own) (sym left.seen) in
          let has = shown-asked (asks (Planet at)) (seen (Planet at)) stands in
          subst (λ c. IsLeft c (record { second = moment; seen = planet_seen (Some p) fleets })) (ap Planet (sym left.place) ∙ cell-is (Planet p.at) cell hits)
          (record { second_is = refl; seen_is = left.seen ∙ asked-view (Planet at) has; there = inside (Planet at) has })

      left-place : (place : Option Coord) (o : Option PlanetOfProgram) (fleets : List Fleet) → IfSome place (λ at. IsLeftAs (at_number 0 sight) (came 0).change at o fleets)
          → (cell : CellId) → hits_planet place o cell ≡ true → IsLeft cell (record { second = moment; seen = planet_seen o fleets })
      left-place None o fleets left cell hits = never false hits refl
      left-place (Some at) None fleets left cell hits = never false hits refl
      left-place (Some at) (Some p) fleets left cell hits = left-planet at p fleets left cell hits

      -- The account of the owner of the planet to which a fleet is sent, or flies.
      owner-apart : (owner : Player) → same_player owner player ≡ false → IsApart sight player req (Account owner)
      owner-apart owner other = record {
        caller = number-turned player.k owner.k ∙ other;
        from = no-account (from_place player (flown sight player) req);
        to = no-account (to_place player (flown sight player) req);
      }
        where
          no-account : (place : Option Coord) → is_named place (Account owner) ≡ false
          no-account None = refl
          no-account (Some at) = refl

      other-is : (o : Option PlanetOfProgram) (owner : Player) → other_owner player o ≡ Some owner → same_player owner player ≡ false
      other-is None owner is = absurd (cc is)
      other-is (Some p) owner is = foreign (same_player p.owner player) refl is
        where
          foreign : (b : Bool) → same_player p.owner player ≡ b → cond b None (Some p.owner) ≡ Some owner → same_player owner player ≡ false
          foreign true mine is = absurd (cc is)
          foreign false other is = let one : p.owner ≡ owner = cc in ap (λ k. same_player k player) (sym one) ∙ other

      left-owner : (name : Option Player) (o : Option AccountOfProgram) → other_owner player parts.to ≡ name
          → MatchOption name (o ≡ None) (λ owner. IsTakenOf (seen_by now player (Account owner)) owner o parts.fleets.to_owner)
          → IfSome o (λ a. after.fleets.to_owner ≡ fleets_after (came 0).change (Account a.player) parts.fleets.to_owner)
          → (cell : CellId) → hits_account o cell ≡ true → IsLeft cell (record { second = moment; seen = account_seen o after.fleets.to_owner })
      left-owner None o name_is is linked cell hits = never false (ap (λ x. hits_account x cell) (sym is) ∙ hits) refl
      left-owner (Some owner) None name_is is linked cell hits = never false hits refl
      left-owner (Some owner) (Some a) name_is is linked cell hits =
          let x : CellId = Account owner in
          let whose : a.player ≡ owner = is.whose in
          let other = other-is parts.to owner name_is in
          let apart = owner-apart owner other in
          let taken_is : seen_held now x ≡ account_seen (Some a) parts.fleets.to_owner = sym (taken-held x) ∙ is.seen in
          let held_there : holds now x ≡ true = seen-held (held_at now x) (ap (λ (v : View). is_there v.own) taken_is) in
          let seen_there : seen x ≡ account_seen (Some a) parts.fleets.to_owner = sym (held-view x held_there) ∙ taken_is in
          let own : (seen x).own ≡ own_after setting player req moment state (came 0).change x = sym (elim (test (asks x)) [
            | inl has ↦
                ap (λ b. cond b ((came 0).change.own x) (seen x).own) has ∙ apart-own setting player req moment state fine x apart 0 comes_to ∙ ap (λ (v : View). v.own) (shown-there asks seen x has)
            | inr out ↦ ap (λ b. cond b ((came 0).change.own x) (seen x).own) out
          ]) in
          let queue = fun_ext (λ class. sym (ap (λ b. cond b (came 0).change.items ((seen x).queue class)) (apart-queue setting player req moment state fine x apart 0 class comes_to))) in
          let fleets : after.fleets.to_owner ≡ fleets_after (came 0).change x (seen x).fleets =
          linked ∙ (λ i. fleets_after (came 0).change (Account (whose i)) parts.fleets.to_owner) ∙ ap (λ (v : View). fleets_after (came 0).change x v.fleets) (sym seen_there) in
          let units = sym (apart-units x apart.caller) in
          subst (λ c. IsLeft c (record { second = moment; seen = account_seen (Some a) after.fleets.to_owner })) (ap Account (sym whose) ∙ cell-is (Account a.player) cell hits)
          (record {
            second_is = refl;
            seen_is = ap (λ (v : View). record v { fleets = after.fleets.to_owner }) (sym seen_there) ∙ (λ i. record (seen x) { own = own i; queue = queue i; fleets = fleets i; units = units i });
            there = held_there;
          })

      -- All other cells.
      apart-caller : (o : Option AccountOfProgram) (fleets : List Fleet) (cell : CellId) → is_there (account_seen o fleets).own ≡ true → IfSome o (λ a. a.player ≡ player) → hits_account o cell ≡ false
          → same_cell (Account player) cell ≡ false
      apart-caller None fleets cell there whose misses = never false there refl
      apart-caller (Some a) fleets cell there whose misses = ap (λ k. same_cell (Account k) cell) (sym whose) ∙ misses

      apart-place : (place : Option Coord) (o : Option PlanetOfProgram) (fleets : List Fleet) (cell : CellId) → StandsAt sight place
          → IfSome place (λ at. IsLeftAs (at_number 0 sight) (came 0).change at o fleets) → hits_planet place o cell ≡ false → is_named place cell ≡ false
      apart-place None o fleets cell stands left misses = refl
      apart-place (Some at) None fleets cell stands left misses =
          never false (ap (λ (v : View). is_there v.own) left.seen ∙ own-there setting player req moment state fine 0 (Planet at) comes_to ∙ ap is_there stands.1) refl
      apart-place (Some at) (Some p) fleets cell stands left misses = ap (λ a. same_cell (Planet a) cell) (sym left.place) ∙ misses

      owner-misses : (name : Option Player) (o : Option AccountOfProgram) (owner : Player) (cell : CellId) → name ≡ Some owner
          → MatchOption name (o ≡ None) (λ k. IsTakenOf (seen_by now player (Account k)) k o parts.fleets.to_owner) → hits_account o cell ≡ false → holds now cell ≡ true
          → same_cell (Account owner) cell ≡ false
      owner-misses None o owner cell is taken_is misses there = absurd (cc is)
      owner-misses (Some k) None owner cell is taken_is misses there =
          let one : k ≡ owner = cc in
          fails (same_cell (Account owner) cell) (λ hits.
          let place : Account k ≡ cell = ap Account one ∙ cell-is (Account owner) cell hits in
          let nothing : seen_held now cell ≡ nothing_seen = ap (seen_held now) (sym place) ∙ sym (taken-held (Account k)) ∙ taken_is.seen in
          never (is_there (seen_held now cell).own) (held-there now cell there) (ap (λ (v : View). is_there v.own) nothing))
      owner-misses (Some k) (Some a) owner cell is taken_is misses there =
          let one : k ≡ owner = cc in ap (λ x. same_cell (Account x) cell) (sym one ∙ sym taken_is.whose) ∙ misses

      apart-theirs : (cell : CellId) → hits_account parts.to_owner cell ≡ false → holds now cell ≡ true → IsForeign sight player req cell
      apart-theirs cell misses there at planet place stands other =
          theirs-at parts.to (if-place to_named (sym to-is ∙ place) shown_parts.to) taken.to_owner
        where
          if-place : (name : Option Coord) → name ≡ Some at → IfSome name (λ x. IsSeenAs (at_number 0 sight) x parts.to parts.fleets.to) → IsSeenAs (at_number 0 sight) at parts.to parts.fleets.to
          if-place None is as_seen = absurd (cc is)
          if-place (Some x) is as_seen = let one : x ≡ at = cc in subst (λ y. IsSeenAs (at_number 0 sight) y parts.to parts.fleets.to) one as_seen

          theirs-at : (o : Option PlanetOfProgram) → IsSeenAs (at_number 0 sight) at o parts.fleets.to
              → MatchOption (other_owner player o) (parts.to_owner ≡ None) (λ k. IsTakenOf (seen_by now player (Account k)) k parts.to_owner parts.fleets.to_owner)
              → same_cell (Account planet.owner) cell ≡ false
          theirs-at None as_seen taken_is = never false (ap (λ (v : View). is_there v.own) (sym as_seen.seen) ∙ ap is_there stands) refl
          theirs-at (Some p) as_seen taken_is =
              let both : of_planet planet ≡ of_planet (fields_of p) = sym stands ∙ ap (λ (v : View). v.own) as_seen.seen in
              let one : planet ≡ fields_of p = cc in
              let whose : planet.owner ≡ p.owner = ap (λ (x : PlanetFields). x.owner) one in
              owner-misses (other_owner player (Some p)) parts.to_owner planet.owner cell
              (ap (λ b. cond b None (Some p.owner)) (ap (λ k. same_player k player) (sym whose) ∙ other) ∙ ap Some (sym whose)) taken_is misses there

      left-other : (cell : CellId) (stand : Stand) → held_at now cell ≡ Some stand → ShowsCell setting brought_there cell stand → hits_account after.caller cell ≡ false → hits_planet from_named after.from cell ≡ false
          → hits_planet to_named after.to cell ≡ false → hits_account after.to_owner cell ≡ false → IsLeft cell stand
      left-other cell stand is shown misses_caller misses_from misses_to misses_owner =
          let there : holds now cell ≡ true = ap is_some is in
          let caller_there : is_there (account_seen after.caller after.fleets.caller).own ≡ true =
          ap (λ (v : View). is_there v.own) comes.caller ∙ own-there setting player req moment state fine 0 (Account player) comes_to ∙ ap is_there given.caller in
          let apart : IsApart sight player req cell = record {
            caller = apart-caller after.caller after.fleets.caller cell caller_there comes.whose misses_caller;
            from = ap (λ p. is_named p cell) from-is ∙ apart-place from_named after.from after.fleets.from cell (subst (StandsAt sight) from-is given.place) comes.from misses_from;
            to = ap (λ p. is_named p cell) to-is ∙ apart-place to_named after.to after.fleets.to cell (subst (StandsAt sight) to-is given.away) comes.to misses_to;
          } in
          let stays = apart-view setting player req moment state fine cell apart (apart-theirs cell (ap (λ o. hits_account o cell) (sym comes.to_owner) ∙ misses_owner) there) 0 comes_to in
          let units = sym (apart-units cell apart.caller) in
          record {
            second_is = shown.second ∙ at-inside (game setting) (holds held) moment (happened (game setting) (holds held) moment f) cell (sym (same cell) ∙ there);
            seen_is = shown.seen ∙ (λ i. record (sym stays i) { units = units i });
            there = there;
          }

      -- what is held once the parts are put back
      module _ (cells : Held) (puts : PutsParts from_named to_named after moment now cells) where
        chain : (cell : CellId) → held_at cells cell
            ≡ cond (hits_account after.to_owner cell) (Some (record { second = moment; seen = account_seen after.to_owner after.fleets.to_owner }))
            (cond (hits_planet to_named after.to cell) (Some (record { second = moment; seen = planet_seen after.to after.fleets.to }))
            (cond (hits_planet from_named after.from cell) (Some (record { second = moment; seen = planet_seen after.from after.fleets.from }))
            (cond (hits_account after.caller cell) (Some (record { second = moment; seen = account_seen after.caller after.fleets.caller })) (held_at now cell))))
        chain cell =
            put-account after.to_owner after.fleets.to_owner moment puts.three cells cell puts.puts_to_owner
            ∙ ap (λ o. cond (hits_account after.to_owner cell) (Some (record { second = moment; seen = account_seen after.to_owner after.fleets.to_owner })) o)
            (put-planet to_named after.to after.fleets.to moment puts.two puts.three cell puts.puts_to
            ∙ ap (λ o. cond (hits_planet to_named after.to cell) (Some (record { second = moment; seen = planet_seen after.to after.fleets.to })) o)
            (put-planet from_named after.from after.fleets.from moment puts.one puts.two cell puts.puts_from
            ∙ ap (λ o. cond (hits_planet from_named after.from cell) (Some (record { second = moment; seen = planet_seen after.from after.fleets.from })) o)
            (put-account after.caller after.fleets.caller moment now puts.one cell puts.puts_caller)))

        owner-left : (cell : CellId) → hits_account after.to_owner cell ≡ true → IsLeft cell (record { second = moment; seen = account_seen after.to_owner after.fleets.to_owner })
        owner-left cell hits =
            subst (λ o. IsLeft cell (record { second = moment; seen = account_seen o after.fleets.to_owner })) (sym comes.to_owner)
            (left-owner (other_owner player parts.to) parts.to_owner refl taken.to_owner comes.linked cell (ap (λ o. hits_account o cell) (sym comes.to_owner) ∙ hits))

        all-left : (cell : CellId) → IfSome (held_at cells cell) (IsLeft cell)
        all-left cell =
            subst (λ o. IfSome o (IsLeft cell)) (sym (chain cell))
            (held-if (IsLeft cell) (hits_account after.to_owner cell) _ _ (owner-left cell) (λ misses_owner.
            held-if (IsLeft cell) (hits_planet to_named after.to cell) _ _ (left-place to_named after.to after.fleets.to comes.to cell) (λ misses_to.
            held-if (IsLeft cell) (hits_planet from_named after.from cell) _ _ (left-place from_named after.from after.fleets.from comes.from cell) (λ misses_from.
            held-if (IsLeft cell) (hits_account after.caller cell) _ _ (left-caller after.caller after.fleets.caller comes.whose comes.caller cell) (λ misses_caller.
            if-some-held (held_at now cell) (ShowsCell setting brought_there cell) (IsLeft cell)
            (λ stand is shown. left-other cell stand is shown misses_caller misses_from misses_to misses_owner) (shows cell))))))

        still-there : (cell : CellId) → holds cells cell ≡ holds held cell
        still-there cell =
            ap is_some (chain cell)
            ∙ held-still (hits_account after.to_owner cell) _ _ (held_at now cell) (λ hits. (owner-left cell hits).there)
            (held-still (hits_planet to_named after.to cell) _ _ (held_at now cell) (λ hits. (left-place to_named after.to after.fleets.to comes.to cell hits).there)
            (held-still (hits_planet from_named after.from cell) _ _ (held_at now cell) (λ hits. (left-place from_named after.from after.fleets.from comes.from cell hits).there)
            (held-still (hits_account after.caller cell) _ _ (held_at now cell) (λ hits. (left-caller after.caller after.fleets.caller comes.whose comes.caller cell hits).there) refl)))
            ∙ same cell

        -- with its number each cell shows what the request makes of it
        module _ (ordered : Option Ordered) (marks : IsOrdered (queue_ordered player req) (fleet_ordered req after.fleets.caller) ordered) where
          fleets-before : (before : List Fleet) × (after.fleets.caller ≡ fleets_after (came 0).change (Account player) before)
          fleets-before =
              let there : is_there (account_seen after.caller after.fleets.caller).own ≡ true =
              ap (λ (v : View). is_there v.own) comes.caller ∙ own-there setting player req moment state fine 0 (Account player) comes_to ∙ ap is_there given.caller in
              let account = account-some after.caller after.fleets.caller there in (
                (sight.seen (Account player)).fleets,
                sym (ap (λ (o : Option AccountOfProgram). (account_seen o after.fleets.caller).fleets) account.1) ∙ ap (λ (v : View). v.fleets) comes.caller,
              )

          left-numbered : (cell : CellId) (stand : Stand) → IsLeft cell stand → number_seen drawn ordered cell stand.seen ≡ after_step cell
          left-numbered cell stand left =
              let own0 = own_after setting player req moment state (came 0).change cell in
              let units = (after_step cell).units in
              let own_same = ap (λ (o : CellId → Own). cond (asks cell) (o cell) (seen cell).own) (own-same sight player req came 0 drawn comes_to) in
              ap (number_seen drawn ordered cell) left.seen_is
              ∙ number-units drawn ordered cell (left0 cell) units
              ∙ ap (λ (v : View). record v { units = units }) (sym (view-ordered sight player req came drawn ordered after.fleets.caller cell (seen cell) own0 comes_to code_is marks fleets-before))
              ∙ ap (λ own. record (after_view (came drawn).change cell (seen cell) own) { units = units }) own_same
              ∙ sym (stepped cell)

          shows-left : (number : ℕ) (entry : Entry) (cell : CellId) → number ≡ f.universe.number + 1 → entry.player ≡ player → entry.req ≡ req → (o : Option Stand) → held_at cells cell ≡ o → IfSome o (IsLeft cell)
              → IfSome (ordered_at number ordered cells cell) (ShowsCell setting (request_acts (game setting) (holds held) moment entry f) cell)
          shows-left number entry cell next is_player is_req None is left =
              subst (λ (o : Option Stand). IfSome o (ShowsCell setting (request_acts (game setting) (holds held) moment entry f) cell)) (sym (numbered-none number ordered cells cell is)) tt
          shows-left number entry cell next is_player is_req (Some stand) is left =
              let count : number ≡ drawn = next ∙ ap (λ n. n + 1) (sym count-is) in
              let holds_there : holds held cell ≡ true = sym (same cell) ∙ left.there in
              subst (λ (o : Option Stand). IfSome o (ShowsCell setting (request_acts (game setting) (holds held) moment entry f) cell)) (sym (numbered-here number ordered cells cell stand is))
              (record {
                second = left.second_is ∙ sym (at-inside (game setting) (holds held) moment (happened (game setting) (holds held) moment f) cell holds_there);
                seen = (λ i. number_seen (count i) ordered cell stand.seen) ∙ left-numbered cell stand left ∙ entry-view entry is_player is_req cell;
              })

          -- the plan of a request that is granted: the parts that it left are put back
          pub granted-plan : IsNamed cells → IsPlan setting held player req moment f (record { cells = cells; moment = moment; code = acted.code; body = acted.body; ordered = ordered })
          granted-plan named_now = record {
            same = still-there;
            named = named_now;
            shows = λ number entry next is_player is_req cell. shows-left number entry cell next is_player is_req (held_at cells cell) refl (all-left cell);
            replied = replied;
          }
