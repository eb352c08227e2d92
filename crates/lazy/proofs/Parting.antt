-- What a request that is granted stands on, and that it leaves all cells but those of its parts as they are.
use Rattle.std.proofs.Common.{◌≡◌, ℕ, Bool, true, false, cond, eqb, ◌&&◌, ◌||◌, List, [], ◌∷◌, ◌++◌, filter, refl, ap, ◌∙◌, sym, subst, arith, inl, inr, Option, Some, None}
use Rattle.std.proofs.Math.Path.{fun_ext}
use Rattle.std.proofs.lemmas.List.{append-nil}
use Rattle.std.specs.List.{filter_map}
use Rattle.base_ids.specs.Cells.{same_cell, same_coord, same_player}
use Rattle.base_ids.specs.declared.cell_id.CellId.{CellId}
use Rattle.base_ids.specs.declared.cell_id.CellId.TheVariants.{Account, Planet}
use Rattle.base_ids.specs.declared.coord.Coord.{Coord}
use Rattle.base_ids.specs.declared.fleet_number.FleetNumber.{FleetNumber}
use Rattle.base_ids.specs.declared.player.Player.{Player}
use Rattle.fleet_rec.specs.Fleet.{numbered as fleet_with}
use Rattle.laziness.proofs.Bringing.{never, test}
use Rattle.lazy.proofs.Outcoming.{ComesTo, IsGranted, IsLeaving, StandsAt, after_view, at_number, called_at, calls_back, comes-to, flown, is_named, keeps, orders, refuses, sends_out}
use Rattle.orders.specs.Acting.{elsewhere, fleets_after, from_place, origin_of, outbound, target_of, to_place}
use Rattle.request_text.specs.declared.request.Request.{Request}
use Rattle.request_text.specs.declared.request.Request.TheVariants.{Recall}
use Rattle.tick_model.proofs.Asked.{in-listed, shown-some, shown-there}
use Rattle.tick_model.proofs.Brought.{fleet-listed}
use Rattle.tick_model.proofs.Fleets.{IsFleetOf, fleet-found}
use Rattle.tick_model.proofs.Landings.{flies-in}
use Rattle.tick_model.proofs.Lists.{and-from, and-is, cell-is, cell-itself, fails, filter-all, filter_map-all, fleet-one, from-filter, number-is, player-from, same_number}
use Rattle.tick_model.proofs.Owns.{alike-stays, stays-there}
use Rattle.tick_model.specs.Changes.{Change}
use Rattle.tick_model.specs.Requests.{Outcome, Sight, asked, is_listed, is_there, names, outcome, own_seen}
use Rattle.tick_model.specs.Rules.{IsIn, KeepsRules, queue_cell}
use Rattle.tick_model.specs.Sending.{belongs_out, fleet_of}
use Rattle.tick_model.specs.Step.{sight_of}
use Rattle.tick_model.specs.Universe.{Buildings, Researches, Yard, Fleet, Own, PlanetFields, QueueClass, Setting, State, of_planet}
use Rattle.tick_model.specs.Views.{View, belongs, view}

-- a fleet that is sent, or called back: the caller's, between two planets that stand
pub record IsAbout (sight : Sight) (player : Player) (req : Request) (fleet : Fleet) : Type 0 where
  pub from : PlanetFields
  pub leaves : own_seen sight (Planet fleet.origin) ≡ of_planet from
  pub is_own : from.owner ≡ player
  pub to : PlanetFields
  pub reaches : own_seen sight (Planet fleet.target) ≡ of_planet to
  pub is_theirs : to.owner ≡ fleet.target_owner
  pub owner : fleet.owner ≡ player
  pub from_is : from_place player (flown sight player) req ≡ Some fleet.origin
  pub to_is : to_place player (flown sight player) req ≡ elsewhere fleet.origin fleet.target

-- a cell is none of the parts of a request
pub record IsApart (sight : Sight) (player : Player) (req : Request) (cell : CellId) : Type 0 where
  pub caller : same_cell (Account player) cell ≡ false
  pub from : is_named (from_place player (flown sight player) req) cell ≡ false
  pub to : is_named (to_place player (flown sight player) req) cell ≡ false

-- nor is it the account of the owner of the planet to which a fleet is sent or flies
abbrev pub IsForeign : Sight → Player → Request → CellId → Type 0
IsForeign sight player req cell =
    (at : Coord) (planet : PlanetFields) → to_place player (flown sight player) req ≡ Some at → own_seen sight (Planet at) ≡ of_planet planet
    → same_player planet.owner player ≡ false → same_cell (Account planet.owner) cell ≡ false

stands-elsewhere : (sight : Sight) (from to : Coord) (planet : PlanetFields) → own_seen sight (Planet to) ≡ of_planet planet → StandsAt sight (elsewhere from to)
stands-elsewhere sight from to planet there = at (same_coord from to)
  where
    at : (b : Bool) → StandsAt sight (cond b None (Some to))
    at true = tt
    at false = (planet, there)

-- what a change makes of no fleet leaves them all
stays-mapped : (g : Fleet → Option Fleet) (fleets : List Fleet) → ((fleet : Fleet) → IsIn fleet fleets → g fleet ≡ Some fleet) → filter_map g fleets ≡ fleets
stays-mapped g [] all = refl
stays-mapped g (fleet ∷ fleets) all = rw (all fleet (inl refl)) (ap (λ rest. fleet ∷ rest) (stays-mapped g fleets (λ other is. all other (inr is))))

or-none : (a b c : Bool) → a ≡ false → b ≡ false → c ≡ false → (a || b || c) ≡ false
or-none true b c a_is b_is c_is = never true refl a_is
or-none false true c a_is b_is c_is = never true refl b_is
or-none false false true a_is b_is c_is = never true refl c_is
or-none false false false a_is b_is c_is = refl

and-none : (a b c : Bool) → b ≡ false → c ≡ false → (a && (b || c)) ≡ false
and-none false b c b_is c_is = refl
and-none true true c b_is c_is = never true refl b_is
and-none true false true b_is c_is = never true refl c_is
and-none true false false b_is c_is = refl

first-none : (a b : Bool) → a ≡ false → (a && b) ≡ false
first-none true b is = never true refl is
first-none false b is = refl

either-second : (a b : Bool) → b ≡ true → (a || b) ≡ true
either-second true b is = refl
either-second false b is = is

first-true : (a b c : Bool) → a ≡ true → (a || b || c) ≡ true
first-true true true c is = refl
first-true true false c is = refl
first-true false b c is = never false is refl

last-true : (a b c : Bool) → c ≡ true → (a || b || c) ≡ true
last-true true true true is = refl
last-true true false true is = refl
last-true false true true is = refl
last-true false false true is = refl
last-true a b false is = never false is refl

either-true : (a b : Bool) → a ≡ true → (a || b) ≡ true
either-true true b is = refl
either-true false b is = never false is refl

origin-belongs : (fleet : Fleet) → belongs (Planet fleet.origin) fleet ≡ true
origin-belongs fleet =
    first-true (same_cell (Planet fleet.origin) (Planet fleet.origin)) (same_cell (Account fleet.owner) (Planet fleet.origin))
    (fleet.outbound && (same_cell (Planet fleet.target) (Planet fleet.origin) || same_cell (Account fleet.target_owner) (Planet fleet.origin))) (cell-itself (Planet fleet.origin))

target-belongs : (fleet : Fleet) → fleet.outbound ≡ true → belongs (Planet fleet.target) fleet ≡ true
target-belongs fleet out =
    last-true (same_cell (Planet fleet.origin) (Planet fleet.target)) (same_cell (Account fleet.owner) (Planet fleet.target))
    (fleet.outbound && (same_cell (Planet fleet.target) (Planet fleet.target) || same_cell (Account fleet.target_owner) (Planet fleet.target)))
    (and-from fleet.outbound (same_cell (Planet fleet.target) (Planet fleet.target) || same_cell (Account fleet.target_owner) (Planet fleet.target)) out
    (either-true (same_cell (Planet fleet.target) (Planet fleet.target)) (same_cell (Account fleet.target_owner) (Planet fleet.target)) (cell-itself (Planet fleet.target))))

module _ (setting : Setting) (player : Player) (req : Request) (moment : ℕ) (state : State) (fine : KeepsRules setting state) where
  abbrev asks : CellId → Bool
  asks = asked setting.cells (view setting.cells state) player req

  abbrev sight : Sight
  sight = sight_of setting player req moment state

  abbrev came : ℕ → Outcome
  came number = outcome (at_number number sight) player req

  abbrev seen : CellId → View
  seen = view setting.cells state

  -- a cell is there after a request just if it was
  pub own-there : (number : ℕ) (cell : CellId) → ComesTo sight player req came → is_there ((came number).change.own cell) ≡ is_there (own_seen sight cell)
  own-there number cell (refuses code reason is) = ap (λ (x : Outcome). is_there (x.change.own cell)) (is number)
  own-there number cell (keeps body own given none alike leaves is) =
      ap (λ (x : Outcome). is_there (x.change.own cell)) (is number) ∙ stays-there (own_seen sight cell) (own cell) (alike-stays (own_seen sight cell) (own cell) (alike cell))
  own-there number cell (orders body own queue item given place joining alike leaves is) =
      ap (λ (x : Outcome). is_there (x.change.own cell)) (is number) ∙ stays-there (own_seen sight cell) (own cell) (alike-stays (own_seen sight cell) (own cell) (alike cell))
  own-there number cell (sends_out body own fleet given leaving is) =
      ap (λ (x : Outcome). is_there (x.change.own cell)) (is number) ∙ ap (λ (o : CellId → Own). is_there (o cell)) leaving.own_is ∙ put-there (same_cell (Planet fleet.origin) cell) refl
    where
      put-there : (b : Bool) → same_cell (Planet fleet.origin) cell ≡ b → is_there (cond b (of_planet leaving.left) (own_seen sight cell)) ≡ is_there (own_seen sight cell)
      put-there true same = sym (ap is_there (ap (own_seen sight) (sym (cell-is (Planet fleet.origin) cell same)) ∙ leaving.leaves))
      put-there false apart = refl
  own-there number cell (calls_back body called fleet account caller none recall found out is) = ap (λ (x : Outcome). is_there (x.change.own cell)) (is number)

  -- A fleet that is called back.
  module _ (number : FleetNumber) (fleet : Fleet) (is : req ≡ Recall number) (found : fleet_of player number.f (flown sight player) ≡ Some fleet) (out : fleet.outbound ≡ true) where
    theirs : IsFleetOf player number.f (flown sight player) fleet
    theirs = fleet-found player number.f (flown sight player) fleet found

    caller-asked : asks (Account player) ≡ true
    caller-asked = shown-some asks seen (Account player) fleet theirs.within

    caller-seen : sight.seen (Account player) ≡ seen (Account player)
    caller-seen = shown-there asks seen (Account player) caller-asked

    called-flies : IsIn fleet state.fleets
    called-flies = flies-in setting.cells state (Account player) fleet (subst (λ (v : View). IsIn fleet v.fleets) caller-seen theirs.within)

    called-asked : (x : CellId) → belongs x fleet ≡ true → asks x ≡ true
    called-asked x has =
        let caller = and-is (is_listed setting.cells (Account player) && is_listed setting.cells (Account player))
        (same_cell (Account player) (Account player) || names seen player req (Account player)) caller-asked in
        let listed = and-from (is_listed setting.cells (Account player)) (is_listed setting.cells x)
        (and-is (is_listed setting.cells (Account player)) (is_listed setting.cells (Account player)) caller.0).0
        (in-listed setting.cells x (fleet-listed setting state fleet x fine called-flies has)) in
        let there : fleet_of player number.f (seen (Account player)).fleets ≡ Some fleet = ap (λ (v : View). fleet_of player number.f v.fleets) (sym caller-seen) ∙ found in
        let named : names seen player (Recall number) x ≡ true = ap (belongs_out x) there ∙ and-from fleet.outbound (belongs x fleet) out has in
        and-from (is_listed setting.cells (Account player) && is_listed setting.cells x) (same_cell (Account player) x || names seen player req x) listed
        (either-second (same_cell (Account player) x) (names seen player req x) (ap (λ r. names seen player r x) is ∙ named))

    called-about : IsAbout sight player req fleet
    called-about =
        let flying = fine.flying fleet called-flies in
        let home : asks (Planet fleet.origin) ≡ true = called-asked (Planet fleet.origin) (origin-belongs fleet) in
        let away : asks (Planet fleet.target) ≡ true = called-asked (Planet fleet.target) (target-belongs fleet out) in
        record {
          from = flying.from;
          leaves = ap (λ (v : View). v.own) (shown-there asks seen (Planet fleet.origin) home) ∙ flying.leaves;
          is_own = flying.is_own ∙ player-from fleet.owner player theirs.owner_is;
          to = flying.to;
          reaches = ap (λ (v : View). v.own) (shown-there asks seen (Planet fleet.target) away) ∙ flying.reaches;
          is_theirs = flying.is_theirs;
          owner = player-from fleet.owner player theirs.owner_is;
          from_is = ap (from_place player (flown sight player)) is ∙ ap (λ o. origin_of (outbound o)) found ∙ ap (λ b. origin_of (cond b (Some fleet) None)) out;
          to_is = ap (to_place player (flown sight player)) is ∙ ap (λ o. target_of (outbound o)) found ∙ ap (λ b. target_of (cond b (Some fleet) None)) out;
        }

  leaving-about : (own : CellId → Own) (fleet : Fleet) → IsLeaving sight player req own fleet → IsAbout sight player req fleet
  leaving-about own fleet leaving = record {
    from = leaving.from;
    leaves = leaving.leaves;
    is_own = leaving.is_own;
    to = leaving.to;
    reaches = leaving.reaches;
    is_theirs = leaving.is_theirs;
    owner = leaving.owner;
    from_is = leaving.from_is;
    to_is = leaving.to_is;
  }

  -- a request that is granted is that of a player, and planets stand at the places that it is about
  pub granted-stands : (number : ℕ) → ComesTo sight player req came → (came number).answer.code ≡ 0 → IsGranted sight player req
  granted-stands number (refuses code reason is) zero = absurd (reason (ap (λ (x : Outcome). x.answer.code) (sym (is number)) ∙ zero))
  granted-stands number (keeps body own given none alike leaves is) zero = given
  granted-stands number (orders body own queue item given place joining alike leaves is) zero = given
  granted-stands number (sends_out body own fleet given leaving is) zero = given
  granted-stands number (calls_back body called fleet account caller none recall found out is) zero =
      let about = called-about called fleet recall found out in
      record {
        account = account;
        caller = caller;
        place = subst (StandsAt sight) (sym about.from_is) (about.from, about.leaves);
        away = subst (StandsAt sight) (sym about.to_is) (stands-elsewhere sight fleet.origin fleet.target about.to about.reaches);
      }

  -- A cell that is none of the parts.
  module _ (cell : CellId) (apart : IsApart sight player req cell) where
    -- its own fields stay
    pub apart-own : (number : ℕ) → ComesTo sight player req came → (came number).change.own cell ≡ own_seen sight cell
    apart-own number (refuses code reason is) = ap (λ (x : Outcome). x.change.own cell) (is number)
    apart-own number (keeps body own given none alike leaves is) = ap (λ (x : Outcome). x.change.own cell) (is number) ∙ leaves cell apart.from
    apart-own number (orders body own queue item given place joining alike leaves is) = ap (λ (x : Outcome). x.change.own cell) (is number) ∙ leaves cell apart.from
    apart-own number (sends_out body own fleet given leaving is) =
        let away : same_cell (Planet fleet.origin) cell ≡ false = ap (λ p. is_named p cell) (sym leaving.from_is) ∙ apart.from in
        ap (λ (x : Outcome). x.change.own cell) (is number) ∙ ap (λ (o : CellId → Own). o cell) leaving.own_is ∙ ap (λ b. cond b (of_planet leaving.left) (own_seen sight cell)) away
    apart-own number (calls_back body called fleet account caller none recall found out is) = ap (λ (x : Outcome). x.change.own cell) (is number)

    home-apart : (class : QueueClass) (at : Coord) → from_place player (flown sight player) req ≡ Some at → same_cell (queue_cell class at player) cell ≡ false
    home-apart Buildings at place = ap (λ p. is_named p cell) (sym place) ∙ apart.from
    home-apart Researches at place = apart.caller
    home-apart Yard at place = ap (λ p. is_named p cell) (sym place) ∙ apart.from

    -- and its queues
    pub apart-queue : (number : ℕ) (class : QueueClass) → ComesTo sight player req came → (came number).change.requeued cell class ≡ false
    apart-queue number class (refuses code reason is) = ap (λ (x : Outcome). x.change.requeued cell class) (is number)
    apart-queue number class (keeps body own given none alike leaves is) = ap (λ (x : Outcome). x.change.requeued cell class) (is number)
    apart-queue number class (sends_out body own fleet given leaving is) = ap (λ (x : Outcome). x.change.requeued cell class) (is number)
    apart-queue number class (calls_back body called fleet account caller none recall found out is) = ap (λ (x : Outcome). x.change.requeued cell class) (is number)
    apart-queue number class (orders body own queue item given place joining alike leaves is) =
        ap (λ (x : Outcome). x.change.requeued cell class) (is number)
        ∙ first-none (same_cell item.cell cell) _ (ap (λ x. same_cell x cell) joining.home ∙ home-apart item.class item.place joining.named)

    module _ (foreign : IsForeign sight player req cell) where
      not-theirs : (fleet : Fleet) → IsAbout sight player req fleet → belongs cell fleet ≡ false
      not-theirs fleet about =
          let origin : same_cell (Planet fleet.origin) cell ≡ false = ap (λ p. is_named p cell) (sym about.from_is) ∙ apart.from in
          let owner : same_cell (Account fleet.owner) cell ≡ false = ap (λ k. same_cell (Account k) cell) about.owner ∙ apart.caller in
          or-none (same_cell (Planet fleet.origin) cell) (same_cell (Account fleet.owner) cell) (fleet.outbound && (same_cell (Planet fleet.target) cell || same_cell (Account fleet.target_owner) cell))
          origin owner
          (and-none fleet.outbound (same_cell (Planet fleet.target) cell) (same_cell (Account fleet.target_owner) cell) (not-target (same_coord fleet.origin fleet.target) refl origin)
          (not-owner (same_coord fleet.origin fleet.target) refl))
        where
          not-target : (b : Bool) → same_coord fleet.origin fleet.target ≡ b → same_cell (Planet fleet.origin) cell ≡ false → same_cell (Planet fleet.target) cell ≡ false
          not-target true same origin = ap (λ x. same_cell x cell) (sym (cell-is (Planet fleet.origin) (Planet fleet.target) same)) ∙ origin
          not-target false other origin = ap (λ p. is_named p cell) (sym (about.to_is ∙ ap (λ b. cond b None (Some fleet.target)) other)) ∙ apart.to

          own-target : Planet fleet.origin ≡ Planet fleet.target → same_player fleet.target_owner player ≡ true
          own-target same =
              let planets : of_planet about.from ≡ of_planet about.to = sym about.leaves ∙ ap (own_seen sight) same ∙ about.reaches in
              let one : about.from ≡ about.to = cc in
              let whose : fleet.target_owner ≡ player = sym about.is_theirs ∙ ap (λ (p : PlanetFields). p.owner) (sym one) ∙ about.is_own in
              ap (λ k. same_player k player) whose ∙ same_number player.k

          not-owner : (b : Bool) → same_coord fleet.origin fleet.target ≡ b → same_cell (Account fleet.target_owner) cell ≡ false
          not-owner b place =
              elim (test (same_player fleet.target_owner player)) [
                | inl mine ↦ ap (λ k. same_cell (Account k) cell) (player-from fleet.target_owner player mine) ∙ apart.caller
                | inr other ↦ others b place other
              ]
            where
              others : (b : Bool) → same_coord fleet.origin fleet.target ≡ b → same_player fleet.target_owner player ≡ false → same_cell (Account fleet.target_owner) cell ≡ false
              others true same other = never (same_player fleet.target_owner player) (own-target (cell-is (Planet fleet.origin) (Planet fleet.target) same)) other
              others false elsewhere_is other =
                  ap (λ k. same_cell (Account k) cell) (sym about.is_theirs)
                  ∙ foreign fleet.target about.to (about.to_is ∙ ap (λ b. cond b None (Some fleet.target)) elsewhere_is) about.reaches
                  (ap (λ k. same_player k player) about.is_theirs ∙ other)

      all-belong : (fleet : Fleet) → IsIn fleet (seen cell).fleets → belongs cell fleet ≡ true
      all-belong fleet is = (from-filter (belongs cell) fleet state.fleets is).1

      same-fleets : filter (belongs cell) (filter_map Some (seen cell).fleets) ++ [] ≡ (seen cell).fleets
      same-fleets =
          append-nil (filter (belongs cell) (filter_map Some (seen cell).fleets)) ∙ ap (filter (belongs cell)) (filter_map-all (seen cell).fleets)
          ∙ filter-all (belongs cell) (seen cell).fleets all-belong

      -- and its fleets
      apart-fleets : (number : ℕ) → ComesTo sight player req came → fleets_after (came number).change cell (seen cell).fleets ≡ (seen cell).fleets
      apart-fleets number (refuses code reason is) = ap (λ (x : Outcome). fleets_after x.change cell (seen cell).fleets) (is number) ∙ same-fleets
      apart-fleets number (keeps body own given none alike leaves is) = ap (λ (x : Outcome). fleets_after x.change cell (seen cell).fleets) (is number) ∙ same-fleets
      apart-fleets number (orders body own queue item given place joining alike leaves is) = ap (λ (x : Outcome). fleets_after x.change cell (seen cell).fleets) (is number) ∙ same-fleets
      apart-fleets number (sends_out body own fleet given leaving is) =
          let new = fleet_with number fleet in
          ap (λ (x : Outcome). fleets_after x.change cell (seen cell).fleets) (is number)
          ∙ ap (λ b. filter (belongs cell) (filter_map Some (seen cell).fleets) ++ cond b (new ∷ []) []) (not-theirs fleet (leaving-about own fleet leaving))
          ∙ same-fleets
      apart-fleets number (calls_back body called fleet account caller none recall found out is) =
          let about = called-about called fleet recall found out in
          let flies = called-flies called fleet recall found out in
          let theirs_is = theirs called fleet recall found out in
          ap (λ (x : Outcome). fleets_after x.change cell (seen cell).fleets) (is number)
          ∙ ap (λ fleets. filter (belongs cell) fleets ++ []) (stays-mapped _ (seen cell).fleets (λ other is_in. not-called other is_in about flies theirs_is))
          ∙ append-nil (filter (belongs cell) (seen cell).fleets)
          ∙ filter-all (belongs cell) (seen cell).fleets all-belong
        where
          not-called : (other : Fleet) → IsIn other (seen cell).fleets → IsAbout sight player req fleet → IsIn fleet state.fleets → IsFleetOf player called.f (flown sight player) fleet
              → cond (eqb other.number called.f) (called_at moment other) (Some other) ≡ Some other
          not-called other is_in about flies theirs_is =
              let apart_number : eqb other.number called.f ≡ false = fails (eqb other.number called.f) (λ same.
              let one = fleet-one state.fleets other fleet fine.apart (flies-in setting.cells state cell other is_in) flies
              (ap (λ n. eqb n fleet.number) (number-is other.number called.f same ∙ sym (number-is fleet.number called.f theirs_is.number_is)) ∙ same_number fleet.number) in
              never (belongs cell fleet) (subst (λ f. belongs cell f ≡ true) one (all-belong other is_in)) (not-theirs fleet about)) in
              ap (λ b. cond b (called_at moment other) (Some other)) apart_number

      -- so all that is seen of it stays, but for the units of an account
      pub apart-view : (number : ℕ) → ComesTo sight player req came
          → after_view (came number).change cell (seen cell) (cond (asks cell) ((came number).change.own cell) (seen cell).own) ≡ seen cell
      apart-view number comes =
          let own : cond (asks cell) ((came number).change.own cell) (seen cell).own ≡ (seen cell).own = elim (test (asks cell)) [
            | inl has ↦
                ap (λ b. cond b ((came number).change.own cell) (seen cell).own) has ∙ apart-own number comes ∙ ap (λ (v : View). v.own) (shown-there asks seen cell has)
            | inr out ↦ ap (λ b. cond b ((came number).change.own cell) (seen cell).own) out
          ] in
          let queue = fun_ext (λ class. ap (λ b. cond b (came number).change.items ((seen cell).queue class)) (apart-queue number class comes)) in
          let fleets = apart-fleets number comes in
          λ i. record (seen cell) { own = own i; queue = queue i; fleets = fleets i }
