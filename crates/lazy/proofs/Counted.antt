-- The units of the caller's planet are among those that the caller's account counts.
use Rattle.std.proofs.Common.{◌≡◌, ℕ, ◌+◌, ◌≤◌, Bool, true, false, cond, List, [], ◌∷◌, sum, sum_by, refl, ap, ◌∙◌, sym, subst, arith, inl, inr, Option, Some, None}
use Rattle.std.proofs.lemmas.List.Sums.{sum_by-cons}
use Rattle.std.specs.Prelude.{IfSome, IsTrue, MatchOption}
use Rattle.account_cell.specs.declared.account.Account.{Account as AccountOfProgram}
use Rattle.base_bytes.proofs.Among.{is-among}
use Rattle.base_ids.specs.Cells.{same_player}
use Rattle.base_ids.specs.declared.cell_id.CellId.{CellId}
use Rattle.base_ids.specs.declared.cell_id.CellId.TheVariants.{Account, Planet}
use Rattle.base_ids.specs.declared.coord.Coord.{Coord}
use Rattle.base_ids.specs.declared.player.Player.{Player}
use Rattle.closure.specs.declared.places.Places.{Places}
use Rattle.happenings.specs.Held.{Shows, holds}
use Rattle.happenings.specs.declared.held.Held.{Held}
use Rattle.laziness.specs.Stamps.{Stamps, brought}
use Rattle.lazy.proofs.Outcoming.{at_number}
use Rattle.lazy.proofs.Showing.{are-shown}
use Rattle.lazy.specs.Planning.{CanAnswer, HoldsSame}
use Rattle.lazy.specs.Taking.{AreTaken, IsTaken, seen_by}
use Rattle.orders.specs.Acting.{IsSeenAs, account_seen, from_place, planet_seen}
use Rattle.orders.specs.Granting.{AreCounted}
use Rattle.orders.specs.declared.parts.Parts.{Parts}
use Rattle.planet_cell.specs.Planet.{batches_of, fields_of}
use Rattle.planet_cell.specs.declared.planet.Planet.{Planet as PlanetOfProgram}
use Rattle.request_text.specs.declared.request.Request.{Request}
use Rattle.tick_model.proofs.Asked.{asked-in, shown-account, shown-planet, shown-there}
use Rattle.tick_model.specs.Game.{game}
use Rattle.tick_model.specs.Requests.{Sight, asked}
use Rattle.tick_model.specs.Rules.{IsIn}
use Rattle.tick_model.specs.Step.{sight_of}
use Rattle.tick_model.specs.Universe.{Fleet, Setting, State, Yard}
use Rattle.tick_model.specs.Views.{Holding, View, holding, holding_at, units_held, units_left, units_of, view}
use Rattle.tick_model.specs.declared.rules.Rules.{Rules}

first-le : (a b : ℕ) → a ≤ a + b
first-le a b = omega arith

later-le : (a b c : ℕ) → a ≤ b → a ≤ c + b
later-le a b c below = omega (arith, below)

-- a part of a sum is at most the sum
part-le : {A : Type 0} (f : A → ℕ) (x : A) (xs : List A) → IsIn x xs → f x ≤ sum_by f xs
part-le f x [] is = absurd is
part-le f x (first ∷ later) (inl same) = subst (λ n. f x ≤ n) (sym (sum_by-cons f first later)) (subst (λ y. f x ≤ f y + sum_by f later) same (first-le (f x) (sum_by f later)))
part-le f x (first ∷ later) (inr is) = subst (λ n. f x ≤ n) (sym (sum_by-cons f first later)) (later-le (f x) (sum_by f later) (f first) (part-le f x later is))

-- an account counts the units of each planet of its player
counted-in : (cells : List CellId) (held : CellId → Option Holding) (fleets : List Fleet) (player : Player) (cell : CellId) (there : Holding) → IsIn cell cells → held cell ≡ Some there
    → same_player there.owner player ≡ true → there.units ≤ units_of cells held fleets (Account player)
counted-in cells held fleets player cell there is found own =
    subst (λ n. n ≤ units_of cells held fleets (Account player)) (ap (units_held player) found ∙ ap (λ b. cond b there.units 0) own)
    (let part = part-le (λ x. units_held player (held x)) cell cells is in omega (arith, part))

module _ (setting : Setting) (player : Player) (req : Request) (moment : ℕ) (state : State) where
  abbrev sight : Sight
  sight = sight_of setting player req moment state

  abbrev asks : CellId → Bool
  asks = asked setting.cells (view setting.cells state) player req

  planet-counted : (at : Coord) (account : AccountOfProgram) (planet : PlanetOfProgram) (flown moored : List Fleet) → account.player ≡ player
      → sight.seen (Account player) ≡ account_seen (Some account) flown → sight.seen (Planet at) ≡ planet_seen (Some planet) moored
      → same_player planet.owner account.player ≡ true → sum planet.units + units_left (batches_of planet) ≤ account.units
  planet-counted at account planet flown moored whose caller from own =
      let caller_asked = shown-account asks (view setting.cells state) (Account player) _ (ap (λ (v : View). v.own) caller) in
      let planet_asked = (shown-planet asks (view setting.cells state) (Planet at) _ (ap (λ (v : View). v.own) from)).0 in
      let account_there = sym (shown-there asks (view setting.cells state) (Account player) caller_asked) ∙ caller in
      let planet_there = sym (shown-there asks (view setting.cells state) (Planet at) planet_asked) ∙ from in
      subst (λ n. sum planet.units + units_left (batches_of planet) ≤ n) (ap (λ (v : View). v.units) account_there)
      (counted-in setting.cells (holding_at state) state.fleets player (Planet at) (record { owner = planet.owner; units = sum planet.units + units_left (batches_of planet) })
      (is-among (Planet at) setting.cells (asked-in setting.cells (view setting.cells state) player req (Planet at) planet_asked))
      (ap (λ (v : View). holding v.own (v.queue Yard)) planet_there)
      (ap (same_player planet.owner) (sym whose) ∙ own))

  parts-counted : (caller : Option AccountOfProgram) (named : Option Coord) (from : Option PlanetOfProgram) (flown moored : List Fleet)
      → IfSome caller (λ account. account.player ≡ player) → sight.seen (Account player) ≡ account_seen caller flown
      → IfSome named (λ at. IsSeenAs (at_number 0 sight) at from moored) → (named ≡ None → from ≡ None) → AreCounted caller from
  parts-counted None named from flown moored whose account place none = tt
  parts-counted (Some a) named None flown moored whose account place none = tt
  parts-counted (Some a) None (Some p) flown moored whose account place none = absurd (let both = none refl in cc)
  parts-counted (Some a) (Some at) (Some p) flown moored whose account place none = λ own. planet-counted at a p flown moored whose account place.seen own

matched-none : {A B : Type 0} (o : Option A) (from : Option B) (P : A → Type 0) → MatchOption o (from ≡ None) P → o ≡ None → from ≡ None
matched-none None from P is none = is
matched-none (Some x) from P is none = absurd (cc none)

-- the parts that were taken are counted
pub are-counted : (setting : Setting) (kept : Rules) (places : Places) (held : Held) (player : Player) (req : Request) (moment : ℕ) (f : Stamps (game setting))
    → CanAnswer setting kept places held player req moment f → (now : Held) → HoldsSame held now → Shows setting now (brought (game setting) (holds held) moment f)
    → (parts : Parts) → AreTaken setting.cells (seen_by now player) player req parts → AreCounted parts.caller parts.from
are-counted setting kept places held player req moment f can now same shows parts taken =
    let shown = are-shown setting kept places held player req moment f can now same shows parts taken in
    let named = from_place player parts.fleets.caller req in
    parts-counted setting player req moment (brought (game setting) (holds held) moment f).universe parts.caller named parts.from parts.fleets.caller parts.fleets.from
    shown.whose shown.caller shown.from
    (matched-none named parts.from (λ at. IsTaken (seen_by now player (Planet at)) at parts.from parts.fleets.from) taken.from)
