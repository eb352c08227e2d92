-- The game meets the laws about requests.
use Rattle.std.proofs.Common.{◌≡◌, ℕ, ◌+◌, ◌<◌, ◌⊎◌, inl, inr, Bool, true, false, nat_le, ◌&&◌, List, [], ◌∷◌, Contains, filter, refl, ap, ◌∙◌, sym, subst}
use Rattle.std.proofs.Math.Path.{fun_ext}
use Rattle.base_ids.specs.Cells.{same_cell}
use Rattle.base_ids.specs.declared.cell_id.CellId.{CellId}
use Rattle.base_ids.specs.declared.cell_id.CellId.TheVariants.{Account, Planet}
use Rattle.request_text.specs.declared.entry.Entry.{Entry}
use Rattle.laziness.specs.Laws.{Agree, Covers, IsReady, Stands}
use Rattle.laziness.proofs.Bringing.{never}
use Rattle.tick_model.specs.Changes.{write}
use Rattle.tick_model.specs.Events.{Event, item_due, lands, fights, home, is_payer, second_of}
use Rattle.tick_model.specs.Game.{brings, game, own_brings, research_brings}
use Rattle.tick_model.specs.Requests.{asked, is_there, outcome}
use Rattle.tick_model.specs.Rules.{KeepsRules}
use Rattle.tick_model.specs.Step.{sight_of, step}
use Rattle.tick_model.specs.Universe.{Own, of_account, of_nothing, of_planet, Researches, Fleet, Item, Setting, State}
use Rattle.tick_model.specs.Views.{View, belongs, queue_in, view}
use Rattle.tick_model.proofs.Asked.{asked-agree, asked-in, shown-same}
use Rattle.tick_model.proofs.Brought.{BringsBy, by_fleet, by_owner, by_research, brings-by, fleet-listed}
use Rattle.tick_model.proofs.Landings.{flies-in, landing-belongs}
use Rattle.tick_model.proofs.Arising.{Comes, NoneComes, arises-made}
use Rattle.tick_model.proofs.Lists.{and-is, any-in, cell-is, from-filter, in-filter}
use Rattle.tick_model.proofs.Queues.{queued}
use Rattle.tick_model.proofs.RulesKept.{fine-made}
use Rattle.tick_model.proofs.Writes.{IsWithin, inside, outside}
use Rattle.tick_model.proofs.Written.{IsMade, cells_of, change_of, request-made}

pub asked_listed : (setting : Setting) (u : State) (a : Entry) (y : CellId) → KeepsRules setting u → asked setting.cells (view setting.cells u) a.player a.req y ≡ true → Contains setting.cells y
asked_listed setting u a y fine is = asked-in setting.cells (view setting.cells u) a.player a.req y is

brought_at : (setting : Setting) (u : State) (x y : CellId) (own : Own) → KeepsRules setting u → u.own x ≡ own → own_brings own y ≡ true → Contains setting.cells y
brought_at setting u x y (of_planet planet) fine is brings = subst (Contains setting.cells) (cell-is (Account planet.owner) y brings) (fine.owned x planet is)
brought_at setting u x y of_nothing fine is brings = never false brings refl
brought_at setting u x y (of_account account) fine is brings = never false brings refl

-- a planet that is to pay research is listed
payer-listed : (setting : Setting) (u : State) (x : CellId) (t : ℕ) (y : CellId) (items : List Item) → KeepsRules setting u → queue_in u.items x Researches ≡ items → research_brings t items y ≡ true → Contains setting.cells y
payer-listed setting u x t y [] fine is brings = never false brings refl
payer-listed setting u x t y (item ∷ later) fine is brings =
    let payer = (and-is (nat_le item.second t) (is_payer Researches later y) brings).1 in
    let found = any-in (λ paid. same_cell (Planet paid.place) y) later payer in
    let placed = fine.placed found.0 (queued u Researches x item later is found.0 (inr found.1)).within in
    subst (Contains setting.cells) (cell-is (Planet found.0.place) y found.2) (fine.listed (Planet found.0.place) (ap is_there placed.stands))

listed_by : (setting : Setting) (u : State) (x : CellId) (t : ℕ) (y : CellId) → KeepsRules setting u → BringsBy (view setting.cells u x) t y → Contains setting.cells y
listed_by setting u x t y fine (by_owner owner) = brought_at setting u x y (u.own x) fine refl owner
listed_by setting u x t y fine (by_research payer) = payer-listed setting u x t y (queue_in u.items x Researches) fine refl payer
listed_by setting u x t y fine (by_fleet brought) =
    let found = any-in (λ (f : Fleet). nat_le f.second t && belongs y f) (filter (belongs x) u.fleets) brought in
    fleet-listed setting u found.0 y fine (from-filter (belongs x) found.0 u.fleets found.1).0 (and-is (nat_le found.0.second t) (belongs y found.0) found.2).1

pub brought_listed : (setting : Setting) (u : State) (x : CellId) (t : ℕ) (y : CellId) → KeepsRules setting u → brings (view setting.cells u x) t y ≡ true → Contains setting.cells y
brought_listed setting u x t y fine brought = listed_by setting u x t y fine (brings-by (view setting.cells u x) t y brought)

pub asks_within : (setting : Setting) (S : CellId → Bool) (a : Entry) (v w : CellId → View) → ((x : CellId) → S x ≡ true → v x ≡ w x) → Covers (game setting) v a S → Covers (game setting) w a S
asks_within setting S a v w agree covers y asks = covers y (asked-agree setting.cells v w a.player a.req y (λ x has. agree x (covers x has)) ∙ asks)

-- two states that agree on what a request asks for, after as many requests, give it the same to go by
sight-same : (setting : Setting) (S : CellId → Bool) (t : ℕ) (u v : State) (a : Entry) → Covers (game setting) (view setting.cells u) a S → u.number ≡ v.number → Agree (game setting) S u v
    → sight_of setting a.player a.req t u ≡ sight_of setting a.player a.req t v
sight-same setting S t u v a covers count agree =
    let seen = shown-same setting.cells (view setting.cells u) (view setting.cells v) a.player a.req (λ cell asks. agree cell (covers cell asks)) in
    λ i. record { rules = setting.rules; cells = setting.cells; number = count i + 1; moment = t; seen = seen i }

pub reply_depends : (setting : Setting) (S : CellId → Bool) (t : ℕ) (u v : State) (a : Entry) → IsReady (game setting) S t a u → IsReady (game setting) S t a v → u.number ≡ v.number → Agree (game setting) S u v
    → (step setting a.player a.req t u).reply ≡ (step setting a.player a.req t v).reply
unfolding step
reply_depends setting S t u v a ready ready' count agree =
    let came : outcome (sight_of setting a.player a.req t u) a.player a.req ≡ outcome (sight_of setting a.player a.req t v) a.player a.req =
    ap (λ sight. outcome sight a.player a.req) (sight-same setting S t u v a ready.covers count agree) in
    λ i. record { number = count i + 1; moment = t; code = (came i).answer.code; body = (came i).answer.body }

pub act_count : (setting : Setting) (t : ℕ) (u v : State) (a : Entry) → u.number ≡ v.number → (step setting a.player a.req t u).state.number ≡ (step setting a.player a.req t v).state.number
unfolding step
act_count setting t u v a count = ap (λ n. n + 1) count

-- what a request makes of a set that is ready
ready-made : (setting : Setting) (S : CellId → Bool) (t : ℕ) (u : State) (a : Entry) → IsReady (game setting) S t a u → IsMade (cells_of setting a u) S (change_of setting a t u) t u
ready-made setting S t u a ready = request-made setting a t S u ready.fine ready.covers ready.closed

pub act_outside : (setting : Setting) (S : CellId → Bool) (t : ℕ) (u : State) (a : Entry) (x : CellId) → IsReady (game setting) S t a u → S x ≡ false
    → view setting.cells (step setting a.player a.req t u).state x ≡ view setting.cells u x
unfolding step
act_outside setting S t u a x ready out =
    outside setting.cells (cells_of setting a u) S (change_of setting a t u) u x (ready-made setting S t u a ready).within out

pub act_depends : (setting : Setting) (S : CellId → Bool) (t : ℕ) (u v : State) (a : Entry) → IsReady (game setting) S t a u → IsReady (game setting) S t a v → u.number ≡ v.number → Agree (game setting) S u v
    → Agree (game setting) S (step setting a.player a.req t u).state (step setting a.player a.req t v).state
unfolding step
act_depends setting S t u v a ready ready' count agree x in_set =
    let cells = cells_of setting a u in
    let same_cells : cells_of setting a v ≡ cells =
    fun_ext (λ y. sym (asked-agree setting.cells (view setting.cells u) (view setting.cells v) a.player a.req y (λ z asks. agree z (ready.covers z asks)))) in
    let change = change_of setting a t u in
    let same_change : change_of setting a t v ≡ change =
    sym (ap (λ sight. (outcome sight a.player a.req).change) (sight-same setting S t u v a ready.covers count agree)) in
    let one = (ready-made setting S t u a ready).within in
    let two = subst (λ c. IsWithin cells S c v) same_change (subst (λ some. IsWithin some S (change_of setting a t v) v) same_cells (ready-made setting S t v a ready').within) in
    let other : view setting.cells (write (cells_of setting a v) (change_of setting a t v) v) x ≡ view setting.cells (write cells change v) x =
    λ i. view setting.cells (write (same_cells i) (same_change i) v) x in
    inside setting.cells cells S change u v (record { first = one; second = two; agree = agree }) x in_set ∙ sym other

-- an event stands exactly if its queue is there, or its fleet flies
comes-is : (setting : Setting) (u : State) (e : Event) → Stands (game setting) u e → Comes u e
comes-is setting u (item_due class item later) stands = stands
comes-is setting u (lands fleet) stands = (flies-in setting.cells u (home (lands fleet)) fleet stands.0, stands.1)
comes-is setting u (fights raid) stands = stands

is-comes : (setting : Setting) (u : State) (e : Event) → Comes u e → Stands (game setting) u e
is-comes setting u (item_due class item later) comes = comes
is-comes setting u (lands fleet) comes = (in-filter (belongs (home (lands fleet))) fleet u.fleets comes.0 (landing-belongs fleet), comes.1)
is-comes setting u (fights raid) comes = comes

pub act_arises : (setting : Setting) (S : CellId → Bool) (t : ℕ) (u : State) (a : Entry) (d : Event) → IsReady (game setting) S t a u → S (home d) ≡ true → Stands (game setting) (step setting a.player a.req t u).state d
    → Stands (game setting) u d ⊎ (t < second_of d)
unfolding step
act_arises setting S t u a d ready within stands =
    let new = write (cells_of setting a u) (change_of setting a t u) u in
    let none : NoneComes S t u = λ e comes home_in due. ready.none e (is-comes setting u e comes) home_in due in
    elim (arises-made S t u new none (ready-made setting S t u a ready).makes d within (comes-is setting (record new { number = u.number + 1 }) d stands)) [
      | inl before ↦ inl (is-comes setting u d before)
      | inr later ↦ inr later
    ]

pub act_fine : (setting : Setting) (S : CellId → Bool) (t : ℕ) (u : State) (a : Entry) → IsReady (game setting) S t a u → KeepsRules setting (step setting a.player a.req t u).state
unfolding step
act_fine setting S t u a ready = fine-made setting t u (write (cells_of setting a u) (change_of setting a t u) u) ready.fine (ready-made setting S t u a ready).makes
