-- What a request makes of each cell of a set on which it can act.
use Rattle.std.proofs.Common.{◌≡◌, ℕ, Bool, true, false, not, cond, ◌&&◌, List, [], ◌∷◌, ◌++◌, filter, refl, ap, ◌∙◌, sym, subst, inl, inr}
use Rattle.std.proofs.Math.Path.{fun_ext}
use Rattle.std.proofs.lemmas.List.{append-nil}
use Rattle.base_ids.specs.Cells.{same_cell}
use Rattle.base_ids.specs.declared.cell_id.CellId.{CellId}
use Rattle.base_ids.specs.declared.player.Player.{Player}
use Rattle.happenings.proofs.Standing.{IsWell, seen-anew}
use Rattle.laziness.proofs.Bringing.{never, test}
use Rattle.laziness.specs.Laws.{IsReady}
use Rattle.lazy.proofs.Outcoming.{ComesTo, after_view, at_number, calls_back, comes-to, keeps, orders, refused-change, refuses, sends_out}
use Rattle.request_text.specs.declared.entry.Entry.{Entry}
use Rattle.request_text.specs.declared.request.Request.{Request}
use Rattle.tick_model.proofs.Asked.{shown-there}
use Rattle.tick_model.proofs.Lists.{filter-all, from-filter, in-append}
use Rattle.tick_model.proofs.Queues.{queued-in}
use Rattle.tick_model.proofs.Seen.{reached-seen, written-seen}
use Rattle.tick_model.proofs.Writes.{write-nothing}
use Rattle.tick_model.proofs.Written.{request-made}
use Rattle.tick_model.specs.Changes.{Change, new_queue, queue_after, seen_after, write}
use Rattle.tick_model.specs.Game.{game}
use Rattle.tick_model.specs.Requests.{Outcome, Sight, asked, outcome, queue_seen}
use Rattle.tick_model.specs.Rules.{IsIn}
use Rattle.tick_model.specs.Step.{sight_of, step}
use Rattle.tick_model.specs.Universe.{Fleet, Item, Own, QueueClass, same_class, Setting, State}
use Rattle.tick_model.specs.Views.{View, belongs, nothing_seen, shown, view}

same-queue : (items : List Item) → filter (λ (item : Item). true) items ++ [] ≡ items
same-queue items = append-nil (filter (λ (item : Item). true) items) ∙ filter-all (λ item. true) items (λ item is. refl)

module _ (setting : Setting) (player : Player) (req : Request) (moment : ℕ) (state : State) where
  abbrev pub asks : CellId → Bool
  asks = asked setting.cells (view setting.cells state) player req

  abbrev pub sight : Sight
  sight = sight_of setting player req moment state

  -- what the request comes to, by its number
  abbrev pub came : ℕ → Outcome
  came number = outcome (at_number number sight) player req

  pub comes : ComesTo sight player req came
  comes = comes-to sight player req

  -- what the request changes
  abbrev pub change : Change
  change = (outcome sight player req).change

  -- what a cell has of its own after a change
  abbrev pub own_after : Change → CellId → Own
  own_after changed cell = cond (asks cell) (changed.own cell) (view setting.cells state cell).own

  -- what is seen of it, but for the units of an account
  abbrev pub left_view : Change → CellId → View
  left_view changed cell = after_view changed cell (view setting.cells state cell) (own_after changed cell)

  -- an entry of this request
  abbrev pub entry : Entry
  entry = record { number = 0; moment = moment; reading = 0; player = player; req = req }

  pub step-view : (cell : CellId) → view setting.cells (step setting player req moment state).state cell ≡ view setting.cells (write asks change state) cell
  unfolding step
  step-view cell = refl

  -- the items of a cell stand in its queues, and its fleets belong to it
  well : (cell : CellId) → IsWell cell (view setting.cells state cell)
  well cell = record {
    stands = λ class item is. let queued = queued-in state.items cell class item is in (queued.place, queued.class_is);
    fleets = λ fleet is. (from-filter (belongs cell) fleet state.fleets is).1;
  }

  -- so do those that are shown
  shown-stands : (b : Bool) (cell : CellId) (class : QueueClass) (item : Item) → IsIn item ((cond b (view setting.cells state cell) nothing_seen).queue class) → (item.cell ≡ cell) × (item.class ≡ class)
  shown-stands true cell class item is = let queued = queued-in state.items cell class item is in (queued.place, queued.class_is)
  shown-stands false cell class item is = absurd is

  joined-stands : (new item : Item) → IsIn item (queue_seen sight new.cell new.class ++ new ∷ []) → (item.cell ≡ new.cell) × (item.class ≡ new.class)
  joined-stands new item is =
      elim (in-append item (queue_seen sight new.cell new.class) (new ∷ []) is) [
        | inl before ↦ shown-stands (asks new.cell) new.cell new.class item before
        | inr one ↦ elim one [ inl same ↦ (ap (λ (x : Item). x.cell) same, ap (λ (x : Item). x.class) same) | inr none ↦ absurd none ]
      ]

  -- a queue that a change writes anew has what is written
  queue-view : (number : ℕ) (cell : CellId) (class : QueueClass) → ComesTo sight player req came
      → queue_after (came number).change cell class ((view setting.cells state cell).queue class)
      ≡ cond ((came number).change.requeued cell class) (came number).change.items ((view setting.cells state cell).queue class)
  queue-view number cell class (refuses code reason is) =
      let old = (view setting.cells state cell).queue class in
      ap (λ (x : Outcome). queue_after x.change cell class old) (is number) ∙ same-queue old
      ∙ sym (ap (λ (x : Outcome). cond (x.change.requeued cell class) x.change.items old) (is number))
  queue-view number cell class (keeps body own given none alike leaves is) =
      let old = (view setting.cells state cell).queue class in
      ap (λ (x : Outcome). queue_after x.change cell class old) (is number) ∙ same-queue old
      ∙ sym (ap (λ (x : Outcome). cond (x.change.requeued cell class) x.change.items old) (is number))
  queue-view number cell class (sends_out body own fleet given leaving is) =
      let old = (view setting.cells state cell).queue class in
      ap (λ (x : Outcome). queue_after x.change cell class old) (is number) ∙ same-queue old
      ∙ sym (ap (λ (x : Outcome). cond (x.change.requeued cell class) x.change.items old) (is number))
  queue-view number cell class (calls_back body called fleet account caller none recall found out is) =
      let old = (view setting.cells state cell).queue class in
      ap (λ (x : Outcome). queue_after x.change cell class old) (is number) ∙ same-queue old
      ∙ sym (ap (λ (x : Outcome). cond (x.change.requeued cell class) x.change.items old) (is number))
  queue-view number cell class (orders body own queue item given place joining alike leaves is) =
      let old = (view setting.cells state cell).queue class in
      let new = record item { number = number } in
      let items = queue_seen sight item.cell item.class ++ new ∷ [] in
      ap (λ (x : Outcome). queue_after x.change cell class old) (is number)
      ∙ ap (λ (v : View). v.queue class) (seen-anew own item.cell item.class items cell (view setting.cells state cell) (well cell) (joined-stands new))
      ∙ sym (ap (λ (x : Outcome). cond (x.change.requeued cell class) x.change.items old) (is number))

  after-is : (number : ℕ) (cell : CellId) (own : Own) → record (seen_after (came number).change cell (view setting.cells state cell)) { own = own } ≡ after_view (came number).change cell (view setting.cells state cell) own
  after-is number cell own =
      let queue = fun_ext (λ class. queue-view number cell class comes) in
      λ i. record (after_view (came number).change cell (view setting.cells state cell) own) { queue = queue i }

  module _ (S : CellId → Bool) (ready : IsReady (game setting) S moment entry state) where
    -- what is seen of each cell after the request
    pub stepped-seen : (cell : CellId) → view setting.cells (step setting player req moment state).state cell
        ≡ record (left_view change cell) { units = (view setting.cells (step setting player req moment state).state cell).units }
    stepped-seen cell =
        let within = (request-made setting entry moment S state ready.fine ready.covers ready.closed).within in
        let units = (view setting.cells (write asks change state) cell).units in
        let seen : view setting.cells (write asks change state) cell ≡ record (left_view change cell) { units = units } = elim (test (asks cell)) [
          | inl has ↦
              written-seen setting.cells asks S change state cell within has
              ∙ ap (λ (v : View). record v { units = units }) (after-is sight.number cell (change.own cell))
              ∙ ap (λ b. record (after_view change cell (view setting.cells state cell) (cond b (change.own cell) (view setting.cells state cell).own)) { units = units }) (sym has)
          | inr out ↦
              reached-seen setting.cells asks S change state cell within out
              ∙ ap (λ (v : View). record v { units = units }) (after-is sight.number cell (state.own cell))
              ∙ ap (λ b. record (after_view change cell (view setting.cells state cell) (cond b (change.own cell) (view setting.cells state cell).own)) { units = units }) (sym out)
        ] in
        step-view cell ∙ seen ∙ ap (λ (v : View). record (left_view change cell) { units = v.units }) (sym (step-view cell))

  -- each cell is as it was after a request that is refused
  pub refused-stepped : (cell : CellId) → ((outcome sight player req).answer.code ≡ 0 → ⊥) → view setting.cells (step setting player req moment state).state cell ≡ view setting.cells state cell
  refused-stepped cell denied =
      step-view cell
      ∙ ap (λ c. view setting.cells (write asks c state) cell) (refused-change sight player req came sight.number comes denied)
      ∙ ap (λ (s : State). view setting.cells s cell) (write-nothing setting.cells asks state)
