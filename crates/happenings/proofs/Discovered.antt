-- A research that is done, in an account that is held.
use Rattle.std.proofs.Common.{◌≡◌, ℕ, ◌-◌, ◌≤◌, ◌<◌, length, arith, Bool, true, false, cond, ◌&&◌, List, [], ◌∷◌, map, refl, ap, ◌∙◌, sym, subst, Option, Some, None}
use Rattle.std.proofs.Math.Path.{fun_ext}
use Rattle.std.specs.Prelude.{◌||◌, drop, option_map, IfSome}
use Rattle.std.specs.BTreeMap.{Updates, get}
use Rattle.std.specs.List.{list_any}
use Rattle.account_cell.specs.Account.{KeepsHoldings, account_fields, account_queue, research_item, research_of}
use Rattle.account_cell.specs.declared.research_item.ResearchItem.{ResearchItem}
use Rattle.base_ids.specs.Cells.{same_cell, same_player}
use Rattle.base_ids.specs.declared.cell_id.CellId.{CellId}
use Rattle.base_ids.specs.declared.cell_id.CellId.TheVariants.{Account as AccountId, Planet as PlanetId}
use Rattle.base_ids.specs.declared.coord.Coord.{Coord}
use Rattle.base_ids.specs.declared.player.Player.{Player}
use Rattle.planet_cell.specs.Planet.{fields_of, queue_of}
use Rattle.tick_model.specs.Changes.{new_queue, owns, put_own, seen_after}
use Rattle.tick_model.specs.Events.{Event, footprint, is_payer, item_due}
use Rattle.tick_model.specs.Researches.{Researching, can_start, learned, researched, starts_first_research, starts_research}
use Rattle.tick_model.specs.Rules.{IsIn}
use Rattle.tick_model.specs.Universe.{AccountFields, Buildings, Researches, Yard, Item, Own, QueueClass, of_account, of_nothing, of_planet, same_class}
use Rattle.tick_model.specs.Views.{View, nothing_seen}
use Rattle.tick_model.specs.declared.rules.Rules.{Rules}
use Rattle.tick_model.proofs.Lists.{cell-is, cell-itself}
use Rattle.happenings.specs.Applying.{CanFinish, Finishes, change_then, fields_then, held_after, seen_then, stand_after}
use Rattle.happenings.specs.Gaining.{gained, gained_at}
use Rattle.happenings.specs.Landings.{HasOwnFleets, HaveOwnFleets}
use Rattle.happenings.specs.Held.{IsNamed, account_stand, held_at, planet_stand}
use Rattle.happenings.specs.Orders.{place_order, player_order}
use Rattle.happenings.specs.Queues.{class_of, items_held, seen_of}
use Rattle.happenings.specs.Researching.{AreOwns, FinishesResearch, HaveOwns, PayersBehind, PayersGain, Planets, own_held, pays_some, stand_in, with_own}
use Rattle.happenings.specs.declared.due.Due.{Due}
use Rattle.happenings.specs.declared.held.AccountCell.{AccountCell}
use Rattle.happenings.specs.declared.held.Held.{Held}
use Rattle.happenings.specs.declared.held.PlanetCell.{PlanetCell}
use Rattle.happenings.specs.declared.queue.Queue.TheVariants.{Research as ResearchOf}
use Rattle.happenings.proofs.Acting.{named_account, named_planet}
use Rattle.happenings.proofs.Gains.{account-gains}
use Rattle.happenings.proofs.Finished.{first-same, planet-own_fleets}
use Rattle.happenings.proofs.Putting.{account_puts}
use Rattle.happenings.proofs.Standing.{IsWell, account-stands, planet-stands, planet_seen, seen-anew, seen-gains}

-- the planets that are to pay items, as the model names them
payers-are : (player : Player) (items : List ResearchItem) (at : Coord) → list_any (λ item. same_cell (PlanetId item.place) (PlanetId at)) (map (research_item player) items) ≡ pays_some items at
payers-are player [] at = refl
payers-are player (item ∷ later) at = ap (λ b. same_cell (PlanetId item.at) (PlanetId at) || b) (payers-are player later at)

-- none of them is an account
pays-none : (player other : Player) (items : List ResearchItem) → list_any (λ item. same_cell (PlanetId item.place) (AccountId other)) (map (research_item player) items) ≡ false
pays-none player other [] = refl
pays-none player other (item ∷ later) = pays-none player other later

-- an account that is held has only fleets that belong to it
account-own_fleets : (held : Held) (player : Player) (cell : AccountCell) → HaveOwnFleets held → cell.account.player ≡ player → get player_order held.accounts player ≡ Some cell
    → HasOwnFleets (AccountId cell.account.player) (account_stand cell).seen
account-own_fleets held player cell own name found =
    subst (λ k. HasOwnFleets (AccountId k) (account_stand cell).seen) (sym name)
    (subst (λ o. HasOwnFleets (AccountId player) (seen_of (option_map account_stand o))) found (own (AccountId player)))

-- what an account has of its own stays when research is paid
started-own : (speed second : ℕ) (account : AccountFields) (own : CellId → Own) (of : Own) (item : Item) (later : List Item) (player : Player)
    → (starts_research speed second account own of item later).own (AccountId player) ≡ own (AccountId player)
started-own speed second account own (of_planet planet) item later player = refl
started-own speed second account own (of_account fields) item later player = refl
started-own speed second account own of_nothing item later player = refl

own-stays : (speed second : ℕ) (account : AccountFields) (own : CellId → Own) (items : List Item) (player : Player)
    → (starts_first_research speed second account own items).own (AccountId player) ≡ own (AccountId player)
own-stays speed second account own [] player = refl
own-stays speed second account own (item ∷ later) player =
    elim (can_start speed account (own (PlanetId item.place)) item) as (λ b.
    (cond b (starts_research speed second account own (own (PlanetId item.place)) item later) (starts_first_research speed second account own later)).own (AccountId player) ≡ own (AccountId player)) [
      | true ↦ started-own speed second account own (own (PlanetId item.place)) item later player
      | false ↦ own-stays speed second account own later player
    ]

own-seen : (o : Option PlanetCell) → (seen_of (option_map planet_stand o)).own ≡ own_held o
own-seen None = refl
own-seen (Some cell) = refl

or-none : (b c : Bool) → c ≡ false → (b || c) ≡ b
or-none true c none = refl
or-none false c none = none

module _ (rules : Rules) (old new : Held) (player : Player) (cell now : AccountCell) (first : ResearchItem) (waiting : List ResearchItem) (between : Planets) (named : IsNamed old) (own_fleets : HaveOwnFleets old) (flown : now.fleets ≡ cell.fleets)
    (name : cell.account.player ≡ player) (found : get player_order old.accounts player ≡ Some cell) (updates : Updates player_order old.accounts new.accounts player (Some now))
    (stamp : now.second ≡ first.second) (keeps : KeepsHoldings cell.account now.account) (gains : PayersGain rules first.second waiting old.planets between)
    (fields : account_fields now.account ≡ learned (account_fields cell.account) first.kind.kind)
    (research : (own : CellId → Own) → AreOwns waiting own between
    → research_of now.account ≡ (starts_first_research rules.speed first.second (account_fields now.account) own (map (research_item now.account.player) waiting)).queue)
    (planets : (own : CellId → Own) → AreOwns waiting own between
    → HaveOwns waiting (starts_first_research rules.speed first.second (account_fields now.account) own (map (research_item now.account.player) waiting)).own between new.planets) where
  abbrev item : Item
  item = research_item cell.account.player first

  abbrev later : List Item
  later = map (research_item cell.account.player) waiting

  abbrev event : Event
  event = item_due Researches item later

  abbrev own_then : CellId → Own
  own_then = owns (seen_then rules event old)

  abbrev own_done : CellId → Own
  own_done = put_own (AccountId cell.account.player) (of_account (learned (account_fields cell.account) first.kind.kind)) own_then

  abbrev came : Researching
  came = starts_first_research rules.speed first.second (learned (account_fields cell.account) first.kind.kind) own_done later

  held-account : held_at old (AccountId cell.account.player) ≡ Some (account_stand cell)
  held-account = ap (λ k. option_map account_stand (get player_order old.accounts k)) name ∙ ap (option_map account_stand) found

  account-then : own_then (AccountId cell.account.player) ≡ of_account (account_fields cell.account)
  account-then =
      ap (λ b. (cond (b || list_any (λ i. same_cell (PlanetId i.place) (AccountId cell.account.player)) later) (seen_of (gained_at rules first.second old (AccountId cell.account.player))) nothing_seen).own) (cell-itself (AccountId cell.account.player))
      ∙ ap (λ o. (seen_of (option_map (gained rules first.second) o)).own) held-account
      ∙ ap (λ (v : View). v.own) (account-gains rules (first.second - cell.second) cell)

  change-is : change_then rules event old ≡ new_queue came.own (AccountId cell.account.player) Researches came.queue
  change-is =
      ap (λ o. new_queue (researched rules.speed item later own_then o).own (AccountId cell.account.player) Researches (researched rules.speed item later own_then o).queue) account-then

  inside : (at : Coord) → footprint event (PlanetId at) ≡ pays_some waiting at
  inside at = payers-are cell.account.player waiting at

  outside : (k : Player) → footprint event (AccountId k) ≡ same_player cell.account.player k
  outside k = or-none (same_player cell.account.player k) (list_any (λ i. same_cell (PlanetId i.place) (AccountId k)) (map (research_item cell.account.player) waiting)) (pays-none cell.account.player k waiting)

  owns-are : AreOwns waiting own_done between
  owns-are at pays =
      ap (λ b. (cond b (seen_of (gained_at rules first.second old (PlanetId at))) nothing_seen).own) (inside at ∙ pays)
      ∙ ap (λ o. (seen_of o).own) (sym (gains at ∙ ap (λ b. cond b (option_map (gained rules first.second) (stand_in old.planets at)) (stand_in old.planets at)) pays))
      ∙ own-seen (get place_order between at)

  queue-now : research_of now.account ≡ came.queue
  queue-now = research own_done owns-are ∙ (λ i. (starts_first_research rules.speed first.second (fields i) own_done (map (research_item (keeps.player i)) waiting)).queue)

  planets-now : HaveOwns waiting came.own between new.planets
  planets-now = subst (λ (o : CellId → Own). HaveOwns waiting o between new.planets)
      (λ i. (starts_first_research rules.speed first.second (fields i) own_done (map (research_item (keeps.player i)) waiting)).own) (planets own_done owns-are)

  news : (i : Item) → IsIn i came.queue → (i.cell ≡ AccountId cell.account.player) × (i.class ≡ Researches)
  news i within =
      let stands = account-stands now Researches i (subst (IsIn i) (sym queue-now) within) in
      (stands.0 ∙ ap AccountId keeps.player, stands.1)

  account-queues : (c : QueueClass) → account_queue now.account c ≡ cond (same_class Researches c) came.queue (account_queue cell.account c)
  account-queues Buildings = refl
  account-queues Researches = queue-now
  account-queues Yard = refl

  account-own : of_account (account_fields now.account) ≡ came.own (AccountId cell.account.player)
  account-own =
      ap of_account fields
      ∙ ap (λ b. cond b (of_account (learned (account_fields cell.account) first.kind.kind)) (own_then (AccountId cell.account.player))) (sym (cell-itself (AccountId cell.account.player)))
      ∙ sym (own-stays rules.speed first.second (learned (account_fields cell.account) first.kind.kind) own_done later cell.account.player)

  account-after : account_stand now ≡ stand_after rules event old (AccountId cell.account.player) (account_stand cell)
  account-after =
      let seen = (account_stand cell).seen in
      let well : IsWell (AccountId cell.account.player) seen = record { stands = account-stands cell; fleets = account-own_fleets old player cell own_fleets name found } in
      let after = seen-anew came.own (AccountId cell.account.player) Researches came.queue (AccountId cell.account.player) seen well news in
      let self = cell-itself (AccountId cell.account.player) in
      let queues = fun_ext account-queues in
      (λ i. record {
        second = stamp i;
        seen = record { own = account-own i; queue = queues i; fleets = flown i; planets = keeps.planets i; units = keeps.units i };
      })
      ∙ (λ i. record {
        second = first.second;
        seen = record seen { own = came.own (AccountId cell.account.player); queue = λ c. cond (sym self i && same_class Researches c) came.queue (seen.queue c) };
      })
      ∙ (λ i. record { second = first.second; seen = sym after i })
      ∙ (λ i. record { second = first.second; seen = seen_after (sym change-is i) (AccountId cell.account.player) (sym (account-gains rules (first.second - cell.second) cell) i) })

  account-held : (b : Bool) (k : Player) → same_player cell.account.player k ≡ b
      → cond b (Some (account_stand now)) (held_at old (AccountId k)) ≡ cond b (option_map (stand_after rules event old (AccountId k)) (held_at old (AccountId k))) (held_at old (AccountId k))
  account-held true k same =
      let place = cell-is (AccountId cell.account.player) (AccountId k) same in
      let there : held_at old (AccountId k) ≡ Some (account_stand cell) = ap (held_at old) (sym place) ∙ held-account in
      ap Some account-after ∙ (λ i. Some (stand_after rules event old (place i) (account_stand cell))) ∙ ap (option_map (stand_after rules event old (AccountId k))) (sym there)
  account-held false k other = refl

  -- a planet that is to pay, and one that isn't
  planet-after : (at : Coord) (pc : PlanetCell) → get place_order old.planets at ≡ Some pc → pc.planet.at ≡ at → with_own (came.own (PlanetId at)) (gained rules first.second (planet_stand pc)) ≡ stand_after rules event old (PlanetId at) (planet_stand pc)
  planet-after at pc is place =
      let grown = seen-gains rules (first.second - pc.second) (fields_of pc.planet) (queue_of pc.planet) pc.fleets in
      let seen : View = planet_seen (of_planet (fields_then rules first.second pc)) (queue_of pc.planet) pc.fleets in
      let well : IsWell (PlanetId at) seen = record { stands = subst (λ p. (c : QueueClass) (i : Item) → IsIn i (queue_of pc.planet c) → (i.cell ≡ PlanetId p) × (i.class ≡ c)) place (planet-stands pc); fleets = planet-own_fleets old at pc own_fleets is } in
      let after = seen-anew came.own (AccountId cell.account.player) Researches came.queue (PlanetId at) seen well news in
      (λ i. record { second = first.second; seen = record (grown i) { own = came.own (PlanetId at) } })
      ∙ (λ i. record { second = first.second; seen = sym after i })
      ∙ (λ i. record { second = first.second; seen = seen_after (sym change-is i) (PlanetId at) (sym grown i) })

  planet-mapped : (at : Coord) (o : Option PlanetCell) → get place_order old.planets at ≡ o
      → option_map (with_own (came.own (PlanetId at))) (option_map (gained rules first.second) (option_map planet_stand o)) ≡ option_map (stand_after rules event old (PlanetId at)) (option_map planet_stand o)
  planet-mapped at None is = refl
  planet-mapped at (Some pc) is = ap Some (planet-after at pc is (named_planet old at pc named is))

  planet-held : (b : Bool) (at : Coord) → pays_some waiting at ≡ b
      → stand_in new.planets at ≡ cond b (option_map (stand_after rules event old (PlanetId at)) (stand_in old.planets at)) (stand_in old.planets at)
  planet-held b at pays =
      let there : stand_in between at ≡ cond b (option_map (gained rules first.second) (stand_in old.planets at)) (stand_in old.planets at) =
      gains at ∙ ap (λ c. cond c (option_map (gained rules first.second) (stand_in old.planets at)) (stand_in old.planets at)) pays in
      planets-now at
      ∙ (λ i. cond (pays i) (option_map (with_own (came.own (PlanetId at))) (there i)) (there i))
      ∙ by-payment b
    where
      by-payment : (b : Bool) → cond b (option_map (with_own (came.own (PlanetId at))) (cond b (option_map (gained rules first.second) (stand_in old.planets at)) (stand_in old.planets at)))
          (cond b (option_map (gained rules first.second) (stand_in old.planets at)) (stand_in old.planets at))
          ≡ cond b (option_map (stand_after rules event old (PlanetId at)) (stand_in old.planets at)) (stand_in old.planets at)
      by-payment true = planet-mapped at (get place_order old.planets at) refl
      by-payment false = refl

  -- research that is done is the event
  pub research_after : (x : CellId) → held_at new x ≡ held_after rules event old x
  research_after (AccountId k) =
      let at_now = subst (λ p. Updates player_order old.accounts new.accounts p (Some now)) (sym (keeps.player ∙ name)) updates in
      let put = account_puts old (record { accounts = new.accounts; planets = old.planets }) now at_now refl (AccountId k) in
      put ∙ (λ i. cond (same_player (keeps.player i) k) (Some (account_stand now)) (held_at old (AccountId k)))
      ∙ account-held (same_player cell.account.player k) k refl
      ∙ ap (λ b. cond b (option_map (stand_after rules event old (AccountId k)) (held_at old (AccountId k))) (held_at old (AccountId k))) (sym (outside k))
  research_after (PlanetId at) =
      planet-held (pays_some waiting at) at refl
      ∙ ap (λ b. cond b (option_map (stand_after rules event old (PlanetId at)) (held_at old (PlanetId at))) (held_at old (PlanetId at))) (sym (inside at))

rest-same : (items : List Item) (item other : Item) (later more : List Item) → items ≡ item ∷ later → items ≡ other ∷ more → later ≡ more
rest-same items item other later more one two = let both : item ∷ later ≡ other ∷ more = sym one ∙ two in cc

research-at : (held : Held) (player : Player) (cell : AccountCell) → get player_order held.accounts player ≡ Some cell → items_held held (ResearchOf player) ≡ research_of cell.account
research-at held player cell found = ap (λ o. (seen_of (option_map account_stand o)).queue Researches) found

module _ (rules : Rules) (due : Due) (old new : Held) (player : Player) (cell now : AccountCell) (named : IsNamed old) (can : CanFinish old due) (queue : due.queue ≡ ResearchOf player)
    (found : get player_order old.accounts player ≡ Some cell) where
  -- research is done
  pub research_happens : Updates player_order old.accounts new.accounts player (Some now) → now.second ≡ due.second → KeepsHoldings cell.account now.account → now.fleets ≡ cell.fleets
      → FinishesResearch rules due.second cell.account now.account old.planets new.planets → Finishes rules due old new
  research_happens updates stamp keeps flown done item later owed =
      let here : items_held old due.queue ≡ research_item cell.account.player done.item ∷ map (research_item cell.account.player) done.later =
      ap (items_held old) queue ∙ research-at old player cell found ∙ ap (map (research_item cell.account.player)) done.items in
      let first = first-same (items_held old due.queue) can.item (research_item cell.account.player done.item) can.later (map (research_item cell.account.player) done.later) can.owed here in
      let second : due.second ≡ done.item.second = sym can.second ∙ ap (λ (i : Item). i.second) first in
      let one = first-same (items_held old due.queue) (research_item cell.account.player done.item) item (map (research_item cell.account.player) done.later) later here owed in
      let rest = rest-same (items_held old due.queue) (research_item cell.account.player done.item) item (map (research_item cell.account.player) done.later) later here owed in
      λ x. research_after rules old new player cell now done.item done.later done.between named can.own_fleets flown (named_account old player cell named found) found updates (stamp ∙ second) keeps
      (subst (λ s. PayersGain rules s done.later old.planets done.between) second done.gains) done.fields
      (λ own are. done.research own are ∙ (λ i. (starts_first_research rules.speed (second i) (account_fields now.account) own (map (research_item now.account.player) done.later)).queue))
      (λ own are. subst (λ s. HaveOwns done.later (starts_first_research rules.speed s (account_fields now.account) own (map (research_item now.account.player) done.later)).own done.between new.planets)
      second (done.planets own are)) x
      ∙ (λ i. held_after rules (item_due (class_of (sym queue i)) (one i) (rest i)) old x)

-- What an account must be for that.

record HasRest (player : Player) (items : List ResearchItem) (later : List Item) : Type 0 where
  some : 0 < length items
  rest : later ≡ map (research_item player) (drop 1 items)

has-rest : (player : Player) (items : List ResearchItem) (item : Item) (later : List Item) → map (research_item player) items ≡ item ∷ later → HasRest player items later
has-rest player [] item later is = let none : [] ≡ item ∷ later = is in absurd (cc none)
has-rest player (first ∷ waiting) item later is =
    let rest : map (research_item player) waiting ≡ later = cc in
    record { some = grind (arith); rest = sym rest }

or-true : (b c : Bool) → c ≡ true → (b || c) ≡ true
or-true true c is = refl
or-true false c is = is

behind-at : (second : ℕ) (o : Option PlanetCell) → IfSome (option_map planet_stand o) (λ stand. stand.second ≤ second) → IfSome o (λ cell. cell.second ≤ second)
behind-at second None behind = tt
behind-at second (Some cell) behind = behind

module _ (due : Due) (old : Held) (player : Player) (cell : AccountCell) (can : CanFinish old due) (queue : due.queue ≡ ResearchOf player) (found : get player_order old.accounts player ≡ Some cell) where
  waits : HasRest cell.account.player cell.account.research.items can.later
  waits = has-rest cell.account.player cell.account.research.items can.item can.later (sym (ap (items_held old) queue ∙ research-at old player cell found) ∙ can.owed)

  pub research_some : 0 < length cell.account.research.items
  research_some = waits.some

  pub payers_behind : PayersBehind (drop 1 cell.account.research.items) due.second old.planets
  payers_behind at pays =
      let payer : is_payer (class_of due.queue) can.later (PlanetId at) ≡ true =
      (λ i. is_payer (class_of (queue i)) (waits.rest i) (PlanetId at)) ∙ payers-are cell.account.player (drop 1 cell.account.research.items) at ∙ pays in
      behind-at due.second (get place_order old.planets at) (can.behind (PlanetId at) (or-true (same_cell can.item.cell (PlanetId at)) (is_payer (class_of due.queue) can.later (PlanetId at)) payer))
