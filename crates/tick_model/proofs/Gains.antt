-- What gains leave of a cell.
use Rattle.std.proofs.Common.{◌≡◌, ℕ, zero, suc, ◌+◌, true, ◌||◌, arith, refl, ap, ◌∙◌, sym, subst}
use Rattle.std.proofs.Math.Path.{fun_ext}
use Rattle.base_ids.specs.declared.cell_id.CellId.{CellId}
use Rattle.rates.specs.Times.{times}
use Rattle.request_text.specs.declared.entry.Entry.{Entry}
use Rattle.tick_model.specs.Events.{Event, item_due, lands, fights, IsRaid, Owes}
use Rattle.tick_model.specs.Game.{brings, fleets_bring, research_brings}
use Rattle.tick_model.specs.Production.{advance, cell_second, gains, own_second, planet_second}
use Rattle.tick_model.specs.Requests.{asked}
use Rattle.tick_model.specs.Rules.{IsIn, KeepsRules}
use Rattle.tick_model.specs.declared.rules.Rules.{Rules}
use Rattle.tick_model.specs.Universe.{Own, of_nothing, of_account, of_planet, Researches, Yard, Setting, State}
use Rattle.tick_model.specs.Views.{View, planets_of, queue_in, units_of, view}
use Rattle.tick_model.proofs.Asked.{asked-same}
use Rattle.tick_model.proofs.Staying.{keeps-owns}
use Rattle.tick_model.proofs.Owns.{IsAlike, alike-holding, alike-itself, alike-stays, alike-then, brings-same, stays-owner}

second-alike : (rules : Rules) (own : Own) → IsAlike own (own_second rules own)
unfolding planet_second
second-alike rules of_nothing = tt
second-alike rules (of_account account) = tt
second-alike rules (of_planet planet) = (refl, refl)

-- what gains keep
pub record Gained (before after : View) : Type 0 where
  pub alike : IsAlike before.own after.own
  pub queue : after.queue ≡ before.queue
  pub fleets : after.fleets ≡ before.fleets
  pub planets : after.planets ≡ before.planets
  pub units : after.units ≡ before.units

pub gained : (rules : Rules) (n : ℕ) (v : View) → Gained v (gains rules n v)
unfolding times
gained rules zero v = record { alike = alike-itself v.own; queue = refl; fleets = refl; planets = refl; units = refl }
gained rules (suc n) v =
    let before = gained rules n v in
    let own = (gains rules n v).own in
    record {
      alike = alike-then v.own own (own_second rules own) before.alike (second-alike rules own);
      queue = before.queue;
      fleets = before.fleets;
      planets = before.planets;
      units = before.units;
    }

pub none-gained : (rules : Rules) (v : View) → gains rules 0 v ≡ v
unfolding times
none-gained rules v = refl

pub more-gained : (rules : Rules) (m n : ℕ) (v : View) → gains rules n (gains rules m v) ≡ gains rules (m + n) v
unfolding times
more-gained rules m zero v = let sum : m ≡ m + 0 = omega arith in ap (λ k. gains rules k v) sum
more-gained rules m (suc n) v =
    let sum : suc (m + n) ≡ m + suc n = omega arith in
    ap (cell_second rules) (more-gained rules m n v) ∙ ap (λ k. gains rules k v) sum

-- a cell owes after gains just what it owed before
pub gains-owe : (rules : Rules) (n : ℕ) (v : View) (e : Event) → Owes v e → Owes (gains rules n v) e
gains-owe rules n v (item_due class item later) owes = ap (λ queue. queue class) (gained rules n v).queue ∙ owes
gains-owe rules n v (lands fleet) owes = (subst (IsIn fleet) (sym (gained rules n v).fleets) owes.0, owes.1)
gains-owe rules n v (fights raid) owes = subst (λ fleets. IsRaid fleets raid) (sym (gained rules n v).fleets) owes

pub gains-owed : (rules : Rules) (n : ℕ) (v : View) (e : Event) → Owes (gains rules n v) e → Owes v e
gains-owed rules n v (item_due class item later) owes = ap (λ queue. queue class) (sym (gained rules n v).queue) ∙ owes
gains-owed rules n v (lands fleet) owes = (subst (IsIn fleet) (gained rules n v).fleets owes.0, owes.1)
gains-owed rules n v (fights raid) owes = subst (λ fleets. IsRaid fleets raid) (gained rules n v).fleets owes

pub gains-bring : (rules : Rules) (n t : ℕ) (v : View) (y : CellId) → brings (gains rules n v) t y ≡ true → brings v t y ≡ true
gains-bring rules n t v y brought =
    let after = gained rules n v in
    let own = brings-same (gains rules n v).own v.own (stays-owner v.own (gains rules n v).own (alike-stays v.own (gains rules n v).own after.alike)) y in
    let research = ap (λ queue. research_brings t (queue Researches) y) after.queue in
    let fleets = ap (λ fleets. fleets_bring t fleets y) after.fleets in
    sym (λ i. own i || research i || fleets i) ∙ brought

-- every cell gains for its own seconds
pub view-advanced : (setting : Setting) (k : CellId → ℕ) (state : State) (x : CellId)
    → view setting.cells (advance setting k state) x ≡ gains setting.rules (k x) (view setting.cells state x)
view-advanced setting k state x =
    let before = view setting.cells state in
    let after = gained setting.rules (k x) (before x) in
    let holdings = fun_ext (λ y. alike-holding (state.own y) ((advance setting k state).own y) (queue_in state.items y Yard) (gained setting.rules (k y) (before y)).alike) in
    let planets = ap (λ held. planets_of setting.cells held x) holdings ∙ sym after.planets in
    let units = ap (λ held. units_of setting.cells held state.fleets x) holdings ∙ sym after.units in
    λ i. record {
      own = (gains setting.rules (k x) (before x)).own;
      queue = sym after.queue i;
      fleets = sym after.fleets i;
      planets = planets i;
      units = units i;
    }

pub advance-keeps : (setting : Setting) (k : CellId → ℕ) (state : State) → KeepsRules setting state → KeepsRules setting (advance setting k state)
advance-keeps setting k state fine =
    keeps-owns setting (advance setting k state).own state (λ x. alike-stays (state.own x) ((advance setting k state).own x) (gained setting.rules (k x) (view setting.cells state x)).alike) fine

pub advance-asked : (setting : Setting) (k : CellId → ℕ) (state : State) (entry : Entry) (y : CellId)
    → asked setting.cells (view setting.cells (advance setting k state)) entry.player entry.req y ≡ asked setting.cells (view setting.cells state) entry.player entry.req y
advance-asked setting k state entry y = asked-same setting.cells (view setting.cells (advance setting k state)) (view setting.cells state) entry.player entry.req y refl
