use Rattle.std.proofs.Common.{◌≡◌, true, false, ◌∙◌, ap, sym, subst, List, None, Some}
use Rattle.std.specs.Prelude.{slice_get}
use Rattle.std.specs.BTreeMap.{get}
use Rattle.account_cell.specs.Account.{account_fields, research_item}
use Rattle.account_cell.specs.declared.research_item.ResearchItem.{ResearchItem}
use Rattle.prices.specs.Prices.{cost_in}
use Rattle.tick_model.specs.Researches.{Researching, can_start}
use Rattle.tick_model.specs.Universe.{Own}
use Rattle.happenings.specs.Orders.{place_order}
use Rattle.happenings.specs.Researching.{AreOwns, ArePlaced, HaveOwns, Planets, came_first, own_held, pays_some}
use Rattle.happenings.proofs.Researched.{came_dropped, first_paid, first_starts, nothing_paid, nothing_starts, own_left, pays_first, pays_rest}
use Rattle.happenings.proofs.researching.start_first.Goals as goal

pub returns-then-can_start-clause-research : goal.returns-then-can_start-clause-research
returns-then-can_start-clause-research c own are =
    let items = c.args.account.now.research.items in
    let old = c.waiting.account in
    let item = c.in-Some.item in
    let planets = c.waiting.planets in
    let first : slice_get old.research.items 0 ≡ Some item = sym c.in-Some.ensures.first in
    let can : can_start c.args.rules.now.speed (account_fields old) (own_held (get place_order planets item.at)) (research_item old.player item) ≡ true =
    sym (c.can_start.ensures.can (account_fields old) old.player c.next_price-price.ensures) ∙ c.if-can_start.true in
    let pays = c.waiting.invariant.payers item.at (pays_first old.research.items item first) in
    let here : AreOwns items own planets = subst (λ (p : Planets). AreOwns items own p) (sym c.waiting.invariant.planets) are in
    first_starts c.args.rules.now.speed c.args.second own items old c.start_research.new.self item planets c.pay-lab.new.planets (cost_in c.next_price-price.result) first can pays here
    (c.can_start.ensures.payer c.if-can_start.true) c.pay-lab.result c.pay-lab.ensures.lab c.start_research.ensures.research
    ∙ ap (λ (r : Researching). r.queue) (c.waiting.invariant.came own are)

pub returns-then-can_start-clause-planets : goal.returns-then-can_start-clause-planets
returns-then-can_start-clause-planets c own are =
    let items = c.args.account.now.research.items in
    let old = c.waiting.account in
    let item = c.in-Some.item in
    let planets = c.waiting.planets in
    let now = c.pay-lab.new.planets in
    let first : slice_get old.research.items 0 ≡ Some item = sym c.in-Some.ensures.first in
    let can : can_start c.args.rules.now.speed (account_fields old) (own_held (get place_order planets item.at)) (research_item old.player item) ≡ true =
    sym (c.can_start.ensures.can (account_fields old) old.player c.next_price-price.ensures) ∙ c.if-can_start.true in
    let pays = c.waiting.invariant.payers item.at (pays_first old.research.items item first) in
    let here : AreOwns items own planets = subst (λ (p : Planets). AreOwns items own p) (sym c.waiting.invariant.planets) are in
    let paid : HaveOwns items (came_first c.args.rules.now.speed c.args.second old own).own planets now =
    first_paid c.args.rules.now.speed c.args.second own items old c.start_research.new.self item planets now (cost_in c.next_price-price.result) first can pays here
    (c.can_start.ensures.payer c.if-can_start.true) c.next_price-price.ensures c.pay-lab.ensures.pays in
    subst (λ (r : Researching). HaveOwns items r.own c.args.planets.now now) (c.waiting.invariant.came own are)
    (subst (λ (p : Planets). HaveOwns items (came_first c.args.rules.now.speed c.args.second old own).own p now) c.waiting.invariant.planets paid)

pub returns-then-can_start-clause-placed : goal.returns-then-can_start-clause-placed
returns-then-can_start-clause-placed c placed = c.pay-lab.ensures.placed (subst ArePlaced (sym c.waiting.invariant.planets) placed)

pub waiting-preserved : goal.waiting-preserved
waiting-preserved c =
    let old = c.waiting.account in
    let item = c.in-Some.item in
    let planets = c.waiting.planets in
    let invariant = c.waiting.invariant in
    let dropped = c.drop_research.ensures in
    let first : slice_get old.research.items 0 ≡ Some item = sym c.in-Some.ensures.first in
    let pays = invariant.payers item.at (pays_first old.research.items item first) in
    let never : can_start c.args.rules.now.speed (account_fields old) (own_held (get place_order planets item.at)) (research_item old.player item) ≡ false =
    sym (c.can_start.ensures.can (account_fields old) old.player c.next_price-price.ensures) ∙ c.if-can_start.false in
    record {
      planets = invariant.planets;
      fields = dropped.fields ∙ invariant.fields;
      keeps = record { player = dropped.keeps.player ∙ invariant.keeps.player; planets = dropped.keeps.planets ∙ invariant.keeps.planets; units = dropped.keeps.units ∙ invariant.keeps.units };
      payers = λ at pays. invariant.payers at (pays_rest old.research.items at (subst (λ (xs : List ResearchItem). pays_some xs at ≡ true) dropped.items pays));
      came = λ own are. came_dropped c.args.rules.now.speed c.args.second own old c.drop_research.new.self item first dropped.items dropped.fields dropped.keeps.player
          (ap (λ (o : Own). can_start c.args.rules.now.speed (account_fields old) o (research_item old.player item))
          (are item.at pays ∙ ap (λ (p : Planets). own_held (get place_order p item.at)) (sym invariant.planets)) ∙ never)
          ∙ invariant.came own are;
    }

pub returns-clause-research : goal.returns-clause-research
returns-clause-research c own are =
    let none : slice_get c.waiting.account.research.items 0 ≡ None = cc in
    nothing_starts c.args.rules.now.speed c.args.second own c.waiting.account none ∙ ap (λ (r : Researching). r.queue) (c.waiting.invariant.came own are)

pub returns-clause-planets : goal.returns-clause-planets
returns-clause-planets c own are =
    let items = c.args.account.now.research.items in
    let none : slice_get c.waiting.account.research.items 0 ≡ None = cc in
    let same = own_left c.args.rules.now.speed c.args.second own c.waiting.account none ∙ ap (λ (r : Researching). r.own) (c.waiting.invariant.came own are) in
    subst (λ o. HaveOwns items o c.args.planets.now c.waiting.planets) same
    (subst (λ (p : Planets). HaveOwns items own c.args.planets.now p) (sym c.waiting.invariant.planets) (nothing_paid items own c.args.planets.now are))

pub returns-clause-placed : goal.returns-clause-placed
returns-clause-placed c placed = subst ArePlaced (sym c.waiting.invariant.planets) placed
