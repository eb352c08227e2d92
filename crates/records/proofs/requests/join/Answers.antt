use Rattle.std.proofs.Common.{◌≡◌, ap}
use Rattle.std.specs.Prelude.{Some}
use Rattle.records.specs.declared.fields.Load.{Load}
use Rattle.records.specs.declared.fields.Order.{Order}
use Rattle.request_text.specs.declared.request.Request.TheVariants.{Join}
use Rattle.records.proofs.requests.join.Goals as goal

pub returns-in_err-fleet : goal.returns-in_err-fleet
returns-in_err-fleet c = λ fleet from to setting ships cargo is load_is. absurd (cc (c.in_err-fleet.ensures fleet (ap (λ (o : Order). o.fleet) is)))

pub returns-in_err-from : goal.returns-in_err-from
returns-in_err-from c = λ fleet from to setting ships cargo is load_is. absurd (cc (c.in_err-from.ensures from (ap (λ (o : Order). o.from) is)))

pub returns-in_err-to : goal.returns-in_err-to
returns-in_err-to c = λ fleet from to setting ships cargo is load_is. absurd (cc (c.in_err-to.ensures to (ap (λ (o : Order). o.to) is)))

pub returns-in_err-setting : goal.returns-in_err-setting
returns-in_err-setting c = λ fleet from to setting ships cargo is load_is. absurd (cc (c.in_err-setting.ensures setting (ap (λ (o : Order). o.setting) is)))

pub returns-in_err-ships : goal.returns-in_err-ships
returns-in_err-ships c = λ fleet from to setting ships cargo is load_is. absurd (cc (c.in_err-ships.ensures ships (ap (λ (l : Load). l.ships) load_is)))

pub returns-in_err-cargo : goal.returns-in_err-cargo
returns-in_err-cargo c = λ fleet from to setting ships cargo is load_is. absurd (cc (c.in_err-cargo.ensures cargo (ap (λ (l : Load). l.metal) load_is) (ap (λ (l : Load). l.crystal) load_is) (ap (λ (l : Load). l.deuterium) load_is)))

pub returns : goal.returns
returns c = λ fleet from to setting ships cargo is load_is.
    let the_fleet : c.in_ok-fleet.fleet ≡ fleet = cc (c.in_ok-fleet.ensures fleet (ap (λ (o : Order). o.fleet) is)) in
    let the_from : c.in_ok-from.from ≡ from = cc (c.in_ok-from.ensures from (ap (λ (o : Order). o.from) is)) in
    let the_to : c.in_ok-to.to ≡ to = cc (c.in_ok-to.ensures to (ap (λ (o : Order). o.to) is)) in
    let the_setting : c.in_ok-setting.setting ≡ setting = cc (c.in_ok-setting.ensures setting (ap (λ (o : Order). o.setting) is)) in
    let the_ships : c.in_ok-ships.ships ≡ ships = cc (c.in_ok-ships.ensures ships (ap (λ (l : Load). l.ships) load_is)) in
    let the_cargo : c.in_ok-cargo.cargo ≡ cargo = cc (c.in_ok-cargo.ensures cargo (ap (λ (l : Load). l.metal) load_is) (ap (λ (l : Load). l.crystal) load_is) (ap (λ (l : Load). l.deuterium) load_is)) in
    λ i. Some (Join (the_fleet i) (the_from i) (the_to i) (the_setting i) (the_ships i) (the_cargo i))
