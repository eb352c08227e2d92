use Rattle.std.proofs.Common.{◌≡◌, ap, subst, sym}
use Rattle.base_bytes.specs.Told.{IsOwnAt}
use Rattle.base_bytes.specs.declared.parts.Course.{Course}
use Rattle.base_bytes.specs.declared.parts.Timing.{Timing}
use Rattle.records.specs.declared.fields.Load.{Load}
use Rattle.base_bytes.proofs.fleets.fleet_of.Goals as goal

pub returns-in_err-cargo-clause-fleet : goal.returns-in_err-cargo-clause-fleet
returns-in_err-cargo-clause-fleet c = λ fleet rise fits course timing load.
    absurd (cc (c.in_err-cargo.ensures fleet.cargo (ap (λ (l : Load). l.metal) load) (ap (λ (l : Load). l.crystal) load) (ap (λ (l : Load). l.deuterium) load)))

pub returns-in_err-ships-clause-fleet : goal.returns-in_err-ships-clause-fleet
returns-in_err-ships-clause-fleet c = λ fleet rise fits course timing load. absurd (cc (c.in_err-ships.ensures fleet.ships (ap (λ (l : Load). l.ships) load)))

pub returns-in_err-target_owner-clause-fleet : goal.returns-in_err-target_owner-clause-fleet
returns-in_err-target_owner-clause-fleet c = λ fleet rise fits course timing load.
    let the_target : c.in-Some-Some.target ≡ fleet.target = cc (ap (λ (k : Course). k.target) course) in
    let there = subst (IsOwnAt c.args.planets.now fleet.target_owner) (sym the_target) fits.target in
    absurd (cc (c.in_err-target_owner.ensures.owner fleet.target_owner rise there))

pub returns-clause-fleet : goal.returns-clause-fleet
returns-clause-fleet c = λ fleet rise fits course timing load.
    let the_number : c.args.course.number ≡ fleet.number = ap (λ (k : Course). k.number) course in
    let the_group : c.args.course.group ≡ fleet.group = ap (λ (k : Course). k.group) course in
    let the_owner : c.in-Some-Some-Some.owner ≡ fleet.owner = cc (ap (λ (k : Course). k.owner) course) in
    let the_mission : c.in-Some-Some-Some.mission ≡ fleet.mission = cc (ap (λ (k : Course). k.mission) course) in
    let is_outbound : c.in-Some-Some-Some.outbound ≡ fleet.outbound = cc (ap (λ (k : Course). k.outbound) course) in
    let the_origin : c.in-Some-Some.origin ≡ fleet.origin = cc (ap (λ (k : Course). k.origin) course) in
    let the_target : c.in-Some-Some.target ≡ fleet.target = cc (ap (λ (k : Course). k.target) course) in
    let the_setting : c.in_ok-setting.setting ≡ fleet.setting = cc (ap (λ (t : Timing). t.setting) timing, c.in_ok-setting.was) in
    let the_launch : c.args.timing.launch ≡ fleet.launch = ap (λ (t : Timing). t.launch) timing in
    let the_second : c.args.timing.second ≡ fleet.second = ap (λ (t : Timing). t.second) timing in
    let the_cargo : c.in_ok-cargo.cargo ≡ fleet.cargo = cc (c.in_ok-cargo.ensures fleet.cargo (ap (λ (l : Load). l.metal) load) (ap (λ (l : Load). l.crystal) load) (ap (λ (l : Load). l.deuterium) load)) in
    let the_ships : c.in_ok-ships.ships ≡ fleet.ships = cc (c.in_ok-ships.ensures fleet.ships (ap (λ (l : Load). l.ships) load)) in
    let there = subst (IsOwnAt c.args.planets.now fleet.target_owner) (sym the_target) fits.target in
    let is_owner : c.in_ok-target_owner.target_owner ≡ fleet.target_owner = cc (c.in_ok-target_owner.ensures.owner fleet.target_owner rise there) in
    λ i. record {
      number = the_number i;
      group = the_group i;
      owner = the_owner i;
      mission = the_mission i;
      origin = the_origin i;
      target = the_target i;
      target_owner = is_owner i;
      outbound = is_outbound i;
      setting = (the_setting i).p;
      launch = the_launch i;
      second = the_second i;
      cargo = record { metal = (the_cargo i).m; crystal = (the_cargo i).c; deuterium = (the_cargo i).d };
      ships = (the_ships i).n;
    }
