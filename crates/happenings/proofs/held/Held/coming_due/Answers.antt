use Rattle.std.proofs.Common.{◌≡◌, ◌∷◌, ◌++◌, [], ap, ◌∙◌, sym, refl, subst, append_assoc}
use Rattle.std.specs.Prelude.{option_map}
use Rattle.std.proofs.lemmas.List.{append-nil}
use Rattle.std.proofs.lemmas.Map.Iter.{rest_all, rest_more}
use Rattle.std.specs.Map.Iter.{deref_pair}
use Rattle.base_ids.specs.declared.coord.Coord.{Coord}
use Rattle.fleet_rec.specs.Fleet.{fleet_seen}
use Rattle.fleet_rec.specs.Fleets.{coming_key}
use Rattle.happenings.specs.Due.{IsFirstOwed, sooner_of}
use Rattle.happenings.specs.declared.held.PlanetCell.{PlanetCell}
use Rattle.happenings.proofs.Arriving.{coming_owed, comings_first, sooner-seen}
use Rattle.happenings.proofs.Firsts.{first_more}
use Rattle.happenings.proofs.Keys.{holds_within}
use Rattle.happenings.proofs.Owing.{planet_there}
use Rattle.happenings.proofs.held.Held.coming_due.Goals as goal

pub planets-preserved : goal.planets-preserved
planets-preserved c =
    let held = c.args.self.now in
    let owed = coming_owed c.args.moment in
    let before = c.planets.invariant in
    let first = c.planets.first in
    let entry : Coord × PlanetCell = (c.in-Some.at.now, c.in-Some.cell.now) in
    let step : c.planets.at-iterator ≡ entry ∷ c.next.new.self =
    rest_more deref_pair c.planets.at-iterator c.next.new.self c.next.result (c.in-Some.at, c.in-Some.cell) c.in-Some.is c.next.ensures.steps in
    let parts : before.0 ++ entry ∷ c.next.new.self ≡ held.planets.entries = ap (λ rest. before.0 ++ rest) (sym step) ∙ before.1 in
    let found = holds_within (planet_there held) before.0 c.next.new.self held.planets.entries entry c.iter-at-items.ensures.found parts in
    let other = c.first_coming.result in (
      before.0 ++ entry ∷ [],
      append_assoc before.0 (entry ∷ []) c.next.new.self ∙ parts,
      subst (IsFirstOwed coming_key owed (planet_there held) (before.0 ++ entry ∷ []))
          (ap (sooner_of coming_key (option_map fleet_seen first)) (sym c.first_coming.ensures) ∙ sooner-seen first other ∙ ap (option_map fleet_seen) (sym c.sooner_coming-first.ensures))
          (first_more coming_key owed (planet_there held) before.0 entry (option_map fleet_seen first) _ found refl before.2),
    )

pub returns : goal.returns
returns c =
    let held = c.args.self.now in
    let before = c.planets.invariant in
    let none = rest_all deref_pair c.planets.at-iterator c.next.new.self c.next.result c.in-None.is c.next.ensures.steps in
    let all : before.0 ≡ held.planets.entries = sym (append-nil before.0) ∙ ap (λ rest. before.0 ++ rest) (sym none) ∙ before.1 in
    comings_first held c.args.moment c.planets.first
    (subst (λ entries. IsFirstOwed coming_key (coming_owed c.args.moment) (planet_there held) entries (option_map fleet_seen c.planets.first)) all before.2)
