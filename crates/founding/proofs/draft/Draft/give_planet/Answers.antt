use Rattle.std.proofs.Common.{◌∙◌, ap, refl, arith}
use Rattle.std.specs.Prelude.{map}
use Rattle.std.proofs.lemmas.List.{length-map}
use Rattle.std.proofs.Math.Path.{fun_ext}
use Rattle.std.proofs.lemmas.Map.Entries.{length-values_of}
use Rattle.std.specs.Map.{values_of}
use Rattle.founding.specs.Drafts.{planet_before, put, DraftPlanet, Gives}
use Rattle.founding.specs.DraftMaps.{draft_of, own_in, planet_of}
use Rattle.founding.proofs.Finding.{taken_absent, taken_put}
use Rattle.founding.proofs.Judging.{has_room, named_some}
use Rattle.founding.proofs.Keeping.{planet_kept, players-altered, unaltered}
use Rattle.founding.proofs.Stepping.{steps-memory}
use Rattle.founding.proofs.draft.Draft.give_planet.Goals as goal

pub returns-in_err-reserve-clause-steps : goal.returns-in_err-reserve-clause-steps
returns-in_err-reserve-clause-steps c =
    let old = c.args.self.now in
    let new = record old { planet_room = c.reserve.new.self } in
    let may = c.if-not-may_stand.ensures.0 refl in
    steps-memory (λ before after. Gives before c.args.planet after) old new c.from_residual.result c.from_residual.ensures.1 (_, (may, refl)) refl

pub returns-in_err-insert-clause-steps : goal.returns-in_err-insert-clause-steps
returns-in_err-insert-clause-steps c =
    let old = c.args.self.now in
    let new = record old { planets = c.insert.new.self; planet_room = c.reserve.new.self } in
    let may = c.if-not-may_stand.ensures.0 refl in
    steps-memory (λ before after. Gives before c.args.planet after) old new c.from_residual-in_err-insert.result c.from_residual-in_err-insert.ensures.1 (_, (may, refl))
    (ap (λ entries. record (draft_of old) { planets = map planet_of (values_of entries) }) c.in_err-insert.ensures.err)

pub add_place-requires : goal.add_place-requires
add_place-requires c = has_room c.args.self.now c.args.planet c.requires (c.if-not-may_stand.ensures.0 refl)

pub returns-clause-steps : goal.returns-clause-steps
returns-clause-steps c =
    let old = c.args.self.now in
    let entries = old.planets.entries in
    let may = c.if-not-may_stand.ensures.0 refl in
    let here = ap (λ (p : DraftPlanet). p.at) c.new.ensures in
    let absent = taken_absent c.args.planet.at entries c.requires.placed may.free in
    let planets = ap (λ es. map planet_of (values_of es)) c.in_ok-insert.ensures.entries ∙ taken_put c.args.planet.at c.new.result entries here c.requires.placed absent ∙ ap (λ p. put planet_before p (draft_of old).planets) c.new.ensures in
    let owner = c.args.planet.owner in
    let has = named_some old c.args.planet may in
    let players = players-altered owner _ _ _ old.players c.add_place.new.players has c.add_place.ensures in
    let owns = fun_ext (λ q. unaltered owner _ _ _ old.players c.add_place.new.players has c.add_place.ensures own_in q c.add_place.ensures.owned) in
    (may, λ i. record (draft_of old) { players = players i; owns = owns i; planets = planets i })

pub returns-clause-kept : goal.returns-clause-kept
returns-clause-kept c =
    let old = c.args.self.now in
    let new = record old { players = c.add_place.new.players; planets = c.insert.new.self; planet_room = c.reserve.new.self } in
    let entries = old.planets.entries in
    let may = c.if-not-may_stand.ensures.0 refl in
    let planets = length-map (values_of entries) planet_of in
    let count = length-values_of entries in
    planet_kept old new c.args.planet c.new.result c.requires may c.new.ensures c.in_ok-insert.ensures.was_ordered c.in_ok-insert.ensures.entries (named_some c.args.self.now c.args.planet may) c.add_place.ensures
    (c.in_ok-reserve.ensures.items ∙ c.requires.no_planets) (omega (arith, planets, count, c.in_ok-reserve.ensures.ok, c.len.ensures.len)) refl
