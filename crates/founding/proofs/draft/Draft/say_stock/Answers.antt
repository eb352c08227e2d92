use Rattle.std.proofs.Common.{◌≡◌, ◌∙◌, ap, refl, Some}
use Rattle.founding.specs.Drafts.{planet_at, DraftPlanet}
use Rattle.founding.specs.DraftMaps.{draft_of, planet_of}
use Rattle.founding.proofs.Judging.{draft_replaced, standing_some}
use Rattle.founding.proofs.Keeping.{changed_kept}
use Rattle.founding.proofs.draft.Draft.say_stock.Goals as goal

pub put_back-requires : goal.put_back-requires
put_back-requires c =
    let place = ap (λ (p : DraftPlanet). p.at) c.stocked_with.ensures ∙ c.in-Some.ensures.1 in
    standing_some c.args.self.now c.args.stock.at c.stocked_with.result.at (planet_of c.in-Some.sketch) c.requires c.in-Some.ensures.0 place

pub returns-clause-steps : goal.returns-clause-steps
returns-clause-steps c =
    let old = c.args.self.now in
    let planets = draft_replaced old c.stocked_with.result _ c.put_back.new.planets.entries c.requires c.stocked_with.ensures c.put_back.ensures in
    (planet_of c.in-Some.sketch, record { stands = c.in-Some.ensures.0; unsaid = c.if-sketch.false }, ap (λ list. record (draft_of old) { planets = list }) planets)

pub returns-clause-kept : goal.returns-clause-kept
returns-clause-kept c =
    let old = c.args.self.now in
    let new = record old { planets = c.put_back.new.planets } in
    let was = planet_of c.in-Some.sketch in
    let at = ap (λ (p : DraftPlanet). p.at) c.stocked_with.ensures in
    let owner = ap (λ (p : DraftPlanet). p.own.owner) c.stocked_with.ensures in
    let units = ap (λ (p : DraftPlanet). p.own.units) c.stocked_with.ensures in
    let stands : planet_at c.stocked_with.result.at (draft_of old).planets ≡ Some was = ap (λ place. planet_at place (draft_of old).planets) (at ∙ c.in-Some.ensures.1) ∙ c.in-Some.ensures.0 in
    changed_kept old new c.stocked_with.result was c.requires stands at owner units c.put_back.ensures refl refl refl
