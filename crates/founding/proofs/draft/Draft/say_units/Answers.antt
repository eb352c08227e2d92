use Rattle.std.proofs.Common.{◌≡◌, ◌∙◌, ap, arith, refl, Some}
use Rattle.std.proofs.Math.Path.{fun_ext}
use Rattle.founding.specs.Drafts.{planet_at, DraftPlanet}
use Rattle.founding.specs.DraftMaps.{draft_of, own_in, planet_of}
use Rattle.founding.proofs.Judging.{draft_replaced, named_has, named_listed, owner_named, standing_some, units_within}
use Rattle.founding.proofs.Keeping.{manned_kept, players-altered, unaltered}
use Rattle.founding.proofs.draft.Draft.say_units.Goals as goal

pub manned_with-requires : goal.manned_with-requires
manned_with-requires c =
    let old = draft_of c.args.self.now in
    let own = units_within (planet_of c.in-Some.sketch) c.args.new.at old.planets c.in-Some.ensures.1 c.in-Some.ensures.0 in
    let most = (c.if-not-may_man.ensures.0 refl).1 in
    omega (arith, own, most)

pub put_back-requires : goal.put_back-requires
put_back-requires c =
    let place = ap (λ (p : DraftPlanet). p.at) c.manned_with.ensures.planet ∙ c.in-Some.ensures.1 in
    standing_some c.args.self.now c.args.new.at c.manned_with.result.at (planet_of c.in-Some.sketch) c.requires c.in-Some.ensures.0 place

pub count_units-requires-clause-listed : goal.count_units-requires-clause-listed
count_units-requires-clause-listed c =
    named_listed c.args.self.now c.in-Some.sketch.owner c.requires (owner_named c.args.self.now c.args.new.at (planet_of c.in-Some.sketch) c.requires c.in-Some.ensures.0)

pub count_units-requires-clause-room : goal.count_units-requires-clause-room
count_units-requires-clause-room c =
    let counted = c.requires.counted c.in-Some.sketch.owner in
    let most = (c.if-not-may_man.ensures.0 refl).1 in
    omega (arith, counted, most)

pub returns-clause-steps : goal.returns-clause-steps
returns-clause-steps c =
    let old = c.args.self.now in
    let owner = c.in-Some.sketch.owner in
    let may = c.if-not-may_man.ensures.0 refl in
    let planets = draft_replaced old c.manned_with.result _ c.put_back.new.planets.entries c.requires c.manned_with.ensures.planet c.put_back.ensures in
    let has = named_has old owner (owner_named old c.args.new.at (planet_of c.in-Some.sketch) c.requires c.in-Some.ensures.0) in
    let players = players-altered owner _ _ _ old.players c.count_units.new.players has c.count_units.ensures in
    let owns = fun_ext (λ q. unaltered owner _ _ _ old.players c.count_units.new.players has c.count_units.ensures own_in q c.count_units.ensures.owned) in
    (planet_of c.in-Some.sketch, record { stands = c.in-Some.ensures.0; unsaid = may.0; room = may.1 }, λ i. record (draft_of old) { players = players i; owns = owns i; planets = planets i })

pub returns-clause-kept : goal.returns-clause-kept
returns-clause-kept c =
    let old = c.args.self.now in
    let new = record old { players = c.count_units.new.players; planets = c.put_back.new.planets } in
    let was = planet_of c.in-Some.sketch in
    let at = ap (λ (p : DraftPlanet). p.at) c.manned_with.ensures.planet in
    let owner : c.manned_with.result.owner ≡ c.in-Some.sketch.owner = ap (λ (p : DraftPlanet). p.own.owner) c.manned_with.ensures.planet in
    let more = c.manned_with.ensures.total (c.if-not-may_man.ensures.0 refl).0 in
    let stands : planet_at c.manned_with.result.at (draft_of old).planets ≡ Some was = ap (λ place. planet_at place (draft_of old).planets) (at ∙ c.in-Some.ensures.1) ∙ c.in-Some.ensures.0 in
    let has = named_has old c.in-Some.sketch.owner (owner_named old c.args.new.at was c.requires c.in-Some.ensures.0) in
    manned_kept old new c.manned_with.result was c.args.new.count c.requires stands at owner more c.put_back.ensures has c.count_units.ensures refl refl
