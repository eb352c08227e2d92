use Rattle.std.proofs.Common.{ap, rules}
use Rattle.std.proofs.lemmas.List.Sorted.{answers_always}
use Rattle.std.specs.Prelude.{Some}
use Rattle.std.specs.Result.{is_ok}
use Rattle.base_bytes.proofs.Placed.{equal-one, is-found-there, one-owner, own-there}
use Rattle.planet_cell.specs.declared.planet.Planet.{Planet}
use Rattle.base_bytes.proofs.fleets.owner_at.Goals as goal

pub returns-in-Ok-clause-owner : goal.returns-in-Ok-clause-owner
returns-in-Ok-clause-owner c = λ owner rise own.
    let facts = c.in-Ok.ensures in
    let planet = c.index-planets-place.result in
    let same = facts.position (λ (p : Planet). p.at) (answers_always _ _ _ (λ f a r g called. search rules)) planet in
    ap Some (one-owner c.args.planets.now c.in-Ok.place planet owner c.args.at facts.bound (equal-one _ c.args.at same) rise own)

pub returns-in-Ok-clause-own : goal.returns-in-Ok-clause-own
returns-in-Ok-clause-own c =
    let facts = c.in-Ok.ensures in
    let planet = c.index-planets-place.result in
    let same = facts.position (λ (p : Planet). p.at) (answers_always _ _ _ (λ f a r g called. search rules)) planet in
    own-there c.args.planets.now c.in-Ok.place planet c.args.at facts.bound (equal-one _ c.args.at same)

pub returns-in-Err-clause-owner : goal.returns-in-Err-clause-owner
returns-in-Err-clause-owner c = λ owner rise own.
    let facts = c.binary_search_by_key.ensures in
    let by_key = facts.position (λ (p : Planet). p.at) (answers_always _ _ _ (λ f a r g called. search rules)) in
    let found = is-found-there c.args.planets.now owner c.args.at c.binary_search_by_key.result rise own facts.bound by_key in
    let none = ap is_ok c.in-Err.is in
    absurd (cc (found, none))
