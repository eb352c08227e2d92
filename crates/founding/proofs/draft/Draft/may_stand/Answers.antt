use Rattle.std.proofs.Common.{◌≡◌, ◌∙◌, false, true, sym, arith}
use Rattle.std.proofs.lemmas.List.{length-map}
use Rattle.std.proofs.lemmas.Map.Entries.{length-values_of}
use Rattle.std.specs.Map.{values_of}
use Rattle.founding.specs.DraftMaps.{planet_of}
use Rattle.founding.proofs.Judging.{owned_tested, stranger_refused, taken_refused}
use Rattle.founding.proofs.draft.Draft.may_stand.Goals.{then-len-ge-MOST_PLANETS-via-then-len-ge-MOST_PLANETS, then-len-ge-MOST_PLANETS-via-else-len-ge-MOST_PLANETS+then-contains_key}
use Rattle.founding.proofs.draft.Draft.may_stand.Goals as goal

pub returns-then-len-ge-MOST_PLANETS : goal.returns-then-len-ge-MOST_PLANETS
returns-then-len-ge-MOST_PLANETS c =
    let entries = c.args.self.now.planets.entries in
    let planets = length-map (values_of entries) planet_of in
    let count = length-values_of entries in (
      λ (is : false ≡ true). absurd (cc),
      λ may.
          absurd (elim c.then-len-ge-MOST_PLANETS.branch [
            | then-len-ge-MOST_PLANETS-via-then-len-ge-MOST_PLANETS w ↦ let full = w.if-len-ge-MOST_PLANETS.true in let room = may.room in omega (arith, planets, count, full, room)
            | then-len-ge-MOST_PLANETS-via-else-len-ge-MOST_PLANETS+then-contains_key w ↦ taken_refused c.args.self.now c.args.planet c.requires (sym w.if-contains_key.true ∙ w.contains_key.ensures) may
          ]),
    )

pub returns-in-Some : goal.returns-in-Some
returns-in-Some c =
    let entries = c.args.self.now.planets.entries in
    let planets = length-map (values_of entries) planet_of in
    let count = length-values_of entries in
    owned_tested c.args.self.now c.args.planet c.in-Some.account.now c.len-in-Some.result c.requires (omega (arith, planets, count)) c.if-contains_key.ensures c.in-Some.ensures.value c.len-in-Some.ensures

pub returns-in-None : goal.returns-in-None
returns-in-None c = (λ (is : false ≡ true). absurd (cc), λ may. absurd (stranger_refused c.args.self.now c.args.planet c.in-None.ensures.value may))
