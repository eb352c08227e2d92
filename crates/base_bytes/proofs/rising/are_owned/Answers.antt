use Rattle.std.proofs.Common.{rules, ◌≡◌, true, map}
use Rattle.std.proofs.lemmas.Iterator.{YieldsList-from_slice, cases_from_all}
use Rattle.std.specs.List.{Contains}
use Rattle.account_cell.specs.declared.account.Account.{Account}
use Rattle.planet_cell.specs.declared.planet.Planet.{Planet}
use Rattle.base_bytes.proofs.Deciding.{all-answer}
use Rattle.base_bytes.proofs.rising.are_owned.Goals as goal

pub returns : goal.returns
returns c =
    let owned = λ (p : Planet). Contains (map (λ (a : Account). a.player) c.args.accounts.now) p.owner in
    let answer = cases_from_all _ _ _ owned (λ (p : Planet). owned p → ⊥) c.all.ensures.ran (YieldsList-from_slice c.args.planets.now cc) (λ x q k. search rules) (λ x q k. search rules) in
    all-answer owned c.args.planets.now c.all.result answer
