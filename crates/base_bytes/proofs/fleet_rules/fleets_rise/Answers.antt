use Rattle.std.proofs.Common.{rules, subst}
use Rattle.std.specs.Prelude.{◌↔◌, ◌<◌, AllPairs, IsTrue}
use Rattle.std.proofs.lemmas.List.Sorted.{answers_always}
use Rattle.base_bytes.proofs.Numbering.{is_lower, rises}
use Rattle.tick_model.specs.Universe.{Fleet}
use Rattle.base_bytes.proofs.fleet_rules.fleets_rise.Goals as goal

pub returns : goal.returns
returns c =
    let sorted = c.is_sorted_by.ensures.cases is_lower (answers_always _ _ _ (λ f a r g called. search rules)) in
    let rise = λ (fleets : _). IsTrue c.is_sorted_by.result ↔ AllPairs (λ (a b : Fleet). a.number < b.number) fleets in
    subst rise c.as_slice.ensures (rises c.as_slice.result.now c.is_sorted_by.result sorted)
