use Rattle.std.proofs.Common.{◌+◌, ◌≤◌, arith, refl, subst}
use Rattle.std.proofs.lemmas.List.{get_or_default}
use Rattle.std.specs.Prelude.{IsTrue}
use Rattle.account_cell.specs.Bounds.{count_of}
use Rattle.base_bytes.proofs.Sweeping.{held-by-all, held-more}
use Rattle.catalog.specs.Classes.{is_technology}
use Rattle.catalog.specs.Levels.{level_cap_of}
use Rattle.catalog.specs.Technologies.{level_in}
use Rattle.catalog.specs.declared.kind.Kind.{Kind}
use Rattle.catalog.specs.declared.kind.TheConstants.{KINDS}
use Rattle.base_bytes.proofs.caps.are_techs_within.Goals as goal

pub kinds-preserved : goal.kinds-preserved
kinds-preserved c =
    let fine = λ (kind : Kind). IsTrue (is_technology kind) → level_in c.args.techs.now.n kind + count_of kind c.args.items.now ≤ level_cap_of kind in
    held-more fine KINDS c.kinds.kind-index c.kinds.invariant (λ d. subst fine (get_or_default KINDS c.kinds.kind-index _ d (omega (arith, c.kinds-test.true))) (c.if-not-is_tech_within.ensures.0 refl))

pub returns : goal.returns
returns c =
    let fine = λ (kind : Kind). IsTrue (is_technology kind) → level_in c.args.techs.now.n kind + count_of kind c.args.items.now ≤ level_cap_of kind in
    (λ yes_true. record { each = held-by-all fine c.kinds.kind-index c.kinds.invariant (omega arith) }, λ within. refl)
