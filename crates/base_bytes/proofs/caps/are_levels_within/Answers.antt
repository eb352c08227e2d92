use Rattle.std.proofs.Common.{◌+◌, ◌≤◌, arith, refl, subst}
use Rattle.std.proofs.lemmas.List.{get_or_default}
use Rattle.std.specs.Prelude.{IsTrue, slice_index}
use Rattle.base_bytes.proofs.Sweeping.{held-by-all, held-more}
use Rattle.catalog.specs.Classes.{is_building}
use Rattle.catalog.specs.Kinds.{place_in}
use Rattle.catalog.specs.Levels.{level_cap_of}
use Rattle.catalog.specs.declared.classes.TheConstants.{BUILDINGS}
use Rattle.catalog.specs.declared.kind.Kind.{Kind}
use Rattle.catalog.specs.declared.kind.TheConstants.{KINDS}
use Rattle.planet_cell.specs.Bounds.{count_of}
use Rattle.base_bytes.proofs.caps.are_levels_within.Goals as goal

pub kinds-preserved : goal.kinds-preserved
kinds-preserved c =
    let fine = λ (kind : Kind). IsTrue (is_building kind) → slice_index c.args.levels.now (place_in BUILDINGS kind) + count_of kind c.args.items.now ≤ level_cap_of kind in
    held-more fine KINDS c.kinds.kind-index c.kinds.invariant (λ d. subst fine (get_or_default KINDS c.kinds.kind-index _ d (omega (arith, c.kinds-test.true))) (c.if-not-is_level_within.ensures.0 refl))

pub returns : goal.returns
returns c =
    let fine = λ (kind : Kind). IsTrue (is_building kind) → slice_index c.args.levels.now (place_in BUILDINGS kind) + count_of kind c.args.items.now ≤ level_cap_of kind in
    (λ yes_true. record { each = held-by-all fine c.kinds.kind-index c.kinds.invariant (omega arith) }, λ within. refl)
