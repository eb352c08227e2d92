use Rattle.std.proofs.Common.{refl, rules}
use Rattle.std.proofs.lemmas.List.{get_or_default}
use Rattle.planet_cell.specs.Planet.{batch_item_of}
use Rattle.planet_cell.specs.declared.batch.Batch.{Batch}
use Rattle.base_bytes.proofs.Meeting.{adds-batch, met-all, met-next, met-stop, not-new, was-new}
use Rattle.tick_model.specs.Universe.{Yard}
use Rattle.base_bytes.proofs.distinct.Met.meet_batches.Goals as goal

pub returns-then-not-branch : goal.returns-then-not-branch
returns-then-not-branch c =
    met-stop (batch_item_of c.args.planet.now.at) Yard (λ x. refl) c.args.planet.now.yard.items c.deref-batch-items.result.now c.items.batch-index _ c.args.self.now c.items.self c.items.self
    c.deref-batch-items.ensures.value c.items-test.true (λ d. search (rules, get_or_default)) c.items.invariant
    (not-new _ _ c.in_ok-insert.ensures.added c.if-not-branch.true)

pub items-preserved : goal.items-preserved
items-preserved c =
    met-next (batch_item_of c.args.planet.now.at) Yard (λ x. refl) c.args.planet.now.yard.items c.deref-batch-items.result.now c.items.batch-index _ c.args.self.now c.items.self _
    c.deref-batch-items.ensures.value c.items-test.true (λ d. search (rules, get_or_default)) c.items.invariant
    (was-new _ _ c.in_ok-insert.ensures.added c.if-not-branch.false) (adds-batch c.items.self c.insert.new.self _ c.in_ok-insert.ensures.updates)

pub returns : goal.returns
returns c =
    met-all (batch_item_of c.args.planet.now.at) c.args.planet.now.yard.items c.deref-batch-items.result.now c.items.batch-index c.args.self.now c.items.self
    c.deref-batch-items.ensures.value c.items-test.false c.items.invariant
