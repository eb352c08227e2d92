use Rattle.std.proofs.Common.{sym, ◌∙◌}
use Rattle.base_bytes.specs.Told.{IsRead, IsTold}
use Rattle.base_bytes.proofs.Fitting.{fits-bytes}
use Rattle.base_bytes.proofs.Listing.{holds-if, holds-of, not-none}
use Rattle.base_bytes.proofs.Spelt.{told-spells}
use Rattle.base_bytes.proofs.reading.read.Goals as goal

pub returns-in_default-clause-each : goal.returns-in_default-clause-each
returns-in_default-clause-each c = λ base spelt.
    let told = c.in_ok-base.ensures.base base (fits-bytes base spelt.rules spelt.seed) spelt.is in
    not-none c.in_ok-base.field-0 (IsTold base) c.in_default.is told

pub returns-then-branch-clause-each : goal.returns-then-branch-clause-each
returns-then-branch-clause-each c = λ base spelt.
    let told = c.in_ok-base.ensures.base base (fits-bytes base spelt.rules spelt.seed) spelt.is in
    holds-of c.in_ok-base.field-0 c.in-Some.base (IsTold base) c.in-Some.is told

pub returns-else-branch-clause-each : goal.returns-else-branch-clause-each
returns-else-branch-clause-each c = λ base spelt.
    let told = c.in_ok-base.ensures.base base (fits-bytes base spelt.rules spelt.seed) spelt.is in
    let same = holds-of c.in_ok-base.field-0 c.in-Some.base (IsTold base) c.in-Some.is told in
    let read = holds-if c.in_ok-base.field-0 c.in-Some.base IsRead c.in-Some.is c.in_ok-base.ensures.read in
    cc (sym c.if-branch.false ∙ c.in_ok-is_spelt.ensures.1 (told-spells c.args.bytes.now base c.in-Some.base spelt same read))
