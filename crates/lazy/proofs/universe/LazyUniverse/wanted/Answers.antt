use Rattle.std.proofs.Common.{subst, sym}
use Rattle.closure.specs.Directory.{IsAsked}
use Rattle.happenings.specs.Sights.{sees_held}
use Rattle.lazy.specs.Touching.{AskedBy}
use Rattle.lazy.proofs.Least.{nothing-asked}
use Rattle.lazy.proofs.universe.LazyUniverse.wanted.Goals as goal

pub returns : goal.returns
returns c =
    let lazy = c.args.self.now in
    let missing = subst (IsAsked (sees_held lazy.cells) lazy.places c.args.player c.args.req.now) c.in-Missing.is c.in_ok-found.ensures in
    subst (AskedBy (sees_held lazy.cells) lazy.places c.args.player c.args.req.now) (sym c.new.ensures)
    (nothing-asked c.requires.0 c.requires.1 lazy c.args.player c.args.req.now c.requires.2 missing.1)
