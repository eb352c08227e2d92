use Rattle.std.proofs.Common.{refl}
use Rattle.ticking.proofs.universe.TickingUniverse.tick_to.Goals as goal

pub pass-requires-clause-all : goal.pass-requires-clause-all
pass-requires-clause-all c = let known = c.requires.stands in (known.0, known.1, known.2.cells_are)

pub returns-clause-ok : goal.returns-clause-ok
returns-clause-ok c = record {
  moment_is = refl;
  stands = λ base history stands. record {
    cells_are = c.in_ok-self.ensures base history stands.cells_are;
    directory = stands.directory;
    number = stands.number;
  };
}
