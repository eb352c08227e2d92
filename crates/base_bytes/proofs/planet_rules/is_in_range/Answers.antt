use Rattle.std.proofs.Common.{rules, arith}
use Rattle.std.proofs.lemmas.Bool.Decides.{nat_tests}
use Rattle.base_bytes.proofs.planet_rules.is_in_range.Goals as goal

pub returns-then-planet-le-CAP : goal.returns-then-planet-le-CAP
returns-then-planet-le-CAP c = (
  λ crystal. record { levels = search rules; tenths = search rules; some = search rules; fields = search rules; metal = search rules; crystal = search rules },
  λ range. let most = range.crystal in grind (arith, nat_tests),
)
