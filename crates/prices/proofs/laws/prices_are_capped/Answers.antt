use Rattle.prices.proofs.Costs.{price_capped}
use Rattle.prices.proofs.laws.prices_are_capped.Goals as goal

pub returns-clause-metal : goal.returns-clause-metal
returns-clause-metal c = λ kind level below. (price_capped kind level below).metal

pub returns-clause-crystal : goal.returns-clause-crystal
returns-clause-crystal c = λ kind level below. (price_capped kind level below).crystal

pub returns-clause-deuterium : goal.returns-clause-deuterium
returns-clause-deuterium c = λ kind level below. (price_capped kind level below).deuterium
