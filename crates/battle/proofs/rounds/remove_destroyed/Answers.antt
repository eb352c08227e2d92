use Rattle.std.proofs.Common.{not, rules}
use Rattle.std.proofs.lemmas.List.Elements.{filter_from_retain}
use Rattle.battle.proofs.rounds.remove_destroyed.Goals as goal

pub returns-clause-kept : goal.returns-clause-kept
returns-clause-kept c = filter_from_retain _ (λ unit. not unit.is_destroyed) (λ p x b q called. search rules) _ _ _ c.retain.ensures.filtered
