use Rattle.std.proofs.Common.{All, take}
use Rattle.base_bytes.specs.Sound.{HasSlots}
use Rattle.base_bytes.proofs.slot_rules.fleets_fit_slots.Given as goal

abbrev pub invariant-accounts : goal.invariant-accounts
invariant-accounts l = All (HasSlots l.fleets) (take l.account-index l.accounts)
