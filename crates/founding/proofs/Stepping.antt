-- What a step comes to.
use Rattle.std.proofs.Common.{◌≡◌, sym, subst}
use Rattle.std.specs.Prelude.{IsErrAnd}
use Rattle.std.specs.declared.result.Result.{Result}
use Rattle.std.specs.declared.result.Result.TheVariants.{Ok, Err}
use Rattle.founding.specs.Drafts.{Drafted}
use Rattle.founding.specs.DraftMaps.{draft_of}
use Rattle.founding.specs.Steps.{Steps}
use Rattle.founding.specs.declared.draft.Draft.{Draft}
use Rattle.founding.specs.declared.fault.LineFault.{LineFault}
use Rattle.founding.specs.declared.fault.LineFault.TheVariants.{Bad, Memory}

-- a step for which memory ran out
pub steps-memory : (R : Drafted → Drafted → Type 0) (old new : Draft) (result : Result Unit LineFault) → IsErrAnd result (λ fault. fault ≡ Memory) → ((after : Drafted) × R (draft_of old) after) → draft_of new ≡ draft_of old → Steps R old new result
steps-memory R old new (Ok done) failed some same = absurd failed
steps-memory R old new (Err fault) failed some same = subst (λ (f : LineFault). Steps R old new (Err f)) (sym failed) (some, same)

-- a step of a relation is one of another that holds of the same
pub steps-same : (R Q : Drafted → Drafted → Type 0) (old new : Draft) (result : Result Unit LineFault) → ((after : Drafted) → R (draft_of old) after → Q (draft_of old) after) → ((after : Drafted) → Q (draft_of old) after → R (draft_of old) after) → Steps R old new result → Steps Q old new result
steps-same R Q old new (Ok done) to from steps = to (draft_of new) steps
steps-same R Q old new (Err Bad) to from (nothing, same) = (λ after holds. nothing after (from after holds), same)
steps-same R Q old new (Err Memory) to from (some, same) = ((some.0, to some.0 some.1), same)
