-- What comes of a step that may fail.
use Rattle.std.specs.Prelude.{◌≡◌, ℕ}
use Rattle.std.specs.declared.result.Result.{Result}
use Rattle.std.specs.declared.result.Result.TheVariants.{Ok, Err}
use Rattle.founding.specs.Drafts.{Drafted}
use Rattle.founding.specs.DraftMaps.{draft_of}
use Rattle.founding.specs.declared.draft.Draft.{Draft}
use Rattle.founding.specs.declared.fault.FoundingFault.{FoundingFault}
use Rattle.founding.specs.declared.fault.FoundingFault.TheVariants.{Bad, Memory}
use Rattle.founding.specs.declared.fault.LineFault.{LineFault}
use Rattle.founding.specs.declared.fault.LineFault.TheVariants.{Bad as BadLine, Memory as OutOfMemory}

-- A step of a relation between what was said before and after it. If it is done, the relation holds of the two. If it
-- is bad, nothing could come of it, and the draft is as it was. Out of memory, something could have come of it, and
-- what the draft says is as it was.
abbrev pub Steps : (Drafted → Drafted → Type 0) → Draft → Draft → Result Unit LineFault → Type 0
Steps R old new (Ok done) = R (draft_of old) (draft_of new)
Steps R old new (Err BadLine) = ((after : Drafted) → R (draft_of old) after → ⊥) × (new ≡ old)
Steps R old new (Err OutOfMemory) = ((after : Drafted) × R (draft_of old) after) × (draft_of new ≡ draft_of old)

-- a fault of the line of this number
abbrev pub fault_at : ℕ → LineFault → FoundingFault
fault_at number BadLine = Bad number
fault_at number OutOfMemory = Memory
