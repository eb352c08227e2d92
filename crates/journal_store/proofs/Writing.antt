-- What the writes of a flush do to each image, by what stood where the batches end.
use Rattle.std.proofs.Common.{◌≡◌, ℕ, ◌+◌, ◌≤◌, List, [], ◌∷◌, ◌++◌, length, take, drop, sym, ◌∙◌, ap, subst, arith, append_assoc, length-append}
use Rattle.disk_port.specs.Contents.{written, Torn}
use Rattle.journal_store.specs.Batches.{open_batch}
use Rattle.journal_store.specs.Gates.{AtGate, IsUnstaged, Begins, Rests, Stages, behind, standing}
use Rattle.journal_store.specs.declared.gate.Gate.{Gate}
use Rattle.journal_store.specs.declared.gate.Gate.TheVariants.{Missing, Closed, Staged}
use Rattle.journal_store.proofs.Contents.{begins-torn, rests-torn, staged-behind, staged-whole, stages-torn, opens-written, rests-opened}
use Rattle.request_text.specs.declared.entry.Entry.{Entry}

-- a batch is written behind the gate, or with it, if it is missing
pub batch-torn : (gate : Gate) (pending : List Entry) (text d c : List ℕ) (at n : ℕ) → IsUnstaged gate → at ≡ length text + standing gate → AtGate gate pending text d → Torn at n d c → AtGate gate pending text c
batch-torn Missing pending text d c at n unstaged at_is begins torn = begins-torn text d c n begins (subst (λ (a : ℕ). Torn a n d c) (omega (arith, at_is)) torn)
batch-torn Closed pending text d c at n unstaged at_is rests torn = rests-torn text d c n rests (subst (λ (a : ℕ). Torn a n d c) at_is torn)
batch-torn (Staged count) pending text d c at n unstaged at_is stages torn = absurd unstaged

pub batch-written : (gate : Gate) (pending : List Entry) (text bytes d : List ℕ) (at : ℕ) → IsUnstaged gate → at ≡ length text + standing gate → AtGate gate pending text d
    → Stages text bytes (written d at (drop (standing gate) (0 ∷ bytes)))
batch-written Missing pending text bytes d at unstaged at_is begins =
    let e : length text ≡ at = omega (arith, at_is) in
    subst (λ (a : ℕ). Stages text bytes (written d a (0 ∷ bytes))) e (staged-whole text bytes d begins)
batch-written Closed pending text bytes d at unstaged at_is rests = subst (λ (a : ℕ). Stages text bytes (written d a bytes)) (sym at_is) (staged-behind text bytes d rests)
batch-written (Staged count) pending text bytes d at unstaged at_is stages = absurd unstaged

-- there is the place for what is written
pub at_gate-long : (gate : Gate) (pending : List Entry) (text c : List ℕ) → AtGate gate pending text c → length text + standing gate ≤ length c
at_gate-long Missing pending text c begins = omega (arith, ap length begins.is, length-append text begins.rest)
at_gate-long Closed pending text c rests = omega (arith, ap length rests.is, length-append text (rests.gate ∷ rests.rest))
at_gate-long (Staged count) pending text c stages =
    omega (arith, ap length stages.is, length-append text (stages.gate ∷ (behind (take count pending) ++ stages.rest)))

-- the gate of a batch that is staged is opened
pub gate-torn : (text bytes d c : List ℕ) (at : ℕ) → length text ≡ at → Stages text bytes d → Torn at 1 d c → Stages text bytes c
gate-torn text bytes d c at at_is stages torn = stages-torn text bytes d c stages (subst (λ (a : ℕ). Torn a 1 d c) (sym at_is) torn)

pub gate-written : (text : List ℕ) (entries : List Entry) (d : List ℕ) (at : ℕ) → length text ≡ at → Stages text (behind entries) d → Rests (text ++ open_batch entries) (written d at (1 ∷ []))
gate-written text entries d at at_is stages =
    subst (λ (a : ℕ). Rests (text ++ open_batch entries) (written d a (1 ∷ []))) at_is
    (rests-opened text entries (written d (length text) (1 ∷ [])) (opens-written text (behind entries) d stages))

-- a front of the text stays
pub at_gate-begins : (gate : Gate) (pending : List Entry) (front more c : List ℕ) → AtGate gate pending (front ++ more) c → Begins front c
at_gate-begins Missing pending front more c begins = record { rest = more ++ begins.rest; is = begins.is ∙ append_assoc front more begins.rest }
at_gate-begins Closed pending front more c rests = record { rest = more ++ rests.gate ∷ rests.rest; is = rests.is ∙ append_assoc front more (rests.gate ∷ rests.rest) }
at_gate-begins (Staged count) pending front more c stages =
    let behind_it = stages.gate ∷ (behind (take count pending) ++ stages.rest) in
    record { rest = more ++ behind_it; is = stages.is ∙ append_assoc front more behind_it }
