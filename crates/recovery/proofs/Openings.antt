-- From the head of the area that is chosen to how the two areas open.
use Rattle.std.proofs.Common.{◌≡◌, ℕ, ◌+◌, Bool, List, take, drop, Result, Ok, Err, IsErrAnd, ap, ◌∙◌, sym, subst}
use Rattle.std.specs.Prelude.{slice_index}
use Rattle.base_bytes.specs.declared.base.Base.{Base}
use Rattle.recovery.specs.Reopening.{HasBadEntry, IsChosen, IsFoundIn, IsGateAt, IsHeadIn, IsIntact, Opens, OpensIn, Restores, base_there, first_batch, side, size_of}
use Rattle.recovery.specs.declared.choosing.Choice.{Choice}
use Rattle.recovery.specs.declared.head.Head.{Head}
use Rattle.recovery.specs.declared.outcome.Found.{Found}
use Rattle.recovery.specs.declared.outcome.OpenFault.{OpenFault}
use Rattle.recovery.specs.declared.outcome.OpenFault.TheVariants.{NotFounded, Damaged, BadBase, BadEntry, DeviceFault, Memory}
use Rattle.recovery.specs.declared.reading.FirstGate.TheVariants.{Open}

pub there-is : (content items : List ℕ) (size : ℕ) → size ≡ size_of content → items ≡ take size (drop 57 content) → items ≡ base_there content
unfolding base_there
there-is content items size is read = read ∙ ap (λ (n : ℕ). take n (drop 57 content)) is

pub end-at : (content : List ℕ) (head : Head) → IsHeadIn content head → 57 + head.size ≡ first_batch content
unfolding first_batch
end-at content head is = ap (λ (n : ℕ). 57 + n) is.size_is

-- a base that isn't restored
unrestored : (content : List ℕ) (head : Head) (is_right : Bool) (fault : OpenFault) → Restores content head (Err fault) → OpensIn content is_right (Err fault)
unrestored content head is_right NotFounded fails = absurd fails
unrestored content head is_right (Damaged kept computed) fails = fails
unrestored content head is_right BadBase fails = fails
unrestored content head is_right (BadEntry at) fails = absurd fails
unrestored content head is_right DeviceFault fails = tt
unrestored content head is_right Memory fails = tt

pub unrestored-as : (content : List ℕ) (head : Head) (is_right : Bool) (fault : OpenFault) (result : Result Found OpenFault) → Restores content head (Err fault) → IsErrAnd result (λ given. given ≡ fault) → OpensIn content is_right result
unrestored-as content head is_right fault (Ok found) fails given = absurd given
unrestored-as content head is_right fault (Err other) fails given = subst (λ (f : OpenFault). OpensIn content is_right (Err f)) (sym given) (unrestored content head is_right fault fails)

-- a batch behind one that is
pub bad-entry : (content : List ℕ) (head : Head) (base : Base) (at : ℕ) → IsIntact content head base → at ≡ first_batch content → IsGateAt content at Open → HasBadEntry at content
bad-entry content head base at intact end opens = record {
  agrees = intact.agrees;
  base = base;
  holds = intact.holds;
  at_is = end;
  batch = subst (λ (n : ℕ). slice_index content n ≡ 1) end opens;
}

opens-in : (left right : List ℕ) (is_right : Bool) (result : Result Found OpenFault) → IsChosen left right is_right → OpensIn (side is_right left right) is_right result → Opens left right result
opens-in left right is_right (Ok found) chosen opens = subst (λ (b : Bool). IsChosen left right b × IsFoundIn (side b left right) found) (sym opens.0) (chosen, opens.1)
opens-in left right is_right (Err NotFounded) chosen opens = absurd opens
opens-in left right is_right (Err (Damaged kept computed)) chosen opens = (is_right, chosen, opens)
opens-in left right is_right (Err BadBase) chosen opens = (is_right, chosen, opens)
opens-in left right is_right (Err (BadEntry at)) chosen opens = (is_right, chosen, opens)
opens-in left right is_right (Err DeviceFault) chosen opens = tt
opens-in left right is_right (Err Memory) chosen opens = tt

-- the area that is chosen was opened on its disk
pub opens-on : (left right content : List ℕ) (choice : Choice) (result : Result Found OpenFault) → IsChosen left right choice.right × IsHeadIn (side choice.right left right) choice.head → content ≡ side choice.right left right
    → (IsHeadIn content choice.head → OpensIn content choice.right result) → Opens left right result
opens-on left right content choice result chosen same opens =
    opens-in left right choice.right result chosen.0
    (subst (λ (c : List ℕ). OpensIn c choice.right result) same (opens (subst (λ (c : List ℕ). IsHeadIn c choice.head) (sym same) chosen.1)))
