-- Two areas open in one way.
use Rattle.std.proofs.Common.{◌≡◌, ℕ, Bool, true, false, List, Result, Ok, Err, refl, ◌∙◌, sym, subst, arith}
use Rattle.recovery.specs.Laws.{AreSameFound, SayTheSame}
use Rattle.recovery.specs.Reopening.{HasBadBase, HasBadEntry, IsChosen, IsDamaged, IsFoundIn, IsUnfounded, Opens, computed_digest, kept_digest, side}
use Rattle.recovery.specs.declared.outcome.Found.{Found}
use Rattle.recovery.specs.declared.outcome.OpenFault.{OpenFault}
use Rattle.recovery.specs.declared.outcome.OpenFault.TheVariants.{NotFounded, Damaged, BadBase, BadEntry, DeviceFault, Memory}

-- one of two is chosen
together : (left right : List ℕ) (a b : Bool) → IsChosen left right a → IsChosen left right b → b ≡ a
together left right false false one two = refl
together left right true true one two = refl
together left right false true one two = let most = one.1 two.0 in let less = two.1 one.0 in absurd (omega (arith, most, less))
together left right true false one two = let less = one.1 two.0 in let most = two.1 one.0 in absurd (omega (arith, most, less))

chosen-open : (left right : List ℕ) (a : Bool) → IsChosen left right a → IsUnfounded left right → ⊥
chosen-open left right false chosen none = none.0 chosen.0
chosen-open left right true chosen none = none.1 chosen.0

on-one : (left right : List ℕ) (a b : Bool) (P : List ℕ → Type 0) → IsChosen left right a → IsChosen left right b → P (side b left right) → P (side a left right)
on-one left right a b P one two has = subst (λ (x : Bool). P (side x left right)) (together left right a b one two) has

-- What one content rules out.

differ : (kept computed content : List ℕ) → IsDamaged kept computed content → computed_digest content ≡ kept_digest content → ⊥
differ kept computed content damaged agrees = damaged.apart (damaged.computed_is ∙ agrees ∙ sym damaged.kept_is)

found-same : (content : List ℕ) (first second : Found) → second.right ≡ first.right → IsFoundIn content first → IsFoundIn content second → AreSameFound first second
found-same content first second same one two = record {
  right = same;
  generation = two.generation_is ∙ sym one.generation_is;
  base = sym two.holds.spelt.is ∙ one.holds.spelt.is;
  end = two.end_is ∙ sym one.end_is;
  short = (λ short. one.short_is.1 (two.short_is.0 short), λ short. two.short_is.1 (one.short_is.0 short));
}

-- Each pair of results.

pub opens-once : (left right : List ℕ) (first second : Result Found OpenFault) → Opens left right first → Opens left right second → SayTheSame first second
opens-once left right (Err DeviceFault) second one two = tt
opens-once left right (Err Memory) second one two = tt
opens-once left right (Ok found) (Err DeviceFault) one two = tt
opens-once left right (Ok found) (Err Memory) one two = tt
opens-once left right (Ok found) (Ok other) one two = found-same (side found.right left right) found other (together left right found.right other.right one.0 two.0) one.1 (on-one left right found.right other.right (λ (c : List ℕ). IsFoundIn c other) one.0 two.0 two.1)
opens-once left right (Ok found) (Err NotFounded) one two = absurd (chosen-open left right found.right one.0 two)
opens-once left right (Ok found) (Err (Damaged kept_too computed_too)) one two = absurd (differ kept_too computed_too (side found.right left right) (on-one left right found.right two.0 (IsDamaged kept_too computed_too) one.0 two.1 two.2) one.1.agrees)
opens-once left right (Ok found) (Err BadBase) one two = let same = (on-one left right found.right two.0 HasBadBase one.0 two.1 two.2) in absurd (same.no_base found.base one.1.holds)
opens-once left right (Ok found) (Err (BadEntry at_too)) one two = let same = (on-one left right found.right two.0 (HasBadEntry at_too) one.0 two.1 two.2) in absurd (one.1.no_batch same.batch)
opens-once left right (Err NotFounded) (Err DeviceFault) one two = tt
opens-once left right (Err NotFounded) (Err Memory) one two = tt
opens-once left right (Err NotFounded) (Ok other) one two = absurd (chosen-open left right other.right two.0 one)
opens-once left right (Err NotFounded) (Err NotFounded) one two = tt
opens-once left right (Err NotFounded) (Err (Damaged kept_too computed_too)) one two = absurd (chosen-open left right two.0 two.1 one)
opens-once left right (Err NotFounded) (Err BadBase) one two = absurd (chosen-open left right two.0 two.1 one)
opens-once left right (Err NotFounded) (Err (BadEntry at_too)) one two = absurd (chosen-open left right two.0 two.1 one)
opens-once left right (Err (Damaged kept computed)) (Err DeviceFault) one two = tt
opens-once left right (Err (Damaged kept computed)) (Err Memory) one two = tt
opens-once left right (Err (Damaged kept computed)) (Ok other) one two = let same = (on-one left right one.0 other.right (λ (c : List ℕ). IsFoundIn c other) one.1 two.0 two.1) in absurd (differ kept computed (side one.0 left right) one.2 same.agrees)
opens-once left right (Err (Damaged kept computed)) (Err NotFounded) one two = absurd (chosen-open left right one.0 one.1 two)
opens-once left right (Err (Damaged kept computed)) (Err (Damaged kept_too computed_too)) one two = let same = (on-one left right one.0 two.0 (IsDamaged kept_too computed_too) one.1 two.1 two.2) in (same.kept_is ∙ sym one.2.kept_is, same.computed_is ∙ sym one.2.computed_is)
opens-once left right (Err (Damaged kept computed)) (Err BadBase) one two = let same = (on-one left right one.0 two.0 HasBadBase one.1 two.1 two.2) in absurd (differ kept computed (side one.0 left right) one.2 same.agrees)
opens-once left right (Err (Damaged kept computed)) (Err (BadEntry at_too)) one two = let same = (on-one left right one.0 two.0 (HasBadEntry at_too) one.1 two.1 two.2) in absurd (differ kept computed (side one.0 left right) one.2 same.agrees)
opens-once left right (Err BadBase) (Err DeviceFault) one two = tt
opens-once left right (Err BadBase) (Err Memory) one two = tt
opens-once left right (Err BadBase) (Ok other) one two = let same = (on-one left right one.0 other.right (λ (c : List ℕ). IsFoundIn c other) one.1 two.0 two.1) in absurd (one.2.no_base other.base same.holds)
opens-once left right (Err BadBase) (Err NotFounded) one two = absurd (chosen-open left right one.0 one.1 two)
opens-once left right (Err BadBase) (Err (Damaged kept_too computed_too)) one two = absurd (differ kept_too computed_too (side one.0 left right) (on-one left right one.0 two.0 (IsDamaged kept_too computed_too) one.1 two.1 two.2) one.2.agrees)
opens-once left right (Err BadBase) (Err BadBase) one two = tt
opens-once left right (Err BadBase) (Err (BadEntry at_too)) one two = let same = (on-one left right one.0 two.0 (HasBadEntry at_too) one.1 two.1 two.2) in absurd (one.2.no_base same.base same.holds)
opens-once left right (Err (BadEntry at)) (Err DeviceFault) one two = tt
opens-once left right (Err (BadEntry at)) (Err Memory) one two = tt
opens-once left right (Err (BadEntry at)) (Ok other) one two = let same = (on-one left right one.0 other.right (λ (c : List ℕ). IsFoundIn c other) one.1 two.0 two.1) in absurd (same.no_batch one.2.batch)
opens-once left right (Err (BadEntry at)) (Err NotFounded) one two = absurd (chosen-open left right one.0 one.1 two)
opens-once left right (Err (BadEntry at)) (Err (Damaged kept_too computed_too)) one two = absurd (differ kept_too computed_too (side one.0 left right) (on-one left right one.0 two.0 (IsDamaged kept_too computed_too) one.1 two.1 two.2) one.2.agrees)
opens-once left right (Err (BadEntry at)) (Err BadBase) one two = let same = (on-one left right one.0 two.0 HasBadBase one.1 two.1 two.2) in absurd (same.no_base one.2.base one.2.holds)
opens-once left right (Err (BadEntry at)) (Err (BadEntry at_too)) one two = let same = (on-one left right one.0 two.0 (HasBadEntry at_too) one.1 two.1 two.2) in same.at_is ∙ sym one.2.at_is
