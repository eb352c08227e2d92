-- How what holds of every pair of images goes on from step to step.
use Rattle.std.proofs.Common.{◌≡◌, inl, inr, ℕ, List, [], ◌∷◌, ◌++◌, refl, sym, subst}
use Rattle.disk_port.specs.Story.{Story, Lawful}
use Rattle.disk_port.specs.Moments.{EachNow, EachSince}
use Rattle.disk_port.specs.Pairs.{Steps, IsRun, LeftInStep, LeftInRun, EachPairNow, EachPairSince}
use Rattle.disk_port.proofs.Moments.{now-since}
use Rattle.disk_port.specs.declared.disks.Disks.{Disks}

module _ {D : Type 0} (story : Story D) where
  -- before the first step
  pub pair-started : (disks : Disks D) (P : List ℕ → List ℕ → Type 0) → EachPairNow story disks P → EachPairSince story disks disks P
  pair-started disks P each = record { snapshots = []; is_run = refl; each = λ i j left. each i j left.0 left.1 }

  run-more : (first : Disks D) (rest : List (Disks D)) (last next : Disks D) → IsRun story first rest last → Steps story last next → IsRun story first (rest ++ next ∷ []) next
  run-more first [] last next is_run steps = (subst (λ (d : Disks D). Steps story d next) is_run steps, refl)
  run-more first (second ∷ rest) last next is_run steps = (is_run.0, run-more second rest last next is_run.1 steps)

  left-more : (first : Disks D) (rest : List (Disks D)) (last next : Disks D) (P : List ℕ → List ℕ → Type 0) → IsRun story first rest last → ((i j : List ℕ) → LeftInRun story first rest i j → P i j)
      → EachPairNow story next P → ((i j : List ℕ) → LeftInStep story last next i j → P i j) → (i j : List ℕ) → LeftInRun story first (rest ++ next ∷ []) i j → P i j
  left-more first [] last next P is_run so_far here step i j (inl left) = subst (λ (d : Disks D). (i j : List ℕ) → LeftInStep story d next i j → P i j) is_run step i j left
  left-more first [] last next P is_run so_far here step i j (inr left) = here i j left.0 left.1
  left-more first (second ∷ rest) last next P is_run so_far here step i j (inl left) = so_far i j (inl left)
  left-more first (second ∷ rest) last next P is_run so_far here step i j (inr left) =
      left-more second rest last next P is_run.1 (λ a b before. so_far a b (inr before)) here step i j left

  -- one step more, in which the left disk was called
  pub left_called : (old mid new : Disks D) (P : List ℕ → List ℕ → Type 0) (Q R : List ℕ → Type 0) → Lawful story → story.tells new.left → story.tells new.right → EachPairSince story old mid P
      → EachSince story mid.left new.left Q → new.right ≡ mid.right → EachNow story mid.right R → ((i j : List ℕ) → Q i → R j → P i j) → EachPairSince story old new P
  left_called old mid new P Q R lawful left_tells right_tells so_far calls stands other leads =
      let right_now : EachNow story new.right R = subst (λ (d : D). EachNow story d R) (sym stands) other in
      let right_since : (j : List ℕ) → story.left_since new.right (story.moment mid.right) j → R j = λ j left.
      right_now j (lawful.only_now new.right j right_tells (subst (λ (d : D). story.left_since new.right (story.moment d) j) (sym stands) left)) in
      record {
        snapshots = so_far.snapshots ++ new ∷ [];
        is_run = run-more old so_far.snapshots mid new so_far.is_run (inl (calls.passes, stands));
        each = left-more old so_far.snapshots mid new P so_far.is_run so_far.each
            (λ i j i_left j_left. leads i j (now-since story mid.left new.left Q lawful left_tells calls i i_left) (right_now j j_left))
            (λ i j left. leads i j (calls.each i left.0) (right_since j left.1));
      }

  -- one step more, in which the right disk was called
  pub right_called : (old mid new : Disks D) (P : List ℕ → List ℕ → Type 0) (Q R : List ℕ → Type 0) → Lawful story → story.tells new.left → story.tells new.right → EachPairSince story old mid P
      → EachSince story mid.right new.right R → new.left ≡ mid.left → EachNow story mid.left Q → ((i j : List ℕ) → Q i → R j → P i j) → EachPairSince story old new P
  right_called old mid new P Q R lawful left_tells right_tells so_far calls stands other leads =
      let left_now : EachNow story new.left Q = subst (λ (d : D). EachNow story d Q) (sym stands) other in
      let left_since : (i : List ℕ) → story.left_since new.left (story.moment mid.left) i → Q i = λ i left.
      left_now i (lawful.only_now new.left i left_tells (subst (λ (d : D). story.left_since new.left (story.moment d) i) (sym stands) left)) in
      record {
        snapshots = so_far.snapshots ++ new ∷ [];
        is_run = run-more old so_far.snapshots mid new so_far.is_run (inr (calls.passes, stands));
        each = left-more old so_far.snapshots mid new P so_far.is_run so_far.each
            (λ i j i_left j_left. leads i j (left_now i i_left) (now-since story mid.right new.right R lawful right_tells calls j j_left))
            (λ i j left. leads i j (left_since i left.0) (calls.each j left.1));
      }

  -- what has P has Q
  pub pair-weakened : (old new : Disks D) (P Q : List ℕ → List ℕ → Type 0) → EachPairSince story old new P → ((i j : List ℕ) → P i j → Q i j) → EachPairSince story old new Q
  pair-weakened old new P Q so_far leads = record { snapshots = so_far.snapshots; is_run = so_far.is_run; each = λ i j left. leads i j (so_far.each i j left) }

  -- one run after another
  run-joined : (first : Disks D) (rest others : List (Disks D)) (mid last : Disks D) → IsRun story first rest mid → IsRun story mid others last → IsRun story first (rest ++ others) last
  run-joined first [] others mid last is_run then_run = subst (λ (d : Disks D). IsRun story d others last) is_run then_run
  run-joined first (next ∷ rest) others mid last is_run then_run = (is_run.0, run-joined next rest others mid last is_run.1 then_run)

  left-joined : (first : Disks D) (rest others : List (Disks D)) (mid : Disks D) (P : List ℕ → List ℕ → Type 0) → IsRun story first rest mid → ((i j : List ℕ) → LeftInRun story first rest i j → P i j)
      → ((i j : List ℕ) → LeftInRun story mid others i j → P i j) → (i j : List ℕ) → LeftInRun story first (rest ++ others) i j → P i j
  left-joined first [] others mid P is_run so_far later i j left = later i j (subst (λ (d : Disks D). LeftInRun story d others i j) (sym is_run) left)
  left-joined first (next ∷ rest) others mid P is_run so_far later i j (inl left) = so_far i j (inl left)
  left-joined first (next ∷ rest) others mid P is_run so_far later i j (inr left) = left-joined next rest others mid P is_run.1 (λ a b before. so_far a b (inr before)) later i j left

  pub pair-joined : (old mid new : Disks D) (P : List ℕ → List ℕ → Type 0) → EachPairSince story old mid P → EachPairSince story mid new P → EachPairSince story old new P
  pair-joined old mid new P first second = record {
    snapshots = first.snapshots ++ second.snapshots;
    is_run = run-joined old first.snapshots second.snapshots mid new first.is_run second.is_run;
    each = left-joined old first.snapshots second.snapshots mid P first.is_run first.each second.each;
  }

  run-now : (first : Disks D) (rest : List (Disks D)) (last : Disks D) (i j : List ℕ) → IsRun story first rest last → story.leaves last.left i → story.leaves last.right j → LeftInRun story first rest i j
  run-now first [] last i j is_run left right = (subst (λ (d : Disks D). story.leaves d.left i) is_run left, subst (λ (d : Disks D). story.leaves d.right j) is_run right)
  run-now first (next ∷ rest) last i j is_run left right = inr (run-now next rest last i j is_run.1 left right)

  -- at the end of a run each pair has what each pair in the run has
  pub pair-now : (old new : Disks D) (P : List ℕ → List ℕ → Type 0) → EachPairSince story old new P → EachPairNow story new P
  pair-now old new P so_far = λ i j left right. so_far.each i j (run-now old so_far.snapshots new i j so_far.is_run left right)
