-- A base becomes the first area of a disk that was looked at before.
use Rattle.std.proofs.Common.{◌≡◌, ◌⊎◌, ℕ, List, Option, inl, inr, refl, subst, sym, take}
use Rattle.std.specs.Io.KnownBytes.{Appends}
use Rattle.base_bytes.specs.Spelling.{base_spelling}
use Rattle.base_bytes.specs.declared.base.Base.{Base}
use Rattle.disk_port.specs.Story.{Lawful, Story}
use Rattle.disk_port.proofs.Moments.{joined, now-since, started, weakened}
use Rattle.recovery.specs.Laying.{IsRebasing, as_before, not_open, rebased}
use Rattle.recovery.specs.declared.rebasing.RebaseFault.{RebaseFault}
use Rattle.recovery.specs.declared.rebasing.RebaseFault.TheVariants.{Memory as OutOfMemory, DeviceFault}
use Rattle.command.specs.Found.{Found, Holds, IsAsBefore, MayHold, founded_line}
use Rattle.command.specs.FoundingText.{IsReadPart, LacksBase}
use Rattle.command.specs.Statuses.{number_of, unlaid_by}
use Rattle.command.specs.declared.status.Stopped.TheVariants.{DiskFault}
use Rattle.command.specs.declared.status.TheConstants.{DONE, SINK_FAULT, DISK_FAULT, NO_MEMORY, ALREADY_FOUNDED}
use Rattle.command.proofs.Numbering.{other}

-- a base that a disk fault kept from being laid
pub unlaid_device : (fault : RebaseFault) → unlaid_by fault ≡ DiskFault → fault ≡ DeviceFault
unlaid_device OutOfMemory is = absurd (cc is)
unlaid_device DeviceFault is = refl

module _ {D : Type 0} (story : Story D) where
  -- a disk that was not called
  pub as-it-was : (disk : D) → Lawful story → IsAsBefore story disk disk
  as-it-was disk lawful told = (told, started story disk (story.leaves disk) lawful told (λ c left. left))

  -- a disk that was looked at twice
  pub looked-again : (old mid new : D) → Lawful story → IsAsBefore story old mid → IsAsBefore story mid new → IsAsBefore story old new
  looked-again old mid new lawful first second told =
      let then = second told in
      let before = first then.0 in
      let P = story.leaves old in
      (before.0, joined story old mid new P before.1 (weakened story mid new (story.leaves mid) P then.1 (now-since story old mid P lawful then.0 before.1)))

  rebases-from : (old mid : D) (base c : List ℕ) → ((d : List ℕ) → story.leaves mid d → story.leaves old d) → IsRebasing (story.leaves mid) 1 base c → IsRebasing (story.leaves old) 1 base c
  rebases-from old mid base c from (as_before left) = as_before (from c left)
  rebases-from old mid base c from (not_open other) = not_open other
  rebases-from old mid base c from (rebased area) = rebased area

  -- one that was looked at, and on which a base was laid
  pub looked-may : (base : Base) (old mid new : D) (l0 l1 : Option (List ℕ)) → Lawful story → IsAsBefore story old mid → MayHold story base mid new l0 l1 → MayHold story base old new l0 l1
  looked-may base old mid new l0 l1 lawful first may =
      let bytes = base_spelling base in
      let P = IsRebasing (story.leaves old) 1 bytes in
      record {
        read = may.read;
        since = λ told.
            let then = may.since told in
            let before = first then.0 in
            let from = now-since story old mid (story.leaves old) lawful then.0 before.1 in (
              before.0,
              joined story old mid new P (weakened story old mid (story.leaves old) P before.1 (λ c left. as_before left))
                  (weakened story mid new (IsRebasing (story.leaves mid) 1 bytes) P then.1 (λ c is. rebases-from old mid bytes c from is)),
            );
      }

  pub looked-holds : (base : Base) (old mid new : D) (l0 l1 : Option (List ℕ)) → Lawful story → IsAsBefore story old mid → Holds story base mid new l0 l1 → Holds story base old new l0 l1
  looked-holds base old mid new l0 l1 lawful first holds =
      record {
        may = looked-may base old mid new l0 l1 lawful first holds.may;
        now = λ told. let then = holds.now told in ((first then.0).0, then.1);
      }

  -- the same of all that `found` does
  pub looked-found : (status : ℕ) (old mid new : D) (l0 l1 w0 w1 : Option (List ℕ)) → Lawful story → IsAsBefore story old mid → Found story status mid new l0 l1 w0 w1 → Found story status old new l0 l1 w0 w1
  looked-found status old mid new l0 l1 w0 w1 lawful first found =
      record {
        done = λ e. let (base, holds, wrote) = found.done e in (base, looked-holds base old mid new l0 l1 lawful first holds, wrote);
        broken = λ e. elim (found.broken e) [
          | inl laid ↦ inl (laid.0, looked-holds laid.0 old mid new l0 l1 lawful first laid.1, laid.2, laid.3)
          | inr named ↦ inr (looked-again old mid new lawful first named.0, named.1)
        ];
        torn = λ e. elim (found.torn e) [
          | inl looked ↦ inl (looked-again old mid new lawful first looked)
          | inr may ↦ inr (may.0, looked-may may.0 old mid new l0 l1 lawful first may.1)
        ];
        partly = found.partly;
        not_founded = found.not_founded;
        as_before = λ e. looked-again old mid new lawful first (found.as_before e);
      }

  -- no base was read
  pub found-lacks : (status : ℕ) (old new : D) (l0 l1 w0 w1 : Option (List ℕ)) → (status ≡ DONE → ⊥) → IsAsBefore story old new → LacksBase IsReadPart status l0 l1 w0 w1 → Found story status old new l0 l1 w0 w1
  found-lacks status old new l0 l1 w0 w1 undone stood lacks =
      record {
        done = λ e. absurd (undone e);
        broken = λ e. inr (stood, lacks.broken e);
        torn = λ e. inl stood;
        partly = lacks.partly;
        not_founded = lacks.not_founded;
        as_before = λ e. stood;
      }

  -- no memory was found for what comes behind
  pub found-memory : (old new : D) (l0 l1 w0 w1 : Option (List ℕ)) → IsAsBefore story old new → Found story NO_MEMORY old new l0 l1 w0 w1
  found-memory old new l0 l1 w0 w1 stood =
      record {
        done = λ e. other 7 0 refl e;
        broken = λ e. other 7 5 refl e;
        torn = λ e. inl stood;
        partly = λ e. elim e [ inl source ↦ other 7 4 refl source | inr long ↦ other 7 9 refl long ];
        not_founded = λ e. other 7 11 refl e;
        as_before = λ e. stood;
      }

  -- one of the disks holds an area
  pub found-already : (old new : D) (l0 l1 w0 w1 : Option (List ℕ)) → IsAsBefore story old new → Found story ALREADY_FOUNDED old new l0 l1 w0 w1
  found-already old new l0 l1 w0 w1 stood =
      record {
        done = λ e. other 10 0 refl e;
        broken = λ e. other 10 5 refl e;
        torn = λ e. inl stood;
        partly = λ e. elim e [ inl source ↦ other 10 4 refl source | inr long ↦ other 10 9 refl long ];
        not_founded = λ e. other 10 11 refl e;
        as_before = λ e. stood;
      }

  -- a disk failed
  pub found-torn : (old new : D) (l0 l1 w0 w1 : Option (List ℕ)) → IsAsBefore story old new ⊎ ((base : Base) × MayHold story base old new l0 l1) → Found story DISK_FAULT old new l0 l1 w0 w1
  found-torn old new l0 l1 w0 w1 torn =
      record {
        done = λ e. other 6 0 refl e;
        broken = λ e. other 6 5 refl e;
        torn = λ e. torn;
        partly = λ e. elim e [ inl source ↦ other 6 4 refl source | inr long ↦ other 6 9 refl long ];
        not_founded = λ e. other 6 11 refl e;
        as_before = λ e. elim e [
          | inl source ↦ other 6 4 refl source
          | inr (inl memory) ↦ other 6 7 refl memory
          | inr (inr (inl long)) ↦ other 6 9 refl long
          | inr (inr (inr (inl already))) ↦ other 6 10 refl already
          | inr (inr (inr (inr bad))) ↦ other 6 11 refl bad
        ];
      }

  -- the base was not laid
  pub found-unlaid : (fault : RebaseFault) (base : Base) (old new : D) (l0 l1 w0 w1 : Option (List ℕ)) → Lawful story → MayHold story base old new l0 l1 → (fault ≡ OutOfMemory → new ≡ old)
      → Found story (number_of (unlaid_by fault)) old new l0 l1 w0 w1
  found-unlaid OutOfMemory base old new l0 l1 w0 w1 lawful may same = found-memory old new l0 l1 w0 w1 (subst (λ (disk : D). IsAsBefore story old disk) (sym (same refl)) (as-it-was old lawful))
  found-unlaid DeviceFault base old new l0 l1 w0 w1 lawful may same = found-torn old new l0 l1 w0 w1 (inr (base, may))

  -- the sink has only a front of the line
  pub found-broken : (base : Base) (old new : D) (l0 l1 w0 w1 : Option (List ℕ)) (count : ℕ) → Holds story base old new l0 l1 → Appends w0 w1 (take count (founded_line base)) → Found story SINK_FAULT old new l0 l1 w0 w1
  found-broken base old new l0 l1 w0 w1 count holds wrote =
      record {
        done = λ e. other 5 0 refl e;
        broken = λ e. inl (base, holds, count, wrote);
        torn = λ e. other 5 6 refl e;
        partly = λ e. elim e [ inl source ↦ other 5 4 refl source | inr long ↦ other 5 9 refl long ];
        not_founded = λ e. other 5 11 refl e;
        as_before = λ e. elim e [
          | inl source ↦ other 5 4 refl source
          | inr (inl memory) ↦ other 5 7 refl memory
          | inr (inr (inl long)) ↦ other 5 9 refl long
          | inr (inr (inr (inl already))) ↦ other 5 10 refl already
          | inr (inr (inr (inr bad))) ↦ other 5 11 refl bad
        ];
      }

  -- it has all of it
  pub found-done : (base : Base) (old new : D) (l0 l1 w0 w1 : Option (List ℕ)) → Holds story base old new l0 l1 → Appends w0 w1 (founded_line base) → Found story DONE old new l0 l1 w0 w1
  found-done base old new l0 l1 w0 w1 holds wrote =
      record {
        done = λ e. (base, holds, wrote);
        broken = λ e. other 0 5 refl e;
        torn = λ e. other 0 6 refl e;
        partly = λ e. elim e [ inl source ↦ other 0 4 refl source | inr long ↦ other 0 9 refl long ];
        not_founded = λ e. other 0 11 refl e;
        as_before = λ e. elim e [
          | inl source ↦ other 0 4 refl source
          | inr (inl memory) ↦ other 0 7 refl memory
          | inr (inr (inl long)) ↦ other 0 9 refl long
          | inr (inr (inr (inl already))) ↦ other 0 10 refl already
          | inr (inr (inr (inr bad))) ↦ other 0 11 refl bad
        ];
      }
