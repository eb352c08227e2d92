-- A status tells why a run ended.
use Rattle.std.proofs.Common.{◌≡◌, ◌⊎◌, inl, inr, ℕ, false, cond, eqb, refl, sym, ap, ◌∙◌, eq-eqb}
use Rattle.std.specs.Prelude.{Result, Ok, Err, OnErr, OnOk}
use Rattle.command.specs.Statuses.{number_of, status_of}
use Rattle.command.specs.declared.status.Stopped.{Stopped}
use Rattle.command.specs.declared.status.Stopped.TheVariants.{NotACommand, SourceFault, SinkFault, DiskFault, NoMemory, TooLong, AlreadyFounded, NotFounded}
use Rattle.command.specs.declared.status.TheConstants.{DONE}

-- two numbers that differ
pub other : {A : Type 0} (m n : ℕ) → eqb m n ≡ false → m ≡ n → A
other m n apart same = absurd (cc (apart, eq-eqb m n same))

-- the reason that has a number
named : ℕ → Stopped
named n =
    cond (eqb n 2) NotACommand (cond (eqb n 4) SourceFault (cond (eqb n 5) SinkFault (cond (eqb n 6) DiskFault
    (cond (eqb n 7) NoMemory (cond (eqb n 9) TooLong (cond (eqb n 10) AlreadyFounded NotFounded))))))

named_number : (s : Stopped) → named (number_of s) ≡ s
unfolding named
named_number NotACommand = refl
named_number SourceFault = refl
named_number SinkFault = refl
named_number DiskFault = refl
named_number NoMemory = refl
named_number TooLong = refl
named_number AlreadyFounded = refl
named_number NotFounded = refl

pub not_done : {A : Type 0} (s : Stopped) → number_of s ≡ DONE → A
not_done NotACommand e = other 2 0 refl e
not_done SourceFault e = other 4 0 refl e
not_done SinkFault e = other 5 0 refl e
not_done DiskFault e = other 6 0 refl e
not_done NoMemory e = other 7 0 refl e
not_done TooLong e = other 9 0 refl e
not_done AlreadyFounded e = other 10 0 refl e
not_done NotFounded e = other 11 0 refl e

-- a run with the status of a reason ended for that reason
pub status_err : {T : Type 0} (ended : Result T Stopped) (s : Stopped) → status_of ended ≡ number_of s → ended ≡ Err s
status_err (Ok x) s e = not_done s (sym e)
status_err (Err t) s e = ap Err (sym (named_number t) ∙ ap named e ∙ named_number s)

-- with status 0 its command was done
pub status_ok : {T : Type 0} (ended : Result T Stopped) (P : Type 0) → OnOk ended P → status_of ended ≡ DONE → P
status_ok (Ok x) P holds e = holds
status_ok (Err s) P holds e = not_done s e

-- the status of a run that ended so
pub err_status : {T : Type 0} (ended : Result T Stopped) (s : Stopped) → ended ≡ Err s → status_of ended ≡ number_of s
err_status ended s is = ap status_of is

-- answers to a script never end as if there were no founding text
pub never_unfounded : {T A : Type 0} (ended : Result T Stopped) → OnErr ended ((ended ≡ Err SourceFault) ⊎ (ended ≡ Err TooLong) ⊎ (ended ≡ Err SinkFault)) → ended ≡ Err NotFounded → A
never_unfounded (Ok x) ends e = other 0 11 refl (ap status_of e)
never_unfounded (Err s) (inl source) e = other 4 11 refl (ap status_of (sym source ∙ e))
never_unfounded (Err s) (inr (inl long)) e = other 9 11 refl (ap status_of (sym long ∙ e))
never_unfounded (Err s) (inr (inr sink)) e = other 5 11 refl (ap status_of (sym sink ∙ e))

-- a run that could not name a bad line has no other status than these two
pub unnamed_status : {T A : Type 0} (ended : Result T Stopped) → (ended ≡ Err SinkFault) ⊎ (ended ≡ Err NoMemory)
    → (status : ℕ) → eqb 5 status ≡ false → eqb 7 status ≡ false → status_of ended ≡ status → A
unnamed_status ended (inl is) status a b e = other 5 status a (sym (ap status_of is) ∙ e)
unnamed_status ended (inr is) status a b e = other 7 status b (sym (ap status_of is) ∙ e)
