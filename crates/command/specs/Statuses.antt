-- How a run ends, and what each way to end tells of the outside. Statuses: docs/PROTOCOL.md, "Statuses".
use Rattle.std.specs.Prelude.{◌≡◌, ◌≢◌, ℕ, ◌+◌, ◌<◌, ◌≤◌, ◌⊎◌, List, length, Result, Ok, Err}
use Rattle.ports.specs.Causes.{Rose}
use Rattle.recovery.specs.declared.rebasing.RebaseFault.{RebaseFault}
use Rattle.recovery.specs.declared.rebasing.RebaseFault.TheVariants.{Memory as OutOfMemory, DeviceFault}
use Rattle.request_text.specs.declared.line_reader.TheConstants.{MOST_TAKEN}
use Rattle.request_text.specs.declared.line_reader.Stop.{Stop}
use Rattle.request_text.specs.declared.line_reader.Stop.TheVariants.{Fault, Spent}
use Rattle.command.specs.declared.status.Stopped.{Stopped}
use Rattle.command.specs.declared.status.Stopped.TheVariants.{NotACommand, SourceFault, SinkFault, DiskFault, NoMemory, TooLong, AlreadyFounded, NotFounded}
use Rattle.command.specs.declared.status.TheConstants.{DONE, NOT_A_COMMAND, SOURCE_FAULT, SINK_FAULT, DISK_FAULT, NO_MEMORY, TOO_LONG, ALREADY_FOUNDED, NOT_FOUNDED}

-- the status of each reason to end
abbrev pub number_of : Stopped → ℕ
number_of NotACommand = NOT_A_COMMAND
number_of SourceFault = SOURCE_FAULT
number_of SinkFault = SINK_FAULT
number_of DiskFault = DISK_FAULT
number_of NoMemory = NO_MEMORY
number_of TooLong = TOO_LONG
number_of AlreadyFounded = ALREADY_FOUNDED
number_of NotFounded = NOT_FOUNDED

-- the status of a run: 0 if the command was done
abbrev pub status_of : {T : Type 0} → Result T Stopped → ℕ
status_of (Ok done) = DONE
status_of (Err stopped) = number_of stopped

-- a run ends so if the reader of its source stops
abbrev pub stopped_at : Stop → Stopped
stopped_at Fault = SourceFault
stopped_at Spent = TooLong

-- it ends so if a base cannot be laid on a disk
abbrev pub unlaid_by : RebaseFault → Stopped
unlaid_by OutOfMemory = NoMemory
unlaid_by DeviceFault = DiskFault

-- every status there is
abbrev pub IsStatus : ℕ → Type 0
IsStatus status =
    (status ≡ DONE) ⊎ (status ≡ NOT_A_COMMAND) ⊎ (status ≡ SOURCE_FAULT) ⊎ (status ≡ SINK_FAULT) ⊎ (status ≡ DISK_FAULT)
    ⊎ (status ≡ NO_MEMORY) ⊎ (status ≡ TOO_LONG) ⊎ (status ≡ ALREADY_FOUNDED) ⊎ (status ≡ NOT_FOUNDED)

-- The source's count of faults rose with the status of a source fault, and stands with every other; so does the sink's with its
-- status.
pub record HasReason (status source_before source_after sink_before sink_after : ℕ) : Type 0 where
  pub source : status ≡ SOURCE_FAULT → Rose source_before source_after
  pub source_kept : status ≢ SOURCE_FAULT → source_after ≡ source_before
  pub sink : status ≡ SINK_FAULT → Rose sink_before sink_after
  pub sink_kept : status ≢ SINK_FAULT → sink_after ≡ sink_before

-- A disk's count of faults rose with the status of a disk fault, and both stand with every other.
pub record HasDiskReason (status left_before left_after right_before right_after : ℕ) : Type 0 where
  pub disk : status ≡ DISK_FAULT → Rose left_before left_after ⊎ Rose right_before right_after
  pub left_kept : status ≢ DISK_FAULT → left_after ≡ left_before
  pub right_kept : status ≢ DISK_FAULT → right_after ≡ right_before

-- Of a source that had `text` left and has `more` left, no more bytes were taken than may be: fewer if the command was done, and
-- just so many if that is why it ended.
pub record IsBounded (status : ℕ) (text more : List ℕ) : Type 0 where
  pub most : length text ≤ MOST_TAKEN + length more
  pub done : status ≡ DONE → length text < MOST_TAKEN + length more
  pub too_long : status ≡ TOO_LONG → length text ≡ MOST_TAKEN + length more
