-- What a journal keeps of its entries.
use Rattle.std.specs.Prelude.{◌≡◌, ◌⊎◌, ℕ, ◌+◌, ◌-◌, ◌<◌, ◌≤◌, max, List, [], ◌∷◌, ◌++◌, length, drop, Result, Ok, Err, if◌then◌else◌}
use Rattle.std.specs.VecDeque.{deque_capacity}
use Rattle.base_ids.specs.declared.numbers.TheConstants.{LAST_NUMBER}
use Rattle.journal_store.specs.Gates.{batch_size}
use Rattle.journal_store.specs.declared.drawing.Draw.{Draw}
use Rattle.journal_store.specs.declared.drawing.Draw.TheVariants.{Full, Late, Taken}
use Rattle.journal_store.specs.declared.drawing.Prepared.{Prepared}
use Rattle.journal_store.specs.declared.gate.Gate.TheVariants.{Missing, Closed}
use Rattle.journal_store.specs.declared.journal.Journal.{Journal}
use Rattle.journal_store.specs.declared.start.Start.{Start}
use Rattle.journal_store.specs.declared.start.TheConstants.{LAST_START}
use Rattle.ports.specs.declared.clock.TheConstants.{LATEST}
use Rattle.request_text.specs.declared.entry.Entry.{Entry}
use Rattle.tick_model.specs.History.{IsLegalFrom}
use Rattle.tick_model.specs.Standing.{last_moment, last_number}

-- how many entries there are since the base
abbrev pub count_of : Journal → ℕ
count_of journal = journal.durable + length journal.pending.items

-- there may be no further entry
abbrev pub IsFull : Journal → Type 0
IsFull journal = (count_of journal ≡ journal.capacity) ⊎ (journal.last_number ≡ LAST_NUMBER)

-- how many entries may be drawn without memory
abbrev pub spare : Journal → ℕ
spare journal = deque_capacity journal.pending - length journal.pending.items

-- the entry that a request is under a number
abbrev pub numbered : Prepared → ℕ → Entry
numbered prepared number = record { number = number; moment = prepared.moment; reading = prepared.reading; player = prepared.player; req = prepared.req }

-- The moment is the greater of the reading and a moment that was the last one once.
pub record IsPrepared (prepared : Prepared) (last : ℕ) : Type 0 where
  pub seen : ℕ
  pub no_later : seen ≤ last
  pub moment : prepared.moment ≡ max prepared.reading seen
  pub latest : prepared.moment ≤ LATEST

-- what a journal keeps of its disk stays
pub record SamePlace (old new : Journal) : Type 0 where
  pub gate : new.gate ≡ old.gate
  pub end : new.end ≡ old.end

-- and so does what it keeps of its entries
pub record SameEntries (old new : Journal) : Type 0 where
  pub number : new.last_number ≡ old.last_number
  pub moment : new.last_moment ≡ old.last_moment
  pub capacity : new.capacity ≡ old.capacity
  pub durable : new.durable ≡ old.durable
  pub pending : new.pending.items ≡ old.pending.items

-- a journal has one entry more
pub record Appends (old : Journal) (entry : Entry) (new : Journal) : Type 0 where
  pub place : SamePlace old new
  pub number : new.last_number ≡ entry.number
  pub moment : new.last_moment ≡ entry.moment
  pub capacity : new.capacity ≡ old.capacity
  pub durable : new.durable ≡ old.durable
  pub pending : new.pending.items ≡ old.pending.items ++ entry ∷ []
  pub spare : spare new + 1 ≡ spare old

-- what comes of a request that asks for its number
abbrev pub Draws : Journal → Prepared → Journal → Draw → Type 0
Draws old prepared new (Full count) = IsFull old × (count ≡ count_of old) × (new ≡ old)
Draws old prepared new (Late last) = (IsFull old → ⊥) × (prepared.moment < old.last_moment) × (last ≡ old.last_moment) × (new ≡ old)
Draws old prepared new (Taken number) =
    (IsFull old → ⊥) × (old.last_moment ≤ prepared.moment) × (number ≡ old.last_number + 1) × Appends old (numbered prepared number) new

-- a fact on the number that was taken
abbrev pub IfTaken : Draw → (ℕ → Type 0) → Type 0
IfTaken (Full count) P = Unit {0}
IfTaken (Late last) P = Unit {0}
IfTaken (Taken number) P = P number

-- so many of the first pending entries are durable now
pub record Settles (count : ℕ) (old new : Journal) : Type 0 where
  pub within : count ≤ length old.pending.items
  pub pending : new.pending.items ≡ drop count old.pending.items
  pub durable : new.durable ≡ old.durable + count
  pub number : new.last_number ≡ old.last_number
  pub moment : new.last_moment ≡ old.last_moment
  pub capacity : new.capacity ≡ old.capacity
  pub spare : spare new ≡ spare old + count

-- What comes of a flush: one batch is durable, and the answer is how many entries are. If it failed none is.
abbrev pub Flushes : {E : Type 0} → Journal → Journal → Result ℕ E → Type 0
Flushes old new (Ok answer) = Settles (batch_size old.gate (length old.pending.items)) old new × (answer ≡ new.durable)
Flushes old new (Err error) = Settles 0 old new

-- how many of the entries that were drawn are durable
abbrev pub settled : List Entry → Journal → ℕ
settled drawn journal = length drawn - length journal.pending.items

-- A journal goes on from a start, and these are the entries that were drawn since.
pub record Keeps (start : Start) (drawn : List Entry) (journal : Journal) : Type 0 where
  pub legal : IsLegalFrom start.last_number start.last_moment drawn
  pub number : journal.last_number ≡ last_number start.last_number drawn
  pub moment : journal.last_moment ≡ last_moment start.last_moment drawn
  pub capacity : journal.capacity ≡ start.capacity
  pub durable : journal.durable ≡ start.count + settled drawn journal
  pub pending : journal.pending.items ≡ drop (settled drawn journal) drawn

-- where a journal can start
pub record CanStart (start : Start) : Type 0 where
  pub number : start.last_number ≤ LAST_NUMBER
  pub moment : start.last_moment ≤ LATEST
  pub count : start.count ≤ start.capacity
  pub end : start.end ≤ LAST_START

-- a journal that has drawn nothing yet
pub record IsNew (start : Start) (journal : Journal) : Type 0 where
  pub pending : journal.pending.items ≡ []
  pub gate : journal.gate ≡ (if start.short then Missing else Closed)
  pub end : journal.end ≡ start.end
  pub keeps : Keeps start [] journal
