-- An input whose founding text was read, and whose lines were answered.
use Rattle.std.proofs.Common.{◌≡◌, List, ℕ, [], Option, subst, take}
use Rattle.std.specs.Io.KnownBytes.{Appends}
use Rattle.std.specs.Str.Lines.{lines}
use Rattle.lazy.specs.Keeping.{Keeps}
use Rattle.lazy.specs.declared.universe.LazyUniverse.{LazyUniverse}
use Rattle.request_text.specs.declared.entry.Entry.{Entry}
use Rattle.request_text.specs.declared.line_reader.LineReader.{LineReader}
use Rattle.tick_model.proofs.Worlds.{stands-world}
use Rattle.tick_model.specs.Dump.{dump_text}
use Rattle.tick_model.specs.Standing.{last_moment}
use Rattle.tick_model.specs.Universe.{Universe}
use Rattle.tick_model.specs.World.{world}
use Rattle.command.specs.Answers.{AnsweredAll, AnsweredPart, BrokeOff, KeepsOne}
use Rattle.command.specs.Beginning.{Begins, Leaves}
use Rattle.command.specs.Trial.{TriedBroken, TriedPart}
use Rattle.command.specs.TrialDump.{DumpBroken, Dumped}

-- the universe that ticks, at the last moment of a history
now_of : Universe → List Entry → Universe
now_of base history = world base history (last_moment base.moment history)

-- the input was read to its end
pub leaves-all : (text left more : List ℕ) (reader : LineReader) (first last : LazyUniverse) (t0 t1 w0 w1 : Option (List ℕ)) → (begins : Begins text reader left first)
    → (more ≡ []) × KeepsOne begins.base last (λ history. AnsweredAll begins.base history (lines begins.rest) t0 t1 w0 w1) → Leaves text more t0 t1 w0 w1 last
unfolding now_of
leaves-all text left more reader first last t0 t1 w0 w1 begins came =
    let answered = came.1 in
    record {
      tried = record {
        base = begins.base;
        capacity = begins.capacity;
        history = answered.0;
        now = now_of begins.base answered.0;
        rest = begins.rest;
        founds = begins.founds;
        ended = came.0;
        stands = stands-world begins.base answered.0 answered.1.legal;
        all = answered.2;
      };
      keeps = answered.1;
    }

-- it was read in part
pub tried-part : (text left more : List ℕ) (reader : LineReader) (first last : LazyUniverse) (t0 t1 w0 w1 : Option (List ℕ)) → (begins : Begins text reader left first)
    → KeepsOne begins.base last (λ history. AnsweredPart begins.base history begins.rest more t0 t1 w0 w1) → TriedPart text more t0 t1 w0 w1
unfolding now_of
tried-part text left more reader first last t0 t1 w0 w1 begins answered =
    record {
      base = begins.base;
      capacity = begins.capacity;
      history = answered.0;
      now = now_of begins.base answered.0;
      rest = begins.rest;
      founds = begins.founds;
      stands = stands-world begins.base answered.0 answered.1.legal;
      part = answered.2;
    }

-- the sink broke off
pub tried-broken : (text left : List ℕ) (reader : LineReader) (first last : LazyUniverse) (t0 t1 w0 w1 : Option (List ℕ)) → (begins : Begins text reader left first)
    → KeepsOne begins.base last (λ history. BrokeOff begins.base history (lines begins.rest) t0 t1 w0 w1) → TriedBroken text t0 t1 w0 w1
unfolding now_of
tried-broken text left reader first last t0 t1 w0 w1 begins answered =
    record {
      base = begins.base;
      capacity = begins.capacity;
      history = answered.0;
      now = now_of begins.base answered.0;
      rest = begins.rest;
      founds = begins.founds;
      stands = stands-world begins.base answered.0 answered.1.legal;
      broke_off = answered.2;
    }

-- the text of the universe was written after the answers
pub dumped : (text more : List ℕ) (t0 t1 w0 w1 w2 : Option (List ℕ)) (last : LazyUniverse) (shown : List ℕ) → Leaves text more t0 t1 w0 w1 last
    → ((base : Universe) (history : List Entry) → Keeps base history last → shown ≡ dump_text base history) → Appends w1 w2 shown → Dumped text more t0 t1 w0 w2
dumped text more t0 t1 w0 w1 w2 last shown leaves shows wrote =
    let tried = leaves.tried in
    record { answers_written = w1; tried = tried; wrote = subst (Appends w1 w2) (shows tried.base tried.history leaves.keeps) wrote }

-- or a front of it
pub dump-broken : (text more : List ℕ) (t0 t1 w0 w1 w2 : Option (List ℕ)) (last : LazyUniverse) (shown : List ℕ) (count : ℕ) → Leaves text more t0 t1 w0 w1 last
    → ((base : Universe) (history : List Entry) → Keeps base history last → shown ≡ dump_text base history) → Appends w1 w2 (take count shown) → DumpBroken text more t0 t1 w0 w2
dump-broken text more t0 t1 w0 w1 w2 last shown count leaves shows wrote =
    let tried = leaves.tried in
    record {
      answers_written = w1;
      tried = tried;
      count = count;
      wrote = subst (λ (bytes : List ℕ). Appends w1 w2 (take count bytes)) (shows tried.base tried.history leaves.keeps) wrote;
    }
