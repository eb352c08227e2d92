-- How far the answers to a script have come.
use Rattle.std.proofs.Common.{◌≡◌, ℕ, ◌+◌, ◌≤◌, ◌<◌, true, false, Bool, List, [], ◌∷◌, ◌++◌, None, Some, Option, length, take, arith, refl, ap, ◌∙◌, sym, subst, decimal, length-append}
use Rattle.std.proofs.lemmas.List.{append-nil}
use Rattle.std.proofs.Math.Seq.{take-append-add}
use Rattle.std.proofs.KnownBytes.{Appends-nil, Appends-trans}
use Rattle.std.specs.Io.KnownBytes.{Appends}
use Rattle.std.specs.Str.Lines.{lines}
use Rattle.base_text.specs.Parts.{Lacks}
use Rattle.ports.specs.Readings.{TellsReading, TellsReadings}
use Rattle.ports.proofs.Tellings.{tells-all, tells-none}
use Rattle.request_text.proofs.LineHearing.{Heard, heard-all, heard-line, heard-lines, heard-start, pends}
use Rattle.request_text.specs.LineReading.{Follows, Leaves, Sees, Stays, Tells, advance, answered_line, kept, line_of, stop_of}
use Rattle.request_text.specs.declared.line_reader.TheConstants.{LONGEST_LINE}
use Rattle.request_text.specs.declared.line_reader.Line.TheVariants as L
use Rattle.request_text.specs.declared.line_reader.Stop.{Stop}
use Rattle.request_text.specs.declared.line_reader.Stop.TheVariants.{Fault, Spent}
use Rattle.request_text.specs.declared.line_reader.Told.{Told as ToldLine}
use Rattle.request_text.specs.declared.line_reader.Told.TheVariants.{Text, Long}
use Rattle.request_text.specs.declared.call.Call.{Call}
use Rattle.request_text.specs.declared.entry.Entry.{Entry}
use Rattle.request_text.specs.declared.line_reader.LineReader.{LineReader}
use Rattle.reply_text.specs.Heads.{text}
use Rattle.request_text.specs.Grammar.{timed_words}
use Rattle.request_text.specs.Forms.{form_word}
use Rattle.request_text.specs.Words.{argument_words, form_of, request_words}
use Rattle.request_text.specs.declared.request.Request.{Request}
use Rattle.base_ids.specs.Text.{player_text}
use Rattle.base_ids.specs.declared.player.Player.{Player}
use Rattle.base_text.proofs.Splitting.{join-parts}
use Rattle.std.specs.List.{join_with_byte}
use Rattle.std.proofs.lemmas.Fmt.{decimal_nonempty}
use Rattle.lazy.specs.Keeping.{Asks, Keeps, KeepsSome}
use Rattle.lazy.specs.declared.universe.LazyUniverse.{LazyUniverse}
use Rattle.reply_text.specs.declared.reply.Reply.{Reply}
use Rattle.tick_model.specs.Talk.{AsksFor, CameAt}
use Rattle.tick_model.specs.Universe.{Universe}
use Rattle.tick_model.proofs.Talks.{Told, told-nothing, told-long, told-bad, told-answered, told-unanswered, told-all}
use Rattle.command.specs.Answers.{Answered, AnsweredAll, AnsweredPart, BrokeOff, IsTold, KeepsOne, Turn, too_long, asks_nothing, asked, lacks_memory, Turns}

-- a universe that was asked keeps some history, if it did before
pub keeps-asked : (old new : LazyUniverse) (player : Player) (req : Request) (reading : ℕ) (reply : Reply) → KeepsSome old → Asks old new player req reading reply → KeepsSome new
keeps-asked old new player req reading reply keeps asks =
    let next = asks keeps.0 keeps.1 keeps.2 in
    (keeps.0, keeps.1 ++ next.entry ∷ [], next.keeps)

-- From a base on, these lines were answered with the bytes. The universe keeps their history, and the clock has told their
-- readings.
pub record Progress (base : Universe) (now : LazyUniverse) (done : List (List ℕ)) (t0 t1 : Option (List ℕ)) (bytes : List ℕ) : Type 0 where
  pub history : List Entry
  pub lacking : List Bool
  pub readings : List ℕ
  pub keeps : Keeps base history now
  pub told : Told base history done lacking readings bytes
  pub tells : TellsReadings t0 t1 readings

progress-start : (base : Universe) (now : LazyUniverse) (t : Option (List ℕ)) → Keeps base [] now → Progress base now [] t t []
progress-start base now t keeps =
    record {
      history = [];
      lacking = [];
      readings = [];
      keeps = keeps;
      told = told-nothing base;
      tells = tells-none t;
    }

-- a line that took no reading
no_reading : (t0 t1 t2 : Option (List ℕ)) (readings : List ℕ) → TellsReadings t0 t1 readings → TellsReadings t1 t2 [] → TellsReadings t0 t2 readings
no_reading t0 t1 t2 readings before tells = subst (TellsReadings t0 t2) (append-nil readings) (tells-all t0 t1 t2 readings [] before tells)

-- one line more was answered
progress-turn : (base : Universe) (now : LazyUniverse) (done : List (List ℕ)) (line : List ℕ) (t0 t1 t2 : Option (List ℕ)) (bytes : List ℕ) (before : Progress base now done t0 t1 bytes) (next : LazyUniverse) (taken answer : List ℕ)
    → TellsReadings t1 t2 taken → Turn now line next taken answer → Progress base next (done ++ line ∷ []) t0 t2 (bytes ++ answer)
progress-turn base now done line t0 t1 t2 bytes before _ _ _ tells (too_long over) =
    record {
      history = before.history;
      lacking = before.lacking ++ false ∷ [];
      readings = before.readings;
      keeps = before.keeps;
      told = told-long base before.history done before.lacking before.readings bytes line before.told over;
      tells = no_reading t0 t1 t2 before.readings before.tells tells;
    }
progress-turn base now done line t0 t1 t2 bytes before _ _ _ tells (asks_nothing short nothing) =
    record {
      history = before.history;
      lacking = before.lacking ++ false ∷ [];
      readings = before.readings;
      keeps = before.keeps;
      told = told-bad base before.history done before.lacking before.readings bytes line before.told short nothing;
      tells = no_reading t0 t1 t2 before.readings before.tells tells;
    }
progress-turn base now done line t0 t1 t2 bytes before _ _ _ tells (asked call reading taken new reply short asks came ask) =
    let next = ask base before.history before.keeps in
    let told = told-answered base before.history done before.lacking before.readings bytes line taken call reading next.entry before.told short asks came (record { reading = next.reading_is; player = next.player_is; req = next.req_is }) in
    record {
      history = before.history ++ next.entry ∷ [];
      lacking = before.lacking ++ false ∷ [];
      readings = before.readings ++ taken;
      keeps = next.keeps;
      told = subst (λ answer. Told base (before.history ++ next.entry ∷ []) (done ++ line ∷ []) (before.lacking ++ false ∷ []) (before.readings ++ taken) (bytes ++ text answer)) (sym next.replied) told;
      tells = tells-all t0 t1 t2 before.readings taken before.tells tells;
    }
progress-turn base now done line t0 t1 t2 bytes before _ _ _ tells (lacks_memory call reading taken short asks came) =
    record {
      history = before.history;
      lacking = before.lacking ++ true ∷ [];
      readings = before.readings ++ taken;
      keeps = before.keeps;
      told = told-unanswered base before.history done before.lacking before.readings bytes line taken call reading before.told short asks came;
      tells = tells-all t0 t1 t2 before.readings taken before.tells tells;
    }

progress-answered : (base : Universe) (now : LazyUniverse) (done : List (List ℕ)) (t0 t1 : Option (List ℕ)) (bytes : List ℕ) → (before : Progress base now done t0 t1 bytes) → Answered base before.history done t0 t1 bytes
progress-answered base now done t0 t1 bytes before =
    record {
      lacking = before.lacking;
      readings = before.readings;
      talk = told-all base before.history done before.lacking before.readings bytes before.told;
      tells = before.tells;
    }

-- Of a whole text some lines were answered, the sink has the answers, and the reader sees the rest.
pub record Come (reader : LineReader) (left : List ℕ) (base : Universe) (now : LazyUniverse) (whole : List ℕ) (t0 t1 w0 w1 : Option (List ℕ)) : Type 0 where
  pub done : List (List ℕ)
  pub rest : List ℕ
  pub heard : Heard whole done rest
  pub sees : Sees reader left rest
  pub bytes : List ℕ
  pub progress : Progress base now done t0 t1 bytes
  pub wrote : Appends w0 w1 bytes

pub come-start : (reader : LineReader) (left : List ℕ) (base : Universe) (now : LazyUniverse) (whole : List ℕ) (t w : Option (List ℕ)) → Sees reader left whole → Keeps base [] now → Come reader left base now whole t t w w
come-start reader left base now whole t w sees keeps =
    record {
      done = [];
      rest = whole;
      heard = heard-start whole;
      sees = sees;
      bytes = [];
      progress = progress-start base now t keeps;
      wrote = Appends-nil w;
    }

-- the next line was told, and answered with these bytes
pub record Goes (reader : LineReader) (more rest : List ℕ) (now next : LazyUniverse) (t1 t2 : Option (List ℕ)) (answer : List ℕ) : Type 0 where
  pub line : List ℕ
  pub follows : Follows reader more rest line
  pub turn : Turns now next t1 t2 line answer

-- one line more was answered, and its answer written
pub come-more : (reader reader' : LineReader) (left more : List ℕ) (base : Universe) (now next : LazyUniverse) (whole answer : List ℕ) (t0 t1 t2 w0 w1 w2 : Option (List ℕ)) → (before : Come reader left base now whole t0 t1 w0 w1)
    → Goes reader' more before.rest now next t1 t2 answer → Appends w1 w2 answer → Come reader' more base next whole t0 t2 w0 w2
come-more reader reader' left more base now next whole answer t0 t1 t2 w0 w1 w2 before goes wrote =
    record {
      done = before.done ++ goes.line ∷ [];
      rest = goes.follows.rest;
      heard = heard-line whole before.rest goes.line more before.done reader' before.heard goes.follows;
      sees = goes.follows.sees;
      bytes = before.bytes ++ answer;
      progress = progress-turn base now before.done goes.line t0 t1 t2 before.bytes before.progress next goes.turn.0 answer goes.turn.1 goes.turn.2;
      wrote = Appends-trans w0 w1 w2 before.bytes answer before.wrote wrote;
    }

come-all : (reader : LineReader) (left : List ℕ) (base : Universe) (now : LazyUniverse) (whole : List ℕ) (t0 t1 w0 w1 : Option (List ℕ)) → (before : Come reader left base now whole t0 t1 w0 w1) → AnsweredAll base before.progress.history before.done t0 t1 w0 w1
come-all reader left base now whole t0 t1 w0 w1 before =
    record { bytes = before.bytes; answered = progress-answered base now before.done t0 t1 before.bytes before.progress; wrote = before.wrote }

-- no line is left
pub come-end : (reader : LineReader) (left more : List ℕ) (base : Universe) (now : LazyUniverse) (whole : List ℕ) (t0 t1 w0 w1 : Option (List ℕ)) → (before : Come reader left base now whole t0 t1 w0 w1) → (before.rest ≡ []) × (more ≡ [])
    → (more ≡ []) × KeepsOne base now (λ history. AnsweredAll base history (lines whole) t0 t1 w0 w1)
come-end reader left more base now whole t0 t1 w0 w1 before end =
    let all = heard-all whole before.rest before.done before.heard end.0 in
    let history = before.progress.history in
    (end.1, (history, before.progress.keeps, subst (λ ls. AnsweredAll base history ls t0 t1 w0 w1) (sym all) (come-all reader left base now whole t0 t1 w0 w1 before)))

-- the source failed, or the reader may take no more
pub come-part : (reader reader' : LineReader) (left more : List ℕ) (base : Universe) (now : LazyUniverse) (whole : List ℕ) (t0 t1 w0 w1 : Option (List ℕ)) → (before : Come reader left base now whole t0 t1 w0 w1) → Sees reader' more before.rest → Lacks 10 (kept reader')
    → KeepsOne base now (λ history. AnsweredPart base history whole more t0 t1 w0 w1)
come-part reader reader' left more base now whole t0 t1 w0 w1 before sees free =
    let rest = pends reader' more before.rest sees free in
    let history = before.progress.history in
    let part : AnsweredPart base history whole more t0 t1 w0 w1 = record {
      said = before.heard.said;
      pending = rest.pending;
      parts = before.heard.parts ∙ ap (λ r. before.heard.said ++ r) rest.parts;
      unbroken = rest.unbroken;
      all = subst (λ ls. AnsweredAll base history ls t0 t1 w0 w1) (sym before.heard.lines_said) (come-all reader left base now whole t0 t1 w0 w1 before);
    } in
    (history, before.progress.keeps, part)

-- the sink took a front of an answer
pub come-broken : (reader reader' : LineReader) (left more : List ℕ) (base : Universe) (now next : LazyUniverse) (whole answer : List ℕ) (count : ℕ) (t0 t1 t2 w0 w1 w2 : Option (List ℕ)) → (before : Come reader left base now whole t0 t1 w0 w1)
    → Goes reader' more before.rest now next t1 t2 answer → Appends w1 w2 (take count answer) → KeepsOne base next (λ history. BrokeOff base history (lines whole) t0 t2 w0 w2)
come-broken reader reader' left more base now next whole answer count t0 t1 t2 w0 w1 w2 before goes wrote =
    let heard = heard-line whole before.rest goes.line more before.done reader' before.heard goes.follows in
    let done = before.done ++ goes.line ∷ [] in
    let progress : Progress base next done t0 t2 (before.bytes ++ answer) = progress-turn base now before.done goes.line t0 t1 t2 before.bytes before.progress next goes.turn.0 answer goes.turn.1 goes.turn.2 in
    let broke : BrokeOff base progress.history (lines whole) t0 t2 w0 w2 = record {
      taken_lines = done;
      rest = lines goes.follows.rest;
      parts = heard-lines whole goes.follows.rest done heard;
      bytes = before.bytes ++ answer;
      answered = progress-answered base next done t0 t2 (before.bytes ++ answer) progress;
      count = length before.bytes + count;
      wrote = subst (Appends w0 w2) (sym (take-append-add before.bytes answer count)) (Appends-trans w0 w1 w2 before.bytes (take count answer) before.wrote wrote);
    } in
    (progress.history, progress.keeps, broke)

-- one reading was told
pub tells-one : (t0 t1 : Option (List ℕ)) (reading : ℕ) → TellsReading t0 t1 reading → TellsReadings t0 t1 (reading ∷ [])
tells-one t0 None reading told = tt
tells-one None (Some after) reading told = told
tells-one (Some before) (Some after) reading told = told

-- what a call takes from the clock that names its reading, and one that names none
pub came_named : (named : ℕ) (t : Option (List ℕ)) → (taken : List ℕ) × CameAt (Some named) named taken × TellsReadings t t taken
came_named named t = ([], (refl, refl), tells-none t)

pub came_unnamed : (reading : ℕ) (t0 t1 : Option (List ℕ)) → TellsReading t0 t1 reading → (taken : List ℕ) × CameAt None reading taken × TellsReadings t0 t1 taken
came_unnamed reading t0 t1 told = (reading ∷ [], refl, tells-one t0 t1 reading told)

pub ruleset readings = (came_named, came_unnamed)

-- two words and what follows have two bytes at least, if the first has one
words_long : (first second : List ℕ) (more : List (List ℕ)) → 1 ≤ length first → 2 ≤ length (join_with_byte 32 (first ∷ second ∷ more))
words_long first second more some = let all = length-append first (32 ∷ join_with_byte 32 (second ∷ more)) in omega (arith, all, some)

player_some : (player : Player) → 1 ≤ length (player_text player)
player_some player = let some = decimal_nonempty player.k in omega (arith, some)

call_long : (named : Option ℕ) (player : Player) (req : Request) → 2 ≤ length (join_with_byte 32 (timed_words named (player_text player ∷ request_words req)))
call_long None player req = words_long (player_text player) (form_word (form_of req)) (argument_words req) (player_some player)
call_long (Some reading) player req = words_long (64 ∷ decimal reading) (player_text player) (request_words req) (omega arith)

-- a line that asks for something has two bytes at least: a player's digit and a space
pub two_bytes : (line : List ℕ) (call : Call) → AsksFor line call → 2 ≤ length line
two_bytes line call asks =
    let joined : line ≡ join_with_byte 32 (timed_words call.reading (player_text call.player ∷ request_words call.req)) = sym (join-parts 32 line) ∙ ap (join_with_byte 32) asks.same in
    subst (λ l. 2 ≤ length l) (sym joined) (call_long call.reading call.player call.req)

-- a reader that stopped sees what it saw, and keeps no line feed
pub stop_stays : (stop : Stop) (old : LineReader) (left : List ℕ) (new : LineReader) (more : List ℕ) → Tells old left new more (stop_of stop) → Stays old left new more
stop_stays Fault old left new more tells = tells
stop_stays Spent old left new more tells = tells

pub stop_lacks : (stop : Stop) (new : LineReader) → Leaves new (stop_of stop) → Lacks 10 (kept new)
stop_lacks Fault new leaves = leaves.2
stop_lacks Spent new leaves = leaves.3

-- the line for which an answer of a reader stands
pub told_line : (told : ToldLine) (old : LineReader) (left : List ℕ) (new : LineReader) (more : List ℕ) → Tells old left new more (line_of (Some told)) → Leaves new (line_of (Some told))
    → (text : List ℕ) → Sees old left text → (line : List ℕ) × Follows new more text line × IsTold new told line
told_line (Text n) old left new more tells leaves text sees =
    let count = leaves.0 in
    let short = leaves.1 in
    (answered_line new, tells text sees, (refl, omega (arith, count, short)))
told_line Long old left new more tells leaves text sees =
    let found = tells text sees in
    (found.0, found.2, found.1)

-- it brings the reader nearer to its end by its bytes, and by one at least
pub told_nearer : (told : ToldLine) (new : LineReader) (before after : ℕ) → Leaves new (line_of (Some told)) → after + advance (line_of (Some told)) ≤ before
    → (after + length (answered_line new) ≤ before) × (after < before) × (length (answered_line new) ≤ LONGEST_LINE)
told_nearer (Text n) new before after leaves nears =
    let count = leaves.0 in
    let short = leaves.1 in
    (omega (arith, count, nears), omega (arith, nears), omega (arith, count, short))
told_nearer Long new before after leaves nears =
    let none = ap length leaves in
    (omega (arith, none, nears), omega (arith, nears), omega (arith, none))

-- a line is no failure
pub told_unfailed : (told : ToldLine) → line_of (Some told) ≡ L.Fault → ⊥
told_unfailed (Text n) is = cc is
told_unfailed Long is = cc is
