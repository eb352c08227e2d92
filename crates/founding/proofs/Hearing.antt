-- What the lines come to that were heard so far.
use Rattle.std.proofs.Common.{◌≡◌, ◌≢◌, ℕ, ◌+◌, ◌<◌, List, [], ◌∷◌, ◌++◌, length, refl, ap, ◌∙◌, sym, subst, arith, inl, inr, Option, Some, None, length-append, Err, Ok}
use Rattle.std.specs.Prelude.{codes, IsErrAnd, MatchResult}
use Rattle.std.specs.declared.result.Result.{Result}
use Rattle.std.specs.Str.Lines.{lines}
use Rattle.base_text.specs.Parts.{Lacks, words}
use Rattle.request_text.proofs.LineHearing.{Heard, heard-line, heard-lines, heard-start, pends}
use Rattle.request_text.specs.LineReading.{kept, stop_of, Follows, Leaves, Sees, Tells}
use Rattle.request_text.specs.declared.line_reader.Line.{Line}
use Rattle.request_text.specs.declared.line_reader.Line.TheVariants.{Fault, Spent as AtMost}
use Rattle.request_text.specs.declared.line_reader.Stop.{Stop}
use Rattle.request_text.specs.declared.line_reader.Stop.TheVariants.{Fault as AtFault, Spent as AtBound}
use Rattle.request_text.specs.declared.line_reader.LineReader.{LineReader}
use Rattle.request_text.specs.declared.line_reader.TheConstants.{LONGEST_LINE}
use Rattle.base_bytes.specs.Base.{universe_of}
use Rattle.base_bytes.specs.declared.base.Base.{Base}
use Rattle.founding.specs.Drafts.{Adds, AddsNothing, Drafted, Grows}
use Rattle.founding.specs.Founded.{founded}
use Rattle.founding.specs.Founding.{IsBadNext, IsEnd, IsUnfinished}
use Rattle.founding.specs.DraftMaps.{draft_of}
use Rattle.founding.specs.Lines.{heading_words}
use Rattle.founding.specs.Reading.{fault_of, Reads, Stops}
use Rattle.founding.specs.Steps.{fault_at, Steps}
use Rattle.founding.specs.declared.draft.Draft.{Draft}
use Rattle.founding.specs.declared.fault.FoundingFault.{FoundingFault}
use Rattle.founding.specs.declared.fault.FoundingFault.TheVariants.{Bad, ReadFault, Spent, Memory}
use Rattle.founding.specs.declared.fault.LineFault.{LineFault}
use Rattle.founding.specs.declared.fault.LineFault.TheVariants.{Bad as BadLine, Memory as OutOfMemory}
use Rattle.founding.specs.declared.heading.Heading.{Heading}

-- one line more
pub grows-more : (start said : Option Drafted) (new : Drafted) (good : List (List ℕ)) (line : List ℕ) → Grows start good said → Adds said line new → Grows start (good ++ line ∷ []) (Some new)
grows-more start said new [] line same adds = (new, subst (λ (s : Option Drafted). Adds s line new) same adds, refl)
grows-more start said new (first ∷ later) line (next, adds_first, grows) adds = (next, adds_first, grows-more (Some next) said new later line grows adds)

-- The lines that were heard of the whole text have said something, and the reader sees the others; the next line has this number.
pub record Drawn (said : Option Drafted) (number : ℕ) (reader : LineReader) (left text : List ℕ) : Type 0 where
  pub good : List (List ℕ)
  pub rest : List ℕ
  pub heard : Heard text good rest
  pub grows : Grows None good said
  pub sees : Sees reader left rest
  pub place : number ≡ length good + 1

unfoldable pub drawn-start : (reader : LineReader) (left text : List ℕ) → Sees reader left text → Drawn None 1 reader left text
drawn-start reader left text seen = record { good = []; rest = text; heard = heard-start text; grows = refl; sees = seen; place = refl }

pub drawn-line : (said : Option Drafted) (new : Drafted) (number : ℕ) (reader after : LineReader) (left more text line : List ℕ) (before : Drawn said number reader left text) → Adds said line new → Follows after more before.rest line
    → Drawn (Some new) (number + 1) after more text
drawn-line said new number reader after left more text line before adds follows =
    record {
      good = before.good ++ line ∷ [];
      rest = follows.rest;
      heard = heard-line text before.rest line more before.good after before.heard follows;
      grows = grows-more None said new before.good line before.grows adds;
      sees = follows.sees;
      place = let place = before.place in let more = length-append before.good (line ∷ []) in omega (arith, place, more);
    }

-- the lines end with a `.`
pub drawn-ended : (draft : Drafted) (base : Base) (number : ℕ) (reader after : LineReader) (left more text : List ℕ) (before : Drawn (Some draft) number reader left text) → universe_of base ≡ founded draft → base.capacity ≡ draft.heading.capacity
    → Follows after more before.rest (codes ".") → Reads text after more (Ok base)
drawn-ended draft base number reader after left more text before founds keeps follows = (
  follows.rest,
  record { good = before.good; draft = draft; parts = heard-lines text before.rest before.good before.heard ∙ ap (λ r. before.good ++ r) follows.first; grows = before.grows; founds = founds; keeps = keeps },
  follows.sees,
)

unfinished : (said : Option Drafted) (number : ℕ) (reader after : LineReader) (left more text : List ℕ) (before : Drawn said number reader left text) → Sees after more before.rest → Lacks 10 (kept after) → IsUnfinished text more
unfinished said number reader after left more text before sees free =
    let rest = pends after more before.rest sees free in
    record {
      taken = before.heard.said;
      pending = rest.pending;
      said = said;
      parts = before.heard.parts ∙ ap (λ r. before.heard.said ++ r) rest.parts;
      unbroken = rest.unbroken;
      grows = subst (λ (good : List (List ℕ)). Grows None good said) (sym before.heard.lines_said) before.grows;
    }

-- reading stops there
pub drawn-stops : (said : Option Drafted) (number : ℕ) (reader after : LineReader) (left more text : List ℕ) (fault : FoundingFault) (before : Drawn said number reader left text) → Stops said number before.rest after more fault → Reads text after more (Err fault)
drawn-stops said number reader after left more text (Bad n) before (bad, place) =
    record { good = before.good; said = said; rest = lines before.rest; parts = heard-lines text before.rest before.good before.heard; grows = before.grows; bad = bad; place = place ∙ before.place }
drawn-stops said number reader after left more text ReadFault before (sees, free) = unfinished said number reader after left more text before sees free
drawn-stops said number reader after left more text Spent before (sees, free) = unfinished said number reader after left more text before sees free
drawn-stops said number reader after left more text Memory before (line, adds, follows) = (
  follows.rest,
  record { good = before.good; said = said; line = line; parts = heard-lines text before.rest before.good before.heard ∙ ap (λ r. before.good ++ r) follows.first; grows = before.grows; adds = adds },
  follows.sees,
)

-- a first line of other words than a heading's is bad
pub headless-stops : (reader : LineReader) (left text line : List ℕ) → ((heading : Heading) → words line ≡ heading_words heading → ⊥) → Follows reader left text line → Stops None 1 text reader left (Bad 1)
headless-stops reader left text line other follows =
    (subst (IsBadNext None) (sym follows.first) ((λ ended. ended), λ new says. other says.value says.spelled.spells), refl)

-- a line that adds nothing stops the reading there
pub step-stops : (old new : Draft) (fault : LineFault) (number : ℕ) (reader : LineReader) (left text line : List ℕ) → line ≢ codes "." → Steps (λ before after. Adds (Some before) line after) old new (Err fault) → Follows reader left text line
    → Stops (Some (draft_of old)) number text reader left (fault_at number fault)
step-stops old new BadLine number reader left text line other (nothing, same) follows = (subst (IsBadNext (Some (draft_of old))) (sym follows.first) (other, nothing), refl)
step-stops old new OutOfMemory number reader left text line other (some, same) follows = (line, some, follows)

nothing_long : (said : Option Drafted) (line : List ℕ) → LONGEST_LINE < length line → AddsNothing said line
nothing_long None line long new says = let short = says.spelled.short in omega (arith, long, short)
nothing_long (Some draft) line long new (inl says) = let short = says.spelled.short in omega (arith, long, short)
nothing_long (Some draft) line long new (inr (inl says)) = let short = says.spelled.short in omega (arith, long, short)
nothing_long (Some draft) line long new (inr (inr (inl says))) = let short = says.spelled.short in omega (arith, long, short)
nothing_long (Some draft) line long new (inr (inr (inr (inl says)))) = let short = says.spelled.short in omega (arith, long, short)
nothing_long (Some draft) line long new (inr (inr (inr (inr (inl says))))) = let short = says.spelled.short in omega (arith, long, short)
nothing_long (Some draft) line long new (inr (inr (inr (inr (inr says))))) = let short = says.spelled.short in omega (arith, long, short)

no_end : (said : Option Drafted) (line : List ℕ) → LONGEST_LINE < length line → IsEnd said line → ⊥
no_end None line long ended = ended
no_end (Some draft) line long ended = let one = ap length ended in omega (arith, long, one)

-- a long line is bad
pub long-stops : (said : Option Drafted) (number : ℕ) (reader : LineReader) (left text line : List ℕ) → LONGEST_LINE < length line → Follows reader left text line → Stops said number text reader left (Bad number)
long-stops said number reader left text line long follows = (subst (IsBadNext said) (sym follows.first) (no_end said line long, nothing_long said line long), refl)

-- so is the end
pub end-stops : (said : Option Drafted) (number : ℕ) (reader : LineReader) (left text : List ℕ) → text ≡ [] → Stops said number text reader left (Bad number)
end-stops said number reader left text none = (subst (λ (t : List ℕ). IsBadNext said (lines t)) (sym none) tt, refl)

-- a reader that stopped stops the reading there
pub fault-stops : (said : Option Drafted) (number : ℕ) (old new : LineReader) (left more text : List ℕ) (line : Line) (stop : Stop) → line ≡ stop_of stop → Tells old left new more line → Leaves new line → Sees old left text
    → Stops said number text new more (fault_of stop)
fault-stops said number old new left more text line AtFault same tells leaves seen =
    let goes : Tells old left new more Fault = subst (Tells old left new more) same tells in
    let stands : Leaves new Fault = subst (Leaves new) same leaves in
    (goes text seen, stands.2)
fault-stops said number old new left more text line AtBound same tells leaves seen =
    let goes : Tells old left new more AtMost = subst (Tells old left new more) same tells in
    let stands : Leaves new AtMost = subst (Leaves new) same leaves in
    (goes text seen, stands.3)

-- what a fault brings, a result that is this fault brings
pub only_fault : {A : Type 0} (result : Result A FoundingFault) (fault : FoundingFault) (P : A → Type 0) (Q : FoundingFault → Type 0) → IsErrAnd result (λ f. f ≡ fault) → Q fault → MatchResult result P Q
only_fault (Ok done) fault P Q failed brings = absurd failed
only_fault (Err f) fault P Q failed brings = subst Q (sym failed) brings

pub reads-fault : (text : List ℕ) (reader : LineReader) (left : List ℕ) (result : Result Base FoundingFault) (fault : FoundingFault) → IsErrAnd result (λ f. f ≡ fault) → Reads text reader left (Err fault) → Reads text reader left result
reads-fault text reader left (Ok base) fault failed reads = absurd failed
reads-fault text reader left (Err f) fault failed reads = subst (λ (x : FoundingFault). Reads text reader left (Err x)) (sym failed) reads
