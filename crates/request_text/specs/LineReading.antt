-- What a line reader still has to tell, and which bytes each of its answers stands for. Rule: docs/PROTOCOL.md,
-- "Lines, words, numbers".
use Rattle.std.specs.Prelude.{◌≡◌, ℕ, ◌+◌, ◌-◌, ◌<◌, ◌≤◌, ◌⊎◌, max, Bool, true, false, if◌then◌else◌, List, [], ◌∷◌, ◌++◌, length, take, drop, Option, None, Some, ⊤}
use Rattle.std.specs.Str.Lines.{lines}
use Rattle.base_text.specs.Parts.{Lacks}
use Rattle.request_text.specs.Windows.{items}
use Rattle.request_text.specs.declared.line_reader.TheConstants.{LONGEST_LINE, MOST_BEFORE_FEED, MOST_TAKEN}
use Rattle.request_text.specs.declared.line_reader.LineReader.{LineReader}
use Rattle.request_text.specs.declared.line_reader.Stage.{Stage}
use Rattle.request_text.specs.declared.line_reader.Stage.TheVariants.{Open, Last, Over, Exhausted}
use Rattle.request_text.specs.declared.line_reader.Line.{Line}
use Rattle.request_text.specs.declared.line_reader.Told.{Told}
use Rattle.request_text.specs.declared.line_reader.Told.TheVariants.{Text as Words, Long as TooLong}
use Rattle.request_text.specs.declared.line_reader.Stop.{Stop}
use Rattle.request_text.specs.declared.line_reader.Stop.TheVariants.{Fault as AtFault, Spent as AtBound}
use Rattle.request_text.specs.declared.line_reader.Line.TheVariants.{Text, Long, End, Fault, Spent}

-- the line that was answered last, if the last answer was a text; else no bytes
abbrev pub answered_line : LineReader → List ℕ
answered_line reader = take reader.line (items reader.window)

-- the bytes that were taken from a source, and that no answer stands for
abbrev pub kept : LineReader → List ℕ
kept reader = drop reader.answered (items reader.window)

-- how many bytes were taken from sources
abbrev pub taken : LineReader → ℕ
taken reader = reader.taken

-- the end of the input was seen, and every line before it answered
abbrev pub HasEnded : Stage → Type 0
HasEnded Open = ⊥
HasEnded Last = ⊤
HasEnded Over = ⊤
HasEnded Exhausted = ⊥

-- the front of a line that is known to be long, and nothing else
abbrev pub IsFront : Bool → List ℕ → Type 0
IsFront false front = front ≡ []
IsFront true front = (MOST_BEFORE_FEED < length front) × Lacks 10 front

-- What the reader still has to tell, together with what the source has left, is this text. While a long line is
-- passed over, its front is known no more: any front without a line feed will do that has more bytes than a text
-- may have before its line feed.
pub record Sees (reader : LineReader) (left text : List ℕ) : Type 0 where
  pub front : List ℕ
  pub passed : IsFront reader.long front
  pub parts : text ≡ front ++ (kept reader ++ left)
  pub ended : HasEnded reader.stage → text ≡ []

-- the bytes end at a line feed
abbrev pub EndsAtFeed : List ℕ → Type 0
EndsAtFeed bytes = (front : List ℕ) × (bytes ≡ front ++ 10 ∷ [])

-- The line is the first of the text: it stands for a piece at the front of the text, up to a line feed, or to the end
-- of the input, which the reader has then seen. The reader sees the rest.
pub record Follows (reader : LineReader) (left text line : List ℕ) : Type 0 where
  pub piece : List ℕ
  pub rest : List ℕ
  pub parts : text ≡ piece ++ rest
  pub alone : lines piece ≡ line ∷ []
  pub first : lines text ≡ line ∷ lines rest
  pub closed : EndsAtFeed piece ⊎ HasEnded reader.stage
  pub sees : Sees reader left rest

-- every text that was seen is still seen
abbrev pub Stays : LineReader → List ℕ → LineReader → List ℕ → Type 0
Stays old left new more = (text : List ℕ) → Sees old left text → Sees new more text

-- which bytes an answer stands for, for every text that was seen
abbrev pub Tells : LineReader → List ℕ → LineReader → List ℕ → Line → Type 0
Tells old left new more (Text n) = (text : List ℕ) → Sees old left text → Follows new more text (answered_line new)
Tells old left new more Long = (text : List ℕ) → Sees old left text → (line : List ℕ) × (LONGEST_LINE < length line) × Follows new more text line
Tells old left new more End = (text : List ℕ) → Sees old left text → (text ≡ []) × (more ≡ [])
Tells old left new more Fault = Stays old left new more
Tells old left new more Spent = Stays old left new more

-- the end was answered
abbrev pub IsOver : LineReader → Type 0
IsOver reader = reader.stage ≡ Over

-- it was answered that all that may be taken is taken
abbrev pub IsSpent : LineReader → Type 0
IsSpent reader = reader.stage ≡ Exhausted

-- what is known of the reader after an answer
abbrev pub Leaves : LineReader → Line → Type 0
Leaves new (Text n) = (length (answered_line new) ≡ n) × (n ≤ LONGEST_LINE)
Leaves new Long = answered_line new ≡ []
Leaves new End = IsOver new × (answered_line new ≡ []) × (taken new < MOST_TAKEN)
Leaves new Fault = (answered_line new ≡ []) × (taken new < MOST_TAKEN) × Lacks 10 (kept new)
Leaves new Spent = IsSpent new × (answered_line new ≡ []) × (taken new ≡ MOST_TAKEN) × Lacks 10 (kept new)

-- a fact of what a source had left and what it has left now, if the source tells
abbrev pub Known : Option (List ℕ) → Option (List ℕ) → (List ℕ → List ℕ → Type 0) → Type 0
Known None after P = ⊤
Known (Some left) None P = ⊥
Known (Some left) (Some more) P = P left more

-- how many bytes the reader may still answer for, and one more for a long line that is passed over
abbrev pub ahead : LineReader → ℕ
ahead reader = (MOST_TAKEN - taken reader) + length (kept reader) + (if reader.long then 1 else 0)

-- by how much an answer brings the reader nearer to its end, at least
abbrev pub advance : Line → ℕ
advance (Text n) = max n 1
advance Long = 1
advance End = 0
advance Fault = 0
advance Spent = 0

-- the answer that stands for a line, or for the end of the input
abbrev pub line_of : Option Told → Line
line_of None = End
line_of (Some (Words n)) = Text n
line_of (Some TooLong) = Long

-- the answer that is a reason to stop
abbrev pub stop_of : Stop → Line
stop_of AtFault = Fault
stop_of AtBound = Spent
