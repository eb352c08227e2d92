-- What a founding text founds, and which of its lines is the first bad one. Rule: docs/PROTOCOL.md, "The founding
-- text".
use Rattle.std.specs.Prelude.{◌≡◌, ◌+◌, ℕ, List, [], ◌∷◌, ◌++◌, codes, length, Option, None, Some, ⊤}
use Rattle.std.specs.Str.Lines.{lines as text_lines}
use Rattle.base_text.specs.Parts.{Lacks}
use Rattle.tick_model.specs.Universe.{Universe}
use Rattle.founding.specs.Drafts.{Adds, AddsNothing, Drafted, Grows}
use Rattle.founding.specs.Founded.{founded}

-- The lines are a founding text of this universe, whose history may keep so many requests, and then the lines `script`: a
-- heading and lines that each add something, a line `.`, and the script.
pub record Founds (lines : List (List ℕ)) (universe : Universe) (capacity : ℕ) (script : List (List ℕ)) : Type 0 where
  pub good : List (List ℕ)
  pub draft : Drafted
  pub parts : lines ≡ good ++ (codes "." ∷ script)
  pub grows : Grows None good (Some draft)
  pub founds : universe ≡ founded draft
  pub keeps : capacity ≡ draft.heading.capacity

-- the line is a `.` that ends a text: a heading stands before it
abbrev pub IsEnd : Option Drafted → List ℕ → Type 0
IsEnd None line = ⊥
IsEnd (Some draft) line = line ≡ codes "."

-- The lines end here, or the first of them is bad: it adds nothing and is no end.
abbrev pub IsBadNext : Option Drafted → List (List ℕ) → Type 0
IsBadNext said [] = ⊤
IsBadNext said (line ∷ later) = (IsEnd said line → ⊥) × AddsNothing said line

-- Line `n`, counted from 1, is the first bad one: each line before it adds something. If the lines end before a `.`, it
-- is the one after the last.
pub record IsBadAt (lines : List (List ℕ)) (n : ℕ) : Type 0 where
  pub good : List (List ℕ)
  pub said : Option Drafted
  pub rest : List (List ℕ)
  pub parts : lines ≡ good ++ rest
  pub grows : Grows None good said
  pub bad : IsBadNext said rest
  pub place : n ≡ length good + 1

-- The whole lines that were taken of a text begin a founding text, whose `.` is not among them; `more` is left in the
-- source. What was taken is those lines and then a piece without a line feed.
pub record IsUnfinished (text more : List ℕ) : Type 0 where
  pub taken : List ℕ
  pub pending : List ℕ
  pub said : Option Drafted
  pub parts : text ≡ taken ++ (pending ++ more)
  pub unbroken : Lacks 10 pending
  pub grows : Grows None (text_lines taken) said

-- the line adds something that takes memory: it is one behind the heading
abbrev pub TakesMemory : Option Drafted → List ℕ → Type 0
TakesMemory None line = ⊥
TakesMemory (Some draft) line = (new : Drafted) × Adds (Some draft) line new

-- The lines begin a founding text, and the last one that was read adds something that takes memory; the lines `later`
-- stand behind it.
pub record NeedsMemory (lines later : List (List ℕ)) : Type 0 where
  pub good : List (List ℕ)
  pub said : Option Drafted
  pub line : List ℕ
  pub parts : lines ≡ good ++ (line ∷ later)
  pub grows : Grows None good said
  pub adds : TakesMemory said line
