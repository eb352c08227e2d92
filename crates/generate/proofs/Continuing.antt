-- Texts that are written piece by piece: one piece more.
use Rattle.std.proofs.Common.{◌≡◌, ℕ, suc, zero, ◌+◌, ◌<◌, List, [], ◌∷◌, ◌++◌, length, take, get_or, ap, sym, ◌∙◌, arith, append_assoc, add-one, append-nil}
use Rattle.std.specs.Fmt.{decimal}
use Rattle.catalog.specs.Kinds.{kind_word}
use Rattle.catalog.specs.declared.kind.Kind.{Kind}
use Rattle.reply_text.specs.Words.{line}
use Rattle.generate.specs.Counting.{each}
use Rattle.generate.specs.Founded.{kind_lines}
use Rattle.generate.specs.Generated.{script}
use Rattle.generate.specs.Turns.{next_turn, turn_after, turn_line}
use Rattle.generate.specs.declared.script.Turn.{Turn}

-- a piece more behind a front
more : (first front old piece new : List ℕ) → old ≡ first ++ front → new ≡ old ++ piece → new ≡ first ++ (front ++ piece)
more first front old piece new before last = last ∙ ap (λ text. text ++ piece) before ∙ append_assoc first front piece

-- one text more of those that are numbered
pub each_more : (text : ℕ → List ℕ) (count : ℕ) (first old new : List ℕ) → old ≡ first ++ each text count → new ≡ old ++ text (count + 1) → new ≡ first ++ each text (count + 1)
unfolding each
each_more text count first old new before last =
    let next : count + 1 ≡ suc count = omega arith in
    rw next (more first (each text count) old (text (suc count)) new before (last ∙ ap (λ n. old ++ text n) next))

-- none of them
pub each_none : (text : ℕ → List ℕ) (out : List ℕ) → out ≡ out ++ each text 0
unfolding each
each_none text out = sym (append-nil out)

-- one line of requests more
pub script_more : (seed count : ℕ) (turn : Turn) (first old new : List ℕ) → turn ≡ turn_after seed count → old ≡ first ++ script seed count → new ≡ old ++ turn_line (count + 1) turn → new ≡ first ++ script seed (count + 1)
unfolding script
script_more seed count turn first old new stands before last =
    let next : count + 1 ≡ suc count = omega arith in
    let piece : turn_line (count + 1) turn ≡ turn_line (suc count) (turn_after seed count) = ap (λ n. turn_line n turn) next ∙ ap (λ at. turn_line (suc count) at) stands in
    rw next (more first (script seed count) old (turn_line (suc count) (turn_after seed count)) new before (last ∙ ap (λ text. old ++ text) piece))

-- no line
pub script_none : (seed : ℕ) (out : List ℕ) → out ≡ out ++ script seed 0
unfolding script
script_none seed out = sym (append-nil out)

-- one turn more
pub turn_more : (seed count : ℕ) (old new : Turn) → old ≡ turn_after seed count → new ≡ next_turn old → new ≡ turn_after seed (count + 1)
unfolding turn_after
turn_more seed count old new before next = rw add-one (next ∙ ap next_turn before)

-- the line of one kind more
pub kind_more : (start : List ℕ) (kinds : List (Kind × ℕ)) (i : ℕ) (d : Kind × ℕ) → i < length kinds
    → kind_lines start (take (i + 1) kinds) ≡ kind_lines start (take i kinds) ++ line (start ∷ kind_word (get_or kinds i d).0 ∷ decimal (get_or kinds i d).1 ∷ [])
unfolding kind_lines
kind_more start kinds i d within = rw add-one (next kinds i within)
  where
    next : (kinds : List (Kind × ℕ)) (i : ℕ) → i < length kinds
        → kind_lines start (take (suc i) kinds) ≡ kind_lines start (take i kinds) ++ line (start ∷ kind_word (get_or kinds i d).0 ∷ decimal (get_or kinds i d).1 ∷ [])
    next (kind ∷ kinds) zero within = append-nil (line (start ∷ kind_word kind.0 ∷ decimal kind.1 ∷ []))
    next (kind ∷ kinds) (suc i) within =
        ap (λ rest. line (start ∷ kind_word kind.0 ∷ decimal kind.1 ∷ []) ++ rest) (next kinds i (omega arith))
        ∙ sym (append_assoc (line (start ∷ kind_word kind.0 ∷ decimal kind.1 ∷ [])) (kind_lines start (take i kinds)) (line (start ∷ kind_word (get_or kinds i d).0 ∷ decimal (get_or kinds i d).1 ∷ [])))
    next [] i within = absurd (omega arith)

-- no kind
pub kind_none : (start out : List ℕ) → out ≡ out ++ kind_lines start []
unfolding kind_lines
kind_none start out = sym (append-nil out)

-- one kind more behind a front
pub kinds_more : (start : List ℕ) (kinds : List (Kind × ℕ)) (i : ℕ) (d : Kind × ℕ) (first old new : List ℕ) → i < length kinds
    → old ≡ first ++ kind_lines start (take i kinds)
    → new ≡ old ++ line (start ∷ kind_word (get_or kinds i d).0 ∷ decimal (get_or kinds i d).1 ∷ [])
    → new ≡ first ++ kind_lines start (take (i + 1) kinds)
kinds_more start kinds i d first old new within before last =
    more first (kind_lines start (take i kinds)) old _ new before last ∙ ap (λ text. first ++ text) (sym (kind_more start kinds i d within))

pub ruleset counting = (each_none, each_more)
