-- How far a caller of a line reader has come in a whole text: what it may keep from one answer to the next.
use Rattle.std.proofs.Common.{◌≡◌, ℕ, ◌+◌, Bool, true, false, ◌⊎◌, inl, inr, List, [], ◌∷◌, ◌++◌, length, map, refl, ◌∙◌, ap, sym, eqb, eq-eqb, cond, arith, append_assoc, append-nil, length-append}
use Rattle.std.specs.List.{onto_first}
use Rattle.std.proofs.lemmas.List.{nil_from_length}
use Rattle.std.specs.Str.Lines.{lines, lines_of_parts, strip_carriage_return}
use Rattle.base_text.specs.Parts.{Lacks, parts}
use Rattle.base_text.proofs.Lacking.{lacks-append}
use Rattle.base_text.proofs.Splitting.{parts-more}
use Rattle.request_text.specs.LineReading.{kept, EndsAtFeed, HasEnded, Sees, Follows}
use Rattle.request_text.specs.declared.line_reader.LineReader.{LineReader}
use Rattle.request_text.proofs.LineSeeing.{lacks-front}

parts-step : (b : Bool) (x : ℕ) (whole front back : List (List ℕ)) (first : List ℕ) (more : List (List ℕ)) → whole ≡ front ++ back → front ≡ first ∷ more
    → cond b ([] ∷ whole) (onto_first x whole) ≡ cond b ([] ∷ front) (onto_first x front) ++ back
parts-step true x whole front back first more e f = ap (λ w. [] ∷ w) e
parts-step false x whole front back first more e f = ap (onto_first x) (e ∙ ap (λ p. p ++ back) f) ∙ sym (ap (λ p. onto_first x p ++ back) f)

-- the parts of a text are those before a separator and those behind it
parts-append : (c : ℕ) (xs ys : List ℕ) → parts c (xs ++ c ∷ ys) ≡ parts c xs ++ parts c ys
parts-append c [] ys = ap (λ (b : Bool). cond b ([] ∷ parts c ys) (onto_first c (parts c ys))) (eq-eqb c c refl)
parts-append c (x ∷ xs) ys = let (first, (more, f)) = parts-more c xs in parts-step (eqb x c) x (parts c (xs ++ c ∷ ys)) (parts c xs) (parts c ys) first more (parts-append c xs ys) f

lines-parts : (front : List (List ℕ)) (first : List ℕ) (more : List (List ℕ)) → lines_of_parts (front ++ first ∷ more) ≡ map strip_carriage_return front ++ lines_of_parts (first ∷ more)
lines-parts [] first more = refl
lines-parts (p ∷ []) first more = refl
lines-parts (p ∷ q ∷ front) first more = ap (λ r. strip_carriage_return p ∷ r) (lines-parts (q ∷ front) first more)

lines-feed : (xs ys : List ℕ) → lines (xs ++ 10 ∷ ys) ≡ map strip_carriage_return (parts 10 xs) ++ lines ys
lines-feed xs ys =
    let (first, (more, f)) = parts-more 10 ys in
    ap lines_of_parts (parts-append 10 xs ys ∙ ap (λ r. parts 10 xs ++ r) f) ∙ lines-parts (parts 10 xs) first more ∙ ap (λ r. map strip_carriage_return (parts 10 xs) ++ lines_of_parts r) (sym f)

-- the lines of a text are those up to a line feed and those behind it
pub lines-append : (xs ys : List ℕ) → EndsAtFeed xs → lines (xs ++ ys) ≡ lines xs ++ lines ys
lines-append xs ys (front, e) =
    let alone = ap lines e ∙ lines-feed front [] ∙ append-nil (map strip_carriage_return (parts 10 front)) in
    ap (λ x. lines (x ++ ys)) e ∙ ap lines (append_assoc front (10 ∷ []) ys) ∙ lines-feed front ys ∙ ap (λ r. r ++ lines ys) (sym alone)

-- the lines that were answered are those of a front of the whole text, and the rest is still seen
pub record Heard (whole : List ℕ) (done : List (List ℕ)) (rest : List ℕ) : Type 0 where
  pub said : List ℕ
  pub parts : whole ≡ said ++ rest
  pub lines_said : lines said ≡ done
  pub closed : (said ≡ []) ⊎ (EndsAtFeed said ⊎ (rest ≡ []))

pub heard-start : (whole : List ℕ) → Heard whole [] whole
heard-start whole =
    record {
      said = [];
      parts = refl;
      lines_said = refl;
      closed = inl refl;
    }

-- the lines of what was said and of one piece more
lines-said : (said piece rest more line : List ℕ) → (said ≡ []) ⊎ (EndsAtFeed said ⊎ (rest ≡ [])) → rest ≡ piece ++ more → lines piece ≡ line ∷ [] → lines (said ++ piece) ≡ lines said ++ line ∷ []
lines-said said piece rest more line (inl none) parts alone = ap (λ x. lines (x ++ piece)) none ∙ alone ∙ sym (ap (λ x. lines x ++ line ∷ []) none)
lines-said said piece rest more line (inr (inl feed)) parts alone = lines-append said piece feed ∙ ap (λ r. lines said ++ r) alone
lines-said said piece rest more line (inr (inr none)) parts alone =
    let empty : piece ≡ [] = nil_from_length piece (let all = length-append piece more in let whole = ap length (sym none ∙ parts) in omega (arith, all, whole)) in
    absurd (cc (ap lines empty, alone))

closed-more : (said piece rest : List ℕ) (reader : LineReader) → EndsAtFeed piece ⊎ HasEnded reader.stage → (HasEnded reader.stage → rest ≡ []) → (said ++ piece ≡ []) ⊎ (EndsAtFeed (said ++ piece) ⊎ (rest ≡ []))
closed-more said piece rest reader (inl (front, e)) none = inr (inl (said ++ front, ap (λ p. said ++ p) e ∙ sym (append_assoc said front (10 ∷ []))))
closed-more said piece rest reader (inr over) none = inr (inr (none over))

-- one more line was answered
pub heard-line : (whole rest line left : List ℕ) (done : List (List ℕ)) (reader : LineReader) → Heard whole done rest → (next : Follows reader left rest line) → Heard whole (done ++ line ∷ []) next.rest
heard-line whole rest line left done reader before next =
    record {
      said = before.said ++ next.piece;
      parts = before.parts ∙ ap (λ r. before.said ++ r) next.parts ∙ sym (append_assoc before.said next.piece next.rest);
      lines_said = lines-said before.said next.piece rest next.rest line before.closed next.parts next.alone ∙ ap (λ d. d ++ line ∷ []) before.lines_said;
      closed = closed-more before.said next.piece next.rest reader next.closed next.sees.ended;
    }

-- all lines were answered
pub heard-all : (whole rest : List ℕ) (done : List (List ℕ)) → Heard whole done rest → rest ≡ [] → lines whole ≡ done
heard-all whole rest done before none = ap lines (before.parts ∙ ap (λ r. before.said ++ r) none ∙ append-nil before.said) ∙ before.lines_said

-- the lines of the whole text are those that were answered and those that are still seen
pub heard-lines : (whole rest : List ℕ) (done : List (List ℕ)) → Heard whole done rest → lines whole ≡ done ++ lines rest
heard-lines whole rest done before = either before.closed
  where
    either : (before.said ≡ []) ⊎ (EndsAtFeed before.said ⊎ (rest ≡ [])) → lines whole ≡ done ++ lines rest
    either (inl none) = ap lines (before.parts ∙ ap (λ s. s ++ rest) none) ∙ ap (λ d. d ++ lines rest) (sym (ap lines none) ∙ before.lines_said)
    either (inr (inl feed)) = ap lines before.parts ∙ lines-append before.said rest feed ∙ ap (λ d. d ++ lines rest) before.lines_said
    either (inr (inr none)) = heard-all whole rest done before none ∙ sym (append-nil done) ∙ sym (ap (λ r. done ++ lines r) none)

-- what was taken and stands for no line yet has no line feed
pub record Pends (rest left : List ℕ) : Type 0 where
  pub pending : List ℕ
  pub unbroken : Lacks 10 pending
  pub parts : rest ≡ pending ++ left

pub pends : (reader : LineReader) (left rest : List ℕ) → Sees reader left rest → Lacks 10 (kept reader) → Pends rest left
pends reader left rest seen free =
    record {
      pending = seen.front ++ kept reader;
      unbroken = lacks-append 10 seen.front (kept reader) (lacks-front reader.long seen.front seen.passed) free;
      parts = seen.parts ∙ sym (append_assoc seen.front (kept reader) left);
    }

-- So many lines of a whole text were answered, and the reader sees the rest.
pub record Reached (reader : LineReader) (left whole : List ℕ) (count : ℕ) : Type 0 where
  pub done : List (List ℕ)
  pub rest : List ℕ
  pub heard : Heard whole done rest
  pub sees : Sees reader left rest
  pub counted : length done ≡ count

pub reached-start : (reader : LineReader) (left whole : List ℕ) → Sees reader left whole → Reached reader left whole 0
reached-start reader left whole seen =
    record {
      done = [];
      rest = whole;
      heard = heard-start whole;
      sees = seen;
      counted = refl;
    }

pub reached-line : (old new : LineReader) (left more whole line : List ℕ) (count : ℕ) (before : Reached old left whole count) → Follows new more before.rest line → Reached new more whole (count + 1)
reached-line old new left more whole line count before next =
    record {
      done = before.done ++ line ∷ [];
      rest = next.rest;
      heard = heard-line whole before.rest line more before.done new before.heard next;
      sees = next.sees;
      counted = length-append before.done (line ∷ []) ∙ ap (λ n. n + 1) before.counted;
    }
