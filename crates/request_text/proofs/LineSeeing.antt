-- What a line reader sees, after an answer and while it passes over a long line.
use Rattle.std.proofs.Common.{if◌then◌else◌, ◌≡◌, ℕ, ◌+◌, ◌-◌, ◌<◌, ◌≤◌, Bool, true, false, ◌⊎◌, inl, inr, List, [], ◌∷◌, ◌++◌, length, get_or, take, drop, refl, ◌∙◌, ap, sym, subst, arith, eqb, cond, add-one, append_assoc, append-nil, length-append}
use Rattle.std.specs.Str.Lines.{lines, strip_carriage_return}
use Rattle.std.proofs.Math.Seq.{split_at}
use Rattle.std.proofs.lemmas.List.{get_or-take, take-take, length-take-le, drop_all, take_all, nil_from_length, length-drop}
use Rattle.base_text.specs.Parts.{Lacks}
use Rattle.base_text.proofs.Lacking.{lacks-append, lacks-nil}
use Rattle.base_text.proofs.Splitting.{lines-join, lines-last, parts-one}
use Rattle.request_text.specs.Feeds.{IsFirstFeed}
use Rattle.request_text.specs.LineReading.{answered_line, kept, HasEnded, IsFront, Sees, Follows, Stays, Tells, advance, ahead, taken}
use Rattle.request_text.specs.LineSteps.{Answers}
use Rattle.request_text.specs.declared.line_reader.TheConstants.{LONGEST_LINE, MOST_BEFORE_FEED}
use Rattle.request_text.specs.declared.line_reader.LineReader.{LineReader}
use Rattle.request_text.specs.declared.line_reader.Stage.TheVariants.{Open}
use Rattle.request_text.specs.declared.line_reader.Line.{Line}
use Rattle.request_text.specs.declared.line_reader.Line.TheVariants.{Text, Long, End, Fault, Spent}

-- a line loses one byte at most
stripped : (line : List ℕ) → length line ≤ length (strip_carriage_return line) + 1
stripped line = either (eqb (get_or line (length line - 1) 0) 13)
  where
    either : (b : Bool) → length line ≤ length (cond b (take (length line - 1) line) line) + 1
    either true = let l : length (take (length line - 1) line) ≡ length line - 1 = length-take-le (length line - 1) line (omega arith) in omega (arith, l)
    either false = omega arith

-- the bytes before a first line feed have none
lacks-before : (bytes : List ℕ) (place : ℕ) → IsFirstFeed bytes place → Lacks 10 (take place bytes)
lacks-before bytes place feed =
    record {
      apart =
          λ k h.
          let l : length (take place bytes) ≡ place = length-take-le place bytes (omega (arith, feed.within)) in
          let near : k < place = omega (arith, l, h) in
          rw (get_or-take place bytes k 0 near) (feed.before k near);
    }

-- so has a front that was passed over
pub lacks-front : (long : Bool) (front : List ℕ) → IsFront long front → Lacks 10 front
lacks-front true front passed = passed.1
lacks-front false front passed = subst (Lacks 10) (sym passed) (lacks-nil 10)

-- a line with a long front is long
long-line : (long : Bool) (front line : List ℕ) (count : ℕ) → IsFront long front → count ≡ length (strip_carriage_return line) → (long ≡ true) ⊎ (LONGEST_LINE < count) → LONGEST_LINE < length (strip_carriage_return (front ++ line))
long-line true front line count passed e h =
    let one = stripped (front ++ line) in
    let all = length-append front line in
    omega (arith, one, all, passed.0)
long-line false front line count passed e (inl h) = absurd (cc h)
long-line false front line count passed e (inr h) = rw passed (omega (arith, e, h))

-- a text whose first line ends at its first line feed
text-cut_at : (front bytes left text : List ℕ) (place : ℕ) → IsFirstFeed bytes place → text ≡ front ++ (bytes ++ left)
    → text ≡ (front ++ take place bytes) ++ 10 ∷ (drop (place + 1) bytes ++ left)
text-cut_at front bytes left text place feed parts =
    let rest = drop (place + 1) bytes in
    let split : bytes ≡ take place bytes ++ 10 ∷ rest = split_at bytes place 0 feed.within ∙ (rw (feed.here, add-one) refl) in
    parts ∙ ap (λ b. front ++ (b ++ left)) split ∙ ap (λ b. front ++ b) (append_assoc (take place bytes) (10 ∷ rest) left) ∙ sym (append_assoc front (take place bytes) (10 ∷ (rest ++ left)))

-- a reader that passed a line sees what stands behind it
sees-rest : (new : LineReader) (bytes left : List ℕ) → new.long ≡ false → kept new ≡ bytes → (HasEnded new.stage → bytes ++ left ≡ []) → Sees new left (bytes ++ left)
sees-rest new bytes left short same ended =
    record {
      front = [];
      passed = subst (λ (b : Bool). IsFront b []) (sym short) refl;
      parts = ap (λ b. b ++ left) (sym same);
      ended = ended;
    }

-- the line that ends at the first line feed of the bytes that are kept
follows-cut : (old new : LineReader) (left text : List ℕ) (place : ℕ) (seen : Sees old left text) → IsFirstFeed (kept old) place → kept new ≡ drop (place + 1) (kept old) → new.long ≡ false → new.stage ≡ Open
    → Follows new left text (strip_carriage_return (seen.front ++ take place (kept old)))
follows-cut old new left text place seen feed same short open_yet =
    let rest = drop (place + 1) (kept old) in
    let line = seen.front ++ take place (kept old) in
    let whole = text-cut_at seen.front (kept old) left text place feed seen.parts in
    let free = lacks-append 10 seen.front (take place (kept old)) (lacks-front old.long seen.front seen.passed) (lacks-before (kept old) place feed) in
    record {
      piece = line ++ 10 ∷ [];
      rest = rest ++ left;
      parts = whole ∙ sym (append_assoc line (10 ∷ []) (rest ++ left));
      alone = lines-join line [] free;
      first = ap lines whole ∙ lines-join line (rest ++ left) free;
      closed = inl (line, refl);
      sees = sees-rest new rest left short same (subst (λ s. HasEnded s → rest ++ left ≡ []) (sym open_yet) (λ h. absurd h));
    }

no-front : (long : Bool) (front : List ℕ) → IsFront long front → long ≡ false → front ≡ []
no-front true front passed e = absurd (cc e)
no-front false front passed e = passed

-- the answer to a line that ends at a line feed
pub tells-cut : (old new : LineReader) (place count : ℕ) (result : Line) → IsFirstFeed (kept old) place → take count (take place (kept old)) ≡ strip_carriage_return (take place (kept old))
    → count ≡ length (strip_carriage_return (take place (kept old))) → count ≤ place → Answers old count new result → kept new ≡ drop (place + 1) (kept old) → new.long ≡ false → new.stage ≡ Open
    → (left : List ℕ) → Tells old left new left result
tells-cut old new place count (Text n) feed same many within answers behind short open_yet left =
    λ text seen.
    let none = no-front old.long seen.front seen.passed answers.1 in
    let line : strip_carriage_return (seen.front ++ take place (kept old)) ≡ answered_line new =
    ap (λ f. strip_carriage_return (f ++ take place (kept old))) none ∙ sym same ∙ take-take count place (kept old) within ∙ sym answers.2 in
    subst (Follows new left text) line (follows-cut old new left text place seen feed behind short open_yet)
tells-cut old new place count Long feed same many within answers behind short open_yet left =
    λ text seen. (
      strip_carriage_return (seen.front ++ take place (kept old)),
      long-line old.long seen.front (take place (kept old)) count seen.passed many answers,
      follows-cut old new left text place seen feed behind short open_yet,
    )
tells-cut old new place count End feed same many within answers behind short open_yet left = absurd answers
tells-cut old new place count Fault feed same many within answers behind short open_yet left = absurd answers
tells-cut old new place count Spent feed same many within answers behind short open_yet left = absurd answers

-- the last line
follows-last : (old new : LineReader) (text : List ℕ) (seen : Sees old [] text) → Lacks 10 (kept old) → 0 < length (seen.front ++ kept old) → kept new ≡ [] → new.long ≡ false → HasEnded new.stage
    → Follows new [] text (seen.front ++ kept old)
follows-last old new text seen free some none short over =
    let whole : text ≡ seen.front ++ kept old = seen.parts ∙ ap (λ b. seen.front ++ b) (append-nil (kept old)) in
    let all = lacks-append 10 seen.front (kept old) (lacks-front old.long seen.front seen.passed) free in
    let alone = lines-last (seen.front ++ kept old) (parts-one 10 (seen.front ++ kept old) all) some in
    record {
      piece = seen.front ++ kept old;
      rest = [];
      parts = whole ∙ sym (append-nil (seen.front ++ kept old));
      alone = alone;
      first = ap lines whole ∙ alone;
      closed = inr over;
      sees = sees-rest new [] [] short none (λ h. refl);
    }

-- a line that is known to be long, or that has so many bytes
long-last : (long : Bool) (front line : List ℕ) → IsFront long front → (long ≡ true) ⊎ (LONGEST_LINE < length line) → LONGEST_LINE < length (front ++ line)
long-last true front line passed h = let all = length-append front line in omega (arith, all, passed.0)
long-last false front line passed (inl h) = absurd (cc h)
long-last false front line passed (inr h) = rw passed (omega (arith, h))

pub tells-last : (old new : LineReader) (count : ℕ) (result : Line) → Lacks 10 (kept old) → count ≡ length (kept old) → (old.long ≡ false → 0 < count) → Answers old count new result → kept new ≡ drop count (kept old) → new.long ≡ false → HasEnded new.stage
    → Tells old [] new [] result
tells-last old new count (Text n) free many some answers behind short over =
    λ text seen.
    let none = no-front old.long seen.front seen.passed answers.1 in
    let line : seen.front ++ kept old ≡ answered_line new = ap (λ f. f ++ kept old) none ∙ sym (take_all count (kept old) (omega arith)) ∙ sym answers.2 in
    let much : 0 < length (seen.front ++ kept old) = let all = length-append seen.front (kept old) in let here = some answers.1 in omega (arith, all, here) in
    subst (Follows new [] text) line (follows-last old new text seen free much (behind ∙ drop_all count (kept old) (omega arith)) short over)
tells-last old new count Long free many some answers behind short over =
    λ text seen.
    let much = long-last old.long seen.front (kept old) seen.passed (subst (λ n. (old.long ≡ true) ⊎ (LONGEST_LINE < n)) many answers) in (
      seen.front ++ kept old,
      much,
      follows-last old new text seen free (omega (arith, much)) (behind ∙ drop_all count (kept old) (omega arith)) short over,
    )
tells-last old new count End free many some answers behind short over = absurd answers
tells-last old new count Fault free many some answers behind short over = absurd answers
tells-last old new count Spent free many some answers behind short over = absurd answers

-- a long line of which more was passed over
long-more : (long : Bool) (front line : List ℕ) → IsFront long front → (long ≡ true) ⊎ (MOST_BEFORE_FEED < length line) → MOST_BEFORE_FEED < length (front ++ line)
long-more true front line passed h = let all = length-append front line in omega (arith, all, passed.0)
long-more false front line passed (inl h) = absurd (cc h)
long-more false front line passed (inr h) = rw passed (omega (arith, h))

pub stays-long : (old new : LineReader) → Lacks 10 (kept old) → (old.long ≡ true) ⊎ (MOST_BEFORE_FEED < length (kept old)) → old.stage ≡ new.stage → kept new ≡ [] → new.long ≡ true → (left : List ℕ) → Stays old left new left
stays-long old new free h stage none long left =
    λ text seen.
    let here : IsFront true (seen.front ++ kept old) = (long-more old.long seen.front (kept old) seen.passed h, lacks-append 10 seen.front (kept old) (lacks-front old.long seen.front seen.passed) free) in
    record {
      front = seen.front ++ kept old;
      passed = subst (λ (b : Bool). IsFront b (seen.front ++ kept old)) (sym long) here;
      parts = seen.parts ∙ sym (append_assoc seen.front (kept old) left) ∙ ap (λ b. (seen.front ++ kept old) ++ (b ++ left)) (sym none);
      ended = subst (λ s. HasEnded s → text ≡ []) stage seen.ended;
    }

-- a reader that keeps the same bytes sees the same
pub stays-same : (old new : LineReader) → kept new ≡ kept old → new.long ≡ old.long → new.stage ≡ old.stage → (left : List ℕ) → Stays old left new left
stays-same old new same long stage left =
    λ text seen.
    record {
      front = seen.front;
      passed = subst (λ (b : Bool). IsFront b seen.front) (sym long) seen.passed;
      parts = seen.parts ∙ ap (λ b. seen.front ++ (b ++ left)) (sym same);
      ended = subst (λ s. HasEnded s → text ≡ []) (sym stage) seen.ended;
    }

-- what an answer stands for, where the reader saw the same before
pub tells-later : (old now new : LineReader) (result : Line) (left mid more : List ℕ) → Stays old left now mid → Tells now mid new more result → Tells old left new more result
tells-later old now new (Text n) left mid more stays tells = λ text seen. tells text (stays text seen)
tells-later old now new Long left mid more stays tells = λ text seen. tells text (stays text seen)
tells-later old now new End left mid more stays tells = λ text seen. tells text (stays text seen)
tells-later old now new Fault left mid more stays tells = λ text seen. tells text (stays text seen)
tells-later old now new Spent left mid more stays tells = λ text seen. tells text (stays text seen)

-- after the end there is nothing
pub tells-over : (old new : LineReader) → HasEnded old.stage → (left : List ℕ) → Tells old left new left End
tells-over old new over left =
    λ text seen.
    let none = seen.ended over in
    let rest = length-append seen.front (kept old ++ left) in
    let last = length-append (kept old) left in
    let all = ap length (sym none ∙ seen.parts) in
    (none, nil_from_length left (omega (arith, rest, last, all)))

-- less is ahead after a line that ended at a line feed
pub less-ahead : (old new : LineReader) (place count : ℕ) (result : Line) → place < length (kept old) → count ≤ place → Answers old count new result → kept new ≡ drop (place + 1) (kept old) → new.long ≡ false → taken new ≡ taken old
    → ahead new + advance result ≤ ahead old
less-ahead old new place count (Text n) within few answers behind short same =
    let rest = ap length behind ∙ length-drop (place + 1) (kept old) in
    let extra : Bool → ℕ = λ b. if b then 1 else 0 in
    let none = ap extra short in
    let bytes = answers.0 in
    omega (arith, rest, none, within, same, bytes, few)
less-ahead old new place count Long within few answers behind short same =
    let rest = ap length behind ∙ length-drop (place + 1) (kept old) in
    let extra : Bool → ℕ = λ b. if b then 1 else 0 in
    let none = ap extra short in
    omega (arith, rest, none, within, same)
less-ahead old new place count End within few answers behind short same = absurd answers
less-ahead old new place count Fault within few answers behind short same = absurd answers
less-ahead old new place count Spent within few answers behind short same = absurd answers

-- bytes without a line feed, of which the first were not read on from
pub unread-none : (P : Type 0) (now old : List ℕ) → Lacks 10 now → (P × (now ≡ old)) ⊎ Lacks 10 old → Lacks 10 old
unread-none P now old none (inl same) = subst (Lacks 10) same.1 none
unread-none P now old none (inr lacks) = lacks

-- where a line feed is kept, nothing was read
pub unread-same : (P Q : Type 0) (old : List ℕ) → (P × Q) ⊎ Lacks 10 old → (Lacks 10 old → ⊥) → P
unread-same P Q old (inl same) fed = same.0
unread-same P Q old (inr lacks) fed = absurd (fed lacks)
