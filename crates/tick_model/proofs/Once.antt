-- A script has one history and one text of answers, for the readings that the clock told.
use Rattle.std.proofs.Common.{◌≡◌, ℕ, max, List, [], ◌∷◌, ◌++◌, Bool, Option, refl, ap, ◌∙◌, sym, subst, arith, true}
use Rattle.std.specs.Prelude.{None, Some}
use Rattle.request_text.proofs.Spellings.{one_call}
use Rattle.request_text.specs.declared.call.Call.{Call}
use Rattle.request_text.specs.declared.entry.Entry.{Entry}
use Rattle.tick_model.specs.History.{MayFollow, IsLegalFrom}
use Rattle.reply_text.specs.Heads.{text}
use Rattle.tick_model.specs.Talk.{Talk, nothing_left, long, bad, answered, unanswered, AsksFor, CameAt, IsOf, bad_line, long_line, memory_line}
use Rattle.tick_model.specs.Universe.{Universe}
use Rattle.tick_model.specs.World.{reply}

-- a line asks for one thing
call_once : (line : List ℕ) (a b : Call) → AsksFor line a → AsksFor line b → a ≡ b
call_once line a b asks_a asks_b = one_call true line a b asks_a asks_b

-- entries of the same call at the same place and the same reading are one
entry_once : (number moment : ℕ) (call other : Call) (r s : ℕ) (a b : Entry) → call ≡ other → r ≡ s → IsOf call r a → IsOf other s b → MayFollow number moment a → MayFollow number moment b → a ≡ b
entry_once number moment call other r s a b same read of_a of_b follows_a follows_b =
    let reading : a.reading ≡ b.reading = of_a.reading ∙ read ∙ sym of_b.reading in
    let player : a.player ≡ b.player = of_a.player ∙ ap (λ c. c.player) same ∙ sym of_b.player in
    let req : a.req ≡ b.req = of_a.req ∙ ap (λ c. c.req) same ∙ sym of_b.req in
    let moments : a.moment ≡ b.moment = follows_a.latest ∙ ap (λ r. max r moment) reading ∙ sym follows_b.latest in
    let numbers : a.number ≡ b.number = follows_a.next ∙ sym follows_b.next in
    λ i. record { number = numbers i; moment = moments i; reading = reading i; player = player i; req = req i }

-- calls of one line take the same reading, in the same way
came_once : (named other : Option ℕ) (r s : ℕ) (t u xs ys : List ℕ) → named ≡ other → CameAt named r t → CameAt other s u → t ++ xs ≡ u ++ ys → (r ≡ s) × (xs ≡ ys)
came_once None None r s t u xs ys same a b e =
    let both : r ∷ xs ≡ s ∷ ys = sym (ap (λ l. l ++ xs) a) ∙ e ∙ ap (λ l. l ++ ys) b in
    (cc, cc)
came_once None (Some n) r s t u xs ys same a b e = absurd (cc same)
came_once (Some m) None r s t u xs ys same a b e = absurd (cc same)
came_once (Some m) (Some n) r s t u xs ys same a b e =
    let named : m ≡ n = cc in
    (a.0 ∙ named ∙ sym b.0, sym (ap (λ l. l ++ xs) a.1) ∙ e ∙ ap (λ l. l ++ ys) b.1)

pub talks_once : (base : Universe) (before : List Entry) (number moment : ℕ) (later other : List Entry) (script : List (List ℕ)) (lacking : List Bool) (readings others bytes texts : List ℕ)
    → readings ≡ others → IsLegalFrom number moment later → IsLegalFrom number moment other
    → Talk base before later script lacking readings bytes → Talk base before other script lacking others texts → (later ≡ other) × (bytes ≡ texts)
talks_once base _ number moment _ _ _ _ _ _ _ _ e legal legal' (nothing_left before) (nothing_left before') = (refl, refl)
talks_once base _ number moment _ _ _ _ _ _ _ _ e legal legal' (long before later first rest lacking readings bytes over talk) (long before' later' first' rest' lacking' readings' bytes' over' talk') =
    let same = talks_once base before number moment later later' rest lacking readings readings' bytes bytes' e legal legal' talk talk' in
    (same.0, ap (λ text. long_line ++ text) same.1)
talks_once base _ number moment _ _ _ _ _ _ _ _ e legal legal' (long before later first rest lacking readings bytes over talk) (bad before' later' first' rest' lacking' readings' bytes' short' outside' talk') = absurd (omega (arith, over, short'))
talks_once base _ number moment _ _ _ _ _ _ _ _ e legal legal' (long before later first rest lacking readings bytes over talk) (answered before' later' first' rest' lacking' taken' readings' bytes' call' reading' entry' short' asks' came' of' talk') = absurd (omega (arith, over, short'))
talks_once base _ number moment _ _ _ _ _ _ _ _ e legal legal' (bad before later first rest lacking readings bytes short outside talk) (long before' later' first' rest' lacking' readings' bytes' over' talk') = absurd (omega (arith, over', short))
talks_once base _ number moment _ _ _ _ _ _ _ _ e legal legal' (bad before later first rest lacking readings bytes short outside talk) (bad before' later' first' rest' lacking' readings' bytes' short' outside' talk') =
    let same = talks_once base before number moment later later' rest lacking readings readings' bytes bytes' e legal legal' talk talk' in
    (same.0, ap (λ text. bad_line ++ text) same.1)
talks_once base _ number moment _ _ _ _ _ _ _ _ e legal legal' (bad before later first rest lacking readings bytes short outside talk) (answered before' later' first' rest' lacking' taken' readings' bytes' call' reading' entry' short' asks' came' of' talk') = absurd (outside call' asks')
talks_once base _ number moment _ _ _ _ _ _ _ _ e legal legal' (answered before later first rest lacking taken readings bytes call reading entry short asks came of talk) (long before' later' first' rest' lacking' readings' bytes' over' talk') = absurd (omega (arith, over', short))
talks_once base _ number moment _ _ _ _ _ _ _ _ e legal legal' (answered before later first rest lacking taken readings bytes call reading entry short asks came of talk) (bad before' later' first' rest' lacking' readings' bytes' short' outside' talk') = absurd (outside' call asks)
talks_once base _ number moment _ _ _ _ _ _ _ _ e legal legal' (answered before later first rest lacking taken readings bytes call reading entry short asks came of talk) (answered before' later' first' rest' lacking' taken' readings' bytes' call' reading' entry' short' asks' came' of' talk') =
    let one_call = call_once first call call' asks asks' in
    let read = came_once call.reading call'.reading reading reading' taken taken' readings readings' (ap (λ (c : Call). c.reading) one_call) came came' e in
    let one : entry ≡ entry' = entry_once number moment call call' reading reading' entry entry' one_call read.0 of of' legal.0 legal'.0 in
    let legal_next = subst (λ (e : Entry). IsLegalFrom e.number e.moment later') (sym one) legal'.1 in
    let talk_next = subst (λ (e : Entry). Talk base (before ++ e ∷ []) later' rest lacking readings' bytes') (sym one) talk' in
    let same = talks_once base (before ++ entry ∷ []) entry.number entry.moment later later' rest lacking readings readings' bytes bytes' read.1 legal.1 legal_next talk talk_next in
    (λ i. one i ∷ same.0 i, λ i. text (reply base before (one i)) ++ same.1 i)
talks_once base _ number moment _ _ _ _ _ _ _ _ e legal legal' (unanswered before later first rest lacking taken readings bytes call reading short asks came talk) (unanswered before' later' first' rest' lacking' taken' readings' bytes' call' reading' short' asks' came' talk') =
    let read = came_once call.reading call'.reading reading reading' taken taken' readings readings' (ap (λ (c : Call). c.reading) (call_once first call call' asks asks')) came came' e in
    let same = talks_once base before number moment later later' rest lacking readings readings' bytes bytes' read.1 legal legal' talk talk' in
    (same.0, ap (λ text. memory_line ++ text) same.1)
