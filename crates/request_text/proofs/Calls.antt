-- The words of calls, read one by one.
use Rattle.std.proofs.Common.{◌≡◌, ◌≤◌, ℕ, Bool, true, false, List, [], ◌∷◌, refl, sym, ap, ◌∙◌, subst, arith, ne_eqb, decimal}
use Rattle.ports.specs.declared.clock.TheConstants.{LATEST}
use Rattle.std.specs.Prelude.{Option, Some, None, MatchOption, IsNone, IsSomeAnd, ◌&&◌}
use Rattle.base_text.specs.Parts.{Lacks, words}
use Rattle.base_text.proofs.Lacking.{decimal_lacks_at}
use Rattle.base_ids.specs.Text.{player_text}
use Rattle.base_ids.specs.declared.player.Player.{Player}
use Rattle.request_text.specs.Grammar.{IsOutside, AllowsReading, Spells, call_words, timed_words}
use Rattle.request_text.specs.Timing.{is_timed}
use Rattle.request_text.specs.Words.{request_words}
use Rattle.request_text.specs.declared.call.Call.{Call}
use Rattle.request_text.specs.declared.request.Request.{Request}
use Rattle.request_text.proofs.Tails.{tail_same}

-- digits do not begin with @
digits_untimed : (word : List ℕ) (more : List (List ℕ)) → Lacks 64 word → is_timed (word ∷ more) ≡ false
digits_untimed [] more free = refl
digits_untimed (x ∷ xs) more free = ne_eqb x 64 (free.apart 0 (omega arith))

pub player_untimed : (player : Player) (more : List (List ℕ)) → is_timed (player_text player ∷ more) ≡ false
player_untimed player more = digits_untimed (decimal player.k) more (decimal_lacks_at player.k)

-- without a reading
pub no_request : (old new : List (List ℕ)) (first : List ℕ) → old ≡ first ∷ new → ((req : Request) → new ≡ request_words req → ⊥) → (player : Player) (req : Request) → old ≡ player_text player ∷ request_words req → ⊥
no_request old new first cut none player req spells = none req (tail_same old first (player_text player) new (request_words req) cut spells)

-- what the two readers make of a whole line
abbrev pub ReadsUntimed : List (List ℕ) → Option Call → Type 0
ReadsUntimed all found = MatchOption found ((player : Player) (req : Request) → all ≡ player_text player ∷ request_words req → ⊥) (λ call. (call.reading ≡ None) × (all ≡ player_text call.player ∷ request_words call.req))

abbrev pub ReadsTimed : List (List ℕ) → Option Call → Type 0
ReadsTimed all found =
    MatchOption found ((reading : ℕ) (player : Player) (req : Request) → reading ≤ LATEST → all ≡ (64 ∷ decimal reading) ∷ player_text player ∷ request_words req → ⊥)
    (λ call. IsSomeAnd call.reading (λ reading. all ≡ (64 ∷ decimal reading) ∷ player_text call.player ∷ request_words call.req))

some_timed : (words : List (List ℕ)) (bytes : List ℕ) (more : List (List ℕ)) → words ≡ (64 ∷ bytes) ∷ more → is_timed words ≡ true
some_timed words bytes more is = ap is_timed is

-- a line that names no reading, or may not
pub read_untimed : (script : Bool) (line : List ℕ) (found : Option Call) → (script && is_timed (words line)) ≡ false → ReadsUntimed (words line) found → MatchOption found (IsOutside script line) (Spells script line)
read_untimed script line None untimed none = λ call spells. refuse script call untimed spells.may spells.same call.reading refl
  where
    refuse : (script : Bool) (call : Call) → (script && is_timed (words line)) ≡ false → AllowsReading script call.reading → words line ≡ call_words call → (reading : Option ℕ) → call.reading ≡ reading → ⊥
    refuse script call untimed may same None is = none call.player call.req (same ∙ ap (λ r. timed_words r (player_text call.player ∷ request_words call.req)) is)
    refuse true call untimed may same (Some reading) is =
        let timed = some_timed (words line) (decimal reading) (player_text call.player ∷ request_words call.req) (same ∙ ap (λ r. timed_words r (player_text call.player ∷ request_words call.req)) is) in
        let both : true ≡ false = sym timed ∙ untimed in
        cc
    refuse false call untimed may same (Some reading) is = let never : IsNone (Some reading) = subst IsNone is may in cc
read_untimed script line (Some call) untimed read = record { may = may script; same = read.1 ∙ ap (λ r. timed_words r (player_text call.player ∷ request_words call.req)) (sym read.0) }
  where
    may : (script : Bool) → AllowsReading script call.reading
    may true = tt
    may false = subst IsNone (sym read.0) refl

-- a line that names a reading
pub read_timed : (script : Bool) (line : List ℕ) (found : Option Call) → (script && is_timed (words line)) ≡ true → ReadsTimed (words line) found → MatchOption found (IsOutside script line) (Spells script line)
read_timed false line found timed read = absurd (cc)
read_timed true line None timed none = λ call spells. refuse call spells.same call.reading refl
  where
    refuse : (call : Call) → words line ≡ call_words call → (reading : Option ℕ) → call.reading ≡ reading → ⊥
    refuse call same None is =
        let untimed = ap is_timed (same ∙ ap (λ r. timed_words r (player_text call.player ∷ request_words call.req)) is) ∙ player_untimed call.player (request_words call.req) in
        let both : true ≡ false = sym timed ∙ untimed in
        cc
    refuse call same (Some reading) is =
        none reading call.player call.req (call.in_range reading is) (same ∙ ap (λ r. timed_words r (player_text call.player ∷ request_words call.req)) is)
read_timed true line (Some call) timed read = record { may = tt; same = same call.reading refl read }
  where
    same : (reading : Option ℕ) → call.reading ≡ reading → IsSomeAnd reading (λ r. words line ≡ (64 ∷ decimal r) ∷ player_text call.player ∷ request_words call.req) → words line ≡ timed_words call.reading (player_text call.player ∷ request_words call.req)
    same None is never = absurd never
    same (Some reading) is read = read ∙ ap (λ r. timed_words r (player_text call.player ∷ request_words call.req)) (sym is)

-- after the reading
pub no_timed : (old new : List (List ℕ)) (first : List ℕ) → old ≡ first ∷ new → ((player : Player) (req : Request) → new ≡ player_text player ∷ request_words req → ⊥) → (reading : ℕ) (player : Player) (req : Request) → reading ≤ LATEST → old ≡ (64 ∷ decimal reading) ∷ player_text player ∷ request_words req → ⊥
no_timed old new first cut none reading player req small spells = none player req (tail_same old first (64 ∷ decimal reading) new (player_text player ∷ request_words req) cut spells)

pub ruleset untimed = (no_request)

pub ruleset timed = (no_timed)

pub ruleset reading = (read_untimed, read_timed)
