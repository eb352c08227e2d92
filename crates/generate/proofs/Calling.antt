-- The words of a call, with one space between them, spell it.
use Rattle.std.proofs.Common.{◌≡◌, ℕ, ◌+◌, ◌<◌, List, ◌∷◌, ap, sym, ◌∙◌, arith, subst, decimal, inl, inr}
use Rattle.std.specs.Prelude.{Option, None, Some, ◌⊎◌, true}
use Rattle.std.specs.List.{join_with_byte}
use Rattle.std.proofs.Math.Nat.{eq-or-lt_of_le}
use Rattle.base_ids.specs.Text.{player_text}
use Rattle.base_ids.specs.declared.player.Player.{Player}
use Rattle.base_text.specs.Parts.{words}
use Rattle.base_text.proofs.Lacking.{decimal_lacks_space, lacks-cons}
use Rattle.base_text.proofs.Splitting.{parts-join}
use Rattle.request_text.specs.Grammar.{Spells, call_words, timed_words}
use Rattle.request_text.specs.Words.{request_text, request_words}
use Rattle.request_text.specs.declared.call.Call.{Call}
use Rattle.request_text.specs.declared.request.Request.{Request}
use Rattle.request_text.proofs.Spellings.{text_spells}
use Rattle.generate.specs.Calls.{AreCalls}
use Rattle.generate.specs.Turns.{turn_after, turn_words}
use Rattle.generate.specs.declared.script.Turn.{Turn}

-- without a reading
untimed : (player : Player) (req : Request) → words (join_with_byte 32 (player_text player ∷ request_words req)) ≡ player_text player ∷ request_words req
untimed player req = parts-join 32 (player_text player) (request_text req) (decimal_lacks_space player.k) ∙ ap (λ more. player_text player ∷ more) (text_spells req)

-- with a reading or without one
spelled : (reading : Option ℕ) (player : Player) (req : Request)
    → words (join_with_byte 32 (timed_words reading (player_text player ∷ request_words req))) ≡ timed_words reading (player_text player ∷ request_words req)
spelled None player req = untimed player req
spelled (Some reading) player req =
    parts-join 32 (64 ∷ decimal reading) (join_with_byte 32 (player_text player ∷ request_words req)) (lacks-cons 32 64 (decimal reading) (λ e. omega arith) (decimal_lacks_space reading))
    ∙ ap (λ more. (64 ∷ decimal reading) ∷ more) (untimed player req)

call_spells : (call : Call) (its : List (List ℕ)) → call_words call ≡ its → Spells true (join_with_byte 32 its) call
call_spells call its is =
    subst (λ its. Spells true (join_with_byte 32 its) call) is (record { may = tt; same = spelled call.reading call.player call.req })

-- no line
pub calls_none : (seed : ℕ) → AreCalls seed 0
calls_none seed before within = absurd (omega arith)

-- one line more
pub calls_more : (seed count : ℕ) (turn : Turn) (call : Call) → turn ≡ turn_after seed count → call_words call ≡ turn_words (count + 1) turn → AreCalls seed count → AreCalls seed (count + 1)
calls_more seed count turn call stands is earlier before within = place (eq-or-lt_of_le (omega arith))
  where
    place : (before ≡ count) ⊎ (before < count) → (call : Call) × Spells true (join_with_byte 32 (turn_words (before + 1) (turn_after seed before))) call
    place (inl last) =
        subst (λ n. (call : Call) × Spells true (join_with_byte 32 (turn_words (n + 1) (turn_after seed n))) call) (sym last)
        (call, call_spells call (turn_words (count + 1) (turn_after seed count)) (is ∙ ap (turn_words (count + 1)) stands))
    place (inr sooner) = earlier before sooner
