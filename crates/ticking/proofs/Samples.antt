-- Universes that are asked again and again stand for some history.
use Rattle.std.proofs.Common.{◌≡◌, ℕ, [], ◌∷◌, ◌++◌, arith, ◌∙◌, sym}
use Rattle.base_bytes.specs.Base.{universe_of}
use Rattle.base_bytes.specs.declared.base.Base.{Base}
use Rattle.base_ids.specs.declared.player.Player.{Player}
use Rattle.reply_text.specs.declared.reply.Reply.{Reply}
use Rattle.request_text.specs.declared.request.Request.{Request}
use Rattle.tick_model.proofs.Worlds.{last_moment-more}
use Rattle.ticking.specs.Asking.{Asks, CanAsk, StandsAtLast, StandsFor, StandsForSome}
use Rattle.ticking.specs.declared.universe.TickingUniverse.{TickingUniverse}

pub can_ask : (ticking : TickingUniverse) (reading : ℕ) → StandsAtLast ticking → CanAsk ticking reading
can_ask ticking reading (base, history, stands, last) = (base, history, record { stands = stands; not_past = omega (arith, last) })

pub asked_last : (old new : TickingUniverse) (player : Player) (req : Request) (reading : ℕ) (reply : Reply) → Asks old new player req reading reply → StandsAtLast old → StandsAtLast new
asked_last old new player req reading reply asks (base, history, stands, last) =
    let after = asks base history (record { stands = stands; not_past = omega (arith, last) }) in
    (base, history ++ after.entry ∷ [], after.stands, after.moment_is ∙ sym (last_moment-more base.moment history after.entry))

pub base_last : (base : Base) (ticking : TickingUniverse) → StandsFor (universe_of base) [] ticking → ticking.moment ≡ base.moment → StandsAtLast ticking
base_last base ticking stands moment = (universe_of base, [], stands, moment)

pub last_some : (ticking : TickingUniverse) → StandsAtLast ticking → StandsForSome ticking
last_some ticking (base, history, stands, last) = (base, history, stands)
