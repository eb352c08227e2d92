-- Every world of a history keeps the limits and the times that its base kept.
use Rattle.std.proofs.Common.{◌≡◌, ℕ, zero, suc, ◌+◌, ◌-◌, ◌^◌, ◌<◌, ◌≤◌, List, [], ◌∷◌, ◌++◌, append_assoc, append-nil, arith, sym, subst}
use Rattle.request_text.specs.declared.entry.Entry.{Entry}
use Rattle.laziness.specs.Second.{second}
use Rattle.laziness.specs.World.{last_moment as last_moment_of, ticked}
use Rattle.laziness.proofs.Worlds.{ticked-idle}
use Rattle.tick_model.specs.Game.{game}
use Rattle.tick_model.specs.History.{IsLegal}
use Rattle.tick_model.specs.Keeping.{IsFounded}
use Rattle.tick_model.specs.Limits.{KeepsLimits}
use Rattle.tick_model.specs.Moments.{KeepsTime}
use Rattle.tick_model.specs.Rules.{KeepsRules}
use Rattle.tick_model.specs.Standing.{last_moment}
use Rattle.tick_model.specs.Step.{step}
use Rattle.tick_model.specs.Universe.{State, Universe}
use Rattle.tick_model.specs.World.{base_of, world}
use Rattle.tick_model.proofs.Keeping.{founded-later}
use Rattle.tick_model.proofs.LimitsAsked.{step-limits}
use Rattle.tick_model.proofs.LimitsKept.{second-limits}
use Rattle.tick_model.proofs.TimeKept.{second-time, step-time}
use Rattle.tick_model.proofs.Timing.{time-later}
use Rattle.tick_model.proofs.Worlds.{follows-later, last-follows, last-since, last_moment-is, last_moment-more, legal-front, legal-order, world-next, world-start}

-- the state so many seconds after the base
abbrev after_seconds : Universe → List Entry → ℕ → State
after_seconds base es n = ticked (game base.setting) (base_of base) es n

-- What holds at a moment of a state that keeps the rules, and that seconds and requests keep, holds of every world.
module _ (base : Universe) (founded : IsFounded base) (Holds : ℕ → State → Type 0)
    (passes : (m t : ℕ) (u : State) → m ≤ t → KeepsRules base.setting u → Holds m u → Holds t (second (game base.setting) t u))
    (acts : (e : Entry) (u : State) → KeepsRules base.setting u → Holds e.moment u → Holds e.moment (step base.setting e.player e.req e.moment u).state) where
  abbrev HoldsAfter : List Entry → ℕ → Type 0
  HoldsAfter es n = Holds (base.moment + n) (after_seconds base es n)

  rules-after : (es : List Entry) (n : ℕ) → IsLegal base es → last_moment base.moment es ≤ base.moment + n → KeepsRules base.setting (after_seconds base es n)
  rules-after es n legal last =
      let seconds : (base.moment + n) - base.moment ≡ n = omega arith in
      subst (λ k. KeepsRules base.setting (after_seconds base es k)) seconds (founded-later base es (base.moment + n) founded legal last).fine

  -- after the last entry only seconds pass
  idle-holds : (es : List Entry) (n more : ℕ) → IsLegal base es → last_moment base.moment es ≤ base.moment + n → HoldsAfter es n → HoldsAfter es (n + more)
  idle-holds es n zero legal last holds = let same : n ≡ n + 0 = omega arith in subst (HoldsAfter es) same holds
  idle-holds es n (suc more) legal last holds =
      let M = game base.setting in
      let longer : suc (n + more) ≡ n + suc more = omega arith in
      let end : last_moment_of M base.moment es ≡ last_moment base.moment es = last_moment-is base.setting base.moment es in
      let later : last_moment base.moment es ≤ base.moment + (n + more) = omega (arith, last) in
      let second = ticked-idle M (base_of base) es (n + more) (legal-order base.setting base.state.number base.moment es legal) (omega (arith, end, later)) in
      subst (HoldsAfter es) longer
      (subst (Holds (base.moment + suc (n + more))) (sym second)
      (passes (base.moment + (n + more)) (base.moment + suc (n + more)) (after_seconds base es (n + more)) (omega arith) (rules-after es (n + more) legal later)
      (idle-holds es n more legal last holds)))

  later-holds : (es : List Entry) (s m : ℕ) → IsLegal base es → base.moment ≤ s → last_moment base.moment es ≤ s → s ≤ m
      → Holds s (world base es s).state → Holds m (world base es m).state
  later-holds es s m legal since last later holds =
      let start : s ≡ base.moment + (s - base.moment) = omega (arith, since) in
      let all : (s - base.moment) + (m - s) ≡ m - base.moment = omega (arith, since, later) in
      let end : base.moment + (m - base.moment) ≡ m = omega (arith, since, later) in
      let first : HoldsAfter es (s - base.moment) = subst (λ k. Holds k (after_seconds base es (s - base.moment))) start holds in
      subst (λ k. Holds k (after_seconds base es (m - base.moment))) end
      (subst (HoldsAfter es) all (idle-holds es (s - base.moment) (m - s) legal (omega (arith, since, last)) first))

  -- it holds of a history's worlds from its last moment on
  abbrev AreKept : List Entry → Type 0
  AreKept es = (m : ℕ) → last_moment base.moment es ≤ m → Holds m (world base es m).state

  kept-base : Holds base.moment base.state → AreKept []
  kept-base holds m later =
      later-holds [] base.moment m tt (omega arith) (omega arith) later (subst (λ (u : Universe). Holds base.moment u.state) (sym (world-start base)) holds)

  kept-next : (es : List Entry) (e : Entry) → IsLegal base (es ++ e ∷ []) → AreKept es → AreKept (es ++ e ∷ [])
  kept-next es e legal before m later =
      let number = base.state.number in
      let since : base.moment ≤ e.moment = last-since number base.moment es e legal in
      let front = legal-front number base.moment es (e ∷ []) legal in
      let follows = follows-later _ (last_moment base.moment es) e (last-follows number base.moment es e legal) in
      let end : last_moment base.moment (es ++ e ∷ []) ≡ e.moment = last_moment-more base.moment es e in
      let made = acts e (world base es e.moment).state (founded-later base es e.moment founded front follows).fine (before e.moment follows) in
      later-holds (es ++ e ∷ []) e.moment m legal since (omega (arith, end)) (omega (arith, end, later))
      (subst (λ (u : Universe). Holds e.moment u.state) (sym (world-next base es e since)) made)

  kept-all : (before later : List Entry) → IsLegal base (before ++ later) → AreKept before → AreKept (before ++ later)
  kept-all before [] legal kept = subst AreKept (sym (append-nil before)) kept
  kept-all before (e ∷ later) legal kept =
      let joined : (before ++ e ∷ []) ++ later ≡ before ++ e ∷ later = append_assoc before (e ∷ []) later in
      let whole : IsLegal base ((before ++ e ∷ []) ++ later) = subst (IsLegal base) (sym joined) legal in
      let front = legal-front base.state.number base.moment (before ++ e ∷ []) later whole in
      subst AreKept joined (kept-all (before ++ e ∷ []) later whole (kept-next before e front kept))

  worlds-hold : (history : List Entry) → Holds base.moment base.state → IsLegal base history → AreKept history
  worlds-hold history holds legal = kept-all [] history legal (kept-base holds)

pub worlds-limits : (base : Universe) (history : List Entry) (moment : ℕ) → IsFounded base → KeepsLimits base.setting base.state → IsLegal base history → last_moment base.moment history ≤ moment
    → KeepsLimits base.setting (world base history moment).state
worlds-limits base history moment founded limits legal later =
    worlds-hold base founded (λ m u. KeepsLimits base.setting u)
    (λ m t u since fine kept. second-limits base.setting t u fine kept)
    (λ e u fine kept. step-limits base.setting e e.moment u fine kept) history limits legal moment later

-- limits and times, as long as moments are below 2^40
abbrev InTime : Universe → ℕ → State → Type 0
InTime base m u = m < 2 ^ 40 → KeepsLimits base.setting u × KeepsTime m u

pub worlds-time : (base : Universe) (history : List Entry) (moment : ℕ) → IsFounded base → KeepsLimits base.setting base.state → KeepsTime base.moment base.state → IsLegal base history
    → last_moment base.moment history ≤ moment → moment < 2 ^ 40 → KeepsTime moment (world base history moment).state
worlds-time base history moment founded limits time legal later late =
    (worlds-hold base founded (InTime base)
    (λ m t u since fine kept late.
    let both = kept (omega (arith, since, late)) in
    (second-limits base.setting t u fine both.0, second-time base.setting m t u since late fine both.0 both.1))
    (λ e u fine kept late.
    let both = kept late in
    (step-limits base.setting e e.moment u fine both.0, step-time base.setting e e.moment u late fine both.1)) history (λ early. (limits, time)) legal moment later late).1
