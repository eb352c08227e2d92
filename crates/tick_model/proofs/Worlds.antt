-- What a history is with one more entry, and what the ticking universe is then.
use Rattle.std.proofs.Common.{◌≡◌, ℕ, zero, suc, ◌+◌, ◌-◌, ◌≤◌, max, List, [], ◌∷◌, ◌++◌, Option, None, Some, append_assoc, append-nil, arith, refl, ap, ◌∙◌, sym, subst}
use Rattle.request_text.specs.declared.entry.Entry.{Entry}
use Rattle.laziness.specs.Second.{everything, second, settled, settled_at}
use Rattle.laziness.specs.World.{InOrder, last_moment as last_moment_of, ticked}
use Rattle.laziness.proofs.Worlds.{ticked-idle, world-at, world-base}
use Rattle.tick_model.specs.Events.{Event, effect, next_event}
use Rattle.tick_model.specs.Game.{game}
use Rattle.tick_model.specs.History.{MayFollow, IsLegal, IsLegalFrom}
use Rattle.tick_model.specs.Standing.{Stands, last_moment, last_number}
use Rattle.tick_model.specs.Step.{step}
use Rattle.tick_model.specs.Universe.{Setting, State, Universe}
use Rattle.tick_model.specs.World.{base_of, reply, world}

-- Histories.

pub last_moment-more : (moment : ℕ) (es : List Entry) (e : Entry) → last_moment moment (es ++ e ∷ []) ≡ e.moment
last_moment-more moment [] e = refl
last_moment-more moment (x ∷ es) e = last_moment-more x.moment es e

pub last_number-more : (number : ℕ) (es : List Entry) (e : Entry) → last_number number (es ++ e ∷ []) ≡ e.number
last_number-more number [] e = refl
last_number-more number (x ∷ es) e = last_number-more x.number es e

-- a legal history with an entry that may follow is legal
pub legal-more : (number moment : ℕ) (es : List Entry) (e : Entry) → IsLegalFrom number moment es → MayFollow (last_number number es) (last_moment moment es) e → IsLegalFrom number moment (es ++ e ∷ [])
legal-more number moment [] e legal follows = (follows, tt)
legal-more number moment (x ∷ es) e legal follows = (legal.0, legal-more x.number x.moment es e legal.1 follows)

-- a front of a legal history is legal
pub legal-front : (number moment : ℕ) (es fs : List Entry) → IsLegalFrom number moment (es ++ fs) → IsLegalFrom number moment es
legal-front number moment [] fs legal = tt
legal-front number moment (x ∷ es) fs legal = (legal.0, legal-front x.number x.moment es fs legal.1)

-- so is what comes after the front
pub legal-rest : (number moment : ℕ) (es fs : List Entry) → IsLegalFrom number moment (es ++ fs) → IsLegalFrom (last_number number es) (last_moment moment es) fs
legal-rest number moment [] fs legal = legal
legal-rest number moment (x ∷ es) fs legal = legal-rest x.number x.moment es fs legal.1

-- the last entry of a legal history may follow those before it
pub last-follows : (number moment : ℕ) (es : List Entry) (e : Entry) → IsLegalFrom number moment (es ++ e ∷ []) → MayFollow (last_number number es) (last_moment moment es) e
last-follows number moment es e legal = (legal-rest number moment es (e ∷ []) legal).0

-- an entry acts at no earlier moment than the one before it
pub follows-later : (number moment : ℕ) (e : Entry) → MayFollow number moment e → moment ≤ e.moment
follows-later number moment e follows = let latest : e.moment ≡ max e.reading moment = follows.latest in omega (arith, latest)

-- moments never fall
pub rises : (number moment : ℕ) (es : List Entry) → IsLegalFrom number moment es → moment ≤ last_moment moment es
rises number moment [] legal = omega arith
rises number moment (x ∷ es) legal =
    let later : x.moment ≤ last_moment x.moment es = rises x.number x.moment es legal.1 in
    let first : moment ≤ x.moment = follows-later number moment x legal.0 in
    omega (arith, later, first)

-- no entry is earlier than the base
pub last-since : (number moment : ℕ) (es : List Entry) (e : Entry) → IsLegalFrom number moment (es ++ e ∷ []) → moment ≤ e.moment
last-since number moment es e legal =
    let before : moment ≤ last_moment moment es = rises number moment es (legal-front number moment es (e ∷ []) legal) in
    let later : last_moment moment es ≤ e.moment = follows-later (last_number number es) (last_moment moment es) e (last-follows number moment es e legal) in
    omega (arith, before, later)

-- the entries of a legal history are in order
pub legal-order : (setting : Setting) (number moment : ℕ) (es : List Entry) → IsLegalFrom number moment es → InOrder (game setting) moment es
legal-order setting number moment [] legal = tt
legal-order setting number moment (x ∷ es) legal = (follows-later number moment x legal.0, legal-order setting x.number x.moment es legal.1)

pub last_moment-is : (setting : Setting) (moment : ℕ) (es : List Entry) → last_moment_of (game setting) moment es ≡ last_moment moment es
last_moment-is setting moment [] = refl
last_moment-is setting moment (x ∷ es) = last_moment-is setting x.moment es

-- Worlds.

-- at its own moment an entry acts last
pub world-next : (base : Universe) (es : List Entry) (e : Entry) → base.moment ≤ e.moment
    → world base (es ++ e ∷ []) e.moment ≡ record (world base es e.moment) { state = (step base.setting e.player e.req e.moment (world base es e.moment).state).state }
world-next base es e since =
    λ i. record { setting = base.setting; moment = e.moment; state = world-at (game base.setting) (base_of base) es e since i }

-- a reply is what one more step says
pub reply-is : (base : Universe) (es : List Entry) (e : Entry) → reply base es e ≡ (step base.setting e.player e.req e.moment (world base es e.moment).state).reply
reply-is base es e = refl

pub world-start : (base : Universe) → world base [] base.moment ≡ base
world-start base = λ i. record { setting = base.setting; moment = base.moment; state = world-base (game base.setting) (base_of base) i }

-- Numbers: seconds leave the last number, and each entry takes the next one.

step-number : (setting : Setting) (e : Entry) (u : State) → (step setting e.player e.req e.moment u).state.number ≡ u.number + 1
unfolding step
step-number setting e u = refl

settled_at-number : (setting : Setting) (rest : State → State) (u : State) (next : Option Event) → ((v : State) → (rest v).number ≡ v.number) → (settled_at rest (effect setting) u next).number ≡ u.number
settled_at-number setting rest u None keeps = refl
settled_at-number setting rest u (Some e) keeps = keeps (effect setting e u)

settled-number : (setting : Setting) (t most : ℕ) (u : State) → (settled (next_event setting (everything (game setting)) t) (effect setting) most u).number ≡ u.number
settled-number setting t zero u = refl
settled-number setting t (suc most) u =
    settled_at-number setting (settled (next_event setting (everything (game setting)) t) (effect setting) most) u (next_event setting (everything (game setting)) t u) (settled-number setting t most)

second-number : (setting : Setting) (t : ℕ) (u : State) → (second (game setting) t u).number ≡ u.number
unfolding second
second-number setting t u = settled-number setting t _ _

idle-number : (base : Universe) (es : List Entry) (n more : ℕ) → IsLegal base es → last_moment base.moment es ≤ base.moment + n
    → (ticked (game base.setting) (base_of base) es (n + more)).number ≡ (ticked (game base.setting) (base_of base) es n).number
idle-number base es n zero legal last = let same : n + 0 ≡ n = omega arith in ap (λ k. (ticked (game base.setting) (base_of base) es k).number) same
idle-number base es n (suc more) legal last =
    let M = game base.setting in
    let longer : n + suc more ≡ suc (n + more) = omega arith in
    let end : last_moment_of M base.moment es ≡ last_moment base.moment es = last_moment-is base.setting base.moment es in
    let later : last_moment_of M base.moment es ≤ base.moment + (n + more) = omega (arith, end, last) in
    ap (λ k. (ticked M (base_of base) es k).number) longer
    ∙ ap (λ u. u.number) (ticked-idle M (base_of base) es (n + more) (legal-order base.setting base.state.number base.moment es legal) later)
    ∙ second-number base.setting (base.moment + suc (n + more)) (ticked M (base_of base) es (n + more))
    ∙ idle-number base es n more legal last

-- a history's last number is that of its world from its last moment on
abbrev NumbersWell : Universe → List Entry → Type 0
NumbersWell base es = (m : ℕ) → last_moment base.moment es ≤ m → (world base es m).state.number ≡ last_number base.state.number es

later-number : (base : Universe) (es : List Entry) (s m : ℕ) → IsLegal base es → base.moment ≤ s → last_moment base.moment es ≤ s → s ≤ m → (world base es m).state.number ≡ (world base es s).state.number
later-number base es s m legal since last later =
    let all : m - base.moment ≡ (s - base.moment) + (m - s) = omega (arith, since, later) in
    let end : last_moment base.moment es ≤ base.moment + (s - base.moment) = omega (arith, since, last) in
    ap (λ k. (ticked (game base.setting) (base_of base) es k).number) all ∙ idle-number base es (s - base.moment) (m - s) legal end

numbers-base : (base : Universe) → NumbersWell base []
numbers-base base m later = later-number base [] base.moment m tt (omega arith) (omega arith) later ∙ ap (λ (u : Universe). u.state.number) (world-start base)

numbers-next : (base : Universe) (es : List Entry) (e : Entry) → IsLegal base (es ++ e ∷ []) → NumbersWell base es → NumbersWell base (es ++ e ∷ [])
numbers-next base es e legal before m later =
    let number = base.state.number in
    let since : base.moment ≤ e.moment = last-since number base.moment es e legal in
    let follows = last-follows number base.moment es e legal in
    let end : last_moment base.moment (es ++ e ∷ []) ≡ e.moment = last_moment-more base.moment es e in
    let now : last_moment base.moment (es ++ e ∷ []) ≤ e.moment = omega (arith, end) in
    let rest : e.moment ≤ m = omega (arith, end, later) in
    later-number base (es ++ e ∷ []) e.moment m legal since now rest
    ∙ ap (λ (u : Universe). u.state.number) (world-next base es e since)
    ∙ step-number base.setting e (world base es e.moment).state
    ∙ ap (λ n. n + 1) (before e.moment (follows-later (last_number number es) (last_moment base.moment es) e follows))
    ∙ sym follows.next
    ∙ sym (last_number-more number es e)

numbers-all : (base : Universe) (before later : List Entry) → IsLegal base (before ++ later) → NumbersWell base before → NumbersWell base (before ++ later)
numbers-all base before [] legal well = subst (NumbersWell base) (sym (append-nil before)) well
numbers-all base before (e ∷ later) legal well =
    let joined : (before ++ e ∷ []) ++ later ≡ before ++ e ∷ later = append_assoc before (e ∷ []) later in
    let whole : IsLegal base ((before ++ e ∷ []) ++ later) = subst (IsLegal base) (sym joined) legal in
    let front = legal-front base.state.number base.moment (before ++ e ∷ []) later whole in
    subst (NumbersWell base) joined (numbers-all base (before ++ e ∷ []) later whole (numbers-next base before e front well))

pub world-number : (base : Universe) (es : List Entry) (m : ℕ) → IsLegal base es → last_moment base.moment es ≤ m → (world base es m).state.number ≡ last_number base.state.number es
world-number base es m legal later = numbers-all base [] es legal (numbers-base base) m later

-- a reply bears the number and the moment of its entry
pub reply-number : (base : Universe) (es : List Entry) (e : Entry) → IsLegal base (es ++ e ∷ []) → (reply base es e).number ≡ e.number
unfolding step
reply-number base es e legal =
    let number = base.state.number in
    let follows = last-follows number base.moment es e legal in
    let front = legal-front number base.moment es (e ∷ []) legal in
    ap (λ n. n + 1) (world-number base es e.moment front (follows-later (last_number number es) (last_moment base.moment es) e follows)) ∙ sym follows.next

pub reply-moment : (base : Universe) (es : List Entry) (e : Entry) → (reply base es e).moment ≡ e.moment
unfolding step
reply-moment base es e = refl

-- Which universe stands for a history.

-- the ticking universe does, at the last moment
pub stands-world : (base : Universe) (es : List Entry) → IsLegal base es → Stands base es (world base es (last_moment base.moment es))
stands-world base es legal = record {
  legal = legal;
  moment = refl;
  number = world-number base es (last_moment base.moment es) legal (omega arith);
  made = record { setting = refl; moment = refl; number = refl; views = λ cell. refl };
}

-- a base stands for itself with no history
pub stands-base : (base : Universe) → Stands base [] base
stands-base base = subst (Stands base []) (world-start base) (stands-world base [] tt)

-- and a legal history with an entry that may follow is stood for by its world
pub stands-next : (base : Universe) (es : List Entry) (u : Universe) (e : Entry) → Stands base es u → MayFollow u.state.number u.moment e
    → Stands base (es ++ e ∷ []) (world base (es ++ e ∷ []) e.moment)
stands-next base es u e stands follows =
    let next = subst (λ n. MayFollow n (last_moment base.moment es) e) stands.number (subst (λ m. MayFollow u.state.number m e) stands.moment follows) in
    let legal = legal-more base.state.number base.moment es e stands.legal next in
    subst (λ m. Stands base (es ++ e ∷ []) (world base (es ++ e ∷ []) m)) (last_moment-more base.moment es e) (stands-world base (es ++ e ∷ []) legal)
