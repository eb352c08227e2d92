-- What a world is after one more entry.
use Rattle.std.proofs.Common.{◌≡◌, ℕ, zero, suc, ◌+◌, ◌-◌, ◌<◌, ◌≤◌, ◌≢◌, List, [], ◌∷◌, ◌++◌, true, false, eqb, cond, arith, refl, ap, ◌∙◌, sym}
use Rattle.std.proofs.lemmas.Bool.Decides.{nat_tests}
use Rattle.std.proofs.lemmas.List.Elements.{filter-append}
use Rattle.laziness.specs.Model.{Model}
use Rattle.laziness.specs.Second.{second}
use Rattle.laziness.specs.World.{Base, InOrder, last_moment, acted, at_moment, ticked, world}

pub last_moment-more : (M : Model) (moment : ℕ) (es : List M.Entry) (e : M.Entry) → last_moment M moment (es ++ e ∷ []) ≡ M.moment_of e
last_moment-more M moment [] e = refl
last_moment-more M moment (x ∷ es) e = last_moment-more M (M.moment_of x) es e

-- a history in order with an entry that is no earlier is in order
pub order-more : (M : Model) (moment : ℕ) (es : List M.Entry) (e : M.Entry) → InOrder M moment es → last_moment M moment es ≤ M.moment_of e → InOrder M moment (es ++ e ∷ [])
order-more M moment [] e order later = (later, tt)
order-more M moment (x ∷ es) e order later = (order.0, order-more M (M.moment_of x) es e order.1 later)

-- so is a front of it, and what comes after the front
pub order-front : (M : Model) (moment : ℕ) (es fs : List M.Entry) → InOrder M moment (es ++ fs) → InOrder M moment es
order-front M moment [] fs order = tt
order-front M moment (x ∷ es) fs order = (order.0, order-front M (M.moment_of x) es fs order.1)

pub order-rest : (M : Model) (moment : ℕ) (es fs : List M.Entry) → InOrder M moment (es ++ fs) → InOrder M (last_moment M moment es) fs
order-rest M moment [] fs order = order
order-rest M moment (x ∷ es) fs order = order-rest M (M.moment_of x) es fs order.1

-- moments never fall
pub rises : (M : Model) (moment : ℕ) (es : List M.Entry) → InOrder M moment es → moment ≤ last_moment M moment es
rises M moment [] order = omega arith
rises M moment (x ∷ es) order =
    let later : M.moment_of x ≤ last_moment M (M.moment_of x) es = rises M (M.moment_of x) es order.1 in
    let first : moment ≤ M.moment_of x = order.0 in
    omega (arith, later, first)

differs : (m n : ℕ) → m ≢ n → eqb m n ≡ false
differs m n other = grind (arith, nat_tests)

same : (m : ℕ) → eqb m m ≡ true
same m = grind (arith, nat_tests)

-- no entry is of a moment after the last one
none_later : (M : Model) (moment m : ℕ) (es : List M.Entry) → InOrder M moment es → last_moment M moment es < m → at_moment M m es ≡ []
none_later M moment m [] order after = refl
none_later M moment m (x ∷ es) order after =
    let later : M.moment_of x ≤ last_moment M (M.moment_of x) es = rises M (M.moment_of x) es order.1 in
    let other : M.moment_of x ≢ m = omega (arith, later, after) in
    ap (λ b. cond b (x ∷ at_moment M m es) (at_moment M m es)) (differs (M.moment_of x) m other) ∙ none_later M (M.moment_of x) m es order.1 after

-- an entry acts at no moment but its own
at-other : (M : Model) (m : ℕ) (es : List M.Entry) (e : M.Entry) → m < M.moment_of e → at_moment M m (es ++ e ∷ []) ≡ at_moment M m es
at-other M m [] e before =
    let other : M.moment_of e ≢ m = omega (arith, before) in
    ap (λ b. cond b (e ∷ []) []) (differs (M.moment_of e) m other)
at-other M m (x ∷ es) e before = ap (λ rest. cond (eqb (M.moment_of x) m) (x ∷ rest) rest) (at-other M m es e before)

-- at its own moment it acts last
at-own : (M : Model) (m : ℕ) (es : List M.Entry) (e : M.Entry) → M.moment_of e ≡ m → at_moment M m (es ++ e ∷ []) ≡ at_moment M m es ++ e ∷ []
at-own M m es e own =
    let now : eqb (M.moment_of e) m ≡ true = ap (λ n. eqb n m) own ∙ same m in
    filter-append (λ x. eqb (M.moment_of x) m) es (e ∷ []) ∙ ap (λ b. at_moment M m es ++ cond b (e ∷ []) []) now

acted-more : (M : Model) (es : List M.Entry) (e : M.Entry) (u : M.Universe) → acted M (es ++ e ∷ []) u ≡ M.act (M.ask_of e) (M.moment_of e) (acted M es u)
acted-more M [] e u = refl
acted-more M (x ∷ es) e u = acted-more M es e (M.act (M.ask_of x) (M.moment_of x) u)

-- an entry changes nothing before its moment
ticked-before : (M : Model) (base : Base M) (es : List M.Entry) (e : M.Entry) (n : ℕ) → base.moment + n < M.moment_of e → ticked M base (es ++ e ∷ []) n ≡ ticked M base es n
unfolding ticked
ticked-before M base es e zero before =
    let earlier : base.moment < M.moment_of e = omega (arith, before) in
    ap (λ now. acted M now base.universe) (at-other M base.moment es e earlier)
ticked-before M base es e (suc n) before =
    let earlier : base.moment + n < M.moment_of e = omega (arith, before) in
    λ i. acted M (at-other M (base.moment + suc n) es e before i) (second M (base.moment + suc n) (ticked-before M base es e n earlier i))

-- at its moment it acts last
ticked-at : (M : Model) (base : Base M) (es : List M.Entry) (e : M.Entry) (n : ℕ) → base.moment + n ≡ M.moment_of e
    → ticked M base (es ++ e ∷ []) n ≡ M.act (M.ask_of e) (M.moment_of e) (ticked M base es n)
unfolding ticked
ticked-at M base es e zero own =
    let now : M.moment_of e ≡ base.moment = omega (arith, own) in
    ap (λ all. acted M all base.universe) (at-own M base.moment es e now) ∙ acted-more M (at_moment M base.moment es) e base.universe
ticked-at M base es e (suc n) own =
    let earlier : base.moment + n < M.moment_of e = omega (arith, own) in
    (λ i. acted M (at-own M (base.moment + suc n) es e (sym own) i) (second M (base.moment + suc n) (ticked-before M base es e n earlier i)))
    ∙ acted-more M (at_moment M (base.moment + suc n) es) e (second M (base.moment + suc n) (ticked M base es n))

-- after the last entry only seconds pass
pub ticked-idle : (M : Model) (base : Base M) (es : List M.Entry) (n : ℕ) → InOrder M base.moment es → last_moment M base.moment es ≤ base.moment + n
    → ticked M base es (suc n) ≡ second M (base.moment + suc n) (ticked M base es n)
unfolding ticked
ticked-idle M base es n order last =
    let after : last_moment M base.moment es < base.moment + suc n = omega (arith, last) in
    ap (λ now. acted M now (second M (base.moment + suc n) (ticked M base es n))) (none_later M base.moment (base.moment + suc n) es order after)

pub world-base : (M : Model) (base : Base M) → world M base [] base.moment ≡ base.universe
unfolding ticked
world-base M base = let none : base.moment - base.moment ≡ 0 = omega arith in ap (ticked M base []) none

pub world-before : (M : Model) (base : Base M) (es : List M.Entry) (e : M.Entry) (m : ℕ) → base.moment ≤ m → m < M.moment_of e → world M base (es ++ e ∷ []) m ≡ world M base es m
world-before M base es e m since before = ticked-before M base es e (m - base.moment) (omega (arith, since, before))

pub world-at : (M : Model) (base : Base M) (es : List M.Entry) (e : M.Entry) → base.moment ≤ M.moment_of e
    → world M base (es ++ e ∷ []) (M.moment_of e) ≡ M.act (M.ask_of e) (M.moment_of e) (world M base es (M.moment_of e))
world-at M base es e since = ticked-at M base es e (M.moment_of e - base.moment) (omega (arith, since))
