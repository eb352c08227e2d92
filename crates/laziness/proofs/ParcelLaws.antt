-- The model of two cells meets the laws.
use Rattle.std.proofs.Common.{◌≡◌, ℕ, ◌+◌, ◌<◌, ◌≤◌, ◌⊎◌, inl, inr, Bool, true, false, ◌&&◌, nat_le, cond, [], ◌∷◌, Option, None, Some, Contains, arith, refl, ap, ◌∙◌, sym, subst}
use Rattle.std.proofs.lemmas.Bool.Decides.{nat_tests}
use Rattle.laziness.specs.Laws.{ModelLaws, Agree, Covers, IsNext}
use Rattle.laziness.specs.Parcels.{Parcel, TwoCells, Seen, Call, look, send, seen_of, is_due, due_parcel, on_way, may_send, after_send, called, answered, called_for, parcel_model, start, story, look_later}
use Rattle.laziness.specs.Stamps.{happened}
use Rattle.laziness.specs.Lazy.{lazy, lazy_reply}
use Rattle.laziness.proofs.Bringing.{never}

le-is : (m n : ℕ) → m ≤ n → nat_le m n ≡ true
le-is m n less = grind (arith, nat_tests)

is-le : (m n : ℕ) → nat_le m n ≡ true → m ≤ n
is-le m n is = grind (arith, nat_tests)

one-parcel : (e d : Parcel) (p : Option Parcel) → p ≡ Some e → p ≡ Some d → e ≡ d
one-parcel e d p first second = let both : Some e ≡ Some d = sym first ∙ second in cc

gone : (d : Parcel) {A : Type 0} → None ≡ Some d → A
gone d is = absurd cc

found_at : (a b : Bool) (q e : Parcel) → cond (a && b) (Some q) None ≡ Some e → (Some q ≡ Some e) × (a ≡ true) × (b ≡ true)
found_at true true q e is = (is, refl, refl)
found_at true false q e is = gone e is
found_at false b q e is = gone e is

found : (S : Bool → Bool) (t : ℕ) (p : Option Parcel) (e : Parcel) → due_parcel S t p ≡ Some e → (p ≡ Some e) × (S true ≡ true) × (nat_le e.arrives t ≡ true)
found S t None e is = gone e is
found S t (Some q) e is =
    let parts = found_at (S true) (nat_le q.arrives t) q e is in
    let same : q ≡ e = one-parcel q e (Some q) refl parts.0 in
    (parts.0, parts.1, subst (λ (d : Parcel). nat_le d.arrives t ≡ true) same parts.2)

nothing_at : (S : Bool → Bool) (t : ℕ) (d : Parcel) → due_parcel S t (Some d) ≡ None → S true ≡ true → d.arrives ≤ t → ⊥
nothing_at S t d is inside due =
    gone d (sym is ∙ (λ i. cond (inside i && le-is d.arrives t due i) (Some d) None))

parcel_next : (S : Bool → Bool) (t : ℕ) (u : TwoCells) (e : Parcel) → due_parcel S t u.parcel ≡ Some e → IsNext parcel_model S t u e
parcel_next S t u e is =
    let parts = found S t u.parcel e is in
    record {
      stands = parts.0;
      inside = parts.1;
      due = is-le e.arrives t parts.2;
      first = λ d stands home due before. let same : d ≡ e = one-parcel d e u.parcel stands parts.0 in
          let arrives : d.arrives ≡ e.arrives = ap (λ p. p.arrives) same in
          omega (arith, before, arrives);
    }

listed : (y : Bool) → Contains (false ∷ true ∷ []) y
listed false = (0, omega arith, refl)
listed true = (1, omega arith, refl)

looked_for : (x : Bool) → called_for (look x) x ≡ true
looked_for false = refl
looked_for true = refl

replies : (S : Bool → Bool) (u v : TwoCells) (a : Call) (t : ℕ) → Covers parcel_model (seen_of u) a S → Agree parcel_model S u v → answered a t u ≡ answered a t v
replies S u v (look x) t covers agree = ap (λ seen. seen.stock) (agree x (covers x (looked_for x)))
replies S u v (send amount) t covers agree = ap (λ seen. cond (may_send amount seen) 1 0) (agree false (covers false refl))

changes : (S : Bool → Bool) (u v : TwoCells) (a : Call) (t : ℕ) → Covers parcel_model (seen_of u) a S → Agree parcel_model S u v → Agree parcel_model S (called a t u) (called a t v)
changes S u v (look x) t covers agree y inside = agree y inside
changes S u v (send amount) t covers agree y inside =
    λ i. after_send (may_send amount (agree false (covers false refl) i)) amount t y (agree y inside i)

untouched : (S : Bool → Bool) (u : TwoCells) (a : Call) (t : ℕ) (x : Bool) → Covers parcel_model (seen_of u) a S → S x ≡ false → seen_of (called a t u) x ≡ seen_of u x
untouched S u (look y) t x covers outside = refl
untouched S u (send amount) t x covers outside = never (S x) (covers x refl) outside

ordered_at : (may : Bool) (t amount : ℕ) (p : Option Parcel) (d : Parcel) → cond may (Some (record { amount = amount; arrives = t + 5 })) p ≡ Some d → (p ≡ Some d) ⊎ (t < d.arrives)
ordered_at true t amount p d is =
    let new : Parcel = record { amount = amount; arrives = t + 5 } in
    let same : new ≡ d = one-parcel new d (Some new) refl is in
    let arrives : t + 5 ≡ d.arrives = ap (λ q. q.arrives) same in
    inr (omega (arith, arrives))
ordered_at false t amount p d is = inl is

ordered : (u : TwoCells) (a : Call) (t : ℕ) (d : Parcel) → (called a t u).parcel ≡ Some d → (u.parcel ≡ Some d) ⊎ (t < d.arrives)
ordered u (look x) t d is = inl is
ordered u (send amount) t d is = ordered_at (may_send amount (seen_of u false)) t amount u.parcel d is

counted : (t : ℕ) (u v : TwoCells) (a : Call) → u.count ≡ v.count → (called a t u).count ≡ (called a t v).count
counted t u v (look x) same = ap (λ n. n + 1) same
counted t u v (send amount) same = ap (λ n. n + 1) same

pub parcel_laws : ModelLaws parcel_model
parcel_laws = record {
  gains_none = λ v. let none : v.stock + 0 ≡ v.stock = omega arith in λ i. record { stock = none i; parcel = v.parcel };
  gains_more = λ m n v. let sum : v.stock + m + n ≡ v.stock + (m + n) = omega arith in λ i. record { stock = sum i; parcel = v.parcel };
  gains_keep = λ n v e owes. owes;
  gains_make_none = λ n v e owes. owes;
  gains_bring = λ n t v y brings. brings;
  advanced = λ k u x. refl;
  advance_fine = λ k u fine. tt;
  advance_count = λ k u. refl;
  advance_measure = λ k u. refl;
  advance_asks = λ k u a y asked. asked;
  sooner_first = λ e d before. before;
  first_sooner = λ e d before. omega (arith, before);
  one = λ u e d fine stands stands' before before'. one-parcel e d u.parcel stands stands';
  home = λ e. refl;
  depends = λ u v e fine fine' stands stands' agree x has.
      ap (λ (seen : Seen). record { stock = cond x (seen.stock + e.amount) seen.stock; parcel = None }) (agree x refl);
  outside = λ u e x fine stands outside. never true refl outside;
  arises = λ u e d fine stands has stands'. gone d stands';
  closure = λ S t u fine closed e stands due x y has_x has_y inside. closed x inside y (ap (is_due t) stands ∙ le-is e.arrives t due);
  widens = λ u e t x y fine stands has brings. never false brings refl;
  asks_after = λ u e a y fine stands asked. inl asked;
  effect_count = λ u e. refl;
  effect_fine = λ u e fine stands. tt;
  falls = λ u e fine stands. subst (λ p. 0 < on_way p) (sym stands) (omega arith);
  next_found = λ S t u e fine is. parcel_next S t u e is;
  none_found = λ S t u fine is e stands inside due. nothing_at S t e (ap (due_parcel S t) (sym stands) ∙ is) inside due;
  asked_listed = λ u a y fine asked. listed y;
  brought_listed = λ u x t y fine brings. listed y;
  asks_within = λ S a v w agree covers y asked. covers y asked;
  reply_depends = λ S t u v a ready ready' count agree. replies S u v a t ready.covers agree;
  act_depends = λ S t u v a ready ready' count agree. changes S u v a t ready.covers agree;
  act_outside = λ S t u a x ready outside. untouched S u a t x ready.covers outside;
  act_arises = λ S t u a d ready inside stands. ordered u a t d stands;
  act_count = λ t u v a same. counted t u v a same;
  act_fine = λ S t u a ready. tt;
}

-- the receiver's ten, three that came, and a gain of twenty seconds
pub parcel_reply : lazy_reply parcel_model start story look_later ≡ 33
unfolding happened
parcel_reply = refl

-- before that the receiver was needed last when the parcel was sent
pub parcel_stamps : ((lazy parcel_model start story).at false ≡ 3) × ((lazy parcel_model start story).at true ≡ 0)
unfolding happened
parcel_stamps = (refl, refl)
