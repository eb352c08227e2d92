-- The order of events, and the first of some events.
use Rattle.std.proofs.Common.{◌≡◌, ℕ, ◌<◌, ◌≤◌, inl, inr, Bool, true, false, cond, List, [], ◌∷◌, Option, None, Some, arith, refl, ap, ◌∙◌, sym, subst}
use Rattle.std.proofs.lemmas.Bool.Decides.{nat_tests}
use Rattle.base_ids.specs.Order.{EventKey, key_before}
use Rattle.base_ids.proofs.Ordering.{events_ordered, lex}
use Rattle.laziness.proofs.Bringing.{test, never}
use Rattle.tick_model.specs.Events.{Event, first_event, key_of, sooner}
use Rattle.tick_model.specs.Rules.{IsIn}
use Rattle.tick_model.proofs.Lists.{fails}

lex-sooner : (a b c x y z : ℕ) → a < x → lex a b c x y z ≡ true
lex-sooner a b c x y z earlier = grind (arith, nat_tests)

lex-later : (a b c x y z : ℕ) → lex a b c x y z ≡ true → a ≤ x
lex-later a b c x y z before = grind (arith, nat_tests)

-- a key of an earlier second is before
pub key-sooner : (a b : EventKey) → a.second < b.second → key_before a b ≡ true
key-sooner a b earlier = lex-sooner a.second a.number a.step b.second b.number b.step earlier

-- and none of a later one
pub key-later : (a b : EventKey) → key_before a b ≡ true → a.second ≤ b.second
key-later a b before = lex-later a.second a.number a.step b.second b.number b.step before

-- of two keys only one is before the other
pub key-one_way : (a b : EventKey) → key_before a b ≡ true → key_before b a ≡ false
key-one_way a b before = fails (key_before b a) (λ back.
    never (key_before a a) (events_ordered.transitive a b a before back) (events_ordered.never_itself a))

-- what isn't before a second key that isn't before a third isn't before the third
pub key-not_before : (a b c : EventKey) → key_before a b ≡ false → key_before b c ≡ false → key_before a c ≡ false
key-not_before a b c first second = fails (key_before a c) (λ before.
    elim (test (key_before c b)) [
      | inl back ↦ never (key_before a b) (events_ordered.transitive a c b before back) first
      | inr other ↦ never (key_before a c) before (ap (key_before a) (sym (events_ordered.total b c second other)) ∙ first)
    ])

-- an event is one of some events, and none of them is before it
pub record IsFirst (events : List Event) (event : Event) : Type 0 where
  pub within : IsIn event events
  pub first : (other : Event) → IsIn other events → key_before (key_of other) (key_of event) ≡ false

before-none : (e d : Event) → e ≡ d → key_before (key_of e) (key_of d) ≡ false
before-none e d same = ap (λ x. key_before (key_of x) (key_of d)) same ∙ events_ordered.never_itself (key_of d)

first-at : (event other : Event) (events : List Event) (b : Bool) → key_before (key_of other) (key_of event) ≡ b → IsFirst events other
    → IsFirst (event ∷ events) (cond b other event)
first-at event other events true before rest = record {
  within = inr rest.within;
  first = λ d is. elim is [
    | inl same ↦ ap (λ x. key_before (key_of x) (key_of other)) same ∙ key-one_way (key_of other) (key_of event) before
    | inr later ↦ rest.first d later
  ];
}
first-at event other events false after rest = record {
  within = inl refl;
  first = λ d is. elim is [
    | inl same ↦ before-none d event same
    | inr later ↦ key-not_before (key_of d) (key_of other) (key_of event) (rest.first d later) after
  ];
}

first-more : (event : Event) (events : List Event) (found : Option Event) → ((other : Event) → found ≡ Some other → IsFirst events other)
    → (found ≡ None → events ≡ []) → IsFirst (event ∷ events) (sooner event found)
first-more event events None some none = record {
  within = inl refl;
  first = λ d is. elim is [
    | inl same ↦ before-none d event same
    | inr later ↦ absurd (subst (IsIn d) (none refl) later)
  ];
}
first-more event events (Some other) some none = first-at event other events (key_before (key_of other) (key_of event)) refl (some other refl)

-- nothing is first only of nothing
pub first-none : (events : List Event) → first_event events ≡ None → events ≡ []
first-none [] none = refl
first-none (event ∷ events) none = absurd cc

-- what is found first is first
pub first-some : (events : List Event) (event : Event) → first_event events ≡ Some event → IsFirst events event
first-some [] event is = absurd cc
first-some (first ∷ events) event is =
    let same : sooner first (first_event events) ≡ event = cc in
    subst (IsFirst (first ∷ events)) same (first-more first events (first_event events) (first-some events) (first-none events))
