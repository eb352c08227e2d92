-- What a set of cells is that was brought to a second through its events.
use Rattle.std.proofs.Common.{◌≡◌, ℕ, ◌-◌, ◌≤◌, inl, inr, Bool, true, false, List, [], ◌∷◌, ◌++◌, cond, arith, refl, ◌∙◌, sym, subst}
use Rattle.laziness.specs.Model.{Model}
use Rattle.laziness.specs.Laws.{ModelLaws, Stands, NoneDue, IsNext, IsClosed, Covers, IsReady}
use Rattle.laziness.specs.Second.{everything}
use Rattle.laziness.specs.Stamps.{Stamps, bring_to, event_acts, brought, IsTimely}
use Rattle.laziness.proofs.Bringing.{test, never, early, stands-advanced, stands-before, view-outside, at-inside, at-outside, acts-outside, acts-count}
use Rattle.laziness.proofs.Locality.{IsApart, after, Leads, Good, next-acts, good-next, good-run, ends}

-- what lies in a closed set lies there after a closed set's events
pub closed-apart : (M : Model) → ModelLaws M → (S : M.Id → Bool) (t : ℕ) (f : Stamps M) → M.Fine f.universe → IsClosed M (M.view f.universe) t S → IsApart M S t f
closed-apart M L S t f fine closed = L.closure S t f.universe fine closed

pub all-apart : (M : Model) (t : ℕ) (f : Stamps M) → IsApart M (everything M) t f
all-apart M t f e stands due x y has_x has_y inside = refl

pub good-all : (M : Model) (t : ℕ) (f : Stamps M) → M.Fine f.universe → IsTimely M f → Good M (everything M) t f
good-all M t f fine timely = record { fine = fine; timely = timely; apart = all-apart M t f }

-- what is good by a second is good by an earlier one
pub good-sooner : (M : Model) (S : M.Id → Bool) (s t : ℕ) (f : Stamps M) → s ≤ t → Good M S t f → Good M S s f
good-sooner M S s t f later good = record {
  fine = good.fine;
  timely = good.timely;
  apart = λ e stands due x y has_x has_y inside. good.apart e stands (omega (arith, due, later)) x y has_x has_y inside;
}

pub after-more : (M : Model) (es ds : List M.Event) (f : Stamps M) → after M (es ++ ds) f ≡ after M ds (after M es f)
after-more M [] ds f = refl
after-more M (e ∷ es) ds f = after-more M es ds (event_acts M e f)

-- what is next by s is next by a later t
pub next-later : (M : Model) → ModelLaws M → (S : M.Id → Bool) (s t : ℕ) (f : Stamps M) (e : M.Event) → s ≤ t → IsNext M S s f.universe e → IsNext M S t f.universe e
next-later M L S s t f e later next =
    let due : M.second_of e ≤ s = next.due in
    record {
      stands = next.stands;
      inside = next.inside;
      due = omega (arith, due, later);
      first = λ d stands home due_d before.
          let sooner : M.second_of d ≤ M.second_of e = L.first_sooner d e before in
          next.first d stands home (omega (arith, sooner, due)) before;
    }

-- a run to s and then one to a later t are one to t
pub leads-more : (M : Model) → ModelLaws M → (S : M.Id → Bool) (s t : ℕ) → s ≤ t → (es ds : List M.Event) (f : Stamps M) → Leads M S s f es → Leads M S t (after M es f) ds → Leads M S t f (es ++ ds)
leads-more M L S s t later [] ds f leads more = more
leads-more M L S s t later (e ∷ es) ds f leads more =
    (next-later M L S s t f e later leads.0, leads-more M L S s t later es ds (event_acts M e f) leads.1 more)

-- an event of a set has its footprint there
pub lies-inside : (M : Model) → ModelLaws M → (S : M.Id → Bool) (t : ℕ) (f : Stamps M) (e : M.Event) → IsApart M S t f → IsNext M S t f.universe e → (x : M.Id) → M.footprint e x ≡ true → S x ≡ true
lies-inside M L S t f e apart next x has = apart e next.stands next.due (M.home e) x (L.home e) has next.inside

outside-event : (M : Model) → ModelLaws M → (S : M.Id → Bool) (t : ℕ) (f : Stamps M) (e : M.Event) → IsApart M S t f → IsNext M S t f.universe e → (x : M.Id) → S x ≡ false → M.footprint e x ≡ false
outside-event M L S t f e apart next x outside =
    elim (test (M.footprint e x)) [
      | inl has ↦ never (S x) (lies-inside M L S t f e apart next x has) outside
      | inr other ↦ other
    ]

-- a run leaves the cells outside of its set
pub run-outside : (M : Model) → ModelLaws M → (S : M.Id → Bool) (t : ℕ) (es : List M.Event) (f : Stamps M) → Good M S t f → Leads M S t f es → (x : M.Id) → S x ≡ false
    → (M.view (after M es f).universe x ≡ M.view f.universe x) × ((after M es f).at x ≡ f.at x)
run-outside M L S t [] f good leads x outside = (refl, refl)
run-outside M L S t (e ∷ es) f good leads x outside =
    let rest = run-outside M L S t es (event_acts M e f) (good-next M L S t f e good leads.0) leads.1 x outside in
    let other = outside-event M L S t f e good.apart leads.0 x outside in
    (rest.0 ∙ acts-outside M L f e x (next-acts M S t f e good.fine leads.0) other, rest.1 ∙ at-outside M (M.footprint e) (M.second_of e) f x other)

pub run-count : (M : Model) → ModelLaws M → (es : List M.Event) (f : Stamps M) → M.count (after M es f).universe ≡ M.count f.universe
run-count M L [] f = refl
run-count M L (e ∷ es) f = run-count M L es (event_acts M e f) ∙ acts-count M L f e

pub bring-closed : (M : Model) → ModelLaws M → (S : M.Id → Bool) (t : ℕ) (k : M.Id → ℕ) (u : M.Universe) → IsClosed M (M.view u) t S → IsClosed M (M.view (M.advance k u)) t S
bring-closed M L S t k u closed x inside y brings =
    closed x inside y (L.gains_bring (k x) t (M.view u x) y (subst (λ v. M.brings v t y ≡ true) (L.advanced k u x) brings))

bring-covers : (M : Model) → ModelLaws M → (S : M.Id → Bool) (a : M.Ask) (k : M.Id → ℕ) (u : M.Universe) → Covers M (M.view u) a S → Covers M (M.view (M.advance k u)) a S
bring-covers M L S a k u covers y asked = covers y (L.advance_asks k u a y asked)

-- a closed set is closed after an event of it
pub event-closed : (M : Model) → ModelLaws M → (S : M.Id → Bool) (t : ℕ) (e : M.Event) (f : Stamps M) → Good M S t f → IsNext M S t f.universe e
    → IsClosed M (M.view f.universe) t S → IsClosed M (M.view (event_acts M e f).universe) t S
event-closed M L S t e f good next closed x inside y brings =
    let k = λ (x : M.Id). cond (M.footprint e x) (M.second_of e - f.at x) 0 in
    let fine = L.advance_fine k f.universe good.fine in
    let stands = stands-advanced M L k f.universe e next.stands in
    let gained : IsClosed M (M.view (M.advance k f.universe)) t S = bring-closed M L S t k f.universe closed in
    elim (test (M.footprint e x)) [
      | inl has ↦ elim (L.widens (M.advance k f.universe) e t x y fine stands has brings) [
        | inl before ↦ gained x inside y before
        | inr shared ↦ lies-inside M L S t f e good.apart next y shared
      ]
      | inr other ↦ gained x inside y (subst (λ v. M.brings v t y ≡ true) (L.outside (M.advance k f.universe) e x fine stands other) brings)
    ]

-- and it covers after it what it covered before
pub event-covers : (M : Model) → ModelLaws M → (S : M.Id → Bool) (t : ℕ) (a : M.Ask) (e : M.Event) (f : Stamps M) → Good M S t f → IsNext M S t f.universe e
    → Covers M (M.view f.universe) a S → Covers M (M.view (event_acts M e f).universe) a S
event-covers M L S t a e f good next covers y asked =
    let k = λ (x : M.Id). cond (M.footprint e x) (M.second_of e - f.at x) 0 in
    elim (L.asks_after (M.advance k f.universe) e a y (L.advance_fine k f.universe good.fine) (stands-advanced M L k f.universe e next.stands) asked) [
      | inl before ↦ bring-covers M L S a k f.universe covers y before
      | inr shared ↦ lies-inside M L S t f e good.apart next y shared
    ]

run-closed : (M : Model) → ModelLaws M → (S : M.Id → Bool) (t : ℕ) (es : List M.Event) (f : Stamps M) → Good M S t f → Leads M S t f es → IsClosed M (M.view f.universe) t S → IsClosed M (M.view (after M es f).universe) t S
run-closed M L S t [] f good leads closed = closed
run-closed M L S t (e ∷ es) f good leads closed =
    run-closed M L S t es (event_acts M e f) (good-next M L S t f e good leads.0) leads.1 (event-closed M L S t e f good leads.0 closed)

run-covers : (M : Model) → ModelLaws M → (S : M.Id → Bool) (t : ℕ) (a : M.Ask) (es : List M.Event) (f : Stamps M) → Good M S t f → Leads M S t f es → Covers M (M.view f.universe) a S → Covers M (M.view (after M es f).universe) a S
run-covers M L S t a [] f good leads covers = covers
run-covers M L S t a (e ∷ es) f good leads covers =
    run-covers M L S t a es (event_acts M e f) (good-next M L S t f e good leads.0) leads.1 (event-covers M L S t a e f good leads.0 covers)

-- nothing is due after a run
pub run-none : (M : Model) (S : M.Id → Bool) (t : ℕ) (es : List M.Event) (f : Stamps M) → Leads M S t f es → NoneDue M S t (after M es f).universe
run-none M S t [] f leads = leads
run-none M S t (e ∷ es) f leads = run-none M S t es (event_acts M e f) leads.1

-- A universe in which a set of cells was brought to t through its events: it is as good as before, nothing of the set is
-- due, and the other cells are as they were.
pub record IsPrepared (M : Model) (S : M.Id → Bool) (t : ℕ) (f p : Stamps M) : Type 0 where
  pub good : Good M S t p
  pub none : NoneDue M S t p.universe
  pub now : (x : M.Id) → S x ≡ true → p.at x ≡ t
  pub view : (x : M.Id) → S x ≡ false → M.view p.universe x ≡ M.view f.universe x
  pub at : (x : M.Id) → S x ≡ false → p.at x ≡ f.at x
  pub count : M.count p.universe ≡ M.count f.universe

-- what was brought there without events that are due
bring-prepared : (M : Model) → ModelLaws M → (S : M.Id → Bool) (t : ℕ) (f : Stamps M) → Good M S t f → NoneDue M S t f.universe → IsPrepared M S t f (bring_to M S t f)
bring-prepared M L S t f good none =
    let k = λ (x : M.Id). cond (S x) (t - f.at x) 0 in
    let p = bring_to M S t f in
    let before : (e : M.Event) → Stands M p.universe e → Stands M f.universe e = λ e stands. stands-before M L k f.universe e stands in
    let timely : IsTimely M p = λ e stands x has. elim (test (S x)) [
      | inl inside ↦
          let now : p.at x ≡ t = at-inside M S t f x inside in
          elim (early (M.second_of e) t) [
            | inl due ↦ absurd (none e (before e stands) (good.apart e (before e stands) due x (M.home e) has (L.home e) inside) due)
            | inr late ↦ omega (arith, now, late)
          ]
      | inr outside ↦
          let same : p.at x ≡ f.at x = at-outside M S t f x outside in
          let first : f.at x ≤ M.second_of e = good.timely e (before e stands) x has in
          omega (arith, same, first)
    ] in
    record {
      good = record {
        fine = L.advance_fine k f.universe good.fine;
        timely = timely;
        apart = λ e stands due x y has_x has_y inside. good.apart e (before e stands) due x y has_x has_y inside;
      };
      none = λ e stands home due. none e (before e stands) home due;
      now = λ x inside. at-inside M S t f x inside;
      view = λ x outside. view-outside M L S t f x outside;
      at = λ x outside. at-outside M S t f x outside;
      count = L.advance_count k f.universe;
    }

pub run-prepares : (M : Model) → ModelLaws M → (S : M.Id → Bool) (t : ℕ) (es : List M.Event) (f : Stamps M) → Good M S t f → Leads M S t f es → IsPrepared M S t f (bring_to M S t (after M es f))
run-prepares M L S t es f good leads =
    let rest = bring-prepared M L S t (after M es f) (good-run M L S t es f good leads) (run-none M S t es f leads) in
    record {
      good = rest.good;
      none = rest.none;
      now = rest.now;
      view = λ x outside. rest.view x outside ∙ (run-outside M L S t es f good leads x outside).0;
      at = λ x outside. rest.at x outside ∙ (run-outside M L S t es f good leads x outside).1;
      count = rest.count ∙ run-count M L es f;
    }

pub prepares : (M : Model) → ModelLaws M → (S : M.Id → Bool) (t : ℕ) (f : Stamps M) → Good M S t f → IsPrepared M S t f (brought M S t f)
prepares M L S t f good =
    let run = ends M L S t f good.fine in
    subst (λ g. IsPrepared M S t f (bring_to M S t g)) (sym run.is) (run-prepares M L S t run.events f good run.leads)

-- a request can act on a closed set that covers it, once that is prepared
pub ready : (M : Model) → ModelLaws M → (S : M.Id → Bool) (t : ℕ) (a : M.Ask) (f : Stamps M) → Good M S t f → IsClosed M (M.view f.universe) t S → Covers M (M.view f.universe) a S → IsReady M S t a (brought M S t f).universe
ready M L S t a f good closed covers =
    let run = ends M L S t f good.fine in
    let p = prepares M L S t f good in
    let k = λ (x : M.Id). cond (S x) (t - (after M run.events f).at x) 0 in
    record {
      fine = p.good.fine;
      closed = subst (λ (g : Stamps M). IsClosed M (M.view (bring_to M S t g).universe) t S) (sym run.is)
          (bring-closed M L S t k (after M run.events f).universe (run-closed M L S t run.events f good run.leads closed));
      covers = subst (λ (g : Stamps M). Covers M (M.view (bring_to M S t g).universe) a S) (sym run.is)
          (bring-covers M L S a k (after M run.events f).universe (run-covers M L S t a run.events f good run.leads covers));
      none = p.none;
    }
