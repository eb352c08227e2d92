-- What becomes of a set of cells depends on these cells alone.
use Rattle.std.proofs.Common.{◌≡◌, ℕ, ◌≤◌, inl, inr, Bool, ◌∷◌, arith, ap, ◌∙◌, sym}
use Rattle.laziness.specs.Model.{Model}
use Rattle.laziness.specs.Laws.{ModelLaws, IsNext, Covers, IsReady}
use Rattle.laziness.specs.Stamps.{Stamps, event_acts, happened, brought, request_acts, AgreeStamped}
use Rattle.laziness.specs.Theorems.{CanBring, FirstActs}
use Rattle.laziness.proofs.Bringing.{test, until, Alike, alike-same, alike-stands, acts-same, acts-at, acts-outside, acts-falls, view-inside, at-inside, at-outside}
use Rattle.laziness.proofs.Locality.{after, Good, next-acts, good-next, one_run, locality, ends}
use Rattle.laziness.proofs.Preparing.{closed-apart, lies-inside, event-closed, event-covers, prepares, ready}

pub can-good : (M : Model) → ModelLaws M → (S : M.Id → Bool) (t : ℕ) (f : Stamps M) → CanBring M S t f → Good M S t f
can-good M L S t f can = record { fine = can.fine; timely = can.timely; apart = closed-apart M L S t f can.fine can.closed }

agree-alike : (M : Model) (S : M.Id → Bool) (f g : Stamps M) → AgreeStamped M S f g → Alike M S f g
agree-alike M S f g agree x inside = alike-same M f g x (agree.view x inside) (agree.at x inside)

agree-back : (M : Model) (S : M.Id → Bool) (f g : Stamps M) → AgreeStamped M S f g → AgreeStamped M S g f
agree-back M S f g agree = record { view = λ x inside. sym (agree.view x inside); at = λ x inside. sym (agree.at x inside) }

pub first-acts : (M : Model) → ModelLaws M → (S : M.Id → Bool) (t : ℕ) (f : Stamps M) (e : M.Event) → CanBring M S t f → IsNext M S t f.universe e → FirstActs M S t f e
first-acts M L S t f e can next =
    let good = can-good M L S t f can in
    let a = next-acts M S t f e can.fine next in
    let good_next = good-next M L S t f e good next in
    let run = ends M L S t f can.fine in
    let rest = ends M L S t (event_acts M e f) good_next.fine in
    let same : run.events ≡ e ∷ rest.events = one_run M L S t run.events (e ∷ rest.events) f good run.leads (next, rest.leads) in
    record {
      inside = lies-inside M L S t f e good.apart next;
      still = record {
        fine = good_next.fine;
        timely = good_next.timely;
        closed = event-closed M L S t e f good next can.closed;
        behind = λ x inside. elim (test (M.footprint e x)) [
          | inl has ↦ let now : (event_acts M e f).at x ≡ M.second_of e = at-inside M (M.footprint e) (M.second_of e) f x has in let due = next.due in omega (arith, now, due)
          | inr other ↦ let stays : (event_acts M e f).at x ≡ f.at x = at-outside M (M.footprint e) (M.second_of e) f x other in let before : f.at x ≤ t = can.behind x inside in omega (arith, stays, before)
        ];
      };
      covers = λ a covers. event-covers M L S t a e f good next covers;
      fewer = acts-falls M L f e a;
      rest = rest.is ∙ sym (ap (λ es. after M es f) same) ∙ sym run.is;
    }

pub one-first : (M : Model) → ModelLaws M → (S : M.Id → Bool) (t : ℕ) (f : Stamps M) (e d : M.Event) → M.Fine f.universe → IsNext M S t f.universe e → IsNext M S t f.universe d → e ≡ d
one-first M L S t f e d fine next next' =
    L.one f.universe e d fine next.stands next'.stands (next'.first e next.stands next.inside next.due) (next.first d next'.stands next'.inside next'.due)

pub same-first : (M : Model) → ModelLaws M → (S : M.Id → Bool) (t : ℕ) (f g : Stamps M) (e : M.Event) → AgreeStamped M S f g → IsNext M S t f.universe e → IsNext M S t g.universe e
same-first M L S t f g e agree next =
    let alike = agree-alike M S f g agree in
    let back = agree-alike M S g f (agree-back M S f g agree) in
    record {
      stands = alike-stands M L f g e (alike (M.home e) next.inside) next.stands;
      inside = next.inside;
      due = next.due;
      first = λ d stands home due. next.first d (alike-stands M L g f d (back (M.home d) home) stands) home due;
    }

pub same-event : (M : Model) → ModelLaws M → (S : M.Id → Bool) (t : ℕ) (f g : Stamps M) (e : M.Event) → CanBring M S t f → CanBring M S t g → AgreeStamped M S f g → IsNext M S t f.universe e
    → AgreeStamped M S (event_acts M e f) (event_acts M e g)
same-event M L S t f g e can_f can_g agree next =
    let next_g = same-first M L S t f g e agree next in
    let a = next-acts M S t f e can_f.fine next in
    let b = next-acts M S t g e can_g.fine next_g in
    let lies = lies-inside M L S t f e (can-good M L S t f can_f).apart next in
    let alike : Alike M (M.footprint e) f g = λ x has. agree-alike M S f g agree x (lies x has) in
    record {
      view = λ x inside. elim (test (M.footprint e x)) [
        | inl has ↦ acts-same M L f g e a b alike (can_f.timely e next.stands) (can_g.timely e next_g.stands) x has
        | inr other ↦ acts-outside M L f e x a other ∙ agree.view x inside ∙ sym (acts-outside M L g e x b other)
      ];
      at = λ x inside. elim (test (M.footprint e x)) [
        | inl has ↦ acts-at M f g e x has
        | inr other ↦ at-outside M (M.footprint e) (M.second_of e) f x other ∙ agree.at x inside ∙ sym (at-outside M (M.footprint e) (M.second_of e) g x other)
      ];
    }

-- cells that are alike are brought alike
pub same-alike : (M : Model) → ModelLaws M → (S : M.Id → Bool) (t : ℕ) (f g : Stamps M) → CanBring M S t f → CanBring M S t g → Alike M S f g → AgreeStamped M S (brought M S t f) (brought M S t g)
same-alike M L S t f g can_f can_g alike =
    let good_f = can-good M L S t f can_f in
    let good_g = can-good M L S t g can_g in
    let run_f = ends M L S t f can_f.fine in
    let run_g = ends M L S t g can_g.fine in
    record {
      view = λ x inside.
          view-inside M L S t (happened M S t f) x inside
          ∙ ap (λ h. until M t h x) run_f.is
          ∙ locality M L S S S t (λ y within. within) (λ y within. within) f g run_f.events run_g.events good_f good_g good_f.apart good_g.apart alike run_f.leads run_g.leads
          x inside (can_f.behind x inside) (can_g.behind x inside)
          ∙ sym (ap (λ h. until M t h x) run_g.is)
          ∙ sym (view-inside M L S t (happened M S t g) x inside);
      at = λ x inside. (prepares M L S t f good_f).now x inside ∙ sym ((prepares M L S t g good_g).now x inside);
    }

pub same-brought : (M : Model) → ModelLaws M → (S : M.Id → Bool) (t : ℕ) (f g : Stamps M) → CanBring M S t f → CanBring M S t g → AgreeStamped M S f g → AgreeStamped M S (brought M S t f) (brought M S t g)
same-brought M L S t f g can_f can_g agree = same-alike M L S t f g can_f can_g (agree-alike M S f g agree)

-- both can take the request
record BothReady (M : Model) (S : M.Id → Bool) (t : ℕ) (a : M.Ask) (f g : Stamps M) : Type 0 where
  first : IsReady M S t a (brought M S t f).universe
  second : IsReady M S t a (brought M S t g).universe
  count : M.count (brought M S t f).universe ≡ M.count (brought M S t g).universe
  same : AgreeStamped M S (brought M S t f) (brought M S t g)

both-ready : (M : Model) → ModelLaws M → (S : M.Id → Bool) (t : ℕ) (a : M.Ask) (f g : Stamps M) → CanBring M S t f → CanBring M S t g → AgreeStamped M S f g
    → Covers M (M.view f.universe) a S → M.count f.universe ≡ M.count g.universe → BothReady M S t a f g
both-ready M L S t a f g can_f can_g agree covers count =
    let good_f = can-good M L S t f can_f in
    let good_g = can-good M L S t g can_g in
    record {
      first = ready M L S t a f good_f can_f.closed covers;
      second = ready M L S t a g good_g can_g.closed (L.asks_within S a (M.view f.universe) (M.view g.universe) agree.view covers);
      count = (prepares M L S t f good_f).count ∙ count ∙ sym (prepares M L S t g good_g).count;
      same = same-brought M L S t f g can_f can_g agree;
    }

pub same-request : (M : Model) → ModelLaws M → (S : M.Id → Bool) (t : ℕ) (a : M.Ask) (f g : Stamps M) → CanBring M S t f → CanBring M S t g → AgreeStamped M S f g
    → Covers M (M.view f.universe) a S → M.count f.universe ≡ M.count g.universe → AgreeStamped M S (request_acts M S t a f) (request_acts M S t a g)
same-request M L S t a f g can_f can_g agree covers count =
    let both = both-ready M L S t a f g can_f can_g agree covers count in
    record {
      view = L.act_depends S t (brought M S t f).universe (brought M S t g).universe a both.first both.second both.count both.same.view;
      at = both.same.at;
    }

pub same-reply : (M : Model) → ModelLaws M → (S : M.Id → Bool) (t : ℕ) (a : M.Ask) (f g : Stamps M) → CanBring M S t f → CanBring M S t g → AgreeStamped M S f g
    → Covers M (M.view f.universe) a S → M.count f.universe ≡ M.count g.universe → M.reply a t (brought M S t f).universe ≡ M.reply a t (brought M S t g).universe
same-reply M L S t a f g can_f can_g agree covers count =
    let both = both-ready M L S t a f g can_f can_g agree covers count in
    L.reply_depends S t (brought M S t f).universe (brought M S t g).universe a both.first both.second both.count both.same.view
