-- The lazy universe follows the ticking one: brought to the same second, with all that is due, it shows the same.
use Rattle.std.proofs.Common.{◌≡◌, ℕ, ◌+◌, ◌-◌, ◌≤◌, inl, inr, Bool, true, List, [], ◌∷◌, ◌++◌, arith, refl, ap, ◌∙◌, sym, subst}
use Rattle.laziness.specs.Model.{Model}
use Rattle.laziness.specs.Laws.{ModelLaws, NoneDue}
use Rattle.laziness.specs.Second.{everything, second}
use Rattle.laziness.specs.Stamps.{Stamps, happened, IsTimely}
use Rattle.laziness.proofs.Bringing.{early, until, Alike, gains-until, gains-now}
use Rattle.laziness.proofs.Locality.{after, Leads, Good, good-run, one_run, locality, run-clock, ends}
use Rattle.laziness.proofs.Preparing.{all-apart, good-all, good-sooner, after-more, leads-more}
use Rattle.laziness.proofs.Seconds.{stand, gained, ticks}

-- the lazy universe f, whose cells stand at t or before, against the ticking universe u, which stands at t
pub record Follows (M : Model) (t : ℕ) (f : Stamps M) (u : M.Universe) : Type 0 where
  pub fine : M.Fine f.universe
  pub fine_ticking : M.Fine u
  pub timely : IsTimely M f
  pub count : M.count f.universe ≡ M.count u
  pub behind : (x : M.Id) → f.at x ≤ t
  pub none : NoneDue M (everything M) t u
  pub is : (x : M.Id) → until M t (happened M (everything M) t f) x ≡ M.view u x

everywhere : (M : Model) (x : M.Id) → everything M x ≡ true → everything M x ≡ true
everywhere M x inside = inside

pub happened-clock : (M : Model) → ModelLaws M → (S : M.Id → Bool) (t : ℕ) (f : Stamps M) → M.Fine f.universe → (x : M.Id) → f.at x ≤ t → (happened M S t f).at x ≤ t
happened-clock M L S t f fine x before =
    let run = ends M L S t f fine in
    subst (λ (g : Stamps M). g.at x ≤ t) (sym run.is) (run-clock M S t run.events f run.leads x before)

happened-good : (M : Model) → ModelLaws M → (S : M.Id → Bool) (t : ℕ) (f : Stamps M) → Good M S t f → Good M S t (happened M S t f)
happened-good M L S t f good =
    let run = ends M L S t f good.fine in
    subst (Good M S t) (sym run.is) (good-run M L S t run.events f good run.leads)

-- what happens by a later second is what happens after what happens by an earlier one
pub happened-more : (M : Model) → ModelLaws M → (S : M.Id → Bool) (s t : ℕ) (f : Stamps M) → s ≤ t → Good M S t f → happened M S t f ≡ happened M S t (happened M S s f)
happened-more M L S s t f later good =
    let one = ends M L S s f good.fine in
    let middle = after M one.events f in
    let good_middle : Good M S s middle = good-run M L S s one.events f (good-sooner M S s t f later good) one.leads in
    let two = ends M L S t middle good_middle.fine in
    let all = ends M L S t f good.fine in
    let same : all.events ≡ one.events ++ two.events =
    one_run M L S t all.events (one.events ++ two.events) f good all.leads (leads-more M L S s t later one.events two.events f one.leads two.leads) in
    all.is ∙ ap (λ es. after M es f) same ∙ after-more M one.events two.events f ∙ sym two.is ∙ ap (happened M S t) (sym one.is)

-- it follows through a second
pub follows-second : (M : Model) → ModelLaws M → (s t : ℕ) (f : Stamps M) (u : M.Universe) → t ≡ s + 1 → Follows M s f u → Follows M t f (second M t u)
follows-second M L s t f u next follows =
    let S = everything M in
    let later : s ≤ t = omega (arith, next) in
    let tick = ticks M L s t u next follows.fine_ticking follows.none in
    let n = happened M S s f in
    let v = stand M t (gained M u) in
    let n_good : Good M S s n = happened-good M L S s f (good-all M s f follows.fine follows.timely) in
    let n_good_t : Good M S t n = good-all M t n n_good.fine n_good.timely in
    let n_clock : (x : M.Id) → n.at x ≤ s = λ x. happened-clock M L S s f follows.fine x (follows.behind x) in
    let alike : Alike M S n v = λ x inside r before before'.
    let to_s : n.at x ≤ s = n_clock x in
    let to_r : s ≤ r = omega (arith, next, before') in
    let one : 1 + (r - t) ≡ r - s = omega (arith, next, before') in
    sym (gains-until M L s r (n.at x) (M.view n.universe x) to_s to_r)
    ∙ ap (M.gains (r - s)) (follows.is x)
    ∙ ap (λ k. M.gains k (M.view u x)) (sym one)
    ∙ sym (L.gains_more 1 (r - t) (M.view u x))
    ∙ ap (M.gains (r - t)) (sym (L.advanced (λ y. 1) u x)) in
    let run_n = ends M L S t n n_good.fine in
    let run_v = ends M L S t v tick.good.fine in
    record {
      fine = follows.fine;
      fine_ticking = tick.fine;
      timely = follows.timely;
      count = follows.count ∙ sym tick.count;
      behind = λ x. let before : f.at x ≤ s = follows.behind x in omega (arith, before, later);
      none = tick.none;
      is = λ x.
          let before_n : n.at x ≤ t = let to_s : n.at x ≤ s = n_clock x in omega (arith, to_s, later) in
          let before_v : v.at x ≤ t = omega arith in
          let h = happened M S t v in
          ap (λ g. until M t g x) (happened-more M L S s t f later (good-all M t f follows.fine follows.timely) ∙ run_n.is)
          ∙ locality M L S S S t (everywhere M) (everywhere M) n v run_n.events run_v.events n_good_t tick.good (all-apart M t n) (all-apart M t v) alike run_n.leads run_v.leads x refl before_n before_v
          ∙ ap (λ g. until M t g x) (sym run_v.is)
          ∙ (λ i. M.gains (t - tick.shows.at x i) (M.view h.universe x))
          ∙ gains-now M L t (M.view h.universe x)
          ∙ tick.shows.view x;
    }

-- nothing happens where nothing is due
pub happened-none : (M : Model) → ModelLaws M → (S : M.Id → Bool) (t : ℕ) (f : Stamps M) → M.Fine f.universe → NoneDue M S t f.universe → happened M S t f ≡ f
happened-none M L S t f fine none =
    let run = ends M L S t f fine in
    run.is ∙ still run.events run.leads
  where
    still : (es : List M.Event) → Leads M S t f es → after M es f ≡ f
    still [] leads = refl
    still (e ∷ es) leads = absurd (none e leads.0.stands leads.0.inside leads.0.due)

-- at first both are the same
pub follows-itself : (M : Model) → ModelLaws M → (t : ℕ) (u : M.Universe) → M.Fine u → NoneDue M (everything M) t u → Follows M t (stand M t u) u
follows-itself M L t u fine none = record {
  fine = fine;
  fine_ticking = fine;
  timely = λ e stands x has. elim (early (M.second_of e) t) [
    | inl due ↦ absurd (none e stands refl due)
    | inr late ↦ omega (arith, late)
  ];
  count = refl;
  behind = λ x. omega arith;
  none = none;
  is = λ x. ap (λ g. until M t g x) (happened-none M L (everything M) t (stand M t u) fine none) ∙ gains-now M L t (M.view u x);
}
