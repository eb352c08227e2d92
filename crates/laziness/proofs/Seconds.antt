-- A second of the ticking universe shows what the events of a universe with stamps show, all cells of which stand at the same second.
use Rattle.std.proofs.Common.{◌≡◌, ℕ, ◌+◌, ◌-◌, ◌≤◌, inl, inr, List, [], ◌∷◌, cond, arith, refl, ap, ◌∙◌, sym, subst}
use Rattle.laziness.specs.Model.{Model}
use Rattle.laziness.specs.Laws.{ModelLaws, Stands, NoneDue, IsNext, Agree}
use Rattle.laziness.specs.Second.{everything, second}
use Rattle.laziness.specs.Stamps.{Stamps, event_acts, happened, IsTimely}
use Rattle.laziness.proofs.Runs.{acting, Leading, Finds, Run, runs}
use Rattle.laziness.proofs.Bringing.{test, early, stands-advanced, stands-before, view-inside, acts-outside, at-inside, at-outside}
use Rattle.laziness.proofs.Locality.{after, Leads, Good, next-acts, good-next, ends}
use Rattle.laziness.proofs.Preparing.{good-all}

-- every cell stands at t
abbrev pub stand : (M : Model) → ℕ → M.Universe → Stamps M
stand M t u = record { universe = u; at = λ x. t }

abbrev pub gained : (M : Model) → M.Universe → M.Universe
gained M u = M.advance (λ x. 1) u

-- the events that are due by t, the first one first
abbrev pub LeadsIn : (M : Model) → ℕ → M.Universe → List M.Event → Type 0
LeadsIn M t u es = Leading M.effect (IsNext M (everything M) t) (NoneDue M (everything M) t) u es

finds-in : (M : Model) → ModelLaws M → (t : ℕ) → Finds (M.next (everything M) t) M.effect M.measure M.Fine (IsNext M (everything M) t) (NoneDue M (everything M) t)
finds-in M L t = record {
  found = λ u e fine is. L.next_found (everything M) t u e fine is;
  nothing = λ u fine is. L.none_found (everything M) t u fine is;
  keeps = λ u e fine next. L.effect_fine u e fine next.stands;
  falls = λ u e fine next. L.falls u e fine next.stands;
}

pub second-run : (M : Model) → ModelLaws M → (t : ℕ) (u : M.Universe) → M.Fine u → Run M.effect (IsNext M (everything M) t) (NoneDue M (everything M) t) (gained M u) (second M t u)
unfolding second
second-run M L t u fine =
    runs (M.next (everything M) t) M.effect M.measure M.Fine (IsNext M (everything M) t) (NoneDue M (everything M) t) (finds-in M L t) (M.measure (gained M u)) (gained M u) (L.advance_fine (λ x. 1) u fine) (omega arith)

run-in-fine : (M : Model) → ModelLaws M → (t : ℕ) (es : List M.Event) (u : M.Universe) → M.Fine u → LeadsIn M t u es → M.Fine (acting M.effect es u)
run-in-fine M L t [] u fine leads = fine
run-in-fine M L t (e ∷ es) u fine leads = run-in-fine M L t es (M.effect e u) (L.effect_fine u e fine leads.0.stands) leads.1

run-in-none : (M : Model) (t : ℕ) (es : List M.Event) (u : M.Universe) → LeadsIn M t u es → NoneDue M (everything M) t (acting M.effect es u)
run-in-none M t [] u leads = leads
run-in-none M t (e ∷ es) u leads = run-in-none M t es (M.effect e u) leads.1

run-in-count : (M : Model) → ModelLaws M → (es : List M.Event) (u : M.Universe) → M.count (acting M.effect es u) ≡ M.count u
run-in-count M L [] u = refl
run-in-count M L (e ∷ es) u = run-in-count M L es (M.effect e u) ∙ L.effect_count u e

-- the same is seen, and every cell stands at t
pub record Shows (M : Model) (t : ℕ) (f : Stamps M) (u : M.Universe) : Type 0 where
  pub view : (x : M.Id) → M.view f.universe x ≡ M.view u x
  pub at : (x : M.Id) → f.at x ≡ t

shows-stands : (M : Model) (t : ℕ) (f : Stamps M) (u : M.Universe) (e : M.Event) → Shows M t f u → Stands M f.universe e → Stands M u e
shows-stands M t f u e shows stands = subst (λ v. M.Owes v e) (shows.view (M.home e)) stands

shown-stands : (M : Model) (t : ℕ) (f : Stamps M) (u : M.Universe) (e : M.Event) → Shows M t f u → Stands M u e → Stands M f.universe e
shown-stands M t f u e shows stands = subst (λ v. M.Owes v e) (sym (shows.view (M.home e))) stands

shows-event : (M : Model) → ModelLaws M → (t : ℕ) (f : Stamps M) (u : M.Universe) (e : M.Event) → M.Fine u → Good M (everything M) t f → Shows M t f u
    → IsNext M (everything M) t u e → IsNext M (everything M) t f.universe e → Shows M t (event_acts M e f) (M.effect e u)
shows-event M L t f u e fine good shows next next_f =
    let k = λ (x : M.Id). cond (M.footprint e x) (M.second_of e - f.at x) 0 in
    let a = next-acts M (everything M) t f e good.fine next_f in
    let early : f.at (M.home e) ≤ M.second_of e = good.timely e a.stands (M.home e) (L.home e) in
    let now : f.at (M.home e) ≡ t = shows.at (M.home e) in
    let due : M.second_of e ≤ t = next.due in
    let is : M.second_of e ≡ t = omega (arith, early, now, due) in
    let agree : Agree M (M.footprint e) (M.advance k f.universe) u = λ y has.
    let none : M.second_of e - f.at y ≡ 0 = let there : f.at y ≡ t = shows.at y in omega (arith, is, there) in
    view-inside M L (M.footprint e) (M.second_of e) f y has ∙ ap (λ n. M.gains n (M.view f.universe y)) none ∙ L.gains_none (M.view f.universe y) ∙ shows.view y in
    record {
      view = λ x. elim (test (M.footprint e x)) [
        | inl has ↦ L.depends (M.advance k f.universe) u e (L.advance_fine k f.universe good.fine) fine (stands-advanced M L k f.universe e a.stands) next.stands agree x has
        | inr other ↦ acts-outside M L f e x a other ∙ shows.view x ∙ sym (L.outside u e x fine next.stands other)
      ];
      at = λ x. elim (test (M.footprint e x)) [
        | inl has ↦ at-inside M (M.footprint e) (M.second_of e) f x has ∙ is
        | inr other ↦ at-outside M (M.footprint e) (M.second_of e) f x other ∙ shows.at x
      ];
    }

-- runs of both show the same
shows-run : (M : Model) → ModelLaws M → (t : ℕ) (es ds : List M.Event) (f : Stamps M) (u : M.Universe) → M.Fine u → Good M (everything M) t f → Shows M t f u
    → LeadsIn M t u es → Leads M (everything M) t f ds → Shows M t (after M ds f) (acting M.effect es u)
shows-run M L t [] [] f u fine good shows leads leads' = shows
shows-run M L t [] (d ∷ ds) f u fine good shows leads leads' = absurd (leads d (shows-stands M t f u d shows leads'.0.stands) refl leads'.0.due)
shows-run M L t (e ∷ es) [] f u fine good shows leads leads' = absurd (leads' e (shown-stands M t f u e shows leads.0.stands) refl leads.0.due)
shows-run M L t (e ∷ es) (d ∷ ds) f u fine good shows leads leads' =
    let stands_d : Stands M u d = shows-stands M t f u d shows leads'.0.stands in
    let stands_e : Stands M f.universe e = shown-stands M t f u e shows leads.0.stands in
    let same : d ≡ e = L.one u d e fine stands_d leads.0.stands
    (leads.0.first d stands_d refl leads'.0.due) (leads'.0.first e stands_e refl leads.0.due) in
    let first : IsNext M (everything M) t f.universe e = subst (λ c. IsNext M (everything M) t f.universe c) same leads'.0 in
    let rest : Leads M (everything M) t (event_acts M e f) ds = subst (λ c. Leads M (everything M) t (event_acts M c f) ds) same leads'.1 in
    subst (λ c. Shows M t (after M ds (event_acts M c f)) (acting M.effect es (M.effect e u))) (sym same)
    (shows-run M L t es ds (event_acts M e f) (M.effect e u) (L.effect_fine u e fine leads.0.stands) (good-next M L (everything M) t f e good first)
    (shows-event M L t f u e fine good shows leads.0 first) leads.1 rest)

-- what a second makes of a universe
pub record Ticks (M : Model) (t : ℕ) (u v : M.Universe) : Type 0 where
  pub fine : M.Fine v
  pub none : NoneDue M (everything M) t v
  pub count : M.count v ≡ M.count u
  pub good : Good M (everything M) t (stand M t (gained M u))
  pub shows : Shows M t (happened M (everything M) t (stand M t (gained M u))) v

pub ticks : (M : Model) → ModelLaws M → (s t : ℕ) (u : M.Universe) → t ≡ s + 1 → M.Fine u → NoneDue M (everything M) s u → Ticks M t u (second M t u)
ticks M L s t u next fine none =
    let run = second-run M L t u fine in
    let fine_gained = L.advance_fine (λ x. 1) u fine in
    let timely : IsTimely M (stand M t (gained M u)) = λ e stands x has. elim (early (M.second_of e) s) [
      | inl due ↦ absurd (none e (stands-before M L (λ x. 1) u e stands) refl due)
      | inr late ↦ omega (arith, late, next)
    ] in
    let good = good-all M t (stand M t (gained M u)) fine_gained timely in
    let stamped = ends M L (everything M) t (stand M t (gained M u)) fine_gained in
    let start : Shows M t (stand M t (gained M u)) (gained M u) = record { view = λ x. refl; at = λ x. refl } in
    record {
      fine = subst M.Fine (sym run.is) (run-in-fine M L t run.events (gained M u) fine_gained run.leads);
      none = subst (NoneDue M (everything M) t) (sym run.is) (run-in-none M t run.events (gained M u) run.leads);
      count = ap M.count run.is ∙ run-in-count M L run.events (gained M u) ∙ L.advance_count (λ x. 1) u;
      good = good;
      shows = subst (λ v. Shows M t (happened M (everything M) t (stand M t (gained M u))) v) (sym run.is)
          (subst (λ g. Shows M t g (acting M.effect run.events (gained M u))) (sym stamped.is)
          (shows-run M L t run.events stamped.events (stand M t (gained M u)) (gained M u) fine_gained good start run.leads stamped.leads));
    }

-- a second ends with nothing due
pub second-ends : (M : Model) → ModelLaws M → (t : ℕ) (u : M.Universe) → M.Fine u → NoneDue M (everything M) t (second M t u)
second-ends M L t u fine =
    let run = second-run M L t u fine in
    subst (NoneDue M (everything M) t) (sym run.is) (run-in-none M t run.events (gained M u) run.leads)

pub second-fine : (M : Model) → ModelLaws M → (t : ℕ) (u : M.Universe) → M.Fine u → M.Fine (second M t u)
second-fine M L t u fine =
    let run = second-run M L t u fine in
    subst M.Fine (sym run.is) (run-in-fine M L t run.events (gained M u) (L.advance_fine (λ x. 1) u fine) run.leads)
