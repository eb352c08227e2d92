-- What happens to a set of cells depends on that set alone, if each event has all or nothing of its footprint in it.
use Rattle.std.proofs.Common.{◌≡◌, ℕ, ◌-◌, ◌≤◌, inl, inr, Bool, true, false, List, [], ◌∷◌, arith, refl, ap, ◌∙◌, sym, subst}
use Rattle.laziness.specs.Model.{Model}
use Rattle.laziness.specs.Laws.{ModelLaws, Stands, NoneDue, IsNext}
use Rattle.laziness.specs.Stamps.{Stamps, event_acts, happened, IsTimely}
use Rattle.laziness.proofs.Runs.{acting, Leading, Finds, Run, runs}
use Rattle.laziness.proofs.Bringing.{test, never, early, until, AlikeAt, Alike, Acts, acts-fine, acts-outside, acts-falls, acts-alike, arises, alike-stands, alike-back, at-inside, at-outside}

-- each event by t has its footprint wholly in a set if a cell of it is there
abbrev pub IsApart : (M : Model) → (M.Id → Bool) → ℕ → Stamps M → Type 0
IsApart M S t f = (e : M.Event) → Stands M f.universe e → M.second_of e ≤ t → (x y : M.Id) → M.footprint e x ≡ true → M.footprint e y ≡ true → S x ≡ true → S y ≡ true

-- these events act, one after another
abbrev pub after : (M : Model) → List M.Event → Stamps M → Stamps M
after M es f = acting (event_acts M) es f

-- these are the events that cells of a set owe by t, the first one first
abbrev pub Leads : (M : Model) → (M.Id → Bool) → ℕ → Stamps M → List M.Event → Type 0
Leads M S t f es = Leading (event_acts M) (λ g e. IsNext M S t g.universe e) (λ g. NoneDue M S t g.universe) f es

-- what a run of events keeps
pub record Good (M : Model) (S : M.Id → Bool) (t : ℕ) (f : Stamps M) : Type 0 where
  pub fine : M.Fine f.universe
  pub timely : IsTimely M f
  pub apart : IsApart M S t f

pub next-acts : (M : Model) (S : M.Id → Bool) (t : ℕ) (f : Stamps M) (e : M.Event) → M.Fine f.universe → IsNext M S t f.universe e → Acts M f e
next-acts M S t f e fine next = record { fine = fine; stands = next.stands }

keeps-apart : (M : Model) → ModelLaws M → (S : M.Id → Bool) (t : ℕ) (f : Stamps M) (e : M.Event) → Acts M f e → M.second_of e ≤ t → IsApart M S t f → IsApart M S t (event_acts M e f)
keeps-apart M L S t f e a due apart d stands due_d x y has_x has_y inside =
    elim (arises M L f e d a stands) [
      | inl before ↦ apart d before due_d x y has_x has_y inside
      | inr new ↦ elim new.1 [
        | inl within ↦ apart e a.stands due x y (within x has_x) (within y has_y) inside
        | inr other ↦
            let third = other.0 in
            let due_third : M.second_of third ≤ t = let sooner = other.2 in omega arith in
            let z = other.3.0 in
            let of_e : (w : M.Id) → M.footprint e w ≡ true → S w ≡ true → S z ≡ true = λ w has. apart e a.stands due w z has other.3.1 in
            let of_third : (w : M.Id) → M.footprint third w ≡ true → S w ≡ true → S z ≡ true = λ w has. apart third other.1 due_third w z has other.3.2 in
            let shared : S z ≡ true = elim (other.4 x has_x) [ inl has ↦ of_e x has inside | inr has ↦ of_third x has inside ] in
            elim (other.4 y has_y) [
              | inl has ↦ apart e a.stands due z y other.3.1 has shared
              | inr has ↦ apart third other.1 due_third z y other.3.2 has shared
            ]
      ]
    ]

-- the next event of a set is no later than any event that shares a cell with it
no_later : (M : Model) → ModelLaws M → (S : M.Id → Bool) (t : ℕ) (f : Stamps M) (e d : M.Event) → IsApart M S t f → IsNext M S t f.universe e → Stands M f.universe d
    → (x : M.Id) → M.footprint e x ≡ true → M.footprint d x ≡ true → M.second_of e ≤ M.second_of d
no_later M L S t f e d apart next stands x has_e has_d =
    elim (early (M.second_of d) t) [
      | inl due ↦
          let inside : S x ≡ true = apart e next.stands next.due (M.home e) x (L.home e) has_e next.inside in
          let home : S (M.home d) ≡ true = apart d stands due x (M.home d) has_d (L.home d) inside in
          elim (early (M.second_of e) (M.second_of d)) [
            | inl sooner ↦ sooner
            | inr before ↦ absurd (next.first d stands home due (L.sooner_first d e before))
          ]
      | inr late ↦ let due = next.due in omega arith
    ]

keeps-timely : (M : Model) → ModelLaws M → (S : M.Id → Bool) (t : ℕ) (f : Stamps M) (e : M.Event) → Good M S t f → IsNext M S t f.universe e → IsTimely M (event_acts M e f)
keeps-timely M L S t f e good next d stands x has =
    let a = next-acts M S t f e good.fine next in
    elim (test (M.footprint e x)) [
      | inl inside ↦
          let now : (event_acts M e f).at x ≡ M.second_of e = at-inside M (M.footprint e) (M.second_of e) f x inside in
          let later : M.second_of e ≤ M.second_of d = elim (arises M L f e d a stands) [
            | inl before ↦ no_later M L S t f e d good.apart next before x inside has
            | inr new ↦ let later = new.0 in omega arith
          ] in
          omega (arith, now, later)
      | inr outside ↦
          let same : (event_acts M e f).at x ≡ f.at x = at-outside M (M.footprint e) (M.second_of e) f x outside in
          let early : f.at x ≤ M.second_of d = elim (arises M L f e d a stands) [
            | inl before ↦ good.timely d before x has
            | inr new ↦ elim new.1 [
              | inl within ↦ never (M.footprint e x) (within x has) outside
              | inr other ↦ elim (other.4 x has) [
                | inl within ↦ never (M.footprint e x) within outside
                | inr third ↦ let first : f.at x ≤ M.second_of other.0 = good.timely other.0 other.1 x third in let sooner : M.second_of other.0 ≤ M.second_of d = other.2 in omega (arith, first, sooner)
              ]
            ]
          ] in
          omega (arith, same, early)
    ]

pub good-next : (M : Model) → ModelLaws M → (S : M.Id → Bool) (t : ℕ) (f : Stamps M) (e : M.Event) → Good M S t f → IsNext M S t f.universe e → Good M S t (event_acts M e f)
good-next M L S t f e good next =
    let a = next-acts M S t f e good.fine next in
    record {
      fine = acts-fine M L f e a;
      timely = keeps-timely M L S t f e good next;
      apart = keeps-apart M L S t f e a next.due good.apart;
    }

pub good-run : (M : Model) → ModelLaws M → (S : M.Id → Bool) (t : ℕ) (es : List M.Event) (f : Stamps M) → Good M S t f → Leads M S t f es → Good M S t (after M es f)
good-run M L S t [] f good leads = good
good-run M L S t (e ∷ es) f good leads = good-run M L S t es (event_acts M e f) (good-next M L S t f e good leads.0) leads.1

-- an event whose home is outside of a set has no cell there
pub apart-outside : (M : Model) → ModelLaws M → (S : M.Id → Bool) (t : ℕ) (f : Stamps M) (e : M.Event) → IsApart M S t f → Stands M f.universe e → M.second_of e ≤ t → S (M.home e) ≡ false
    → (x : M.Id) → S x ≡ true → M.footprint e x ≡ false
apart-outside M L S t f e apart stands due away x inside =
    elim (test (M.footprint e x)) [
      | inl has ↦ never (S (M.home e)) (apart e stands due x (M.home e) has (L.home e) inside) away
      | inr other ↦ other
    ]

-- an event leaves a cell outside of its footprint alike
alike-outside : (M : Model) → ModelLaws M → (f g : Stamps M) (e : M.Event) (x : M.Id) → Acts M f e → M.footprint e x ≡ false → AlikeAt M f g x → AlikeAt M (event_acts M e f) g x
alike-outside M L f g e x a outside alike s before before' =
    let same : (event_acts M e f).at x ≡ f.at x = at-outside M (M.footprint e) (M.second_of e) f x outside in
    let before_f : f.at x ≤ s = omega (arith, same, before) in
    (λ i. M.gains (s - same i) (acts-outside M L f e x a outside i)) ∙ alike s before_f before'

-- The events of a run that lie in a smaller set are a run of that set, and the two leave it alike.
pub thinned : (M : Model) → ModelLaws M → (R S : M.Id → Bool) (t : ℕ) → ((x : M.Id) → S x ≡ true → R x ≡ true) → (es : List M.Event) (f g : Stamps M)
    → Good M R t f → IsApart M S t f → Good M S t g → Alike M S f g → Leads M R t f es
    → (ds : List M.Event) × Leads M S t g ds × Alike M S (after M es f) (after M ds g)
thinned M L R S t wider [] f g good_f apart good_g alike leads =
    ([], λ d stands inside due. leads d (alike-stands M L g f d (alike-back M f g (M.home d) (alike (M.home d) inside)) stands) (wider (M.home d) inside) due, alike)
thinned M L R S t wider (e ∷ es) f g good_f apart good_g alike leads =
    let a = next-acts M R t f e good_f.fine leads.0 in
    let good = good-next M L R t f e good_f leads.0 in
    let apart_next = keeps-apart M L S t f e a leads.0.due apart in
    elim (test (S (M.home e))) [
      | inl inside ↦
          let stands_g : Stands M g.universe e = alike-stands M L f g e (alike (M.home e) inside) leads.0.stands in
          let next_g : IsNext M S t g.universe e = record {
            stands = stands_g;
            inside = inside;
            due = leads.0.due;
            first = λ d stands home due. leads.0.first d (alike-stands M L g f d (alike-back M f g (M.home d) (alike (M.home d) home)) stands) (wider (M.home d) home) due;
          } in
          let b = next-acts M S t g e good_g.fine next_g in
          let lies : (x : M.Id) → M.footprint e x ≡ true → S x ≡ true = λ x has. apart e leads.0.stands leads.0.due (M.home e) x (L.home e) has inside in
          let alike_next : Alike M S (event_acts M e f) (event_acts M e g) = λ x within. elim (test (M.footprint e x)) [
            | inl has ↦ acts-alike M L f g e a b (λ y has_y. alike y (lies y has_y)) (good_f.timely e leads.0.stands) (good_g.timely e stands_g) x has
            | inr other ↦ alike-outside M L f (event_acts M e g) e x a other (alike-back M (event_acts M e g) f x (alike-outside M L g f e x b other (alike-back M f g x (alike x within))))
          ] in
          let rest = thinned M L R S t wider es (event_acts M e f) (event_acts M e g) good apart_next (good-next M L S t g e good_g next_g) alike_next leads.1 in
          (e ∷ rest.0, (next_g, rest.1), rest.2)
      | inr outside ↦
          let alike_next : Alike M S (event_acts M e f) g = λ x within.
          alike-outside M L f g e x a (apart-outside M L S t f e apart leads.0.stands leads.0.due outside x within) (alike x within) in
          thinned M L R S t wider es (event_acts M e f) g good apart_next good_g alike_next leads.1
    ]

-- a universe has one run of a set to a second
pub one_run : (M : Model) → ModelLaws M → (S : M.Id → Bool) (t : ℕ) (es ds : List M.Event) (f : Stamps M) → Good M S t f → Leads M S t f es → Leads M S t f ds → es ≡ ds
one_run M L S t [] [] f good leads leads' = refl
one_run M L S t [] (d ∷ ds) f good leads leads' = absurd (leads d leads'.0.stands leads'.0.inside leads'.0.due)
one_run M L S t (e ∷ es) [] f good leads leads' = absurd (leads' e leads.0.stands leads.0.inside leads.0.due)
one_run M L S t (e ∷ es) (d ∷ ds) f good leads leads' =
    let same : e ≡ d = L.one f.universe e d good.fine leads.0.stands leads'.0.stands
    (leads'.0.first e leads.0.stands leads.0.inside leads.0.due) (leads.0.first d leads'.0.stands leads'.0.inside leads'.0.due) in
    let rest : es ≡ ds = one_run M L S t es ds (event_acts M e f) (good-next M L S t f e good leads.0) leads.1 (subst (λ c. Leads M S t (event_acts M c f) ds) (sym same) leads'.1) in
    λ i. same i ∷ rest i

-- clocks go on, but never beyond t
pub run-rises : (M : Model) → ModelLaws M → (S : M.Id → Bool) (t : ℕ) (es : List M.Event) (f : Stamps M) → Good M S t f → Leads M S t f es → (x : M.Id) → f.at x ≤ (after M es f).at x
run-rises M L S t [] f good leads x = omega arith
run-rises M L S t (e ∷ es) f good leads x =
    let rest : (event_acts M e f).at x ≤ (after M es (event_acts M e f)).at x = run-rises M L S t es (event_acts M e f) (good-next M L S t f e good leads.0) leads.1 x in
    let first : f.at x ≤ (event_acts M e f).at x = elim (test (M.footprint e x)) [
      | inl inside ↦ let now = at-inside M (M.footprint e) (M.second_of e) f x inside in let before = good.timely e leads.0.stands x inside in omega (arith, now, before)
      | inr outside ↦ let same = at-outside M (M.footprint e) (M.second_of e) f x outside in omega (arith, same)
    ] in
    omega (arith, rest, first)

pub run-clock : (M : Model) (S : M.Id → Bool) (t : ℕ) (es : List M.Event) (f : Stamps M) → Leads M S t f es → (x : M.Id) → f.at x ≤ t → (after M es f).at x ≤ t
run-clock M S t [] f leads x before = before
run-clock M S t (e ∷ es) f leads x before =
    let first : (event_acts M e f).at x ≤ t = elim (test (M.footprint e x)) [
      | inl inside ↦ let now = at-inside M (M.footprint e) (M.second_of e) f x inside in let due = leads.0.due in omega (arith, now, due)
      | inr outside ↦ let same = at-outside M (M.footprint e) (M.second_of e) f x outside in omega (arith, same, before)
    ] in
    run-clock M S t es (event_acts M e f) leads.1 x first

-- Cells that are alike in two universes, with the events of larger sets acting in each, are the same at t.
pub locality : (M : Model) → ModelLaws M → (S Q R : M.Id → Bool) (t : ℕ) → ((x : M.Id) → S x ≡ true → Q x ≡ true) → ((x : M.Id) → S x ≡ true → R x ≡ true)
    → (f g : Stamps M) (es ds : List M.Event) → Good M Q t f → Good M R t g → IsApart M S t f → IsApart M S t g → Alike M S f g
    → Leads M Q t f es → Leads M R t g ds → (x : M.Id) → S x ≡ true → f.at x ≤ t → g.at x ≤ t → until M t (after M es f) x ≡ until M t (after M ds g) x
locality M L S Q R t in_Q in_R f g es ds good_f good_g apart_f apart_g alike leads_f leads_g x inside before_f before_g =
    let good : Good M S t f = record { fine = good_f.fine; timely = good_f.timely; apart = apart_f } in
    let own : Alike M S f f = λ y within s before before'. refl in
    let of_f = thinned M L Q S t in_Q es f f good_f apart_f good own leads_f in
    let of_g = thinned M L R S t in_R ds g f good_g apart_g good (λ y within. alike-back M f g y (alike y within)) leads_g in
    let one : of_f.0 ≡ of_g.0 = one_run M L S t of_f.0 of_g.0 f good of_f.1 of_g.1 in
    of_f.2 x inside t (run-clock M Q t es f leads_f x before_f) (run-clock M S t of_f.0 f of_f.1 x before_f)
    ∙ ap (λ es. until M t (after M es f) x) one
    ∙ sym (of_g.2 x inside t (run-clock M R t ds g leads_g x before_g) (run-clock M S t of_g.0 f of_g.1 x before_f))

-- what the fuel finds is a run
abbrev pub Ends : (M : Model) → (M.Id → Bool) → ℕ → Stamps M → Stamps M → Type 0
Ends M S t f g = Run (event_acts M) (λ h e. IsNext M S t h.universe e) (λ h. NoneDue M S t h.universe) f g

finds : (M : Model) → ModelLaws M → (S : M.Id → Bool) (t : ℕ)
    → Finds (λ (g : Stamps M). M.next S t g.universe) (event_acts M) (λ g. M.measure g.universe) (λ g. M.Fine g.universe) (λ g e. IsNext M S t g.universe e) (λ g. NoneDue M S t g.universe)
finds M L S t = record {
  found = λ f e fine is. L.next_found S t f.universe e fine is;
  nothing = λ f fine is. L.none_found S t f.universe fine is;
  keeps = λ f e fine next. acts-fine M L f e (next-acts M S t f e fine next);
  falls = λ f e fine next. acts-falls M L f e (next-acts M S t f e fine next);
}

pub ends : (M : Model) → ModelLaws M → (S : M.Id → Bool) (t : ℕ) (f : Stamps M) → M.Fine f.universe → Ends M S t f (happened M S t f)
unfolding happened
ends M L S t f fine =
    runs (λ (g : Stamps M). M.next S t g.universe) (event_acts M) (λ g. M.measure g.universe) (λ g. M.Fine g.universe) (λ g e. IsNext M S t g.universe e) (λ g. NoneDue M S t g.universe)
    (finds M L S t) (M.measure f.universe) f fine (omega arith)
