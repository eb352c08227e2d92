-- A request acts on a closed set in the lazy universe as it does in the ticking one.
use Rattle.std.proofs.Common.{◌≡◌, ℕ, ◌-◌, ◌<◌, ◌≤◌, ◌⊎◌, inl, inr, Bool, true, false, not, [], arith, refl, ap, ◌∙◌, sym, subst}
use Rattle.laziness.specs.Model.{Model}
use Rattle.laziness.specs.Laws.{ModelLaws, Stands, NoneDue, IsClosed, Covers, IsReady, Agree}
use Rattle.laziness.specs.Second.{everything}
use Rattle.laziness.specs.Stamps.{Stamps, happened, brought, request_acts, IsTimely}
use Rattle.laziness.proofs.Bringing.{test, never, until, Alike, alike-same, gains-now, view-inside}
use Rattle.laziness.proofs.Locality.{IsApart, Good, locality, ends}
use Rattle.laziness.proofs.Preparing.{closed-apart, good-all, IsPrepared, prepares, ready}
use Rattle.laziness.proofs.Following.{Follows}

-- the cells that are not in a set
abbrev pub others : (M : Model) → (M.Id → Bool) → M.Id → Bool
others M S x = not (S x)

pub not-true : (b : Bool) → not b ≡ true → b ≡ false
not-true true is = sym is
not-true false is = refl

not-false : (b : Bool) → b ≡ false → not b ≡ true
not-false true is = sym is
not-false false is = refl

-- if each event has all or nothing in a set, it does in the other cells
apart-others : (M : Model) → (S : M.Id → Bool) (t : ℕ) (f : Stamps M) → IsApart M S t f → IsApart M (others M S) t f
apart-others M S t f apart e stands due x y has_x has_y inside =
    elim (test (S y)) [
      | inl within ↦ never (S x) (apart e stands due y x has_y has_x within) (not-true (S x) inside)
      | inr outside ↦ not-false (S y) outside
    ]

in_all : (M : Model) (S : M.Id → Bool) (x : M.Id) → S x ≡ true → everything M x ≡ true
in_all M S x inside = refl

-- two universes that agree on a set, in which each event has all or nothing, are the same there with all that is due
pub same-until : (M : Model) → ModelLaws M → (S : M.Id → Bool) (t : ℕ) (f g : Stamps M) → M.Fine f.universe → M.Fine g.universe → IsTimely M f → IsTimely M g
    → IsApart M S t f → IsApart M S t g → Alike M S f g → (x : M.Id) → S x ≡ true → f.at x ≤ t → g.at x ≤ t
    → until M t (happened M (everything M) t f) x ≡ until M t (happened M (everything M) t g) x
same-until M L S t f g fine_f fine_g timely_f timely_g apart_f apart_g alike x inside before_f before_g =
    let run_f = ends M L (everything M) t f fine_f in
    let run_g = ends M L (everything M) t g fine_g in
    ap (λ h. until M t h x) run_f.is
    ∙ locality M L S (everything M) (everything M) t (in_all M S) (in_all M S) f g run_f.events run_g.events (good-all M t f fine_f timely_f) (good-all M t g fine_g timely_g)
    apart_f apart_g alike run_f.leads run_g.leads x inside before_f before_g
    ∙ sym (ap (λ h. until M t h x) run_g.is)

-- what a prepared set shows is what the ticking universe shows
pub prepared-shows : (M : Model) → ModelLaws M → (S : M.Id → Bool) (t : ℕ) (f : Stamps M) (u : M.Universe) → Follows M t f u → IsApart M S t f → Agree M S (brought M S t f).universe u
prepared-shows M L S t f u follows apart x inside =
    let good : Good M S t f = record { fine = follows.fine; timely = follows.timely; apart = apart } in
    let run = ends M L S t f follows.fine in
    let all = ends M L (everything M) t f follows.fine in
    view-inside M L S t (happened M S t f) x inside
    ∙ ap (λ h. until M t h x) run.is
    ∙ locality M L S S (everything M) t (λ y within. within) (in_all M S) f f run.events all.events good (good-all M t f follows.fine follows.timely)
    apart apart (λ y within s before before'. refl) run.leads all.leads x inside (follows.behind x) (follows.behind x)
    ∙ sym (ap (λ h. until M t h x) all.is)
    ∙ follows.is x

-- what a request needs is there in both universes, which agree on it
pub record Meets (M : Model) (S : M.Id → Bool) (t : ℕ) (a : M.Ask) (p : Stamps M) (u : M.Universe) : Type 0 where
  pub lazy : IsReady M S t a p.universe
  pub ticking : IsReady M S t a u
  pub count : M.count p.universe ≡ M.count u
  pub agree : Agree M S p.universe u

pub meets : (M : Model) → ModelLaws M → (S : M.Id → Bool) (t : ℕ) (a : M.Ask) (f : Stamps M) (u : M.Universe) → Follows M t f u → IsClosed M (M.view f.universe) t S → Covers M (M.view f.universe) a S
    → Meets M S t a (brought M S t f) u
meets M L S t a f u follows closed covers =
    let apart = closed-apart M L S t f follows.fine closed in
    let good : Good M S t f = record { fine = follows.fine; timely = follows.timely; apart = apart } in
    let p = brought M S t f in
    let lazy = ready M L S t a f good closed covers in
    let agree : Agree M S p.universe u = prepared-shows M L S t f u follows apart in
    record {
      lazy = lazy;
      ticking = record {
        fine = follows.fine_ticking;
        closed = λ x inside y brings. lazy.closed x inside y (subst (λ v. M.brings v t y ≡ true) (sym (agree x inside)) brings);
        covers = L.asks_within S a (M.view p.universe) (M.view u) agree lazy.covers;
        none = λ e stands inside due. follows.none e stands refl due;
      };
      count = (prepares M L S t f good).count ∙ follows.count;
      agree = agree;
    }

-- it follows through a request
pub follows-asked : (M : Model) → ModelLaws M → (S : M.Id → Bool) (t : ℕ) (a : M.Ask) (f : Stamps M) (u : M.Universe) → Follows M t f u → IsClosed M (M.view f.universe) t S → Covers M (M.view f.universe) a S
    → Follows M t (request_acts M S t a f) (M.act a t u)
follows-asked M L S t a f u follows closed covers =
    let apart = closed-apart M L S t f follows.fine closed in
    let good : Good M S t f = record { fine = follows.fine; timely = follows.timely; apart = apart } in
    let p = brought M S t f in
    let q = request_acts M S t a f in
    let prep : IsPrepared M S t f p = prepares M L S t f good in
    let m = meets M L S t a f u follows closed covers in
    let q_fine : M.Fine q.universe = L.act_fine S t p.universe a m.lazy in
    let behind : (x : M.Id) → p.at x ≤ t = λ x. elim (test (S x)) [
      | inl inside ↦ let now : p.at x ≡ t = prep.now x inside in omega (arith, now)
      | inr outside ↦ let same : p.at x ≡ f.at x = prep.at x outside in let before : f.at x ≤ t = follows.behind x in omega (arith, same, before)
    ] in
    let arises : (d : M.Event) → Stands M q.universe d → Stands M p.universe d ⊎ (t < M.second_of d) = λ d stands. elim (test (S (M.home d))) [
      | inl inside ↦ L.act_arises S t p.universe a d m.lazy inside stands
      | inr outside ↦ inl (subst (λ v. M.Owes v d) (L.act_outside S t p.universe a (M.home d) m.lazy outside) stands)
    ] in
    let q_timely : IsTimely M q = λ d stands x has. elim (arises d stands) [
      | inl before ↦ prep.good.timely d before x has
      | inr late ↦ let early : p.at x ≤ t = behind x in omega (arith, early, late)
    ] in
    let q_apart : IsApart M S t q = λ d stands due x y has_x has_y inside. elim (arises d stands) [
      | inl before ↦ prep.good.apart d before due x y has_x has_y inside
      | inr late ↦ absurd (omega (arith, due, late))
    ] in
    let q_none : NoneDue M S t q.universe = λ d stands home due. elim (arises d stands) [
      | inl before ↦ prep.none d before home due
      | inr late ↦ omega (arith, due, late)
    ] in
    let inside_is : (x : M.Id) → S x ≡ true → until M t (happened M (everything M) t q) x ≡ M.view (M.act a t u) x = λ x inside.
    let all = ends M L (everything M) t q q_fine in
    let q_good : Good M S t q = record { fine = q_fine; timely = q_timely; apart = q_apart } in
    let now : q.at x ≡ t = prep.now x inside in
    ap (λ h. until M t h x) all.is
    ∙ locality M L S (everything M) S t (in_all M S) (λ y within. within) q q all.events [] (good-all M t q q_fine q_timely) q_good q_apart q_apart (λ y within s before before'. refl)
    all.leads q_none x inside (behind x) (behind x)
    ∙ (λ i. M.gains (t - now i) (M.view q.universe x))
    ∙ gains-now M L t (M.view q.universe x)
    ∙ L.act_depends S t p.universe u a m.lazy m.ticking m.count m.agree x inside in
    let outside_is : (x : M.Id) → S x ≡ false → until M t (happened M (everything M) t q) x ≡ M.view (M.act a t u) x = λ x outside.
    let alike : Alike M (others M S) q f = λ y other. alike-same M q f y
    (L.act_outside S t p.universe a y m.lazy (not-true (S y) other) ∙ prep.view y (not-true (S y) other)) (prep.at y (not-true (S y) other)) in
    same-until M L (others M S) t q f q_fine follows.fine q_timely follows.timely (apart-others M S t q q_apart) (apart-others M S t f apart) alike x (not-false (S x) outside) (behind x) (follows.behind x)
    ∙ follows.is x
    ∙ sym (L.act_outside S t u a x m.ticking outside) in
    record {
      fine = q_fine;
      fine_ticking = L.act_fine S t u a m.ticking;
      timely = q_timely;
      count = L.act_count t p.universe u a m.count;
      behind = behind;
      none = λ d stands home due. elim (test (S (M.home d))) [
        | inl inside ↦ elim (L.act_arises S t u a d m.ticking inside stands) [
          | inl before ↦ follows.none d before refl due
          | inr late ↦ omega (arith, due, late)
        ]
        | inr outside ↦ follows.none d (subst (λ v. M.Owes v d) (L.act_outside S t u a (M.home d) m.ticking outside) stands) refl due
      ];
      is = λ x. elim (test (S x)) [ inl inside ↦ inside_is x inside | inr outside ↦ outside_is x outside ];
    }
