-- Parts of a closed set come to an earlier second before the whole set is brought.
use Rattle.std.proofs.Common.{◌≡◌, ℕ, ◌-◌, ◌≤◌, inl, inr, Bool, true, List, [], ◌∷◌, cond, arith, refl, ◌∙◌, sym, subst}
use Rattle.laziness.specs.Model.{Model}
use Rattle.laziness.specs.Laws.{ModelLaws, Stands, NoneDue, IsNext}
use Rattle.laziness.specs.Stamps.{Stamps, bring_to, event_acts, happened, IsTimely}
use Rattle.laziness.specs.Theorems.{CanBring, FirstsLead, PartsComeFirst}
use Rattle.laziness.proofs.Bringing.{test, early, Alike, alike-same, gains-until, stands-before, view-inside, view-outside, at-inside, at-outside}
use Rattle.laziness.proofs.Locality.{after, Leads, ends}
use Rattle.laziness.proofs.Preparing.{good-sooner, bring-closed, next-later}
use Rattle.laziness.proofs.Following.{happened-more}
use Rattle.laziness.proofs.Holding.{can-good, first-acts, same-alike}

-- a run to an earlier second is one first event after another
run-firsts : (M : Model) → ModelLaws M → (S : M.Id → Bool) (s t : ℕ) → s ≤ t → (es : List M.Event) (f : Stamps M) → CanBring M S t f → Leads M S s f es → FirstsLead M S s t f es (after M es f)
run-firsts M L S s t later [] f can leads = (can, leads, refl)
run-firsts M L S s t later (e ∷ es) f can leads =
    let next = next-later M L S s t f e later leads.0 in
    (can, leads.0, run-firsts M L S s t later es (event_acts M e f) (first-acts M L S t f e can next).still leads.1)

happened-firsts : (M : Model) → ModelLaws M → (S : M.Id → Bool) (s t : ℕ) (f : Stamps M) → s ≤ t → CanBring M S t f → (es : List M.Event) × FirstsLead M S s t f es (happened M S s f)
happened-firsts M L S s t f later can =
    let run = ends M L S s f can.fine in
    (run.events, subst (FirstsLead M S s t f run.events) (sym run.is) (run-firsts M L S s t later run.events f can run.leads))

-- What stays with each first event holds at the end, if it holds at first.
pub firsts-keep : (M : Model) (S : M.Id → Bool) (s t : ℕ) (Q : Stamps M → Type 0) → ((g : Stamps M) (e : M.Event) → CanBring M S t g → Q g → IsNext M S s g.universe e → Q (event_acts M e g))
    → (es : List M.Event) (f end : Stamps M) → FirstsLead M S s t f es end → Q f → Q end × CanBring M S t end × NoneDue M S s end.universe
firsts-keep M S s t Q stays [] f end leads holds = subst (λ g. Q g × CanBring M S t g × NoneDue M S s g.universe) (sym leads.2) (holds, leads.0, leads.1)
firsts-keep M S s t Q stays (e ∷ es) f end leads holds = firsts-keep M S s t Q stays es (event_acts M e f) end leads.2 (stays f e leads.0 holds leads.1)

-- What holds of a set that can be brought, and stays with each first event by a second, holds once none of these is left; and the set
-- can still be brought.
pub each-keeps : (M : Model) → PartsComeFirst M → (S : M.Id → Bool) (s t : ℕ) (f : Stamps M) (Q : Stamps M → Type 0) → s ≤ t → CanBring M S t f → Q f
    → ((g : Stamps M) (e : M.Event) → CanBring M S t g → Q g → IsNext M S s g.universe e → Q (event_acts M e g))
    → Q (happened M S s f) × CanBring M S t (happened M S s f) × NoneDue M S s (happened M S s f).universe
each-keeps M parts S s t f Q later can holds stays =
    let firsts = parts.each S s t f later can in
    firsts-keep M S s t Q stays firsts.0 f (happened M S s f) firsts.1 holds

happened-still : (M : Model) → ModelLaws M → (S : M.Id → Bool) (s t : ℕ) (f : Stamps M) → s ≤ t → CanBring M S t f
    → CanBring M S t (happened M S s f) × NoneDue M S s (happened M S s f).universe
happened-still M L S s t f later can =
    let firsts = happened-firsts M L S s t f later can in
    let kept = firsts-keep M S s t (λ g. Unit {0}) (λ g e can_g holds next. tt) firsts.0 f (happened M S s f) firsts.1 tt in
    (kept.1, kept.2)

-- a set can still be brought after some of its cells came to a second by which nothing is due
part-still : (M : Model) → ModelLaws M → (S P : M.Id → Bool) (s t : ℕ) (f : Stamps M) → s ≤ t → CanBring M S t f → NoneDue M S s f.universe → ((x : M.Id) → P x ≡ true → S x ≡ true)
    → CanBring M S t (bring_to M P s f)
part-still M L S P s t f later can none within =
    let k = λ (x : M.Id). cond (P x) (s - f.at x) 0 in
    let p = bring_to M P s f in
    let apart = (good-sooner M S s t f later (can-good M L S t f can)).apart in
    let timely : IsTimely M p = λ e stands x has.
    let before : Stands M f.universe e = stands-before M L k f.universe e stands in
    elim (test (P x)) [
      | inl inside ↦
          let now : p.at x ≡ s = at-inside M P s f x inside in
          elim (early (M.second_of e) s) [
            | inl due ↦ absurd (none e before (apart e before due x (M.home e) has (L.home e) (within x inside)) due)
            | inr late ↦ omega (arith, now, late)
          ]
      | inr outside ↦
          let same : p.at x ≡ f.at x = at-outside M P s f x outside in
          let first : f.at x ≤ M.second_of e = can.timely e before x has in
          omega (arith, same, first)
    ] in
    record {
      fine = L.advance_fine k f.universe can.fine;
      timely = timely;
      closed = bring-closed M L S t k f.universe can.closed;
      behind = λ x inside. elim (test (P x)) [
        | inl has ↦ let now : p.at x ≡ s = at-inside M P s f x has in omega (arith, now, later)
        | inr other ↦ let same : p.at x ≡ f.at x = at-outside M P s f x other in let before : f.at x ≤ t = can.behind x inside in omega (arith, same, before)
      ];
    }

-- cells that came to a second are alike to what they were
part-alike : (M : Model) → ModelLaws M → (S P : M.Id → Bool) (s : ℕ) (f : Stamps M) → ((x : M.Id) → P x ≡ true → f.at x ≤ s) → Alike M S (bring_to M P s f) f
part-alike M L S P s f behind x inside =
    elim (test (P x)) [
      | inl has ↦ λ r before before'.
          let p = bring_to M P s f in
          let now : p.at x ≡ s = at-inside M P s f x has in
          let to_r : s ≤ r = omega (arith, now, before) in
          (λ i. M.gains (r - now i) (view-inside M L P s f x has i)) ∙ gains-until M L s r (f.at x) (M.view f.universe x) (behind x has) to_r
      | inr other ↦ alike-same M (bring_to M P s f) f x (view-outside M L P s f x other) (at-outside M P s f x other)
    ]

pub parts-come-first : (M : Model) → ModelLaws M → PartsComeFirst M
parts-come-first M L = record {
  each = happened-firsts M L;
  still = happened-still M L;
  onward = λ S s t f later can. sym (happened-more M L S s t f later (can-good M L S t f can));
  early = λ S P s t f later can none within behind.
      let can_p = part-still M L S P s t f later can none within in
      (can_p, same-alike M L S t (bring_to M P s f) f can_p can (part-alike M L S P s f behind));
}
