-- Two views become one, and the rule is kept; and the rule at the start and at the end.
use Rattle.std.proofs.Common.{◌≡◌, ◌≢◌, ℕ, ◌+◌, ◌<◌, ◌≤◌, Bool, true, false, List, ◌++◌, length, set, ⊎_elim, refl, sym, ◌∙◌, subst, arith, eq-eqb, ne_eqb}
use Rattle.std.specs.Prelude.{Contains, sum_by, nat_lt, ◌==◌, if◌then◌else◌}
use Rattle.std.proofs.lemmas.List.Elements.{Contains-append_cases, Contains-append_left, Contains-append_right}
use Rattle.std.proofs.lemmas.Bool.Decides.{nat_tests}
use mathlib.Core.Option.{some}
use lib.ListN.{get_elem?}
use Rattle.atomic_table.specs.Table.{Joins}
use Rattle.atomic_table.proofs.Lists.{at_set}
use Rattle.fronts.specs.declared.claim.Claim.{Claim}
use Rattle.fronts.specs.declared.claim.Claim.TheVariants.{Pen, Flush, Number}
use Rattle.fronts.specs.declared.view.View.{View}
use Rattle.fronts.specs.Start.{Start}
use Rattle.fronts.specs.Views.{as_one, both, spent}
use Rattle.fronts.specs.Rule.{Counts, Holds, IsKept, Sees}
use Rattle.fronts.proofs.Listed.{contains_none, sum_set}
use Rattle.fronts.proofs.Following.{follows_both, follows_longer, follows_none}

-- the seat that now has what a seat had: one seat's things go over to another one
abbrev taken_over : ℕ → ℕ → ℕ → ℕ
taken_over other id seat = if seat == other then id else seat

taken_here : (other id seat : ℕ) → seat ≡ other → taken_over other id seat ≡ id
taken_here other id seat same = rw (eq-eqb seat other same) refl

taken_else : (other id seat : ℕ) → seat ≢ other → taken_over other id seat ≡ seat
taken_else other id seat apart = rw (ne_eqb seat other apart) refl

module _ (start : Start) where
  module _ (n d : ℕ) (views : List View) (k : IsKept start n d views) (id other : ℕ) (v w : View) (at : get_elem? views id ≡ some v) (there : get_elem? views other ≡ some w) (apart : other ≢ id) where
    owner : Claim → ℕ
    owner c = taken_over other id (k.owner c)

    giver : ℕ
    giver = taken_over other id k.giver

    mine : Sees start k.history k.owner k.giver k.next id v
    mine = k.sees id v at

    theirs : Sees start k.history k.owner k.giver k.next other w
    theirs = k.sees other w there

    has : (c : Claim) → Contains (v.claims ++ w.claims) c → owner c ≡ id
    unfolding owner
    has c h =
        ⊎_elim
        (λ (l : Contains v.claims c). taken_else other id (k.owner c) (λ e. apart (sym e ∙ mine.owns c l)) ∙ mine.owns c l)
        (λ (r : Contains w.claims c). taken_here other id (k.owner c) (theirs.owns c r))
        (Contains-append_cases v.claims w.claims c h)

    numbers : (m : ℕ) → Contains (v.claims ++ w.claims) (Number m) → m < k.next
    numbers m h = ⊎_elim (λ (l : Contains v.claims (Number m)). mine.numbers m l) (λ (r : Contains w.claims (Number m)). theirs.numbers m r) (Contains-append_cases v.claims w.claims (Number m) h)

    gives : v.next + w.next ≢ 0 → (id ≡ giver) × (v.next + w.next ≡ k.next)
    unfolding giver
    gives may = on (v.next == 0) refl (w.next == 0) refl
      where
        on : (a : Bool) → (v.next == 0) ≡ a → (b : Bool) → (w.next == 0) ≡ b → (id ≡ taken_over other id k.giver) × (v.next + w.next ≡ k.next)
        on true a true b = let l : v.next ≡ 0 = grind (arith, nat_tests) in let r : w.next ≡ 0 = grind (arith, nat_tests) in absurd (may (omega arith))
        on true a false b =
            let l : v.next ≡ 0 = grind (arith, nat_tests) in
            let r : w.next ≢ 0 = grind (arith, nat_tests) in
            let g = theirs.gives r in
            (sym (taken_here other id k.giver (sym g.0)), (let is = g.1 in omega arith))
        on false a true b =
            let l : v.next ≢ 0 = grind (arith, nat_tests) in
            let r : w.next ≡ 0 = grind (arith, nat_tests) in
            let g = mine.gives l in
            (g.0 ∙ sym (taken_else other id k.giver (λ e. apart (sym e ∙ sym g.0))), (let is = g.1 in omega arith))
        on false a false b =
            let l : v.next ≢ 0 = grind (arith, nat_tests) in
            let r : w.next ≢ 0 = grind (arith, nat_tests) in
            absurd (apart ((theirs.gives r).0 ∙ sym (mine.gives l).0))

    sees_both : (shorter : Bool) → nat_lt (length v.front) (length w.front) ≡ shorter → Sees start k.history owner giver k.next id (as_one shorter v w)
    sees_both true e =
        let less : length v.front ≤ length w.front = grind (arith, nat_tests) in record {
          seen = follows_both start v.claims w.claims w.front k.history (follows_longer start v.claims w.claims v.front w.front k.history mine.seen theirs.seen less) theirs.seen;
          heard = mine.seen;
          keeps = λ c h. Contains-append_left v.claims w.claims c h;
          owns = has;
          numbers = numbers;
          gives = gives;
        }
    sees_both false e =
        let less : length w.front ≤ length v.front = grind (arith, nat_tests) in record {
          seen = follows_both start v.claims w.claims v.front k.history mine.seen (follows_longer start w.claims v.claims w.front v.front k.history theirs.seen mine.seen less);
          heard = theirs.seen;
          keeps = λ c h. Contains-append_right v.claims w.claims c h;
          owns = has;
          numbers = numbers;
          gives = gives;
        }

    sees_spent : Sees start k.history owner giver k.next other spent
    sees_spent = record {
      seen = follows_none start k.history;
      heard = follows_none start k.history;
      keeps = λ c h. absurd (contains_none c h);
      owns = λ c h. absurd (contains_none c h);
      numbers = λ m h. absurd (contains_none (Number m) h);
      gives = λ some. absurd (some refl);
    }

    sees_else : (j : ℕ) (u : View) → j ≢ other → Sees start k.history k.owner k.giver k.next j u → Sees start k.history owner giver k.next j u
    unfolding owner giver
    sees_else j u off s = record {
      seen = s.seen;
      heard = s.heard;
      keeps = s.keeps;
      owns = λ c h. taken_else other id (k.owner c) (λ e. off (sym (s.owns c h) ∙ e)) ∙ s.owns c h;
      numbers = s.numbers;
      gives = λ some. let g = s.gives some in (g.0 ∙ sym (taken_else other id k.giver (λ e. off (g.0 ∙ e))), g.1);
    }

    one : View
    one = both v w

    sees_one : Sees start k.history owner giver k.next id one
    unfolding one
    sees_one = sees_both (nat_lt (length v.front) (length w.front)) refl

    counts_one : Counts d k.given one
    unfolding one
    counts_one =
        let l = k.counts id v at in
        let r = k.counts other w there in
        let l_durable = l.no_more in
        let r_durable = r.no_more in
        let l_given = l.no_more_marks in
        let r_given = r.no_more_marks in record {
          no_more = omega arith;
          no_more_marks = omega arith;
          pen = λ h. ⊎_elim
              (λ (x : Contains v.claims Pen). let e = l.pen x in omega arith)
              (λ (x : Contains w.claims Pen). let e = r.pen x in omega arith)
              (Contains-append_cases v.claims w.claims Pen h);
          flush = λ h. ⊎_elim
              (λ (x : Contains v.claims Flush). let e : v.durable ≡ d = (l.flush x).0 in let f : v.given ≡ k.given = (l.flush x).1 in (omega arith, omega arith))
              (λ (x : Contains w.claims Flush). let e : w.durable ≡ d = (r.flush x).0 in let f : w.given ≡ k.given = (r.flush x).1 in (omega arith, omega arith))
              (Contains-append_cases v.claims w.claims Flush h);
        }

    each_is : (P : ℕ → View → Type 0) → P id one → P other spent → ((j : ℕ) (u : View) → j ≢ other → get_elem? views j ≡ some u → P j u)
        → (j : ℕ) (u : View) → get_elem? (set (set views id one) other spent) j ≡ some u → P j u
    each_is P here gone others j u e =
        ⊎_elim
        (λ (t : (j ≡ other) × (spent ≡ u)). subst (λ m. P m u) (sym t.0) (subst (P other) t.1 gone))
        (λ (t : (j ≢ other) × (get_elem? (set views id one) j ≡ some u)).
        ⊎_elim
        (λ (x : (j ≡ id) × (one ≡ u)). subst (λ m. P m u) (sym x.0) (subst (P id) x.1 here))
        (λ (x : (j ≢ id) × (get_elem? views j ≡ some u)). others j u t.0 x.1)
        (at_set views id j one u t.1))
        (at_set (set views id one) other j spent u e)

    marks_stay : get_elem? (set views id one) other ≡ some w → sum_by (λ (u : View). u.marks) (set (set views id one) other spent) ≡ k.given
    unfolding one
    marks_stay still = omega (arith, sum_set (λ (u : View). u.marks) (set views id (both v w)) other w spent still, sum_set (λ (u : View). u.marks) views id v (both v w) at, k.marks)

    pub united : get_elem? (set views id (both v w)) other ≡ some w → IsKept start n d (set (set views id (both v w)) other spent)
    unfolding one
    united still = record {
      history = k.history;
      owner = owner;
      giver = giver;
      next = k.next;
      given = k.given;
      length_is = k.length_is;
      is_history = k.is_history;
      numbers = k.numbers;
      less = k.less;
      marks = marks_stay still;
      sees = each_is (Sees start k.history owner giver k.next) sees_one sees_spent (λ j u off e. sees_else j u off (k.sees j u e));
      counts = each_is (λ j u. Counts d k.given u) counts_one
          (record { no_more = omega arith; no_more_marks = omega arith; pen = λ h. absurd (contains_none Pen h); flush = λ h. absurd (contains_none Flush h) })
          (λ j u off e. k.counts j u e);
    }

  pub join : {S : Type 0} (id : ℕ) (v : View) (other : ℕ) (w : View) → Joins {S = S} (Holds start) id v other w (both v w) spent
  join {S} id v other w s h at apart still =
      let there : get_elem? s.views other ≡ some w =
      ⊎_elim (λ (t : (other ≡ id) × (both v w ≡ w)). absurd (apart t.0)) (λ (t : (other ≢ id) × (get_elem? s.views other ≡ some w)). t.1) (at_set s.views id other (both v w) w still) in record {
        count = h.count;
        durable = h.durable;
        words = h.words;
        kept = united h.count h.durable s.views h.kept id other v w at there apart still;
      }
