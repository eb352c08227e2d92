-- What the last state of the words says to a view that has all rights and numbers.
use Rattle.std.proofs.Common.{◌≡◌, ℕ, ◌<◌, ◌≤◌, List, length, refl, sym, ap, ◌∙◌, subst, arith}
use Rattle.std.specs.Prelude.{All, Contains}
use mathlib.Core.Option.{some, some-injective}
use lib.ListN.{get_elem?}
use Rattle.atomic_table.specs.Table.{State}
use Rattle.fronts.specs.declared.claim.Claim.TheVariants.{Pen, Flush}
use Rattle.fronts.specs.declared.view.Sent.{Sent}
use Rattle.fronts.specs.declared.view.View.{View}
use Rattle.fronts.specs.Start.{Start}
use Rattle.fronts.specs.History.{found_by}
use Rattle.fronts.specs.Ends.{HasAllCalls, HasAllNumbers}
use Rattle.fronts.specs.Rule.{Holds}
use Rattle.fronts.specs.Views.{spent}
use Rattle.fronts.proofs.Listed.{all_rest, sum_set}
use Rattle.fronts.proofs.Following.{pen_sees_all}

module _ {S : Type 0} (start : Start) (s : State S View) (ws : List ℕ) (id : ℕ) (v : View) (h : Holds start s) (at : get_elem? s.views id ≡ some v) (same : s.words ≡ ws) where
  first_is : (x : ℕ) → get_elem? ws 0 ≡ some x → x ≡ h.count
  first_is x e = some-injective x h.count (sym e ∙ ap (λ (l : List ℕ). get_elem? l 0) (sym same ∙ h.words))

  second_is : (x : ℕ) → get_elem? ws 1 ≡ some x → x ≡ h.durable
  second_is x e = some-injective x h.durable (sym e ∙ ap (λ (l : List ℕ). get_elem? l 1) (sym same ∙ h.words))

  module _ (pen : Contains v.claims Pen) (flush : Contains v.claims Flush) where
    all : v.front ≡ h.kept.history
    all = pen_sees_all start v.claims v.front h.kept.history pen (h.kept.sees id v at).seen

    pub entries_at_end : (x : ℕ) → get_elem? ws 0 ≡ some x → x ≡ length v.front
    entries_at_end x e = first_is x e ∙ h.kept.length_is ∙ sym (ap length all)

    pub durable_at_end : (x : ℕ) → get_elem? ws 1 ≡ some x → x ≡ v.durable
    durable_at_end x e = second_is x e ∙ sym ((h.kept.counts id v at).pen pen)

    pub within_at_end : v.durable ≤ length v.front
    within_at_end = let known = (h.kept.counts id v at).pen pen in omega (arith, h.kept.less, h.kept.length_is, ap length all, known)

    pub marks_at_end : v.marks ≤ v.given
    marks_at_end =
        let known : v.given ≡ h.kept.given = ((h.kept.counts id v at).flush flush).1 in
        let none : spent.marks ≡ 0 = refl in
        omega (arith, sum_set (λ (u : View). u.marks) s.views id v spent at, h.kept.marks, known)

    pub calls_at_end : HasAllNumbers v → HasAllCalls start v
    calls_at_end joined =
        let k = h.kept in
        let gives = (k.sees id v at).gives joined.may_give in
        let later = k.is_history.later in
        let numbers : All (λ (x : Sent). x.pass < k.next) later = all_rest (λ (x : Sent). x.pass < k.next) (found_by start) later (subst (All (λ (x : Sent). x.pass < k.next)) (sym k.is_history.begins) k.numbers) in record {
          later = later;
          begins = k.is_history.begins ∙ sym all;
          calls = λ i d less. let some = k.is_history.passes i d less in let under = numbers i d less in (omega arith, omega (arith, gives.1));
        }
