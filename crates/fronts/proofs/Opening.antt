-- The rule at the start, and the first view.
use Rattle.std.proofs.Common.{◌≡◌, ℕ, zero, suc, ◌<◌, List, [], ◌∷◌, length, map, ⊎_elim, refl, sym, ap, ◌∙◌, subst, arith}
use Rattle.std.specs.Prelude.{Contains}
use Rattle.std.proofs.lemmas.List.{append-nil, length-map}
use Rattle.std.proofs.lemmas.List.Elements.{All-map}
use mathlib.Core.Option.{some, some-injective, some-ne-none}
use lib.ListN.{get_elem?}
use Rattle.atomic_table.specs.Table.{opening}
use Rattle.base_ids.specs.declared.cell_id.CellId.{CellId}
use Rattle.request_text.specs.declared.entry.Entry.{Entry}
use Rattle.fronts.specs.declared.claim.Claim.TheVariants.{Pen, Flush, Number, Cell}
use Rattle.fronts.specs.declared.view.Sent.{Sent}
use Rattle.fronts.specs.declared.view.View.{View}
use Rattle.fronts.specs.Start.{Start}
use Rattle.fronts.specs.History.{IsBounded, IsHistory, entries_of, found_by, sent}
use Rattle.fronts.specs.Rule.{Counts, Holds, Sees}
use Rattle.fronts.specs.Tokens.{IsPass, IsToken}
use Rattle.fronts.specs.Views.{first_view}
use Rattle.fronts.proofs.Listed.{contains_cases, contains_head, contains_none, contains_tail}
use Rattle.fronts.proofs.Following.{follows_none, follows_self}

entries_found : (xs : List Entry) → entries_of (map (sent 0) xs) ≡ xs
entries_found [] = refl
entries_found (x ∷ xs) = ap (λ l. x ∷ l) (entries_found xs)

no_numbers : (cells : List CellId) (n : ℕ) → Contains (map Cell cells) (Number n) → ⊥
no_numbers [] n h = contains_none (Number n) h
no_numbers (x ∷ cells) n h =
    ⊎_elim (λ (same : Cell x ≡ Number n). absurd (cc same)) (λ (t : Contains (map Cell cells) (Number n)). no_numbers cells n t) (contains_cases (Number n) (Cell x) (map Cell cells) h)

module _ (start : Start) where
  pub first_history : IsBounded start start.found → IsHistory start (found_by start)
  first_history bounded = record {
    bounded = subst (IsBounded start) (sym (entries_found start.found)) bounded;
    later = [];
    begins = append-nil (found_by start);
    passes = λ k d less. absurd (omega arith);
  }

  only_one : (n : ℕ) → Contains (first_view start).claims (Number n) → n < 2
  only_one n h =
      ⊎_elim (λ (same : Pen ≡ Number n). absurd (cc same))
      (λ (more : Contains (Flush ∷ Number 1 ∷ map Cell start.cells) (Number n)).
      ⊎_elim (λ (same : Flush ≡ Number n). absurd (cc same))
      (λ (last : Contains (Number 1 ∷ map Cell start.cells) (Number n)).
      ⊎_elim (λ (same : Number 1 ≡ Number n). let is : 1 ≡ n = cc same in omega arith) (λ (t : Contains (map Cell start.cells) (Number n)). absurd (no_numbers start.cells n t)) (contains_cases (Number n) (Number 1) (map Cell start.cells) last))
      (contains_cases (Number n) Flush (Number 1 ∷ map Cell start.cells) more))
      (contains_cases (Number n) Pen (Flush ∷ Number 1 ∷ map Cell start.cells) h)

  first_sees : Sees start (found_by start) (λ c. 0) 0 2 0 (first_view start)
  first_sees = record {
    seen = follows_self start (first_view start).claims (found_by start);
    heard = follows_none start (found_by start);
    keeps = λ c h. absurd (contains_none c h);
    owns = λ c h. refl;
    numbers = only_one;
    gives = λ some. (refl, refl);
  }

  first_counts : Counts (length start.found) 0 (first_view start)
  first_counts = record { no_more = omega arith; no_more_marks = omega arith; pen = λ h. refl; flush = λ h. (refl, refl) }

  pub opens : {S : Type 0} (n : ℕ) → n ≡ length start.found → IsBounded start start.found → Holds {S = S} start (opening (n ∷ n ∷ []) [] (first_view start))
  opens n is bounded = record {
    count = n;
    durable = n;
    words = refl;
    kept = record {
      history = found_by start;
      owner = λ c. 0;
      giver = 0;
      next = 2;
      given = 0;
      length_is = is ∙ sym (length-map start.found (sent 0));
      is_history = first_history bounded;
      numbers = All-map (λ (s : Sent). s.pass < 2) (sent 0) start.found (λ k d less. omega arith);
      less = omega arith;
      marks = refl;
      sees = sees;
      counts = counts;
    };
  }
    where
      sees : (i : ℕ) (v : View) → get_elem? (first_view start ∷ []) i ≡ some v → Sees start (found_by start) (λ c. 0) 0 2 i v
      sees zero v e = subst (Sees start (found_by start) (λ c. 0) 0 2 0) (some-injective (first_view start) v e) first_sees
      sees (suc i) v e = absurd (some-ne-none v (sym e))

      counts : (i : ℕ) (v : View) → get_elem? (first_view start ∷ []) i ≡ some v → Counts n 0 v
      counts zero v e = subst (Counts n 0) (some-injective (first_view start) v e) (subst (λ m. Counts m 0 (first_view start)) (sym is) first_counts)
      counts (suc i) v e = absurd (some-ne-none v (sym e))

  pub first_is_token : IsBounded start start.found → IsToken start (first_view start)
  first_is_token bounded = record { is_history = first_history bounded; nothing_heard = refl; nothing_kept = refl }

  pub first_is_pass : IsBounded start start.found → IsPass start (first_view start)
  first_is_pass bounded = record {
    is_token = first_is_token bounded;
    some_number = λ e. omega arith;
    own_number = contains_tail (Number 1) Pen (Flush ∷ Number 1 ∷ map Cell start.cells) (contains_tail (Number 1) Flush (Number 1 ∷ map Cell start.cells) (contains_head (Number 1) (map Cell start.cells)));
  }
