-- A view is cut in two, and the rule is kept.
use Rattle.std.proofs.Common.{◌≡◌, ◌≢◌, ℕ, ◌+◌, ◌<◌, List, [], ◌∷◌, ◌++◌, length, set, ⊎_elim, refl, sym, ap, ◌∙◌, subst, arith}
use Rattle.std.specs.Prelude.{All, Contains}
use Rattle.std.proofs.lemmas.List.Elements.{All-weaker}
use mathlib.Core.Option.{some}
use lib.ListN.{get_elem?}
use Rattle.atomic_table.specs.Table.{Splits}
use Rattle.fronts.specs.declared.claim.Claim.{Claim}
use Rattle.fronts.specs.declared.claim.Claim.TheVariants.{Pen, Flush, Number}
use Rattle.fronts.specs.declared.view.Sent.{Sent}
use Rattle.fronts.specs.declared.view.View.{View}
use Rattle.fronts.specs.Start.{Start}
use Rattle.fronts.specs.Claims.{Concerns, Follows, IsQuiet}
use Rattle.fronts.specs.Views.{new_pass, note_with, note_with_mark, with_claim_given, with_mark_given, with_pass_given, without}
use Rattle.fronts.specs.Rule.{Counts, Holds, IsKept, Sees}
use Rattle.fronts.proofs.Listed.{all_rest, all_tail, contains_cases, contains_none, each_end, each_set, length_set, sum_end, sum_set}
use Rattle.fronts.proofs.Following.{follows_fewer, follows_none}
use Rattle.fronts.proofs.Owning.{given_else, given_here, given_to, left_in}

-- the view that is cut off: it has the front and the counts of the other one, and these claims
abbrev cut_off : View → ℕ → ℕ → List Claim → View
cut_off v number marks claims = record { number = number; next = 0; durable = v.durable; given = v.given; marks = marks; front = v.front; claims = claims; heard = []; kept = [] }

module _ (start : Start) where
  parted : (n d : ℕ) (views : List View) (k : IsKept start n d views) (id : ℕ) (v left right : View) (owner : Claim → ℕ) (next : ℕ) → get_elem? views id ≡ some v
      → left.marks + right.marks ≡ v.marks → All (λ s. s.pass < next) k.history
      → ((j : ℕ) (u : View) → j ≢ id → get_elem? views j ≡ some u → Sees start k.history owner k.giver next j u)
      → Sees start k.history owner k.giver next id left → Sees start k.history owner k.giver next (length views) right
      → Counts d k.given left → Counts d k.given right → IsKept start n d (set views id left ++ right ∷ [])
  parted n d views k id v left right owner next at marks numbers others sees_left sees_right counts_left counts_right =
      let P : ℕ → View → Type 0 = Sees start k.history owner k.giver next in
      let Q : ℕ → View → Type 0 = λ j u. Counts d k.given u in
      let row = set views id left in record {
        history = k.history;
        owner = owner;
        giver = k.giver;
        next = next;
        given = k.given;
        length_is = k.length_is;
        is_history = k.is_history;
        numbers = numbers;
        less = k.less;
        marks = omega (arith, sum_end (λ (u : View). u.marks) row right, sum_set (λ (u : View). u.marks) views id v left at, k.marks, marks);
        sees = each_end P row right (each_set P views id left others sees_left) (subst (λ m. P m right) (sym (length_set views id left)) sees_right);
        counts = each_end Q row right (each_set Q views id left (λ j u apart e. k.counts j u e) counts_left) counts_right;
      }

  cut_off_sees : (history : List Sent) (owner : Claim → ℕ) (giver next i : ℕ) (v : View) (number marks : ℕ) (claims : List Claim) → Follows start claims v.front history
      → ((c : Claim) → Contains claims c → owner c ≡ i) → ((n : ℕ) → Contains claims (Number n) → n < next) → Sees start history owner giver next i (cut_off v number marks claims)
  cut_off_sees history owner giver next i v number marks claims seen owns numbers = record {
    seen = seen;
    heard = follows_none start history;
    keeps = λ c h. absurd (contains_none c h);
    owns = owns;
    numbers = numbers;
    gives = λ some. absurd (some refl);
  }

  -- a view with nothing to do
  idle_sees : (history : List Sent) (owner : Claim → ℕ) (giver next i : ℕ) (v : View) (number marks : ℕ) (cs : List Claim) → Follows start cs v.front history → Sees start history owner giver next i (cut_off v number marks [])
  idle_sees history owner giver next i v number marks cs f =
      cut_off_sees history owner giver next i v number marks [] (follows_fewer start cs [] v.front history (λ c h. absurd (contains_none c h)) f) (λ c h. absurd (contains_none c h)) (λ n h. absurd (contains_none (Number n) h))

  idle_counts : (d g : ℕ) (v : View) (number marks : ℕ) → Counts d g v → Counts d g (cut_off v number marks [])
  idle_counts d g v number marks c = record { no_more = c.no_more; no_more_marks = c.no_more_marks; pen = λ h. absurd (contains_none Pen h); flush = λ h. absurd (contains_none Flush h) }

  pub note : {S : Type 0} (id : ℕ) (v : View) → Splits {S = S} (Holds start) id v v (note_with v [])
  note {S} id v s h at =
      let k = h.kept in
      let mine = k.sees id v at in
      let counts = k.counts id v at in record {
        count = h.count;
        durable = h.durable;
        words = h.words;
        kept = parted h.count h.durable s.views k id v v (note_with v []) k.owner k.next at (omega arith) k.numbers (λ j u apart e. k.sees j u e) mine
            (idle_sees k.history k.owner k.giver k.next (length s.views) v 0 0 v.claims mine.seen) counts (idle_counts h.durable k.given v 0 0 counts);
      }

  pub give_mark : {S : Type 0} (id : ℕ) (v : View) → 0 < v.marks → Splits {S = S} (Holds start) id v (with_mark_given v) (note_with_mark v)
  give_mark {S} id v some_mark s h at =
      let k = h.kept in
      let mine = k.sees id v at in
      let counts = k.counts id v at in record {
        count = h.count;
        durable = h.durable;
        words = h.words;
        kept = parted h.count h.durable s.views k id v (with_mark_given v) (note_with_mark v) k.owner k.next at (omega arith) k.numbers (λ j u apart e. k.sees j u e)
            (record { seen = mine.seen; heard = mine.heard; keeps = mine.keeps; owns = mine.owns; numbers = mine.numbers; gives = mine.gives })
            (idle_sees k.history k.owner k.giver k.next (length s.views) v 0 1 v.claims mine.seen)
            (record { no_more = counts.no_more; no_more_marks = counts.no_more_marks; pen = counts.pen; flush = counts.flush })
            (idle_counts h.durable k.given v 0 1 counts);
      }

  -- a number that was not given yet has no entry
  new_number_quiet : (n : ℕ) (xs ys : List Sent) → All (λ s. s.pass < n) ys → IsQuiet start (Number n ∷ []) xs ys
  new_number_quiet n xs [] h = tt
  new_number_quiet n xs (s ∷ ys) h = (none, new_number_quiet n (xs ++ s ∷ []) ys (all_tail (λ (x : Sent). x.pass < n) s ys h))
    where
      none : (c : Claim) → Contains (Number n ∷ []) c → Concerns start xs s c → ⊥
      none c there concerns =
          ⊎_elim
          (λ (same : Number n ≡ c). let is : s.pass ≡ n = subst (Concerns start xs s) (sym same) concerns in let less : s.pass < n = h 0 s (omega arith) in omega arith)
          (λ (t : Contains [] c). contains_none c t)
          (contains_cases c (Number n) [] there)

  new_pass_kept : (n d : ℕ) (views : List View) (k : IsKept start n d views) (id : ℕ) (v : View) → get_elem? views id ≡ some v → v.next ≢ 0 → IsKept start n d (set views id (with_pass_given v) ++ new_pass v ∷ [])
  new_pass_kept n d views k id v at may =
      let mine = k.sees id v at in
      let counts = k.counts id v at in
      let gives = mine.gives may in
      let owner = given_to (Number v.next) (length views) k.owner in
      let more : (m : ℕ) → m < k.next → m < k.next + 1 = λ m less. omega arith in
      let owned : (j : ℕ) (u : View) → Sees start k.history k.owner k.giver k.next j u → (c : Claim) → Contains u.claims c → owner c ≡ j =
      λ j u s c h. given_else (Number v.next) (length views) k.owner c (λ same. let less = s.numbers v.next (subst (Contains u.claims) (sym same) h) in let is = gives.1 in omega arith) ∙ s.owns c h in
      let fresh : Follows start (Number v.next ∷ []) v.front k.history = record {
        later = mine.seen.later;
        begins = mine.seen.begins;
        quiet = new_number_quiet v.next v.front mine.seen.later (all_rest (λ (s : Sent). s.pass < v.next) v.front mine.seen.later (subst (All (λ (s : Sent). s.pass < v.next)) (sym mine.seen.begins) (subst (λ m. All (λ (s : Sent). s.pass < m) k.history) (sym gives.1) k.numbers)));
      } in
      parted n d views k id v (with_pass_given v) (new_pass v) owner (k.next + 1) at (omega arith)
      (All-weaker (λ (s : Sent). s.pass < k.next) (λ (s : Sent). s.pass < k.next + 1) (λ s less. omega arith) k.history k.numbers)
      (λ j u apart e. let theirs = k.sees j u e in
      record {
        seen = theirs.seen;
        heard = theirs.heard;
        keeps = theirs.keeps;
        owns = owned j u theirs;
        numbers = λ m h. more m (theirs.numbers m h);
        gives = λ some. absurd (apart ((theirs.gives some).0 ∙ sym gives.0));
      })
      (record {
        seen = mine.seen;
        heard = mine.heard;
        keeps = mine.keeps;
        owns = owned id v mine;
        numbers = λ m h. more m (mine.numbers m h);
        gives = λ some. (gives.0, ap (λ (m : ℕ). m + 1) gives.1);
      })
      (cut_off_sees k.history owner k.giver (k.next + 1) (length views) v v.next 0 (Number v.next ∷ []) fresh
      (λ c h. ⊎_elim (λ (same : Number v.next ≡ c). subst (λ x. owner x ≡ length views) same (given_here (Number v.next) (length views) k.owner)) (λ (t : Contains [] c). absurd (contains_none c t)) (contains_cases c (Number v.next) [] h))
      (λ m h. ⊎_elim (λ (same : Number v.next ≡ Number m). let is : v.next ≡ m = cc same in let known = gives.1 in omega arith) (λ (t : Contains [] (Number m)). absurd (contains_none (Number m) t)) (contains_cases (Number m) (Number v.next) [] h)))
      (record { no_more = counts.no_more; no_more_marks = counts.no_more_marks; pen = counts.pen; flush = counts.flush })
      (record {
        no_more = counts.no_more;
        no_more_marks = counts.no_more_marks;
        pen = λ h. ⊎_elim (λ (same : Number v.next ≡ Pen). absurd (cc same)) (λ (t : Contains [] Pen). absurd (contains_none Pen t)) (contains_cases Pen (Number v.next) [] h);
        flush = λ h. ⊎_elim (λ (same : Number v.next ≡ Flush). absurd (cc same)) (λ (t : Contains [] Flush). absurd (contains_none Flush t)) (contains_cases Flush (Number v.next) [] h);
      })

  pub split : {S : Type 0} (id : ℕ) (v : View) → v.next ≢ 0 → Splits {S = S} (Holds start) id v (with_pass_given v) (new_pass v)
  split {S} id v may s h at = record { count = h.count; durable = h.durable; words = h.words; kept = new_pass_kept h.count h.durable s.views h.kept id v at may }

  give_kept : (n d : ℕ) (views : List View) (k : IsKept start n d views) (id : ℕ) (v : View) (claim : Claim) → get_elem? views id ≡ some v → Contains v.claims claim
      → IsKept start n d (set views id (with_claim_given claim v) ++ note_with v (claim ∷ []) ∷ [])
  give_kept n d views k id v claim at has =
      let mine = k.sees id v at in
      let counts = k.counts id v at in
      let owner = given_to claim (length views) k.owner in
      let within : (c : Claim) → Contains (claim ∷ []) c → Contains v.claims c =
      λ c h. ⊎_elim (λ (same : claim ≡ c). subst (Contains v.claims) same has) (λ (t : Contains [] c). absurd (contains_none c t)) (contains_cases c claim [] h) in
      let left : (c : Claim) → Contains (without claim v.claims) c → Contains v.claims c = λ c h. (left_in claim v.claims c h).0 in
      parted n d views k id v (with_claim_given claim v) (note_with v (claim ∷ [])) owner k.next at (omega arith) k.numbers
      (λ j u apart e. let theirs = k.sees j u e in
      record {
        seen = theirs.seen;
        heard = theirs.heard;
        keeps = theirs.keeps;
        owns = λ c h. given_else claim (length views) k.owner c (λ same. apart (sym (theirs.owns claim (subst (Contains u.claims) (sym same) h)) ∙ mine.owns claim has)) ∙ theirs.owns c h;
        numbers = theirs.numbers;
        gives = theirs.gives;
      })
      (record {
        seen = follows_fewer start v.claims (without claim v.claims) v.front k.history left mine.seen;
        heard = follows_none start k.history;
        keeps = λ c h. absurd (contains_none c h);
        owns = λ c h. given_else claim (length views) k.owner c (left_in claim v.claims c h).1 ∙ mine.owns c (left c h);
        numbers = λ m h. mine.numbers m (left (Number m) h);
        gives = mine.gives;
      })
      (cut_off_sees k.history owner k.giver k.next (length views) v 0 0 (claim ∷ []) (follows_fewer start v.claims (claim ∷ []) v.front k.history within mine.seen)
      (λ c h. ⊎_elim (λ (same : claim ≡ c). subst (λ x. owner x ≡ length views) same (given_here claim (length views) k.owner)) (λ (t : Contains [] c). absurd (contains_none c t)) (contains_cases c claim [] h))
      (λ m h. mine.numbers m (within (Number m) h)))
      (record { no_more = counts.no_more; no_more_marks = counts.no_more_marks; pen = λ h. counts.pen (left Pen h); flush = λ h. counts.flush (left Flush h) })
      (record { no_more = counts.no_more; no_more_marks = counts.no_more_marks; pen = λ h. counts.pen (within Pen h); flush = λ h. counts.flush (within Flush h) })

  pub give : {S : Type 0} (id : ℕ) (v : View) (claim : Claim) → Contains v.claims claim → Splits {S = S} (Holds start) id v (with_claim_given claim v) (note_with v (claim ∷ []))
  give {S} id v claim has s h at = record { count = h.count; durable = h.durable; words = h.words; kept = give_kept h.count h.durable s.views h.kept id v claim at has }
