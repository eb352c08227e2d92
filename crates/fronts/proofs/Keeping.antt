-- Each step of one view keeps the rule.
use Rattle.std.proofs.Common.{◌≡◌, ◌≢◌, ℕ, ◌+◌, ◌%◌, ◌^◌, ◌<◌, ◌≤◌, List, [], ◌∷◌, ◌++◌, length, set, refl, sym, ap, ◌∙◌, subst, arith, length-append}
use Rattle.std.specs.Prelude.{All, Contains, slice_index, slice_set, true}
use Rattle.std.proofs.lemmas.List.Elements.{All-push}
use Rattle.std.proofs.lemmas.List.{length-map}
use mathlib.Core.Option.{some, none}
use lib.ListN.{get_elem?}
use Rattle.atomic_table.specs.Table.{Allows, State, Me, step, keeps, stepped}
use Rattle.request_text.specs.declared.entry.Entry.{Entry}
use Rattle.base_ids.specs.declared.cell_id.CellId.{CellId}
use Rattle.fronts.specs.declared.claim.Claim.{Claim}
use Rattle.fronts.specs.declared.claim.Claim.TheVariants.{Pen, Flush, Number, Cell}
use Rattle.fronts.specs.declared.view.Sent.{Sent}
use Rattle.fronts.specs.declared.view.View.{View}
use Rattle.fronts.specs.Start.{Start}
use Rattle.fronts.specs.History.{IsBounded, IsHistory, calls_by, entries_of, sent}
use Rattle.fronts.specs.Claims.{Concerns, Follows}
use Rattle.fronts.specs.Views.{appended, marked, with_durable, with_front}
use Rattle.fronts.specs.Rule.{Counts, Holds, IsKept, Sees}
use Rattle.fronts.specs.Steps.{Appends, Hears, Looks, Marks, Reads, Settles}
use Rattle.fronts.proofs.Listed.{all_front, contains_none, each_set, sum_set}
use Rattle.fronts.proofs.Following.{follows_more, follows_none, follows_self, follows_within, history_more, no_calls_yet, pen_sees_all}

module _ (start : Start) where
  -- the rule after a step on the first word, and on the second
  pub first_word : {S : Type 0} (s : State S View) (h : Holds start s) (f : ℕ → ℕ) (id : ℕ) (c : List (ℕ × S)) (w : View) → IsKept start (f h.count) h.durable (slice_set s.views id w)
      → Holds start (stepped s 0 (f (slice_index s.words 0)) id c w keeps)
  first_word s h f id c w kept = record {
    count = f h.count;
    durable = h.durable;
    words = ap (λ ws. slice_set ws 0 (f (slice_index ws 0))) h.words;
    kept = kept;
  }

  pub second_word : {S : Type 0} (s : State S View) (h : Holds start s) (f : ℕ → ℕ) (id : ℕ) (c : List (ℕ × S)) (w : View) → IsKept start h.count (f h.durable) (slice_set s.views id w)
      → Holds start (stepped s 1 (f (slice_index s.words 1)) id c w keeps)
  second_word s h f id c w kept = record {
    count = h.count;
    durable = f h.durable;
    words = ap (λ ws. slice_set ws 1 (f (slice_index ws 1))) h.words;
    kept = kept;
  }

  -- one view changes, and nothing else
  pub changed : (n d : ℕ) (views : List View) (k : IsKept start n d views) (id : ℕ) (v w : View) → get_elem? views id ≡ some v → w.marks ≡ v.marks
      → Sees start k.history k.owner k.giver k.next id w → Counts d k.given w → IsKept start n d (set views id w)
  changed n d views k id v w at marks sees counts = record {
    history = k.history;
    owner = k.owner;
    giver = k.giver;
    next = k.next;
    given = k.given;
    length_is = k.length_is;
    is_history = k.is_history;
    numbers = k.numbers;
    less = k.less;
    marks = omega (arith, sum_set (λ (u : View). u.marks) views id v w at, k.marks);
    sees = each_set (Sees start k.history k.owner k.giver k.next) views id w (λ j u apart e. k.sees j u e) sees;
    counts = each_set (λ j u. Counts d k.given u) views id w (λ j u apart e. k.counts j u e) counts;
  }

  -- a view that has just seen the history
  pub sees_all : (history : List Sent) (owner : Claim → ℕ) (giver next i : ℕ) (v : View) → Sees start history owner giver next i v → Sees start history owner giver next i (with_front v history)
  sees_all history owner giver next i v s = record {
    seen = follows_self start v.claims history;
    heard = follows_none start history;
    keeps = λ c h. absurd (contains_none c h);
    owns = s.owns;
    numbers = s.numbers;
    gives = s.gives;
  }

  -- a view that forgets what it remembered
  pub sees_less : (history : List Sent) (owner : Claim → ℕ) (giver next i : ℕ) (v : View) → Sees start history owner giver next i v → Sees start history owner giver next i (with_front v v.front)
  sees_less history owner giver next i v s = record {
    seen = s.seen;
    heard = follows_none start history;
    keeps = λ c h. absurd (contains_none c h);
    owns = s.owns;
    numbers = s.numbers;
    gives = s.gives;
  }

  same_counts : (d g : ℕ) (v w : View) → w.durable ≡ v.durable → w.given ≡ v.given → w.claims ≡ v.claims → Counts d g v → Counts d g w
  same_counts d g v w durable given claims c = record {
    no_more = omega (arith, c.no_more);
    no_more_marks = omega (arith, c.no_more_marks);
    pen = λ h. durable ∙ c.pen (subst (λ (l : List Claim). Contains l Pen) claims h);
    flush = λ h. let f = c.flush (subst (λ (l : List Claim). Contains l Flush) claims h) in (durable ∙ f.0, given ∙ f.1);
  }

  pub look : {S : Type 0} (slots id : ℕ) (me : Me S View) → Allows (Holds start) slots id me 0 (λ n. n) (Looks start (step slots 0 0 0 none) me)
  look {S} slots id me s holds long at within =
      let k = holds.kept in
      let mine = k.sees id me.0 at in
      let found : slice_index s.words 0 ≡ length k.history = ap (λ ws. slice_index ws 0) holds.words ∙ k.length_is in
      let w = with_front me.0 k.history in (
        w,
        keeps,
        tt,
        first_word s holds (λ n. n) id me.1 w
            (changed holds.count holds.durable s.views k id me.0 w at refl (sees_all k.history k.owner k.giver k.next id me.0 mine) (same_counts holds.durable k.given me.0 w refl refl refl (k.counts id me.0 at))),
        record { view = refl; slots = refl; length_is = found; is_history = k.is_history; follows = mine.seen },
      )

  pub hear : {S : Type 0} (slots id : ℕ) (me : Me S View) → Allows (Holds start) slots id me 0 (λ n. n) (Hears start (step slots 0 0 0 none) me)
  hear {S} slots id me s holds long at within =
      let k = holds.kept in
      let mine = k.sees id me.0 at in
      let unused : me.0.next ≢ 0 → calls_by me.0.next me.0.front ≡ [] = λ may.
      let P : Sent → Type 0 = λ s. s.pass < me.0.next in
      let before : All P k.history = subst (λ m. All (λ (s : Sent). s.pass < m) k.history) (sym (mine.gives may).1) k.numbers in
      no_calls_yet me.0.next me.0.front (all_front P me.0.front mine.seen.later (subst (All P) (sym mine.seen.begins) before)) in
      let w = with_front me.0 me.0.front in (
        w,
        keeps,
        tt,
        first_word s holds (λ n. n) id me.1 w
            (changed holds.count holds.durable s.views k id me.0 w at refl (sees_less k.history k.owner k.giver k.next id me.0 mine) (same_counts holds.durable k.given me.0 w refl refl refl (k.counts id me.0 at))),
        record { view = refl; slots = refl; unused = unused; follows = λ less. follows_within start me.0.kept me.0.claims me.0.heard me.0.front k.history mine.heard mine.seen less },
      )

  pub read : {S : Type 0} (slots id : ℕ) (me : Me S View) → Allows (Holds start) slots id me 1 (λ n. n) (Reads (step slots 1 0 0 none) me)
  read {S} slots id me s holds long at within =
      let k = holds.kept in
      let mine = k.sees id me.0 at in
      let counts = k.counts id me.0 at in
      let found : slice_index s.words 1 ≡ holds.durable = ap (λ ws. slice_index ws 1) holds.words in
      let w = with_durable me.0 (slice_index s.words 1) in (
        w,
        keeps,
        tt,
        second_word s holds (λ n. n) id me.1 w
            (changed holds.count holds.durable s.views k id me.0 w at refl
            (record { seen = mine.seen; heard = mine.heard; keeps = mine.keeps; owns = mine.owns; numbers = mine.numbers; gives = mine.gives })
            (record { no_more = omega arith; no_more_marks = counts.no_more_marks; pen = λ h. found; flush = λ h. (found, (counts.flush h).1) })),
        record { view = refl; slots = refl; least = omega (arith, counts.no_more) },
      )

  module _ (v : View) (entry : Entry) (pen : Contains v.claims Pen) (number : Contains v.claims (Number v.number)) (cells : (cell : CellId) → start.touches (entries_of v.front) entry cell ≡ true → Contains v.claims (Cell cell)) where
    has_all : (c : Claim) → Concerns start v.front (sent v.number entry) c → Contains v.claims c
    has_all Pen x = pen
    has_all Flush x = absurd x
    has_all (Number n) x = subst (λ m. Contains v.claims (Number m)) x number
    has_all (Cell cell) x = cells cell x

    -- the entry concerns no other view
    passes_by : (history : List Sent) (owner : Claim → ℕ) (giver next id j : ℕ) (u : View) → v.front ≡ history → Sees start history owner giver next id v → j ≢ id
        → Sees start history owner giver next j u → Sees start (v.front ++ sent v.number entry ∷ []) owner giver next j u
    passes_by history owner giver next id j u all mine apart theirs =
        let still : (cs : List Claim) (xs : List Sent) → ((c : Claim) → Contains cs c → Contains u.claims c) → Follows start cs xs history → Follows start cs xs (v.front ++ sent v.number entry ∷ []) = λ cs xs within f.
        follows_more start cs xs v.front (sent v.number entry) (subst (Follows start cs xs) (sym all) f) (λ c h x. apart (sym (theirs.owns c (within c h)) ∙ mine.owns c (has_all c x))) in record {
          seen = still u.claims u.front (λ c h. h) theirs.seen;
          heard = still u.kept u.heard theirs.keeps theirs.heard;
          keeps = theirs.keeps;
          owns = theirs.owns;
          numbers = theirs.numbers;
          gives = theirs.gives;
        }

    append_kept : (n d : ℕ) (views : List View) (k : IsKept start n d views) (id : ℕ) → get_elem? views id ≡ some v → v.number ≢ 0 → IsBounded start (entries_of v.front ++ entry ∷ [])
        → IsKept start ((n + 1) % 2 ^ 64) d (set views id (appended v entry))
    append_kept n d views k id at some_pass bounded =
        let mine = k.sees id v at in
        let counts = k.counts id v at in
        let all : v.front ≡ k.history = pen_sees_all start v.claims v.front k.history pen mine.seen in
        let w = appended v entry in
        let longer = v.front ++ sent v.number entry ∷ [] in
        let shorter : (start.number + length (entries_of v.front ++ entry ∷ []) ≤ 1099511627775) = bounded.numbers in
        let one_more : (n + 1) % 2 ^ 64 ≡ length longer = omega (arith, k.length_is, ap length all, length-append v.front (sent v.number entry ∷ []), length-append (entries_of v.front) (entry ∷ []), length-map v.front (λ (s : Sent). s.entry), shorter) in
        let grew : n ≤ (n + 1) % 2 ^ 64 = omega (arith, k.length_is, ap length all, one_more, length-append v.front (sent v.number entry ∷ [])) in record {
          history = longer;
          owner = k.owner;
          giver = k.giver;
          next = k.next;
          given = k.given;
          length_is = one_more;
          is_history = history_more start v.front v.number entry (subst (IsHistory start) (sym all) k.is_history) some_pass bounded;
          numbers = All-push (λ (s : Sent). s.pass < k.next) v.front (sent v.number entry) (subst (All (λ (s : Sent). s.pass < k.next)) (sym all) k.numbers) (mine.numbers v.number number);
          less = omega (arith, k.less, grew);
          marks = omega (arith, sum_set (λ (u : View). u.marks) views id v w at, k.marks);
          sees = each_set (Sees start longer k.owner k.giver k.next) views id w (λ j u apart e. passes_by k.history k.owner k.giver k.next id j u all mine apart (k.sees j u e))
              (record {
                seen = follows_self start v.claims longer;
                heard = follows_none start longer;
                keeps = λ c h. absurd (contains_none c h);
                owns = mine.owns;
                numbers = mine.numbers;
                gives = mine.gives;
              });
          counts = each_set (λ j u. Counts d k.given u) views id w (λ j u apart e. k.counts j u e) (same_counts d k.given v w refl refl refl counts);
        }

  pub append : {S : Type 0} (slots id : ℕ) (me : Me S View) (entry : Entry) → Contains me.0.claims Pen → Contains me.0.claims (Number me.0.number) → me.0.number ≢ 0
      → ((cell : CellId) → start.touches (entries_of me.0.front) entry cell ≡ true → Contains me.0.claims (Cell cell)) → IsBounded start (entries_of me.0.front ++ entry ∷ [])
      → Allows (Holds start) slots id me 0 (λ n. (n + 1) % 2 ^ 64) (Appends entry (step slots 0 1 0 none) me)
  append {S} slots id me entry pen number some_pass cells bounded s holds long at within =
      let k = holds.kept in
      let all : me.0.front ≡ k.history = pen_sees_all start me.0.claims me.0.front k.history pen (k.sees id me.0 at).seen in
      let found : slice_index s.words 0 ≡ length me.0.front = ap (λ ws. slice_index ws 0) holds.words ∙ k.length_is ∙ sym (ap length all) in
      let w = appended me.0 entry in (
        w,
        keeps,
        tt,
        first_word s holds (λ n. (n + 1) % 2 ^ 64) id me.1 w (append_kept me.0 entry pen number cells holds.count holds.durable s.views k id at some_pass bounded),
        record { view = refl; slots = refl; length_is = found },
      )

  -- the views of others, for whom a right isn't
  other_counts : (d e g h : ℕ) (u : View) → d ≤ e → g ≤ h → (Contains u.claims Pen → d ≡ e) → (Contains u.claims Flush → (d ≡ e) × (g ≡ h)) → Counts d g u → Counts e h u
  other_counts d e g h u more given pen flush c = record {
    no_more = omega (arith, c.no_more, more);
    no_more_marks = omega (arith, c.no_more_marks, given);
    pen = λ x. c.pen x ∙ pen x;
    flush = λ x. ((c.flush x).0 ∙ (flush x).0, (c.flush x).1 ∙ (flush x).1);
  }

  settle_kept : (n d : ℕ) (views : List View) (k : IsKept start n d views) (id more : ℕ) (v : View) → get_elem? views id ≡ some v → Contains v.claims Pen → Contains v.claims Flush
      → v.durable + more ≤ length v.front → IsKept start n ((d + more) % 2 ^ 64) (set views id (with_durable v (v.durable + more)))
  settle_kept n d views k id more v at pen flush within =
      let mine = k.sees id v at in
      let counts = k.counts id v at in
      let all : v.front ≡ k.history = pen_sees_all start v.claims v.front k.history pen mine.seen in
      let w = with_durable v (v.durable + more) in
      let short : start.number + length (entries_of k.history) ≤ 1099511627775 = k.is_history.bounded.numbers in
      let up_to : v.durable + more ≤ n = omega (arith, within, ap length all, k.length_is) in
      let now : (d + more) % 2 ^ 64 ≡ v.durable + more = omega (arith, up_to, k.length_is, counts.pen pen, short, length-map k.history (λ (s : Sent). s.entry)) in
      let grew : d ≤ (d + more) % 2 ^ 64 = omega (arith, now, counts.pen pen) in record {
        history = k.history;
        owner = k.owner;
        giver = k.giver;
        next = k.next;
        given = k.given;
        length_is = k.length_is;
        is_history = k.is_history;
        numbers = k.numbers;
        less = omega (arith, now, up_to);
        marks = omega (arith, sum_set (λ (u : View). u.marks) views id v w at, k.marks);
        sees = each_set (Sees start k.history k.owner k.giver k.next) views id w (λ j u apart e. k.sees j u e)
            (record { seen = mine.seen; heard = mine.heard; keeps = mine.keeps; owns = mine.owns; numbers = mine.numbers; gives = mine.gives });
        counts = each_set (λ j u. Counts ((d + more) % 2 ^ 64) k.given u) views id w
            (λ j u apart e. let theirs = k.sees j u e in
            other_counts d ((d + more) % 2 ^ 64) k.given k.given u grew (omega arith)
            (λ h. absurd (apart (sym (theirs.owns Pen h) ∙ mine.owns Pen pen)))
            (λ h. absurd (apart (sym (theirs.owns Flush h) ∙ mine.owns Flush flush)))
            (k.counts j u e))
            (record { no_more = omega (arith, now); no_more_marks = counts.no_more_marks; pen = λ h. sym now; flush = λ h. (sym now, (counts.flush h).1) });
      }

  pub settle : {S : Type 0} (slots id : ℕ) (me : Me S View) (more : ℕ) → Contains me.0.claims Pen → Contains me.0.claims Flush → me.0.durable + more ≤ length me.0.front
      → Allows (Holds start) slots id me 1 (λ n. (n + more) % 2 ^ 64) (Settles (step slots 1 more 0 none) me)
  settle {S} slots id me more pen flush within s holds long at small =
      let w = with_durable me.0 (me.0.durable + more) in (
        w,
        keeps,
        tt,
        second_word s holds (λ n. (n + more) % 2 ^ 64) id me.1 w (settle_kept holds.count holds.durable s.views holds.kept id more me.0 at pen flush within),
        record { view = refl; slots = refl },
      )

  mark_kept : (n d : ℕ) (views : List View) (k : IsKept start n d views) (id : ℕ) (v : View) → get_elem? views id ≡ some v → Contains v.claims Flush → IsKept start n d (set views id (marked v))
  mark_kept n d views k id v at flush =
      let mine = k.sees id v at in
      let counts = k.counts id v at in
      let w = marked v in
      let known : v.given ≡ k.given = (counts.flush flush).1 in record {
        history = k.history;
        owner = k.owner;
        giver = k.giver;
        next = k.next;
        given = k.given + 1;
        length_is = k.length_is;
        is_history = k.is_history;
        numbers = k.numbers;
        less = k.less;
        marks = omega (arith, sum_set (λ (u : View). u.marks) views id v w at, k.marks);
        sees = each_set (Sees start k.history k.owner k.giver k.next) views id w (λ j u apart e. k.sees j u e)
            (record { seen = mine.seen; heard = mine.heard; keeps = mine.keeps; owns = mine.owns; numbers = mine.numbers; gives = mine.gives });
        counts = each_set (λ j u. Counts d (k.given + 1) u) views id w
            (λ j u apart e. let theirs = k.sees j u e in
            other_counts d d k.given (k.given + 1) u (omega arith) (omega arith) (λ h. refl)
            (λ h. absurd (apart (sym (theirs.owns Flush h) ∙ mine.owns Flush flush)))
            (k.counts j u e))
            (record { no_more = counts.no_more; no_more_marks = omega (arith, known); pen = counts.pen; flush = λ h. ((counts.flush h).0, ap (λ (x : ℕ). x + 1) known) });
      }

  pub mark : {S : Type 0} (slots id : ℕ) (me : Me S View) → Contains me.0.claims Flush → Allows (Holds start) slots id me 0 (λ n. n) (Marks (step slots 0 0 0 none) me)
  mark {S} slots id me flush s holds long at within =
      let w = marked me.0 in (
        w,
        keeps,
        tt,
        first_word s holds (λ n. n) id me.1 w (mark_kept holds.count holds.durable s.views holds.kept id me.0 at flush),
        record { view = refl; slots = refl },
      )
