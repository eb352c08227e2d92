-- The first event that cells owe, found cell by cell.
use Rattle.std.proofs.Common.{◌≡◌, ◌⊎◌, ℕ, ◌<◌, ◌≤◌, inl, inr, Bool, true, false, cond, List, [], ◌∷◌, ◌++◌, arith, ap, ◌∙◌, sym, refl, subst, Option, Some, None}
use Rattle.std.proofs.lemmas.Bool.Decides.{nat_tests}
use Rattle.std.specs.Prelude.{nat_le}
use Rattle.std.specs.List.{AllByRecursion}
use Rattle.base_ids.proofs.Ordering.{events_ordered}
use Rattle.base_ids.specs.Order.{EventKey, key_before}
use Rattle.laziness.proofs.Bringing.{test, never}
use Rattle.tick_model.specs.Universe.{Item}
use Rattle.tick_model.proofs.Keys.{key-one_way}
use Rattle.happenings.specs.Due.{IsFirstOwed, first_of, sooner_of}
use Rattle.happenings.specs.declared.due.Due.{Due}
use Rattle.happenings.specs.declared.queue.Queue.{Queue}

pub all_push : {A : Type 0} (P : A → Type 0) (xs : List A) (y : A) → AllByRecursion P xs → P y → AllByRecursion P (xs ++ y ∷ [])
all_push P [] y all new = (new, tt)
all_push P (x ∷ xs) y (first, later) new = (first, all_push P xs y later new)

all_map : {A : Type 0} (P Q : A → Type 0) (xs : List A) → ((x : A) → P x → Q x) → AllByRecursion P xs → AllByRecursion Q xs
all_map P Q [] f all = tt
all_map P Q (x ∷ xs) f (first, later) = (f x first, all_map P Q xs f later)

pub no_event : {A D : Type 0} (d : D) → None ≡ Some d → A
no_event d is = absurd (cc is)

pub one_event : {D : Type 0} (a b : D) → Some a ≡ Some b → a ≡ b
one_event a b is = cc

-- it does not come before another one
abbrev pub NotSooner : {D : Type 0} → (D → EventKey) → Option D → D → Type 0
NotSooner {D} key event due = (other : D) → event ≡ Some other → key_before (key other) (key due) ≡ false

never_itself : {D : Type 0} (key : D → EventKey) (event : Option D) (due : D) → event ≡ Some due → NotSooner key event due
never_itself {D} key event due owes other is =
    let same : due ≡ other = one_event due other (sym owes ∙ is) in
    subst (λ (d : D). key_before (key d) (key due) ≡ false) same (events_ordered.never_itself (key due))

-- what isn't before the later one of two isn't before the first
still_first : {D : Type 0} (key : D → EventKey) (event : Option D) (due sooner : D) → key_before (key sooner) (key due) ≡ true → NotSooner key event due → NotSooner key event sooner
still_first key event due sooner before first other owes =
    elim (test (key_before (key other) (key sooner))) [
      | inl earlier ↦ never (key_before (key other) (key due)) (events_ordered.transitive (key other) (key sooner) (key due) earlier before) (first other owes)
      | inr after ↦ after
    ]

module _ {A D : Type 0} (key : D → EventKey) (owed : A → Option D) (there : A → Type 0) where
  two : (passed : List A) (cell : A) (due event : D) (b : Bool) → there cell → owed cell ≡ Some event → key_before (key event) (key due) ≡ b → IsFirstOwed key owed there passed (Some due)
      → IsFirstOwed key owed there (passed ++ cell ∷ []) (cond b (Some event) (Some due))
  two passed cell due event true is_there owes sooner (found, first) = (
    (cell, is_there, owes),
    all_push (λ c. NotSooner key (owed c) event) passed cell (all_map (λ c. NotSooner key (owed c) due) (λ c. NotSooner key (owed c) event) passed (λ c. still_first key (owed c) due event sooner) first)
        (never_itself key (owed cell) event owes),
  )
  two passed cell due event false is_there owes sooner (found, first) = (
    found,
    all_push (λ c. NotSooner key (owed c) due) passed cell first (λ other is.
        let same : event ≡ other = one_event event other (sym owes ∙ is) in
        subst (λ (d : D). key_before (key d) (key due) ≡ false) same sooner),
  )

  -- one cell more
  pub first_more : (passed : List A) (cell : A) (first owes : Option D) → there cell → owed cell ≡ owes → IsFirstOwed key owed there passed first → IsFirstOwed key owed there (passed ++ cell ∷ []) (sooner_of key first owes)
  first_more passed cell None None is_there is none = all_push (λ c. owed c ≡ None) passed cell none is
  first_more passed cell None (Some event) is_there is none = (
    (cell, is_there, is),
    all_push (λ c. NotSooner key (owed c) event) passed cell (all_map (λ c. owed c ≡ None) (λ c. NotSooner key (owed c) event) passed (λ c nothing other owes. no_event other (sym nothing ∙ owes)) none)
        (never_itself key (owed cell) event is),
  )
  first_more passed cell (Some due) None is_there is (found, first) =
      (found, all_push (λ c. NotSooner key (owed c) due) passed cell first (λ other owes. no_event other (sym is ∙ owes)))
  first_more passed cell (Some due) (Some event) is_there is before = two passed cell due event (key_before (key event) (key due)) is_there is refl before

-- The first of two is one of them, and none of them comes before it.
pub record IsSooner {D : Type 0} (key : D → EventKey) (one other : Option D) (due : D) : Type 0 where
  pub either : (one ≡ Some due) ⊎ (other ≡ Some due)
  pub first : NotSooner key one due
  pub second : NotSooner key other due

sooner-at : {D : Type 0} (key : D → EventKey) (one other : D) (b : Bool) → key_before (key other) (key one) ≡ b → (due : D) → cond b (Some other) (Some one) ≡ Some due → IsSooner key (Some one) (Some other) due
sooner-at key one other true before due is =
    let same : other ≡ due = one_event other due is in
    record {
      either = inr (ap Some same);
      first = λ d eq. subst (λ e. key_before (key e) (key due) ≡ false) (one_event one d eq) (subst (λ e. key_before (key one) (key e) ≡ false) same (key-one_way (key other) (key one) before));
      second = λ d eq. subst (λ e. key_before (key e) (key due) ≡ false) (one_event other d eq) (subst (λ e. key_before (key other) (key e) ≡ false) same (events_ordered.never_itself (key other)));
    }
sooner-at key one other false after due is =
    let same : one ≡ due = one_event one due is in
    record {
      either = inl (ap Some same);
      first = λ d eq. subst (λ e. key_before (key e) (key due) ≡ false) (one_event one d eq) (subst (λ e. key_before (key one) (key e) ≡ false) same (events_ordered.never_itself (key one)));
      second = λ d eq. subst (λ e. key_before (key e) (key due) ≡ false) (one_event other d eq) (subst (λ e. key_before (key other) (key e) ≡ false) same after);
    }

pub is-sooner : {D : Type 0} (key : D → EventKey) (one other : Option D) (due : D) → sooner_of key one other ≡ Some due → IsSooner key one other due
is-sooner key None None due is = no_event due is
is-sooner key None (Some other) due is =
    record { either = inr is; first = λ d eq. no_event d eq; second = never_itself key (Some other) due is }
is-sooner key (Some one) None due is =
    record { either = inl is; first = never_itself key (Some one) due is; second = λ d eq. no_event d eq }
is-sooner key (Some one) (Some other) due is = sooner-at key one other (key_before (key other) (key one)) refl due is

-- and if there is none, both are missing
pub neither-sooner : {D : Type 0} (key : D → EventKey) (one other : Option D) → sooner_of key one other ≡ None → (one ≡ None) × (other ≡ None)
neither-sooner key None None is = (refl, refl)
neither-sooner key None (Some other) is = no_event other (sym is)
neither-sooner key (Some one) None is = no_event one (sym is)
neither-sooner key (Some one) (Some other) is =
    elim (key_before (key other) (key one)) as (λ b. cond b (Some other) (Some one) ≡ None → (Some one ≡ None) × (Some other ≡ None)) [
      | true ↦ λ none. no_event other (sym none)
      | false ↦ λ none. no_event one (sym none)
    ] is

-- What the first item of a queue is.

pub record IsFirstItem (moment : ℕ) (queue : Queue) (items : List Item) (due : Due) : Type 0 where
  pub item : Item
  pub later : List Item
  pub items_are : items ≡ item ∷ later
  pub second : item.second ≡ due.second
  pub number : item.number ≡ due.number
  pub queue_is : due.queue ≡ queue
  pub due_by : due.second ≤ moment

first-item-at : (moment : ℕ) (queue : Queue) (item : Item) (later : List Item) (b : Bool) (due : Due) → nat_le item.second moment ≡ b
    → cond b (Some (record { second = item.second; number = item.number; queue = queue })) None ≡ Some due → IsFirstItem moment queue (item ∷ later) due
first-item-at moment queue item later true due test is =
    let found : Due = record { second = item.second; number = item.number; queue = queue } in
    let same : found ≡ due = one_event found due is in
    let second : item.second ≡ due.second = ap (λ (d : Due). d.second) same in
    let by : item.second ≤ moment = grind (arith, nat_tests) in
    record {
      item = item;
      later = later;
      items_are = refl;
      second = second;
      number = ap (λ (d : Due). d.number) same;
      queue_is = ap (λ (d : Due). d.queue) (sym same);
      due_by = omega (arith, second, by);
    }
first-item-at moment queue item later false due test is = no_event due is

pub first-item : (moment : ℕ) (queue : Queue) (items : List Item) (due : Due) → first_of moment queue items ≡ Some due → IsFirstItem moment queue items due
first-item moment queue [] due is = no_event due is
first-item moment queue (item ∷ later) due is = first-item-at moment queue item later (nat_le item.second moment) due refl is

pub not-first : (moment : ℕ) (queue : Queue) (items : List Item) (item : Item) (later : List Item) → items ≡ item ∷ later → first_of moment queue items ≡ None → moment < item.second
not-first moment queue items item later is none =
    let due : Due = record { second = item.second; number = item.number; queue = queue } in
    let here : cond (nat_le item.second moment) (Some due) None ≡ None = ap (first_of moment queue) (sym is) ∙ none in
    not-due (nat_le item.second moment) moment item due refl here
  where
    not-due : (b : Bool) (moment : ℕ) (item : Item) (due : Due) → nat_le item.second moment ≡ b → cond b (Some due) None ≡ None → moment < item.second
    not-due true moment item due test some = no_event due (sym some)
    not-due false moment item due test nothing = grind (arith, nat_tests)

-- an item that is due is the first that its queue owes
pub owes-first : (moment : ℕ) (queue : Queue) (items : List Item) (item : Item) (later : List Item) → items ≡ item ∷ later → item.second ≤ moment
    → first_of moment queue items ≡ Some (record { second = item.second; number = item.number; queue = queue })
owes-first moment queue items item later is by =
    let test : nat_le item.second moment ≡ true = grind (arith, nat_tests) in
    ap (first_of moment queue) is ∙ (λ i. cond (test i) (Some (record { second = item.second; number = item.number; queue = queue })) None)
