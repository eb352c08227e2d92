-- What a map of std says of the list that it is kept for.
use Rattle.std.proofs.Common.{◌≡◌, Bool, true, false, cond, List, [], ◌∷◌, ap, ◌∙◌, sym, refl, Option, Some, None}
use Rattle.std.specs.Prelude.{if◌then◌else◌, ◌||◌, find, is_some, map}
use Rattle.std.specs.Option.{option_map}
use Rattle.std.specs.BTreeMap.{insert_entry, is_at}
use Rattle.std.specs.List.{list_any, AllByRecursion}
use Rattle.std.specs.Map.{lookup}
use Rattle.std.specs.Ordering.{is_eq, is_lt, match_ordering}
use Rattle.std.specs.declared.cmp.Ordering.{Ordering}
use Rattle.std.specs.declared.cmp.Ordering.TheVariants.{Less, Equal, Greater}
use Rattle.founding.specs.Drafts.{put}

some_cases : {X : Type 0} (b : Bool) (x : X) (rest : Option X) (others : Bool) → others ≡ is_some rest → (b || others) ≡ is_some (cond b (Some x) rest)
some_cases true x rest others same = refl
some_cases false x rest others same = same

-- A key is found, if some element of the list that the map is kept for passes the test for it.
pub list_any-lookup : {K X A : Type 0} (at : K → Bool) (test : A → Bool) (shown : K × X → A) (entries : List (K × X)) → AllByRecursion (λ e. test (shown e) ≡ at e.0) entries → list_any test (map shown entries) ≡ is_some (lookup at entries)
list_any-lookup at test shown [] agrees = refl
list_any-lookup at test shown (e ∷ es) (first, later) =
    ap (λ b. b || list_any test (map shown es)) first
    ∙ some_cases (at e.0) e.1 (lookup at es) (list_any test (map shown es)) (list_any-lookup at test shown es later)

found_cases : {X A : Type 0} (f : X → A) (b c : Bool) (x : X) (rest : Option X) (others : Option A) → c ≡ b → others ≡ option_map f rest → cond c (Some (f x)) others ≡ option_map f (cond b (Some x) rest)
found_cases f true c x rest others same more = ap (λ d. cond d (Some (f x)) others) same
found_cases f false c x rest others same more = ap (λ d. cond d (Some (f x)) others) same ∙ more

-- What is found in the list is what the map has at the key, if it has something there.
pub find-lookup : {K X A : Type 0} (at : K → Bool) (test : A → Bool) (f : X → A) (entries : List (K × X)) → AllByRecursion (λ e. test (f e.1) ≡ at e.0) entries
    → find test (map (λ (e : K × X). f e.1) entries) ≡ option_map f (lookup at entries)
find-lookup at test f [] agrees = refl
find-lookup {K} {X} at test f (e ∷ es) (first, later) =
    found_cases f (at e.0) (test (f e.1)) e.1 (lookup at es) (find test (map (λ (x : K × X). f x.1) es)) first (find-lookup at test f es later)

absent_first : {X : Type 0} (b : Bool) (x : X) (rest : Option X) → cond b (Some x) rest ≡ None → b ≡ false
absent_first true x rest none = absurd (cc none)
absent_first false x rest none = refl

absent_later : {X : Type 0} (b : Bool) (x : X) (rest : Option X) → cond b (Some x) rest ≡ None → rest ≡ None
absent_later true x rest none = absurd (cc none)
absent_later false x rest none = none

put_cases : {A : Type 0} (o : Ordering) (b : Bool) (new first : A) (later inserted kept : List A) → is_eq o ≡ false → b ≡ is_lt o → inserted ≡ later → match_ordering o (new ∷ first ∷ kept) (first ∷ kept) (first ∷ inserted) ≡ (if b then new ∷ first ∷ kept else first ∷ later)
put_cases Less b new first later inserted kept apart agrees same = ap (λ c. if c then new ∷ first ∷ kept else first ∷ later) (sym agrees)
put_cases Equal b new first later inserted kept apart agrees same = absurd (cc apart)
put_cases Greater b new first later inserted kept apart agrees same = ap (λ l. first ∷ l) same ∙ ap (λ c. if c then new ∷ first ∷ kept else first ∷ later) (sym agrees)

shown_cases : {K X A : Type 0} (shown : K × X → A) (o : Ordering) (new first changed : K × X) (kept inserted : List (K × X)) → is_eq o ≡ false → map shown (match_ordering o (new ∷ first ∷ kept) (changed ∷ kept) (first ∷ inserted)) ≡ match_ordering o (shown new ∷ shown first ∷ map shown kept) (shown first ∷ map shown kept) (shown first ∷ map shown inserted)
shown_cases shown Less new first changed kept inserted apart = refl
shown_cases shown Equal new first changed kept inserted apart = absurd (cc apart)
shown_cases shown Greater new first changed kept inserted apart = refl

-- A new entry comes to its place in the list, if the keys' order is that of the list.
pub put-insert_entry : {K X A : Type 0} (cmp : K → K → Ordering) (before : A → A → Bool) (shown : K × X → A) (key : K) (value : X) (entries : List (K × X))
    → AllByRecursion (λ e. before (shown (key, value)) (shown e) ≡ is_lt (cmp key e.0)) entries → lookup (is_at (cmp key)) entries ≡ None
    → map shown (insert_entry cmp entries key value) ≡ put before (shown (key, value)) (map shown entries)
put-insert_entry cmp before shown key value [] agrees absent = refl
put-insert_entry cmp before shown key value (e ∷ es) (first, later) absent =
    let apart = absent_first (is_at (cmp key) e.0) e.1 (lookup (is_at (cmp key)) es) absent in
    let none = absent_later (is_at (cmp key) e.0) e.1 (lookup (is_at (cmp key)) es) absent in
    shown_cases shown (cmp key e.0) (key, value) e (e.0, value) es (insert_entry cmp es key value) apart
    ∙ put_cases (cmp key e.0) (before (shown (key, value)) (shown e)) (shown (key, value)) (shown e) (put before (shown (key, value)) (map shown es)) (map shown (insert_entry cmp es key value)) (map shown es) apart first
    (put-insert_entry cmp before shown key value es later none)

-- what holds of the new entry and of each old one holds of each
pub All-insert_entry : {K X : Type 0} (cmp : K → K → Ordering) (P : K × X → Type 0) (key : K) (value : X) (entries : List (K × X)) → P (key, value) → AllByRecursion P entries → lookup (is_at (cmp key)) entries ≡ None
    → AllByRecursion P (insert_entry cmp entries key value)
All-insert_entry cmp P key value [] new all absent = (new, tt)
All-insert_entry cmp P key value (e ∷ es) new (first, later) absent =
    either (cmp key e.0) (absent_first (is_at (cmp key) e.0) e.1 (lookup (is_at (cmp key)) es) absent)
    (All-insert_entry cmp P key value es new later (absent_later (is_at (cmp key) e.0) e.1 (lookup (is_at (cmp key)) es) absent))
  where
    either : (o : Ordering) → is_eq o ≡ false → AllByRecursion P (insert_entry cmp es key value) → AllByRecursion P (match_ordering o ((key, value) ∷ e ∷ es) ((e.0, value) ∷ es) (e ∷ insert_entry cmp es key value))
    either Less apart rest = (new, (first, later))
    either Equal apart rest = absurd (cc apart)
    either Greater apart rest = (first, rest)
