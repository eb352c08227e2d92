-- Numbers that are met one after the other.
use Rattle.std.proofs.Common.{◌≡◌, ◌≤◌, ◌<◌, ◌+◌, ℕ, Bool, true, false, cond, not, List, [], ◌∷◌, ◌++◌, length, get_or, map, take, drop, arith, refl, ap, subst, sym, ◌∙◌}
use Rattle.std.specs.Prelude.{AllPairs, IsTrue, ◌↔◌, ◌==◌, ◌&&◌, ◌||◌, nat_eq}
use Rattle.std.specs.BTreeSet.{BTreeSet, Updates, contains}
use Rattle.std.specs.List.{list_any, flat_map}
use Rattle.std.specs.Ordering.{is_eq, nat_cmp}
use Rattle.std.proofs.lemmas.Bool.Decides.{nat_tests}
use Rattle.std.proofs.lemmas.List.{append_assoc, drop_more, flat_map_more, get_or_append_left, get_or-map, get_or_at, length-append, length-map, take-append-drop, take_all, take_more}
use Rattle.std.proofs.lemmas.List.Concat.{flat_map-append}
use Rattle.std.proofs.lemmas.List.Folds.{Any-from_list_any, list_any-append, list_any_at}
use Rattle.std.proofs.lemmas.List.Quantifiers.{all_pairs_push}
use Rattle.base_bytes.specs.declared.distinct.Met.{Met}
use Rattle.base_bytes.specs.Counting.{AreOnce, HaveMet, Meets, bears, met_in}
use Rattle.tick_model.specs.Rules.{same_order}
use Rattle.tick_model.specs.Universe.{Buildings, Item, QueueClass, Researches, Yard, same_class}

-- a number is met besides
abbrev pub Adds : QueueClass → ℕ → Met → Met → Type 0
Adds class number old new = (c : QueueClass) (n : ℕ) → contains nat_cmp (met_in new c) n ≡ (contains nat_cmp (met_in old c) n || same_class c class && n == number)

at-same : (a b : ℕ) → is_eq (nat_cmp a b) ≡ (b == a)
at-same a b = grind (arith, nat_tests)

chosen : (test in_old : Bool) → cond test true in_old ≡ (in_old || test)
chosen true true = refl
chosen true false = refl
chosen false true = refl
chosen false false = refl

-- as an insertion into the set of a class does
adds-in : (old new : BTreeSet ℕ) (number n : ℕ) → Updates nat_cmp old new number true → contains nat_cmp new n ≡ (contains nat_cmp old n || n == number)
adds-in old new number n updates =
    updates.0 n ∙ chosen (is_eq (nat_cmp number n)) (contains nat_cmp old n) ∙ ap (λ b. contains nat_cmp old n || b) (at-same number n)

adds-not : (b : Bool) → b ≡ (b || false)
adds-not true = refl
adds-not false = refl

pub adds-research : (old : Met) (new : BTreeSet ℕ) (number : ℕ) → Updates nat_cmp old.research new number true → Adds Researches number old (record { research = new; buildings = old.buildings; batches = old.batches })
adds-research old new number updates Researches n = adds-in old.research new number n updates
adds-research old new number updates Buildings n = adds-not (contains nat_cmp old.buildings n)
adds-research old new number updates Yard n = adds-not (contains nat_cmp old.batches n)

pub adds-building : (old : Met) (new : BTreeSet ℕ) (number : ℕ) → Updates nat_cmp old.buildings new number true → Adds Buildings number old (record { research = old.research; buildings = new; batches = old.batches })
adds-building old new number updates Researches n = adds-not (contains nat_cmp old.research n)
adds-building old new number updates Buildings n = adds-in old.buildings new number n updates
adds-building old new number updates Yard n = adds-not (contains nat_cmp old.batches n)

pub adds-batch : (old : Met) (new : BTreeSet ℕ) (number : ℕ) → Updates nat_cmp old.batches new number true → Adds Yard number old (record { research = old.research; buildings = old.buildings; batches = new })
adds-batch old new number updates Researches n = adds-not (contains nat_cmp old.research n)
adds-batch old new number updates Buildings n = adds-not (contains nat_cmp old.buildings n)
adds-batch old new number updates Yard n = adds-in old.batches new number n updates

class-swap : (a b : QueueClass) → same_class a b ≡ same_class b a
class-swap Buildings Buildings = refl
class-swap Buildings Researches = refl
class-swap Buildings Yard = refl
class-swap Researches Buildings = refl
class-swap Researches Researches = refl
class-swap Researches Yard = refl
class-swap Yard Buildings = refl
class-swap Yard Researches = refl
class-swap Yard Yard = refl

number-swap : (a b : ℕ) → (a == b) ≡ (b == a)
number-swap a b = grind (arith, nat_tests)

-- an item bears the number of another one of its class
bears-order : (x y : Item) → same_order x y ≡ bears y.class y.number x
bears-order x y = ap (λ b. b && x.number == y.number) (class-swap x.class y.class) ∙ ap (λ b. same_class y.class x.class && b) (number-swap x.number y.number)

either-none : (a b c : Bool) → (a || b) ≡ c → (a || (b || false)) ≡ c
either-none true b c is = is
either-none false true c is = is
either-none false false c is = is

fails : (b : Bool) → (b ≡ true → ⊥) → b ≡ false
fails true never_true = absurd (never_true refl)
fails false never_true = refl

none-at : (p : Item → Bool) (xs : List Item) (k : ℕ) (d : Item) → list_any p xs ≡ false → k < length xs → p (get_or xs k d) ≡ false
none-at p xs k d none below = fails (p (get_or xs k d)) (λ yes. absurd (cc (sym none ∙ list_any_at p xs k d below yes)))

-- an item is met whose number is new in its class
met-new : (items : List Item) (item : Item) (old new : Met) → HaveMet items old → contains nat_cmp (met_in old item.class) item.number ≡ false → Adds item.class item.number old new
    → HaveMet (items ++ item ∷ []) new
met-new items item old new have unmet adds = record {
  numbers = λ class number.
      adds class number
      ∙ ap (λ b. b || same_class class item.class && number == item.number) (have.numbers class number)
      ∙ sym (list_any-append (bears class number) items (item ∷ []) ∙ either-none (list_any (bears class number) items) (bears class number item) _ refl);
  once =
      let none : list_any (bears item.class item.number) items ≡ false = sym (have.numbers item.class item.number) ∙ unmet in
      all_pairs_push (λ (a b : Item). same_order a b ≡ false) items item have.once
      (λ k d below. bears-order (get_or items k d) item ∙ none-at (bears item.class item.number) items k d none below);
}

-- if its number was met in its class, two bear the same
met-again : (items rest : List Item) (item : Item) (old : Met) → HaveMet items old → contains nat_cmp (met_in old item.class) item.number ≡ true → AreOnce (items ++ item ∷ rest) → ⊥
met-again items rest item old have met once =
    let found = Any-from_list_any (bears item.class item.number) items (sym (have.numbers item.class item.number) ∙ met) in
    let all = items ++ item ∷ rest in
    let k = found.0 in
    let x = found.1 in
    let here : get_or all k x ≡ x = get_or_append_left items (item ∷ rest) x k found.2 ∙ found.3 in
    let there : get_or all (length items) x ≡ item = get_or_at items item rest x (length items) refl in
    let within : length items < length all = omega (arith, length-append items (item ∷ rest)) in
    let apart : same_order x item ≡ false = subst (λ y. same_order y item ≡ false) here (subst (λ y. same_order (get_or all k x) y ≡ false) there (once k (length items) x found.2 within)) in
    cc (sym apart ∙ bears-order x item ∙ found.4)

-- more items are met behind others
pub meets-both : (xs ys : List Item) (old now new : Met) (all : Bool) → Meets xs old now true → Meets ys now new all → Meets (xs ++ ys) old new all
meets-both xs ys old now new true first later = λ before have. subst (λ l. HaveMet l new) (append_assoc before xs ys) (later (before ++ xs) (first before have))
meets-both xs ys old now new false first later = λ before have. subst (λ l. AreOnce l → ⊥) (append_assoc before xs ys) (later (before ++ xs) (first before have))

first-once : (xs ys : List Item) → AreOnce (xs ++ ys) → AreOnce xs
first-once xs ys once = λ i j d sooner below.
    let all = xs ++ ys in
    let within : j < length all = omega (arith, below, length-append xs ys) in
    let here : get_or all i d ≡ get_or xs i d = get_or_append_left xs ys d i (omega (arith, sooner, below)) in
    let there : get_or all j d ≡ get_or xs j d = get_or_append_left xs ys d j below in
    subst (λ x. same_order x (get_or xs j d) ≡ false) here (subst (λ y. same_order (get_or all i d) y ≡ false) there (once i j d sooner within))

-- if two of the first items bear the same number, two of all do
pub meets-some : (xs ys : List Item) (old now new : Met) → Meets xs old now false → Meets (xs ++ ys) old new false
meets-some xs ys old now new stop = λ before have once. stop before have (first-once (before ++ xs) ys (subst AreOnce (sym (append_assoc before xs ys)) once))

-- what `insert` answers
pub was-new : (in_old r : Bool) → r ≡ not in_old → r ≡ true → in_old ≡ false
was-new true r is added = absurd (cc (sym is ∙ added))
was-new false r is added = refl

pub not-new : (in_old r : Bool) → r ≡ not in_old → r ≡ false → in_old ≡ true
not-new true r is added = refl
not-new false r is added = absurd (cc (sym is ∙ added))

-- a queue is met item by item
module _ {H : Type 0} (f : H → Item) (class : QueueClass) (classed : (x : H) → (f x).class ≡ class) (xs ys : List H) (i number : ℕ) (same : ys ≡ xs) (below : i < length ys)
    (bears_it : (d : H) → number ≡ (f (get_or ys i d)).number) where
  -- the item at the place
  item-there : (old : Met) (b : Bool) → contains nat_cmp (met_in old class) number ≡ b → (d : H) → contains nat_cmp (met_in old (f (get_or ys i d)).class) (f (get_or ys i d)).number ≡ b
  item-there old b is d = subst (λ k. contains nat_cmp (met_in old (f (get_or ys i d)).class) k ≡ b) (bears_it d) (subst (λ k. contains nat_cmp (met_in old k) number ≡ b) (sym (classed (get_or ys i d))) is)

  next-of : (old now new : Met) (d : H) → Meets (take i (map f ys)) old now true → contains nat_cmp (met_in now class) number ≡ false → Adds class number now new → Meets (take (i + 1) (map f ys)) old new true
  next-of old now new d met unmet adds = λ before have.
      let all = map f ys in
      let item = f (get_or ys i d) in
      let one : Adds item.class item.number now new = subst (λ k. Adds item.class k now new) (bears_it d) (subst (λ k. Adds k number now new) (sym (classed (get_or ys i d))) adds) in
      let grown = met-new (before ++ take i all) item now new (met before have) (item-there now false unmet d) one in
      let more : take (i + 1) all ≡ take i all ++ item ∷ [] = take_more all i item (omega (arith, below, length-map ys f)) ∙ ap (λ x. take i all ++ x ∷ []) (get_or-map f ys i d item below) in
      subst (λ l. HaveMet l new) (append_assoc before (take i all) (item ∷ []) ∙ ap (λ l. before ++ l) (sym more)) grown

  stop-of : (old now new : Met) (d : H) → Meets (take i (map f ys)) old now true → contains nat_cmp (met_in now class) number ≡ true → Meets (map f ys) old new false
  stop-of old now new d met again = λ before have once.
      let all = map f ys in
      let item = f (get_or ys i d) in
      let rest = drop (i + 1) all in
      let within : i < length all = omega (arith, below, length-map ys f) in
      let whole : all ≡ take i all ++ item ∷ rest = sym (take-append-drop i all) ∙ ap (λ l. take i all ++ l) (drop_more all i item within ∙ ap (λ x. x ∷ rest) (get_or-map f ys i d item below)) in
      met-again (before ++ take i all) rest item now (met before have) (item-there now true again d)
      (subst AreOnce (ap (λ l. before ++ l) whole ∙ sym (append_assoc before (take i all) (item ∷ rest))) once)

some-of : {H : Type 0} (ys : List H) (i : ℕ) → i < length ys → H
some-of [] i below = absurd (omega (arith, below))
some-of (y ∷ ys) i below = y

pub met-next : {H : Type 0} (f : H → Item) (class : QueueClass) (classed : (x : H) → (f x).class ≡ class) (xs ys : List H) (i number : ℕ) (old now new : Met) → ys ≡ xs → i < length ys
    → ((d : H) → number ≡ (f (get_or ys i d)).number) → Meets (take i (map f xs)) old now true → contains nat_cmp (met_in now class) number ≡ false → Adds class number now new → Meets (take (i + 1) (map f xs)) old new true
met-next f class classed xs ys i number old now new same below bears_it met unmet adds =
    subst (λ l. Meets (take (i + 1) (map f l)) old new true) same
    (next-of f class classed xs ys i number same below bears_it old now new (some-of ys i below) (subst (λ l. Meets (take i (map f l)) old now true) (sym same) met) unmet adds)

pub met-stop : {H : Type 0} (f : H → Item) (class : QueueClass) (classed : (x : H) → (f x).class ≡ class) (xs ys : List H) (i number : ℕ) (old now new : Met) → ys ≡ xs → i < length ys
    → ((d : H) → number ≡ (f (get_or ys i d)).number) → Meets (take i (map f xs)) old now true → contains nat_cmp (met_in now class) number ≡ true → Meets (map f xs) old new false
met-stop f class classed xs ys i number old now new same below bears_it met again =
    subst (λ l. Meets (map f l) old new false) same
    (stop-of f class classed xs ys i number same below bears_it old now new (some-of ys i below) (subst (λ l. Meets (take i (map f l)) old now true) (sym same) met) again)

pub met-all : {H : Type 0} (f : H → Item) (xs ys : List H) (i : ℕ) (old now : Met) → ys ≡ xs → length ys ≤ i → Meets (take i (map f xs)) old now true → Meets (map f xs) old now true
met-all f xs ys i old now same past met =
    let long : length ys ≡ length xs = ap length same in
    subst (λ l. Meets l old now true) (take_all i (map f xs) (omega (arith, past, length-map xs f, long))) met

-- queues are met one after the other
pub meets-more : {X : Type 0} (f : X → List Item) (xs : List X) (i : ℕ) (ys : List Item) (old now new : Met) → i < length xs → ((d : X) → ys ≡ f (get_or xs i d))
    → Meets (flat_map f (take i xs)) old now true → Meets ys now new true → Meets (flat_map f (take (i + 1) xs)) old new true
meets-more f [] i ys old now new below same first later = absurd (omega (arith, below))
meets-more f (x ∷ rest) i ys old now new below same first later =
    let xs = x ∷ rest in
    let grown : flat_map f (take i xs) ++ f (get_or xs i x) ≡ flat_map f (take (i + 1) xs) = flat_map_more f [] (take i xs) (get_or xs i x) ∙ ap (flat_map f) (sym (take_more xs i x below)) in
    subst (λ l. Meets l old new true) (ap (λ l. flat_map f (take i xs) ++ l) (same x) ∙ grown) (meets-both (flat_map f (take i xs)) ys old now new true first later)

pub meets-no : {X : Type 0} (f : X → List Item) (xs : List X) (i : ℕ) (ys : List Item) (old now new : Met) → i < length xs → ((d : X) → ys ≡ f (get_or xs i d))
    → Meets (flat_map f (take i xs)) old now true → Meets ys now new false → Meets (flat_map f xs) old new false
meets-no f [] i ys old now new below same first later = absurd (omega (arith, below))
meets-no f (x ∷ rest) i ys old now new below same first later =
    let xs = x ∷ rest in
    let grown : flat_map f (take i xs) ++ f (get_or xs i x) ≡ flat_map f (take (i + 1) xs) = flat_map_more f [] (take i xs) (get_or xs i x) ∙ ap (flat_map f) (sym (take_more xs i x below)) in
    let some = subst (λ l. Meets l old new false) (ap (λ l. flat_map f (take i xs) ++ l) (same x) ∙ grown) (meets-both (flat_map f (take i xs)) ys old now new false first later) in
    subst (λ l. Meets l old new false) (sym (flat_map-append f (take (i + 1) xs) (drop (i + 1) xs)) ∙ ap (flat_map f) (take-append-drop (i + 1) xs))
    (meets-some (flat_map f (take (i + 1) xs)) (flat_map f (drop (i + 1) xs)) old new new some)

pub meets-all : {X : Type 0} (f : X → List Item) (xs : List X) (i : ℕ) (old now : Met) → length xs ≤ i → Meets (flat_map f (take i xs)) old now true → Meets (flat_map f xs) old now true
meets-all f xs i old now past met = subst (λ l. Meets (flat_map f l) old now true) (take_all i xs past) met

none-in : (met : Met) → met.research.keys ≡ [] → met.buildings.keys ≡ [] → met.batches.keys ≡ [] → (class : QueueClass) (number : ℕ) → contains nat_cmp (met_in met class) number ≡ false
none-in met research buildings batches Researches number = ap (list_any _) research
none-in met research buildings batches Buildings number = ap (list_any _) buildings
none-in met research buildings batches Yard number = ap (list_any _) batches

-- nothing is met yet
pub none-met : (met : Met) → met.research.keys ≡ [] → met.buildings.keys ≡ [] → met.batches.keys ≡ [] → HaveMet [] met
none-met met research buildings batches = record {
  numbers = none-in met research buildings batches;
  once = λ i j d sooner below. absurd (omega (arith, below));
}

pub once-answer : (items : List Item) (old new : Met) (all : Bool) → HaveMet [] old → Meets items old new all → IsTrue all ↔ AreOnce items
once-answer items old new true none meets = (λ added. (meets [] none).once, λ once. refl)
once-answer items old new false none meets = (λ added. absurd (cc added), λ once. absurd (meets [] none once))
