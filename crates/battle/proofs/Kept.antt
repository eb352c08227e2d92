-- The units that are left, counted by part and kind: all of them are those of the parts, and none is gained.
use Rattle.std.proofs.Common.{◌≡◌, ℕ, ◌+◌, ◌<◌, ◌≤◌, List, [], ◌∷◌, ◌++◌, length, map, filter, replicate, Bool, true, false, cond, ◌&&◌, ap, ◌∙◌, refl, arith}
use Rattle.std.specs.Prelude.{nat_le, ◌==◌}
use Rattle.std.specs.List.{AllByRecursion, count_by, enumerate_from, flat_map, range_with_len, zip}
use Rattle.std.proofs.lemmas.Bool.{and_left, and_parts, and_right, eq-eqb, leb-true, ne_eqb}
use Rattle.std.proofs.lemmas.List.Folds.{sum_by-replicate}
use Rattle.std.proofs.lemmas.List.Sums.{sum_by-append, sum_by-cons}
use Rattle.catalog.specs.Kinds.{kind_number}
use Rattle.catalog.specs.declared.classes.TheConstants.{UNIT_KINDS}
use Rattle.catalog.specs.declared.kind.Kind.{Kind}
use Rattle.battle.proofs.AllRounds.{map_places, map_same}
use Rattle.battle.proofs.Places.{Rise}
use Rattle.battle.specs.declared.fighter.Fighter.{Fighter}
use Rattle.battle.specs.declared.part.Part.{Part}
use Rattle.battle.specs.Outcomes.{count_of, left, survivors}
use Rattle.battle.specs.Shots.{Shot, is_alive, nobody, unit_at}
use Rattle.battle.specs.Sides.{Battle, Party, fighter, fighters, part_fighters, units}

-- the units of some kinds of a part
abbrev of_kinds : ℕ → List ℕ → List Kind → List ℕ → List Fighter
of_kinds part levels kinds counts = flat_map (λ counted. replicate counted.1 (fighter part levels counted.0)) (zip kinds counts)

-- whether a unit is of this part and kind
abbrev pub is_one : ℕ → Kind → Fighter → Bool
is_one part kind f = f.part == part && kind_number f.kind == kind_number kind

count_both : (xs ys : List Fighter) (part : ℕ) (kind : Kind) → count_of (xs ++ ys) part kind ≡ count_of xs part kind + count_of ys part kind
count_both xs ys part kind = sum_by-append (λ f. cond (is_one part kind f) 1 0) xs ys

count_same : (n : ℕ) (f : Fighter) (part : ℕ) (kind : Kind) → is_one part kind f ≡ true → count_of (replicate n f) part kind ≡ n
count_same n f part kind one = sum_by-replicate (λ g. cond (is_one part kind g) 1 0) n f ∙ rw one (omega arith)

count_other : (n : ℕ) (f : Fighter) (part : ℕ) (kind : Kind) → is_one part kind f ≡ false → count_of (replicate n f) part kind ≡ 0
count_other n f part kind other = sum_by-replicate (λ g. cond (is_one part kind g) 1 0) n f ∙ rw other (omega arith)

-- units of another part
other_part : (part levels_part : ℕ) (levels : List ℕ) (kind : Kind) (kinds : List Kind) (counts : List ℕ) → (levels_part == part) ≡ false → count_of (of_kinds levels_part levels kinds counts) part kind ≡ 0
other_part part own levels kind [] counts differs = refl
other_part part own levels kind (k ∷ kinds) [] differs = refl
other_part part own levels kind (k ∷ kinds) (n ∷ counts) differs =
    let rest = other_part part own levels kind kinds counts differs in
    let here = count_other n (fighter own levels k) part kind (and_left (own == part) (kind_number k == kind_number kind) differs) in
    count_both (replicate n (fighter own levels k)) (of_kinds own levels kinds counts) part kind ∙ omega (arith, rest, here)

-- units of later kinds
other_kinds : (part from : ℕ) (levels : List ℕ) (kind : Kind) (kinds : List Kind) (counts : List ℕ) → kind_number kind < from → Rise from (map kind_number kinds) → count_of (of_kinds part levels kinds counts) part kind ≡ 0
unfolding Rise
other_kinds part from levels kind [] counts before rise = refl
other_kinds part from levels kind (k ∷ kinds) [] before rise = refl
other_kinds part from levels kind (k ∷ kinds) (n ∷ counts) before (after, rise) =
    let rest = other_kinds part (kind_number k + 1) levels kind kinds counts (omega (arith, before, after)) rise in
    let differs : (kind_number k == kind_number kind) ≡ false = ne_eqb (kind_number k) (kind_number kind) (λ same. omega (arith, before, after, same)) in
    let here = count_other n (fighter part levels k) part kind (and_right (part == part) (kind_number k == kind_number kind) differs) in
    count_both (replicate n (fighter part levels k)) (of_kinds part levels kinds counts) part kind ∙ omega (arith, rest, here)

-- units of an earlier kind change no count of later ones
later_counts : (part from n : ℕ) (levels : List ℕ) (k : Kind) (rest : List Fighter) (kinds : List Kind) → kind_number k < from → Rise from (map kind_number kinds)
    → map (count_of (replicate n (fighter part levels k) ++ rest) part) kinds ≡ map (count_of rest part) kinds
unfolding Rise
later_counts part from n levels k rest [] before rise = refl
later_counts part from n levels k rest (kind ∷ kinds) before (after, rise) =
    let differs : (kind_number k == kind_number kind) ≡ false = ne_eqb (kind_number k) (kind_number kind) (λ same. omega (arith, before, after, same)) in
    let here = count_other n (fighter part levels k) part kind (and_right (part == part) (kind_number k == kind_number kind) differs) in
    let first : count_of (replicate n (fighter part levels k) ++ rest) part kind ≡ count_of rest part kind = count_both (replicate n (fighter part levels k)) rest part kind ∙ omega (arith, here) in
    ap (λ c. c ∷ map (count_of (replicate n (fighter part levels k) ++ rest) part) kinds) first
    ∙ ap (λ cs. count_of rest part kind ∷ cs) (later_counts part (kind_number kind + 1) n levels k rest kinds (omega (arith, before, after)) rise)

-- the units of a part, counted by kinds
counts_are : (part from : ℕ) (levels : List ℕ) (kinds : List Kind) (counts : List ℕ) → length counts ≡ length kinds → Rise from (map kind_number kinds) → map (count_of (of_kinds part levels kinds counts) part) kinds ≡ counts
unfolding Rise
counts_are part from levels [] [] long rise = refl
counts_are part from levels [] (n ∷ counts) long rise = absurd (omega (arith, long))
counts_are part from levels (k ∷ kinds) [] long rise = absurd (omega (arith, long))
counts_are part from levels (k ∷ kinds) (n ∷ counts) long (after, rise) =
    let rest = of_kinds part levels kinds counts in
    let mine = count_same n (fighter part levels k) part k (rw (eq-eqb part part refl) (eq-eqb (kind_number k) (kind_number k) refl)) in
    let others = other_kinds part (kind_number k + 1) levels k kinds counts (omega arith) rise in
    let first : count_of (replicate n (fighter part levels k) ++ rest) part k ≡ n = count_both (replicate n (fighter part levels k)) rest part k ∙ omega (arith, mine, others) in
    ap (λ c. c ∷ map (count_of (replicate n (fighter part levels k) ++ rest) part) kinds) first
    ∙ ap (λ cs. n ∷ cs) (later_counts part (kind_number k + 1) n levels k rest kinds (omega arith) rise ∙ counts_are part (kind_number k + 1) levels kinds counts (omega (arith, long)) rise)

-- the kinds of units come by their numbers
rises : ℕ → List ℕ → Bool
rises from [] = true
rises from (n ∷ ns) = nat_le from n && rises (n + 1) ns

rise_by_test : (from : ℕ) (ns : List ℕ) → rises from ns ≡ true → Rise from ns
unfolding Rise rises
rise_by_test from [] passes = tt
rise_by_test from (n ∷ ns) passes = let parts = and_parts (nat_le from n) (rises (n + 1) ns) passes in (leb-true from n parts.0, rise_by_test (n + 1) ns parts.1)

pub kinds_rise : Rise 0 (map kind_number UNIT_KINDS)
unfolding rises
kinds_rise = rise_by_test 0 (map kind_number UNIT_KINDS) refl

-- the units of the parts from a place on
abbrev from_part : ℕ → List Part → List Fighter
from_part place parts = flat_map (λ placed. part_fighters placed.0 placed.1) (enumerate_from place parts)

-- later parts have no units of an earlier one
later_parts : (part from : ℕ) (kind : Kind) (parts : List Part) → part < from → count_of (from_part from parts) part kind ≡ 0
later_parts part from kind [] before = refl
later_parts part from kind (p ∷ parts) before =
    let rest = later_parts part (from + 1) kind parts (omega (arith, before)) in
    let here = other_part part from p.techs.n kind UNIT_KINDS p.n (ne_eqb from part (λ same. omega (arith, before, same))) in
    count_both (part_fighters from p) (from_part (from + 1) parts) part kind ∙ omega (arith, rest, here)

-- parts that keep all their units
parts_are : (all : List Fighter) (from : ℕ) (parts : List Part) → AllByRecursion (λ p. length p.n ≡ 22) parts
    → ((part : ℕ) (kind : Kind) → from ≤ part → count_of all part kind ≡ count_of (from_part from parts) part kind)
    → map (λ placed. record placed.1 { n = map (count_of all placed.0) UNIT_KINDS }) (enumerate_from from parts) ≡ parts
parts_are all from [] long same = refl
parts_are all from (p ∷ parts) (first, long) same =
    ap (λ (q : Part). q ∷ map (λ placed. record placed.1 { n = map (count_of all placed.0) UNIT_KINDS }) (enumerate_from (from + 1) parts)) here
    ∙ ap (λ qs. p ∷ qs) (parts_are all (from + 1) parts long later)
  where
    counted : (part : ℕ) (kind : Kind) → from ≤ part → count_of all part kind ≡ count_of (part_fighters from p) part kind + count_of (from_part (from + 1) parts) part kind
    counted part kind least = same part kind least ∙ count_both (part_fighters from p) (from_part (from + 1) parts) part kind

    own : (kind : Kind) → count_of all from kind ≡ count_of (part_fighters from p) from kind
    own kind = let whole = counted from kind (omega arith) in let rest = later_parts from (from + 1) kind parts (omega arith) in omega (arith, whole, rest)

    here : record p { n = map (count_of all from) UNIT_KINDS } ≡ p
    here =
        ap (λ (ns : List ℕ). record p { n = ns })
        (map_same (count_of all from) (count_of (part_fighters from p) from) UNIT_KINDS own ∙ counts_are from 0 p.techs.n UNIT_KINDS p.n first kinds_rise)

    later : (part : ℕ) (kind : Kind) → from + 1 ≤ part → count_of all part kind ≡ count_of (from_part (from + 1) parts) part kind
    later part kind least =
        let whole = counted part kind (omega (arith, least)) in
        let mine = other_part part from p.techs.n kind UNIT_KINDS p.n (ne_eqb from part (λ same. omega (arith, least, same))) in
        omega (arith, whole, mine)

-- a side that loses no unit is as it was
pub all_kept : (parts : List Part) → AllByRecursion (λ p. length p.n ≡ 22) parts → survivors (fighters parts) parts ≡ parts
all_kept parts long = parts_are (fighters parts) 0 parts long (λ part kind least. refl)

-- fewer elements are counted if some are left out
count_fewer : {X : Type 0} (g : ℕ → X) (test : X → Bool) (keep : ℕ → Bool) (places : List ℕ) → count_by test (map g (filter keep places)) ≤ count_by test (map g places)
count_fewer g test keep [] = omega arith
count_fewer g test keep (place ∷ places) = either (keep place) (count_fewer g test keep places)
  where
    one : ℕ
    one = cond (test (g place)) 1 0

    more : count_by test (map g (place ∷ places)) ≡ one + count_by test (map g places)
    more = sum_by-cons (λ x. cond (test x) 1 0) (g place) (map g places)

    either : (kept : Bool) → count_by test (map g (filter keep places)) ≤ count_by test (map g places)
        → count_by test (map g (cond kept (place ∷ filter keep places) (filter keep places))) ≤ count_by test (map g (place ∷ places))
    either true rest = let first = sum_by-cons (λ x. cond (test x) 1 0) (g place) (map g (filter keep places)) in omega (arith, rest, first, more)
    either false rest = omega (arith, rest, more)

-- of no part and no kind is more left than there was
pub none_gained : (b : Battle) (shots : List Shot) (party : Party) (part : ℕ) (kind : Kind) → count_of (left b shots party) part kind ≤ count_of (units b party) part kind
none_gained b shots party part kind =
    let fewer = count_fewer (unit_at b party) (is_one part kind) (is_alive shots 7 party) (range_with_len 0 (length (units b party))) in
    let whole = ap (λ fs. count_of fs part kind) (map_places (λ (f : Fighter). f) nobody (units b party)) in
    let same = ap (λ fs. count_of fs part kind) (map_same_list (units b party)) in
    omega (arith, fewer, whole, same)
  where
    map_same_list : (fs : List Fighter) → map (λ f. f) fs ≡ fs
    map_same_list [] = refl
    map_same_list (f ∷ fs) = ap (λ gs. f ∷ gs) (map_same_list fs)
