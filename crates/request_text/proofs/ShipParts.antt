-- The parts of a text of ships: each list of counts has its own parts.
use Rattle.std.proofs.Common.{◌≡◌, ◌≢◌, ℕ, zero, suc, ◌+◌, ◌<◌, ◌≤◌, Bool, true, false, List, [], ◌∷◌, ◌++◌, length, get_or, take, drop, refl, ap, sym, ◌∙◌, subst, arith, eqb, cond, ne_eqb, add-one, append_assoc, codes, decimal}
use Rattle.std.specs.Prelude.{nat_le, nat_lt, ◌&&◌}
use Rattle.std.specs.List.{AllByRecursion, join_with_byte, list_all, list_any}
use Rattle.std.proofs.lemmas.Bool.Decides.{nat_tests}
use Rattle.std.proofs.lemmas.List.{append-nil, drop_all, length-take-le, take_all, take_more, take_more_set}
use Rattle.std.proofs.Math.Seq.{drop-cons}
use Rattle.std.proofs.Math.ListN.{set}
use Rattle.std.proofs.lemmas.List.Folds.{list_all-append}
use Rattle.base_text.specs.Parts.{Lacks, parts}
use Rattle.base_text.proofs.Joining.{parts-join_with_byte}
use Rattle.base_text.proofs.Lacking.{lacks-append, lacks-cons, lacks-nil, lacks-decimal}
use Rattle.base_text.proofs.Splitting.{join-parts, parts-more}
use Rattle.catalog.specs.Kinds.{kind_number, kind_word}
use Rattle.catalog.specs.Texts.{ship_part, ship_parts, ships_text}
use Rattle.catalog.specs.declared.kind.Kind.{Kind}
use Rattle.catalog.specs.declared.kind.Kind.TheVariants.{MetalMine}
use Rattle.catalog.specs.declared.ships.Ships.{Ships}
use Rattle.catalog.specs.declared.ships.TheConstants.{SHIPS, UNITS}
use Rattle.catalog.proofs.Values.{ships_is}
use Rattle.catalog.proofs.Words.{word_once}
use Rattle.request_text.specs.Ships.{Begins, Counted, IsOther, IsUncounted}
use Rattle.request_text.proofs.Counting.{absent_once, good_number, part_joined, parts-named, some_part}
use Rattle.request_text.proofs.Plain.{kind_lacks}

-- no count is above the most
abbrev pub are_within : List ℕ → Bool
are_within counts = list_all (λ count. nat_le count UNITS) counts

-- the first kind, and the others
pub parts-first : (kind : Kind) (kinds : List Kind) (count : ℕ) (counts : List ℕ) → ship_parts (kind ∷ kinds) (count ∷ counts) ≡ ship_parts (kind ∷ []) (count ∷ []) ++ ship_parts kinds counts
parts-first kind kinds count counts =
    elim (eqb count 0) as (λ b. cond b (ship_parts kinds counts) (ship_part kind count ∷ ship_parts kinds counts) ≡ cond b [] (ship_part kind count ∷ []) ++ ship_parts kinds counts) [ true ↦ refl | false ↦ refl ]

-- kinds that rise by number
after : ℕ → List Kind → Bool
after n [] = true
after n (kind ∷ kinds) = nat_lt n (kind_number kind) && after n kinds

rises : List Kind → Bool
rises [] = true
rises (kind ∷ kinds) = after (kind_number kind) kinds && rises kinds

ships_rise : rises SHIPS ≡ true
unfolding rises after
ships_rise = refl

left_true : (a b : Bool) → (a && b) ≡ true → a ≡ true
left_true true b e = refl
left_true false b e = e

right_true : (a b : Bool) → (a && b) ≡ true → b ≡ true
right_true true b e = e
right_true false b e = cc

-- where the kinds come later, no part begins with this one
later_other : (kind : Kind) (kinds : List Kind) (counts : List ℕ) → after (kind_number kind) kinds ≡ true → IsOther kind (ship_parts kinds counts)
unfolding after
later_other kind [] counts later text more e = cc
later_other kind (next ∷ kinds) [] later text more e = cc
later_other kind (next ∷ kinds) (count ∷ counts) later text more e =
    either kind next kinds counts count text more (left_true (nat_lt (kind_number kind) (kind_number next)) _ later) (later_other kind kinds counts (right_true (nat_lt (kind_number kind) (kind_number next)) _ later) text more) (eqb count 0) e
  where
    either : (kind next : Kind) (kinds : List Kind) (counts : List ℕ) (count : ℕ) (text : List ℕ) (more : List (List ℕ)) → nat_lt (kind_number kind) (kind_number next) ≡ true → (ship_parts kinds counts ≡ (kind_word kind ++ (61 ∷ text)) ∷ more → ⊥)
        → (b : Bool) → cond b (ship_parts kinds counts) (ship_part next count ∷ ship_parts kinds counts) ≡ (kind_word kind ++ (61 ∷ text)) ∷ more → ⊥
    either kind next kinds counts count text more above rest true e = rest e
    either kind next kinds counts count text more above rest false e =
        let part : ship_part next count ≡ kind_word kind ++ (61 ∷ text) = cc in
        let both : kind_word next ∷ parts 61 (decimal count) ≡ kind_word kind ∷ parts 61 text = sym (parts-named next (decimal count)) ∙ ap (parts 61) (sym (append_assoc (kind_word next) (61 ∷ []) (decimal count)) ∙ part) ∙ parts-named kind text in
        let one : next ≡ kind = word_once next kind (cc) in
        let number = ap kind_number one in
        absurd (grind (arith, nat_tests))

-- the kinds from a place on
rises-drop : (kinds : List Kind) (i : ℕ) → rises kinds ≡ true → rises (drop i kinds) ≡ true
unfolding rises
rises-drop kinds zero up = up
rises-drop [] (suc i) up = up
rises-drop (kind ∷ kinds) (suc i) up = rises-drop kinds i (right_true (after (kind_number kind) kinds) _ up)

-- the parts of so many kinds more
pub parts-more_kinds : (kinds : List Kind) (counts : List ℕ) (kind : Kind) (count : ℕ) → length kinds ≡ length counts → ship_parts (kinds ++ kind ∷ []) (counts ++ count ∷ []) ≡ ship_parts kinds counts ++ ship_parts (kind ∷ []) (count ∷ [])
parts-more_kinds [] [] kind count same = refl
parts-more_kinds [] (n ∷ counts) kind count same = absurd (omega arith)
parts-more_kinds (k ∷ kinds) [] kind count same = absurd (omega arith)
parts-more_kinds (k ∷ kinds) (n ∷ counts) kind count same =
    parts-first k (kinds ++ kind ∷ []) n (counts ++ count ∷ []) ∙ ap (λ ps. ship_parts (k ∷ []) (n ∷ []) ++ ps) (parts-more_kinds kinds counts kind count (omega arith))
    ∙ sym (append_assoc (ship_parts (k ∷ []) (n ∷ [])) (ship_parts kinds counts) (ship_parts (kind ∷ []) (count ∷ []))) ∙ ap (λ ps. ps ++ ship_parts (kind ∷ []) (count ∷ [])) (sym (parts-first k kinds n counts))

-- the parts from a place on
pub parts-drop : (kinds : List Kind) (counts : List ℕ) (i : ℕ) (d : Kind) → i < length kinds → i < length counts → ship_parts (drop i kinds) (drop i counts) ≡ ship_parts (get_or kinds i d ∷ []) (get_or counts i 0 ∷ []) ++ ship_parts (drop (i + 1) kinds) (drop (i + 1) counts)
parts-drop kinds counts i d within there = rw (add-one, drop-cons kinds i d within, drop-cons counts i 0 there) (parts-first (get_or kinds i d) (drop (suc i) kinds) (get_or counts i 0) (drop (suc i) counts))

-- the kinds after a place are others
pub others_after : (i : ℕ) (d : Kind) (counts : List ℕ) → i < 13 → IsOther (get_or SHIPS i d) (ship_parts (drop (i + 1) SHIPS) counts)
unfolding rises
others_after i d counts within =
    let up : rises (get_or SHIPS i d ∷ drop (suc i) SHIPS) ≡ true = subst (λ ks. rises ks ≡ true) (drop-cons SHIPS i d within) (rises-drop SHIPS i ships_rise) in
    rw (add-one) (later_other (get_or SHIPS i d) (drop (suc i) SHIPS) counts (left_true (after (kind_number (get_or SHIPS i d)) (drop (suc i) SHIPS)) _ up))

-- a count in a list that is within
pub one_within : (counts : List ℕ) (i : ℕ) → i < length counts → are_within counts ≡ true → get_or counts i 0 ≤ UNITS
one_within [] i within all = absurd (omega arith)
one_within (count ∷ counts) zero within all = let first = left_true (nat_le count UNITS) _ all in grind (arith, nat_tests)
one_within (count ∷ counts) (suc i) within all = one_within counts i (omega arith) (right_true (nat_le count UNITS) _ all)

-- a list of counts whose parts these are begins like the counts that were read
pub counts-more : (i : ℕ) (d : Kind) (ns read : List ℕ) (old new : List (List ℕ)) (count : ℕ) → i < 13 → length ns ≡ 13 → are_within ns ≡ true → Counted (get_or SHIPS i d) old new count → old ≡ ship_parts (drop i SHIPS) (drop i ns)
    → (get_or ns i 0 ≡ count) × (new ≡ ship_parts (drop (i + 1) SHIPS) (drop (i + 1) ns))
counts-more i d ns read old new count within long small counted is =
    let begins : Begins (get_or SHIPS i d) old (get_or ns i 0) (ship_parts (drop (i + 1) SHIPS) (drop (i + 1) ns)) = is ∙ parts-drop SHIPS ns i d within (omega arith) in
    let found = counted.once (get_or ns i 0) (ship_parts (drop (i + 1) SHIPS) (drop (i + 1) ns)) (one_within ns i (omega arith) small) (others_after i d (drop (i + 1) ns) within) begins in
    (found.0, sym found.1)

-- where the next part has no good count, no list of counts has these parts
pub counts-none : (i : ℕ) (d : Kind) (ns : List ℕ) (old : List (List ℕ)) → i < 13 → length ns ≡ 13 → are_within ns ≡ true → IsUncounted (get_or SHIPS i d) old → old ≡ ship_parts (drop i SHIPS) (drop i ns) → ⊥
counts-none i d ns old within long small none is =
    none (get_or ns i 0) (ship_parts (drop (i + 1) SHIPS) (drop (i + 1) ns)) (one_within ns i (omega arith) small) (others_after i d (drop (i + 1) ns) within) (is ∙ parts-drop SHIPS ns i d within (omega arith))

-- no part has a comma, nor a space
parts_lack : (c : ℕ) (kinds : List Kind) (counts : List ℕ) → c < 48 → 61 ≢ c → AllByRecursion (Lacks c) (ship_parts kinds counts)
parts_lack c [] counts low other = tt
parts_lack c (kind ∷ kinds) [] low other = tt
parts_lack c (kind ∷ kinds) (count ∷ counts) low other =
    elim (eqb count 0) as (λ b. AllByRecursion (Lacks c) (cond b (ship_parts kinds counts) (ship_part kind count ∷ ship_parts kinds counts)))
    [ true ↦ parts_lack c kinds counts low other | false ↦ (part_lacks c kind count low other, parts_lack c kinds counts low other) ]
  where
    part_lacks : (c : ℕ) (kind : Kind) (count : ℕ) → c < 48 → 61 ≢ c → Lacks c (ship_part kind count)
    part_lacks c kind count low other =
        lacks-append c (kind_word kind ++ codes "=") (decimal count) (lacks-append c (kind_word kind) (codes "=") (kind_lacks c kind (omega arith)) (lacks-cons c 61 [] other (lacks-nil c))) (lacks-decimal c count (λ h. omega (arith, h.0)))

-- where there is no ship there is no part, and the other way round
pub no_ships : (kinds : List Kind) (counts : List ℕ) → length kinds ≡ length counts → list_any (λ count. nat_lt 0 count) counts ≡ false → ship_parts kinds counts ≡ []
no_ships [] counts same none = refl
no_ships (kind ∷ kinds) [] same none = refl
no_ships (kind ∷ kinds) (zero ∷ counts) same none = no_ships kinds counts (omega arith) (grind (arith, nat_tests))
no_ships (kind ∷ kinds) (suc count ∷ counts) same none = absurd (grind (arith, nat_tests))

some_ships : (kinds : List Kind) (counts : List ℕ) → length kinds ≡ length counts → list_any (λ count. nat_lt 0 count) counts ≡ true → (first : List ℕ) × ((more : List (List ℕ)) × (ship_parts kinds counts ≡ first ∷ more))
some_ships [] [] same some = absurd (cc)
some_ships [] (count ∷ counts) same some = absurd (omega arith)
some_ships (kind ∷ kinds) [] same some = absurd (omega arith)
some_ships (kind ∷ kinds) (zero ∷ counts) same some = some_ships kinds counts (omega arith) (grind (arith, nat_tests))
some_ships (kind ∷ kinds) (suc count ∷ counts) same some = (ship_part kind (suc count), (ship_parts kinds counts, rw (ne_eqb (suc count) 0 (λ e. omega arith)) refl))

-- the parts of a text of ships
pub text_parts : (ships : Ships) → parts 44 (ships_text ships.n) ≡ ship_parts SHIPS ships.n
text_parts ships =
    let (first, (more, is)) = some_ships SHIPS ships.n (sym ships.kinds) ships.some in
    ap (λ ps. parts 44 (join_with_byte 44 ps)) is ∙ parts-join_with_byte 44 first more (subst (AllByRecursion (Lacks 44)) is (parts_lack 44 SHIPS ships.n (omega arith) (λ e. omega arith))) ∙ sym is

-- a text whose parts are those of some counts
pub parts_text : (word counts : List ℕ) → parts 44 word ≡ ship_parts SHIPS counts → word ≡ ships_text counts
parts_text word counts is = sym (join-parts 44 word) ∙ ap (join_with_byte 44) is

-- a text has a part, so there is a ship
pub any_ship : (word counts : List ℕ) → length counts ≡ 13 → parts 44 word ≡ ship_parts SHIPS counts → list_any (λ count. nat_lt 0 count) counts ≡ true
any_ship word counts long is = either (list_any (λ count. nat_lt 0 count) counts) refl
  where
    either : (b : Bool) → list_any (λ count. nat_lt 0 count) counts ≡ b → b ≡ true
    either true e = refl
    either false e =
        let (first, (more, has)) = parts-more 44 word in
        let both : first ∷ more ≡ [] = sym has ∙ is ∙ no_ships SHIPS counts (sym long) e in
        cc

-- one kind more was read
pub read_more : (i : ℕ) (n : List ℕ) (count : ℕ) (all old new : List (List ℕ)) → i < 13 → length n ≡ 13 → Counted (get_or SHIPS i MetalMine) old new count → all ≡ ship_parts (take i SHIPS) (take i n) ++ old
    → all ≡ ship_parts (take (i + 1) SHIPS) (take (i + 1) (set n i count)) ++ new
read_more i n count all old new within long counted is =
    let there : i < length n = omega arith in
    let same : length (take i SHIPS) ≡ length (take i n) = length-take-le i SHIPS (omega arith) ∙ sym (length-take-le i n (omega arith)) in
    let more = parts-more_kinds (take i SHIPS) (take i n) (get_or SHIPS i MetalMine) count same in
    is ∙ ap (λ ps. ship_parts (take i SHIPS) (take i n) ++ ps) counted.begins ∙ sym (append_assoc (ship_parts (take i SHIPS) (take i n)) (ship_parts (get_or SHIPS i MetalMine ∷ []) (count ∷ [])) new) ∙ ap (λ ps. ps ++ new) (sym more)
    ∙ (λ j. ship_parts (sym (take_more SHIPS i MetalMine within) j) (sym (take_more_set n i count there) j) ++ new)

pub within_more : (i : ℕ) (n : List ℕ) (count : ℕ) → i < length n → count ≤ UNITS → are_within (take i n) ≡ true → are_within (take (i + 1) (set n i count)) ≡ true
within_more i n count there small before =
    let one : nat_le count UNITS ≡ true = grind (arith, nat_tests) in
    ap are_within (take_more_set n i count there) ∙ list_all-append (λ c. nat_le c UNITS) (take i n) (count ∷ []) ∙ rw (before, one) refl

pub once_more : (i : ℕ) (n ns : List ℕ) (count : ℕ) (old new : List (List ℕ)) → i < 13 → length n ≡ 13 → length ns ≡ 13 → are_within ns ≡ true → Counted (get_or SHIPS i MetalMine) old new count
    → (take i ns ≡ take i n) × (old ≡ ship_parts (drop i SHIPS) (drop i ns)) → (take (i + 1) ns ≡ take (i + 1) (set n i count)) × (new ≡ ship_parts (drop (i + 1) SHIPS) (drop (i + 1) ns))
once_more i n ns count old new within long longs small counted before =
    let found = counts-more i MetalMine ns n old new count within longs small counted before.1 in
    (take_more ns i 0 (omega arith) ∙ (λ j. before.0 j ++ found.0 j ∷ []) ∙ sym (take_more_set n i count (omega arith)), found.1)

-- all kinds were read, and no part is left
pub read_all : (i : ℕ) (word n : List ℕ) (left : List (List ℕ)) → 13 ≤ i → length n ≡ 13 → left ≡ [] → parts 44 word ≡ ship_parts (take i SHIPS) (take i n) ++ left → parts 44 word ≡ ship_parts SHIPS n
read_all i word n left over long none is =
    is ∙ (λ j. ship_parts (take_all i SHIPS (omega arith) j) (take_all i n (omega arith) j) ++ none j) ∙ append-nil (ship_parts SHIPS n)

-- a part is left behind the last kind
pub read_over : (i : ℕ) (ns : List ℕ) (left : List (List ℕ)) → 13 ≤ i → left ≡ ship_parts (drop i SHIPS) (drop i ns) → left ≡ []
read_over i ns left over is = is ∙ ap (λ kinds. ship_parts kinds (drop i ns)) (drop_all i SHIPS (omega arith))

-- parts that begin with a count of a kind, and then others
counted_here : (kind : Kind) (count : ℕ) (rest : List (List ℕ)) → count ≤ UNITS → IsOther kind rest → Counted kind (ship_parts (kind ∷ []) (count ∷ []) ++ rest) rest count
counted_here kind zero rest within other = absent_once kind rest other
counted_here kind (suc count) rest within other =
    let part = ship_part kind (suc count) in
    let is = ap (λ ps. ps ++ rest) (some_part kind (suc count) (λ e. omega arith)) in
    let cut = ap (parts 61) (part_joined kind (suc count)) ∙ parts-named kind (decimal (suc count)) in
    good_number kind (ship_parts (kind ∷ []) (suc count ∷ []) ++ rest) part (kind_word kind) (decimal (suc count)) rest (suc count) is cut refl (omega arith) within refl

-- two lists of counts with the same parts are one
parts_once : (kinds : List Kind) (xs ys : List ℕ) → rises kinds ≡ true → length kinds ≡ length xs → length kinds ≡ length ys → are_within xs ≡ true → are_within ys ≡ true → ship_parts kinds xs ≡ ship_parts kinds ys → xs ≡ ys
unfolding rises
parts_once [] [] [] up long_x long_y small_x small_y same = refl
parts_once [] [] (y ∷ ys) up long_x long_y small_x small_y same = absurd (omega arith)
parts_once [] (x ∷ xs) ys up long_x long_y small_x small_y same = absurd (omega arith)
parts_once (kind ∷ kinds) [] ys up long_x long_y small_x small_y same = absurd (omega arith)
parts_once (kind ∷ kinds) (x ∷ xs) [] up long_x long_y small_x small_y same = absurd (omega arith)
parts_once (kind ∷ kinds) (x ∷ xs) (y ∷ ys) up long_x long_y small_x small_y same =
    let later = left_true (after (kind_number kind) kinds) _ up in
    let rest_up = right_true (after (kind_number kind) kinds) _ up in
    let counted = counted_here kind x (ship_parts kinds xs) (one_within (x ∷ xs) 0 (omega arith) small_x) (later_other kind kinds xs later) in
    let begins = sym (parts-first kind kinds x xs) ∙ same ∙ parts-first kind kinds y ys in
    let found = counted.once y (ship_parts kinds ys) (one_within (y ∷ ys) 0 (omega arith) small_y) (later_other kind kinds ys later) begins in
    let rest = parts_once kinds xs ys rest_up (omega arith) (omega arith) (right_true (nat_le x UNITS) _ small_x) (right_true (nat_le y UNITS) _ small_y) (sym found.1) in
    λ i. sym found.0 i ∷ rest i

-- ships with the same text are one
pub ships_once : (a b : Ships) → ships_text a.n ≡ ships_text b.n → a ≡ b
ships_once a b same =
    ships_is a b (parts_once SHIPS a.n b.n ships_rise (sym a.kinds) (sym b.kinds) a.within b.within (sym (text_parts a) ∙ ap (parts 44) same ∙ text_parts b))

-- no space stands in a text of ships
join-lacks : (c sign : ℕ) (ps : List (List ℕ)) → sign ≢ c → AllByRecursion (Lacks c) ps → Lacks c (join_with_byte sign ps)
join-lacks c sign [] other free = lacks-nil c
join-lacks c sign (first ∷ []) other free = free.0
join-lacks c sign (first ∷ next ∷ more) other free =
    lacks-append c first (sign ∷ join_with_byte sign (next ∷ more)) free.0 (lacks-cons c sign (join_with_byte sign (next ∷ more)) other (join-lacks c sign (next ∷ more) other free.1))

pub ships_lack_space : (counts : List ℕ) → Lacks 32 (ships_text counts)
ships_lack_space counts = join-lacks 32 44 (ship_parts SHIPS counts) (λ e. omega arith) (parts_lack 32 SHIPS counts (omega arith) (λ e. omega arith))
