-- The units of a side, part by part, kind by kind and one by one.
use Rattle.std.proofs.Common.{◌≡◌, ℕ, zero, suc, ◌+◌, ◌-◌, ◌<◌, ◌≤◌, List, [], ◌∷◌, ◌++◌, length, map, take, drop, get_or, replicate, refl, ap, sym, ◌∙◌, arith, append_assoc}
use Rattle.std.specs.List.{enumerate_from, flat_map, zip}
use Rattle.std.proofs.lemmas.List.{drop_more, get_or_append_left, get_or_push, length-append, length-map, length-replicate, map-append, take_all}
use Rattle.std.proofs.lemmas.List.Elements.{All-head, All-tail}
use Rattle.catalog.specs.declared.kind.Kind.{Kind}
use Rattle.battle.specs.declared.combatant.Combatant.{Combatant}
use Rattle.battle.specs.declared.fighter.Fighter.{Fighter}
use Rattle.battle.specs.declared.part.Part.{Part}
use Rattle.battle.specs.declared.unit_state.UnitState.{UnitState}
use Rattle.battle.specs.Arrays.{AreKnown, AreSound, all_seen, fighter_of, seen, seen_as}
use Rattle.battle.specs.Course.{unhurt}
use Rattle.battle.specs.Shots.{nobody}
use Rattle.battle.proofs.Shown.{known}
use Rattle.battle.specs.Sides.{fighter, fighters, part_fighters}

-- the units of the parts from a place on
abbrev pub from_part : ℕ → List Part → List Combatant
from_part place parts = map unhurt (flat_map (λ placed. part_fighters placed.0 placed.1) (enumerate_from place parts))

-- the units of these kinds
abbrev pub of_kinds : ℕ → List ℕ → List Kind → List ℕ → List Combatant
of_kinds part levels kinds counts = map unhurt (flat_map (λ counted. replicate counted.1 (fighter part levels counted.0)) (zip kinds counts))

-- one kind more
pub kind_more : (units : List Combatant) (part : ℕ) (levels : List ℕ) (kinds : List Kind) (counts : List ℕ) (i : ℕ) (k : Kind) (d : ℕ)
    → i < length kinds → i < length counts
    → (units ++ map unhurt (replicate (get_or counts i d) (fighter part levels (get_or kinds i k)))) ++ of_kinds part levels (drop (i + 1) kinds) (drop (i + 1) counts)
    ≡ units ++ of_kinds part levels (drop i kinds) (drop i counts)
kind_more units part levels kinds counts i k d within inside =
    rw (append_assoc, drop_more kinds i k within, drop_more counts i d inside, map-append) refl

-- states show the same combatants if strengths are added to their table
same_seen : (table more : List Fighter) (units : List UnitState) → AreKnown (length table) units → all_seen (table ++ more) 0 units ≡ all_seen table 0 units
same_seen table more [] all = refl
same_seen table more (u ∷ us) all =
    ap (λ (f : Fighter). seen_as 0 f u ∷ all_seen (table ++ more) 0 us) (get_or_append_left table more nobody u.strength (All-head (λ v. v.strength < length table) u us all))
    ∙ ap (λ (cs : List Combatant). seen table 0 u ∷ cs) (same_seen table more us (All-tail (λ v. v.strength < length table) u us all))

-- so many states of one kind
seen_replicate : (table : List Fighter) (u : UnitState) (f : Fighter) (count : ℕ) → fighter_of table u ≡ f → seen_as 0 f u ≡ unhurt f
    → all_seen table 0 (replicate count u) ≡ map unhurt (replicate count f)
seen_replicate table u f zero e shows = refl
seen_replicate table u f (suc count) e shows =
    ap (λ (c : Combatant). c ∷ all_seen table 0 (replicate count u)) (ap (λ (g : Fighter). seen_as 0 g u) e ∙ shows)
    ∙ ap (λ (cs : List Combatant). unhurt f ∷ cs) (seen_replicate table u f count e shows)

-- strengths and so many units of them are added
pub mustered_more : (table more_table : List Fighter) (units more_units : List UnitState) (f : Fighter) (u : UnitState) (count n old : ℕ)
    → AreSound (length table) 0 units → u.strength ≡ length table → seen_as 0 f u ≡ unhurt f
    → old ≡ length units → n ≡ length units → more_table ≡ table ++ f ∷ [] → more_units ≡ take (n + count) units ++ replicate (n + count - old) u
    → all_seen more_table 0 more_units ≡ all_seen table 0 units ++ map unhurt (replicate count f)
mustered_more table more_table units more_units f u count n old sound at shows o m t us =
    let more : n + count - old ≡ count = omega (arith, o, m) in
    let whole : take (n + count) units ≡ units = take_all (n + count) units (omega (arith, m)) in
    let last : fighter_of (table ++ f ∷ []) u ≡ f = get_or_push table f nobody u.strength (sym at) in
    rw (us, t, more, whole, map-append)
    (ap (λ (cs : List Combatant). cs ++ all_seen (table ++ f ∷ []) 0 (replicate count u)) (same_seen table (f ∷ []) units (known (length table) 0 units sound))
    ∙ ap (λ (cs : List Combatant). all_seen table 0 units ++ cs) (seen_replicate (table ++ f ∷ []) u f count last shows))

-- there is room for one kind more
pub kind_room : (now initial : List Combatant) (part : ℕ) (levels : List ℕ) (kinds : List Kind) (counts : List ℕ) (i : ℕ) (k : Kind) (d : ℕ)
    → i < length kinds → i < length counts
    → now ++ of_kinds part levels (drop i kinds) (drop i counts) ≡ initial ++ of_kinds part levels kinds counts
    → length now + get_or counts i d ≤ length initial + length (of_kinds part levels kinds counts)
kind_room now initial part levels kinds counts i k d within inside same =
    let count = get_or counts i d in
    let first = replicate count (fighter part levels (get_or kinds i k)) in
    let later = of_kinds part levels (drop (i + 1) kinds) (drop (i + 1) counts) in
    let split : of_kinds part levels (drop i kinds) (drop i counts) ≡ map unhurt first ++ later = rw (drop_more kinds i k within, drop_more counts i d inside, map-append) refl in
    let many : length (map unhurt first) ≡ count = length-map first unhurt ∙ length-replicate count (fighter part levels (get_or kinds i k)) in
    let whole = ap length same in
    let front = length-append now (of_kinds part levels (drop i kinds) (drop i counts)) in
    let back = length-append initial (of_kinds part levels kinds counts) in
    let rest = ap length split ∙ length-append (map unhurt first) later in
    omega (arith, whole, front, back, rest, many)

-- there is room for one part more
pub part_room : (now : List Combatant) (parts : List Part) (i : ℕ) (d : Part) → i < length parts
    → now ++ from_part i (drop i parts) ≡ from_part 0 parts
    → length now + length (part_fighters i (get_or parts i d)) ≤ length (fighters parts)
part_room now parts i d within same =
    let first = part_fighters i (get_or parts i d) in
    let later = from_part (i + 1) (drop (i + 1) parts) in
    let split : from_part i (drop i parts) ≡ map unhurt first ++ later = rw (drop_more parts i d within, map-append) refl in
    let many : length (map unhurt first) ≡ length first = length-map first unhurt in
    let all : length (from_part 0 parts) ≡ length (fighters parts) = length-map (fighters parts) unhurt in
    let whole = ap length same in
    let front = length-append now (from_part i (drop i parts)) in
    let rest = ap length split ∙ length-append (map unhurt first) later in
    omega (arith, whole, front, rest, many, all)
