-- What the lists have that come of the maps of a draft.
use Rattle.std.proofs.Common.{◌≡◌, Bool, true, List, [], ◌∷◌, ap, ◌∙◌, sym, subst}
use Rattle.std.specs.Prelude.{map, AllPairs}
use Rattle.std.specs.List.{AllByRecursion}
use Rattle.std.specs.List.Sorted.{IsStrictlySortedBy}
use Rattle.std.specs.Map.{keys_of, values_of}
use Rattle.std.specs.Ordering.{is_lt}
use Rattle.std.specs.declared.cmp.Ordering.TheVariants.{Less}
use Rattle.account_cell.specs.declared.account.Account.{Account}
use Rattle.base_ids.specs.Order.{coord_before, player_before}
use Rattle.base_ids.specs.declared.coord.Coord.{Coord}
use Rattle.base_ids.specs.declared.player.Player.{Player}
use Rattle.planet_cell.specs.declared.planet.Planet.{Planet}
use Rattle.founding.specs.DraftMaps.{place_order, planet_of, player_order}
use Rattle.founding.specs.Drafts.{planet_before}
use Rattle.founding.specs.Filing.{account_facts, account_sketched, facts_of, facts_sketched, AccountFacts, Facts}
use Rattle.founding.specs.declared.account_sketch.AccountSketch.{AccountSketch}
use Rattle.founding.specs.declared.sketch.Sketch.{Sketch}
use Rattle.founding.proofs.Keeping.{planets-rise}
use Rattle.founding.proofs.Orders.{lower_number}
use Rattle.founding.proofs.Rising.{all-map, rises-pairs, Rises}

all-unmap : {A B : Type 0} (P : B → Type 0) (f : A → B) (xs : List A) → AllByRecursion P (map f xs) → AllByRecursion (λ x. P (f x)) xs
all-unmap P f [] all = tt
all-unmap P f (x ∷ xs) (first, later) = (first, all-unmap P f xs later)

-- values rise, if they rise by what they come from
pub rises-map : {A B : Type 0} (before : B → B → Bool) (f : A → B) (xs : List A) → Rises (λ x y. before (f x) (f y)) xs → Rises before (map f xs)
rises-map before f [] rises = tt
rises-map before f (x ∷ xs) (above, rises) = (all-map (λ y. before (f x) y ≡ true) f xs above, rises-map before f xs rises)

pub rises-unmap : {A B : Type 0} (before : B → B → Bool) (f : A → B) (xs : List A) → Rises before (map f xs) → Rises (λ x y. before (f x) (f y)) xs
rises-unmap before f [] rises = tt
rises-unmap before f (x ∷ xs) (above, rises) = (all-unmap (λ y. before (f x) y ≡ true) f xs above, rises-unmap before f xs rises)

facts_before : Facts → Facts → Bool
facts_before a b = coord_before a.at b.at

-- the planets of a list that comes of a map rise
pub listed-planets-rise : (list : List Planet) (entries : List (Coord × Sketch)) → AllByRecursion (λ e. e.1.at ≡ e.0) entries → IsStrictlySortedBy place_order (keys_of entries) → map facts_of list ≡ map facts_sketched (values_of entries)
    → AllPairs (λ (a b : Planet). coord_before a.at b.at ≡ true) list
unfolding facts_before
listed-planets-rise list entries placed sorted same =
    let sketches = rises-unmap planet_before planet_of (values_of entries) (planets-rise entries placed sorted) in
    let facts = subst (Rises facts_before) (sym same) (rises-map facts_before facts_sketched (values_of entries) sketches) in
    rises-pairs (λ (a b : Planet). coord_before a.at b.at) list (rises-unmap facts_before facts_of list facts)

above-all : (player : Player) (entries : List (Player × AccountSketch)) → AllByRecursion (λ y. player_order player y ≡ Less) (keys_of entries) → AllByRecursion (λ (e : Player × AccountSketch). player_before player e.0 ≡ true) entries
above-all player [] above = tt
above-all player (e ∷ es) (lower, others) = (sym (lower_number player.k e.0.k) ∙ ap is_lt lower, above-all player es others)

-- the players of a map rise
players-rise : (entries : List (Player × AccountSketch)) → IsStrictlySortedBy player_order (keys_of entries) → Rises (λ (a b : Player × AccountSketch). player_before a.0 b.0) entries
unfolding IsStrictlySortedBy
players-rise [] sorted = tt
players-rise (e ∷ es) (above, sorted) = (above-all e.0 es above, players-rise es sorted)

pub listed-players-rise : (entries : List (Player × AccountSketch)) → IsStrictlySortedBy player_order (keys_of entries) → AllPairs (λ (a b : Player × AccountSketch). player_before a.0 b.0 ≡ true) entries
listed-players-rise entries sorted = rises-pairs (λ (a b : Player × AccountSketch). player_before a.0 b.0) entries (players-rise entries sorted)

account_before : AccountFacts → AccountFacts → Bool
account_before a b = player_before a.player b.player

-- so do the accounts
pub listed-accounts-rise : (list : List Account) (entries : List (Player × AccountSketch)) → IsStrictlySortedBy player_order (keys_of entries) → map account_facts list ≡ map account_sketched entries → AllPairs (λ (a b : Account). player_before a.player b.player ≡ true) list
unfolding account_before
listed-accounts-rise list entries sorted same =
    let facts = subst (Rises account_before) (sym same) (rises-map account_before account_sketched entries (players-rise entries sorted)) in
    rises-pairs (λ (a b : Account). player_before a.player b.player) list (rises-unmap account_before account_facts list facts)
