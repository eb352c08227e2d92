-- A law: each cell that is held has a name.
use Rattle.std.specs.Prelude.{◌≡◌, Bool, true, false, cond, List, [], ◌∷◌, ◌||◌, map, refl, Option, None, Some, IsSome, option_map}
use Rattle.std.proofs.Common.{ap, ◌∙◌, sym, subst}
use Rattle.std.specs.BTreeMap.{get, keys}
use Rattle.std.specs.Map.{keys_of, lookup}
use Rattle.base_ids.specs.Cells.{same_cell}
use Rattle.base_ids.specs.declared.cell_id.CellId.{CellId}
use Rattle.base_ids.specs.declared.cell_id.CellId.TheVariants.{Account, Planet}
use Rattle.closure.proofs.Comparing.{coords_follow, players_follow}
use Rattle.closure.proofs.Unions.{has-append}
use Rattle.closure.proofs.Sameness.{same_cell_swap}
use Rattle.closure.specs.Lists.{has}
use Rattle.laziness.proofs.Bringing.{never}
use Rattle.tick_model.specs.Views.{View}
use Rattle.happenings.specs.Held.{Stand, account_stand, held_at, planet_stand}
use Rattle.happenings.specs.Orders.{place_order, player_order}
use Rattle.happenings.specs.Sights.{names_held, sees_held}
use Rattle.happenings.specs.declared.held.Held.{Held}

either : (a b : Bool) → b ≡ true → (a || b) ≡ true
either true b is = refl
either false b is = is

seen_some : {A B : Type 0} (f : A → B) (o : Option A) → IsSome (option_map f o) → IsSome o
seen_some f None found = never false found refl
seen_some f (Some x) found = refl

is_some_as : {A : Type 0} (o : Option A) (x : A) → o ≡ Some x → IsSome o
is_some_as o x is = subst IsSome (sym is) refl

module _ {K X : Type 0} (here : K → Bool) (name : K → CellId) (cell : CellId) (same : (k : K) → here k ≡ same_cell cell (name k)) where
  first_named : (b c : Bool) (x : X) (rest : Option X) (names : List CellId) → b ≡ c → (IsSome rest → has names cell ≡ true)
      → IsSome (cond b (Some x) rest) → (c || has names cell) ≡ true
  first_named true c x rest names is later found = ap (λ b. b || has names cell) (sym is)
  first_named false c x rest names is later found = either c (has names cell) (later found)

  -- what is found among entries has a name
  found_named : (entries : List (K × X)) → IsSome (lookup here entries) → has (map name (keys_of entries)) cell ≡ true
  found_named [] found = never false found refl
  found_named (e ∷ es) found =
      first_named (here e.0) (same_cell cell (name e.0)) e.1 (lookup here es) (map name (keys_of es)) (same e.0) (found_named es) found

-- what is held has a name
pub held_named : (held : Held) (cell : CellId) → IsSome (held_at held cell) → has (names_held held) cell ≡ true
held_named held (Account player) found =
    let accounts = map Account (keys held.accounts) in
    let planets = map Planet (keys held.planets) in
    let there = seen_some account_stand (get player_order held.accounts player) found in
    has-append accounts planets (Account player)
    ∙ ap (λ b. b || has planets (Account player)) (
    found_named _ Account (Account player) (λ other. players_follow.tied player other ∙ same_cell_swap (Account other) (Account player)) held.accounts.entries there)
held_named held (Planet at) found =
    let accounts = map Account (keys held.accounts) in
    let planets = map Planet (keys held.planets) in
    let there = seen_some planet_stand (get place_order held.planets at) found in
    has-append accounts planets (Planet at)
    ∙ either (has accounts (Planet at)) (has planets (Planet at)) (
    found_named _ Planet (Planet at) (λ other. coords_follow.tied at other ∙ same_cell_swap (Planet other) (Planet at)) held.planets.entries there)

pub seen_named : (held : Held) (cell : CellId) (seen : View) → sees_held held cell ≡ Some seen → has (names_held held) cell ≡ true
seen_named held cell seen found = held_named held cell (seen_some (λ (s : Stand). s.seen) (held_at held cell) (is_some_as _ seen found))
