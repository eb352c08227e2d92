-- Cells without fleets, and a first fleet that joins them.
use Rattle.std.proofs.Common.{◌≡◌, ◌≤◌, true, false, cond, ◌++◌, [], ◌∷◌, arith, inl, inr, refl, ap, ◌∙◌, sym, subst, Option, Some, None}
use Rattle.std.specs.Prelude.{IfSome, filter, is_some, option_map}
use Rattle.std.specs.BTreeMap.{is_at}
use Rattle.std.specs.Map.{lookup}
use Rattle.base_ids.specs.Cells.{same_cell}
use Rattle.base_ids.specs.declared.cell_id.CellId.{CellId}
use Rattle.base_ids.specs.declared.cell_id.CellId.TheVariants.{Account as AccountId, Planet as PlanetId}
use Rattle.catalog.specs.declared.mission.Mission.TheVariants.{Deploy, Transport}
use Rattle.laziness.proofs.Bringing.{never}
use Rattle.tick_model.specs.Flights.{landing}
use Rattle.tick_model.specs.Rules.{IsIn}
use Rattle.tick_model.specs.Universe.{Fleet}
use Rattle.tick_model.specs.Views.{belongs}
use Rattle.tick_model.proofs.Landings.{landing-belongs}
use Rattle.tick_model.proofs.Lists.{cell-itself, from-filter, in-filter}
use Rattle.happenings.specs.Held.{Puts, Stand, account_stand, held_at, holds, planet_stand}
use Rattle.happenings.specs.Joining.{Joins, joined_stand}
use Rattle.happenings.specs.Landings.{CanLand, HasRoom, Stays}
use Rattle.happenings.specs.Orders.{place_order, player_order}
use Rattle.happenings.specs.Queues.{seen_of}
use Rattle.happenings.specs.declared.held.Held.{Held}
use Rattle.happenings.proofs.Putting.{named_at}

-- a cell stands at second 0 and has no fleets
abbrev pub IsFresh : Stand → Type 0
IsFresh stand = (stand.second ≡ 0) × (stand.seen.fleets ≡ [])

-- so do all that are held
abbrev pub AreFresh : Held → Type 0
AreFresh held = (cell : CellId) → IfSome (held_at held cell) IsFresh

pub none_fresh : (held : Held) → held.accounts.entries ≡ [] → held.planets.entries ≡ [] → AreFresh held
none_fresh held accounts planets (AccountId player) =
    subst (λ entries. IfSome (option_map account_stand (lookup (is_at (player_order player)) entries)) IsFresh) (sym accounts) tt
none_fresh held accounts planets (PlanetId at) =
    subst (λ entries. IfSome (option_map planet_stand (lookup (is_at (place_order at)) entries)) IsFresh) (sym planets) tt

pub puts_fresh : (old new : Held) (name : CellId) (stand : Stand) → Puts old new name stand → IsFresh stand → AreFresh old → AreFresh new
puts_fresh old new name stand puts fresh before cell =
    subst (λ o. IfSome o IsFresh) (sym (puts cell)) (named_at IsFresh (same_cell name cell) stand (held_at old cell) (λ here. fresh) (before cell))

pub put_there : (old new : Held) (name : CellId) (stand : Stand) → Puts old new name stand → holds new name ≡ true
put_there old new name stand puts = ap is_some (puts name ∙ ap (λ b. cond b (Some stand) (held_at old name)) (cell-itself name))

-- a cell of the fleet has it and no other
abbrev HasOne : Fleet → CellId → Stand → Type 0
HasOne fleet cell stand = (stand.second ≡ 0) × (stand.seen.fleets ≡ filter (belongs cell) (fleet ∷ []))

has-one : (fleet : Fleet) (cell : CellId) (o : Option Stand) → IfSome o IsFresh → IfSome (option_map (joined_stand fleet cell) o) (HasOne fleet cell)
has-one fleet cell None fresh = tt
has-one fleet cell (Some stand) fresh = (fresh.0, ap (λ fleets. fleets ++ filter (belongs cell) (fleet ∷ [])) fresh.1)

flies-there : (fleet other : Fleet) (cell : CellId) (o : Option Stand) → IfSome o (HasOne fleet cell) → IsIn other (seen_of o).fleets → IsIn other (filter (belongs cell) (fleet ∷ []))
flies-there fleet other cell None one is = absurd is
flies-there fleet other cell (Some stand) one is = subst (IsIn other) one.1 is

is-there : (fleet : Fleet) (cell : CellId) (o : Option Stand) → is_some o ≡ true → IfSome o (HasOne fleet cell) → belongs cell fleet ≡ true → IsIn fleet (seen_of o).fleets
is-there fleet cell None held one its = never false held refl
is-there fleet cell (Some stand) held one its = subst (IsIn fleet) (sym one.1) (in-filter (belongs cell) fleet (fleet ∷ []) (inl refl) its)

in-one : (other fleet : Fleet) → IsIn other (fleet ∷ []) → other ≡ fleet
in-one other fleet (inl same) = same
in-one other fleet (inr is) = absurd is

any-stand : (P : Stand → Type 0) (o : Option Stand) → ((stand : Stand) → P stand) → IfSome o P
any-stand P None all = tt
any-stand P (Some stand) all = all stand

early : (fleet : Fleet) (cell : CellId) (o : Option Stand) → IfSome o (HasOne fleet cell) → IfSome o (λ stand. stand.second ≤ fleet.second)
early fleet cell None one = tt
early fleet cell (Some stand) one = let first : stand.second ≡ 0 = one.0 in omega (arith, first)

kept-there : (fleet : Fleet) (cell : CellId) (o : Option Stand) → is_some (option_map (joined_stand fleet cell) o) ≡ is_some o
kept-there fleet cell None = refl
kept-there fleet cell (Some stand) = refl

-- a transport doesn't stay
pub goes_back : (fleet : Fleet) → fleet.outbound ≡ true → fleet.mission ≡ Transport → Stays fleet → ⊥
goes_back fleet out transport (inl home) = let both : true ≡ false = sym out ∙ home in cc
goes_back fleet out transport (inr deploy) = let both : Transport ≡ Deploy = sym transport ∙ deploy in cc

-- the first fleet can land
pub first_lands : (old new : Held) (fleet : Fleet) → AreFresh old → Joins fleet old new → holds old (PlanetId (landing fleet)) ≡ true → (Stays fleet → ⊥) → CanLand new fleet
first_lands old new fleet fresh joins there goes =
    let place = PlanetId (landing fleet) in
    let one : (cell : CellId) → IfSome (held_at new cell) (HasOne fleet cell) =
    λ cell. subst (λ o. IfSome o (HasOne fleet cell)) (sym (joins cell)) (has-one fleet cell (held_at old cell) (fresh cell)) in
    let kept : holds new place ≡ true = ap is_some (joins place) ∙ kept-there fleet place (held_at old place) ∙ there in
    record {
      owed = is-there fleet place (held_at new place) kept (one place) (landing-belongs fleet);
      room = any-stand (HasRoom fleet) (held_at new place) (λ stand stays. absurd (goes stays));
      behind = λ cell its. early fleet cell (held_at new cell) (one cell);
      own_fleets = λ cell other is. (from-filter (belongs cell) other (fleet ∷ []) (flies-there fleet other cell (held_at new cell) (one cell) is)).1;
      alone = λ cell other is same. in-one other fleet (from-filter (belongs cell) other (fleet ∷ []) (flies-there fleet other cell (held_at new cell) (one cell) is)).0;
    }
