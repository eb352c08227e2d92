-- The numbers of an entry fit in their bytes.
use Rattle.std.proofs.Common.{◌≡◌, ℕ, zero, suc, ◌<◌, ◌≤◌, ◌^◌, List, [], ◌∷◌, get_or, refl, arith, lit<}
use Rattle.std.proofs.lemmas.Bool.Decides.{nat_tests}
use Rattle.std.proofs.lemmas.List.{get_or-replicate}
use Rattle.std.specs.List.{list_all}
use Rattle.std.specs.Prelude.{nat_le, true}
use Rattle.base_ids.specs.declared.coord.Coord.{Coord}
use Rattle.catalog.specs.declared.ships.Ships.{Ships}
use Rattle.catalog.specs.declared.ships.TheConstants.{UNITS}
use Rattle.records.specs.Columns.{origin_of, target_of, count_of, fleet_of, metal_of, crystal_of, deuterium_of, ships_of, order_of, load_of}
use Rattle.records.specs.Entries.{head_of}
use Rattle.records.specs.Ranges.{IsInRange, HeadFits, OrderFits, CountsFit, LoadFits}
use Rattle.request_text.specs.declared.entry.Entry.{Entry}
use Rattle.request_text.specs.declared.request.Request.{Request}
use Rattle.request_text.specs.declared.request.Request.TheVariants.{Planet, Account, Fleets, System, Build, Research, Yard, Set, Send, Join, Recall}

pub head_fits : (entry : Entry) → IsInRange entry → HeadFits (head_of entry)
head_fits entry range = record {
  number = omega (arith, range.to);
  moment = omega (arith, range.moment);
  reading = omega (arith, range.reading, range.moment);
  player = omega (arith, entry.player.to);
}

coord_fits : (at : Coord) → at.s < 2 ^ 16
coord_fits at = omega (arith, at.system_to)

origin_fits : (req : Request) → (origin_of req).s < 2 ^ 16
origin_fits (Planet at) = coord_fits at
origin_fits Account = lit< tt
origin_fits Fleets = lit< tt
origin_fits (System at) = omega (arith, at.system_to)
origin_fits (Build at building) = coord_fits at
origin_fits (Research at technology) = coord_fits at
origin_fits (Yard at unit count) = coord_fits at
origin_fits (Set at work tenths) = coord_fits at
origin_fits (Send from to mission setting ships cargo) = coord_fits from
origin_fits (Join fleet from to setting ships cargo) = coord_fits from
origin_fits (Recall fleet) = lit< tt

target_fits : (req : Request) → (target_of req).s < 2 ^ 16
target_fits (Send from to mission setting ships cargo) = coord_fits to
target_fits (Join fleet from to setting ships cargo) = coord_fits to
target_fits _ = lit< tt

count_fits : (req : Request) → count_of req < 2 ^ 32
count_fits (Yard at unit count) = omega (arith, count.to)
count_fits _ = lit< tt

fleet_fits : (req : Request) → fleet_of req < 2 ^ 64
fleet_fits (Join fleet from to setting ships cargo) = omega (arith, fleet.to)
fleet_fits (Recall fleet) = omega (arith, fleet.to)
fleet_fits _ = lit< tt

metal_fits : (req : Request) → metal_of req < 2 ^ 64
metal_fits (Send from to mission setting ships cargo) = omega (arith, cargo.metal)
metal_fits (Join fleet from to setting ships cargo) = omega (arith, cargo.metal)
metal_fits _ = lit< tt

crystal_fits : (req : Request) → crystal_of req < 2 ^ 64
crystal_fits (Send from to mission setting ships cargo) = omega (arith, cargo.crystal)
crystal_fits (Join fleet from to setting ships cargo) = omega (arith, cargo.crystal)
crystal_fits _ = lit< tt

deuterium_fits : (req : Request) → deuterium_of req < 2 ^ 64
deuterium_fits (Send from to mission setting ships cargo) = omega (arith, cargo.deuterium)
deuterium_fits (Join fleet from to setting ships cargo) = omega (arith, cargo.deuterium)
deuterium_fits _ = lit< tt

each_within : (counts : List ℕ) → list_all (λ count. nat_le count UNITS) counts ≡ true → (k : ℕ) → get_or counts k 0 ≤ UNITS
each_within [] all k = omega arith
each_within (count ∷ counts) all zero = grind (arith, nat_tests)
each_within (count ∷ counts) all (suc k) = each_within counts (grind (arith, nat_tests)) k

ships_fit : (ships : Ships) → CountsFit ships.n 13
ships_fit ships = record { size = ships.kinds; each = λ k h. omega (arith, each_within ships.n ships.within k) }

no_ships_fit : CountsFit (ships_of Account) 13
no_ships_fit = record { size = refl; each = λ k h. omega (arith, get_or-replicate {A = ℕ} 13 k 0 0 h) }

all_fit : (req : Request) → CountsFit (ships_of req) 13
all_fit (Send from to mission setting ships cargo) = ships_fit ships
all_fit (Join fleet from to setting ships cargo) = ships_fit ships
all_fit _ = no_ships_fit

pub order_fits : (req : Request) → OrderFits (order_of req)
order_fits req = record { from = origin_fits req; to = target_fits req; count = count_fits req; fleet = fleet_fits req }

pub load_fits : (req : Request) → LoadFits (load_of req)
load_fits req = record { metal = metal_fits req; crystal = crystal_fits req; deuterium = deuterium_fits req; ships = all_fit req }
