-- One element more of a list whose elements are written one after another.
use Rattle.std.proofs.Common.{◌≡◌, ℕ, ◌+◌, ◌<◌, List, [], ◌∷◌, ◌++◌, length, map, take, get_or, sym, ◌∙◌, ap}
use Rattle.std.specs.List.{flat_map}
use Rattle.std.proofs.lemmas.List.{flat_map_more, map-append, take_more}
use Rattle.account_cell.specs.declared.account.Account.{Account}
use Rattle.account_cell.specs.declared.research_item.ResearchItem.{ResearchItem}
use Rattle.base_bytes.specs.Spelling.{account_bytes, batch_bytes, building_bytes, fleet_bytes, planet_bytes, research_bytes}
use Rattle.fleet_rec.specs.Fleet.{fleet_seen}
use Rattle.fleet_rec.specs.declared.fleet.Fleet.{Fleet}
use Rattle.planet_cell.specs.declared.batch.Batch.{Batch}
use Rattle.planet_cell.specs.declared.building_item.BuildingItem.{BuildingItem}
use Rattle.planet_cell.specs.declared.planet.Planet.{Planet}
use Rattle.records.specs.Entries.{u32}

-- the general step, of which each loop takes its own
more : {X : Type 0} (f : X → List ℕ) (old : List ℕ) (xs : List X) (i : ℕ) (x none : X) → i < length xs → x ≡ get_or xs i none
    → (old ++ flat_map f (take i xs)) ++ f x ≡ old ++ flat_map f (take (i + 1) xs)
more f old xs i x none within is =
    ap (λ y. (old ++ flat_map f (take i xs)) ++ f y) is ∙ flat_map_more f old (take i xs) (get_or xs i none)
    ∙ ap (λ l. old ++ flat_map f l) (sym (take_more xs i none within))

pub count_more : (old : List ℕ) (counts : List ℕ) (i count : ℕ) → i < length counts → count ≡ get_or counts i 0
    → (old ++ flat_map u32 (take i counts)) ++ u32 count ≡ old ++ flat_map u32 (take (i + 1) counts)
count_more old counts i count within is = more u32 old counts i count 0 within is

pub account_more : (old : List ℕ) (accounts : List Account) (i : ℕ) (account : Account) → i < length accounts → account ≡ get_or accounts i account
    → (old ++ flat_map account_bytes (take i accounts)) ++ account_bytes account ≡ old ++ flat_map account_bytes (take (i + 1) accounts)
account_more old accounts i account within is = more account_bytes old accounts i account account within is

pub planet_more : (old : List ℕ) (planets : List Planet) (i : ℕ) (planet : Planet) → i < length planets → planet ≡ get_or planets i planet
    → (old ++ flat_map planet_bytes (take i planets)) ++ planet_bytes planet ≡ old ++ flat_map planet_bytes (take (i + 1) planets)
planet_more old planets i planet within is = more planet_bytes old planets i planet planet within is

pub research_more : (old : List ℕ) (items : List ResearchItem) (i : ℕ) (research : ResearchItem) → i < length items → research ≡ get_or items i research
    → (old ++ flat_map research_bytes (take i items)) ++ research_bytes research ≡ old ++ flat_map research_bytes (take (i + 1) items)
research_more old items i research within is = more research_bytes old items i research research within is

pub building_more : (old : List ℕ) (items : List BuildingItem) (i : ℕ) (building : BuildingItem) → i < length items → building ≡ get_or items i building
    → (old ++ flat_map building_bytes (take i items)) ++ building_bytes building ≡ old ++ flat_map building_bytes (take (i + 1) items)
building_more old items i building within is = more building_bytes old items i building building within is

pub batch_more : (old : List ℕ) (batches : List Batch) (i : ℕ) (batch : Batch) → i < length batches → batch ≡ get_or batches i batch
    → (old ++ flat_map batch_bytes (take i batches)) ++ batch_bytes batch ≡ old ++ flat_map batch_bytes (take (i + 1) batches)
batch_more old batches i batch within is = more batch_bytes old batches i batch batch within is

pub fleet_more : (old : List ℕ) (fleets : List Fleet) (i : ℕ) (fleet : Fleet) → i < length fleets → fleet ≡ get_or fleets i fleet
    → (old ++ flat_map fleet_bytes (map fleet_seen (take i fleets))) ++ fleet_bytes (fleet_seen fleet)
    ≡ old ++ flat_map fleet_bytes (map fleet_seen (take (i + 1) fleets))
fleet_more old fleets i fleet within is =
    flat_map_more fleet_bytes old (map fleet_seen (take i fleets)) (fleet_seen fleet)
    ∙ ap (λ l. old ++ flat_map fleet_bytes l) (sym (map-append fleet_seen (take i fleets) (fleet ∷ []))
    ∙ ap (λ (x : Fleet). map fleet_seen (take i fleets ++ x ∷ [])) is ∙ ap (map fleet_seen) (sym (take_more fleets i fleet within)))
