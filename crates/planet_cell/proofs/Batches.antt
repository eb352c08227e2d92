-- How batches are ordered.
use Rattle.std.proofs.Common.{zero, suc, get_or, ◌≡◌, ℕ, ◌+◌, ◌*◌, ◌<◌, ◌≤◌, Bool, true, false, List, [], ◌∷◌, ◌++◌, length, refl, ap, sym, subst, ◌∙◌, arith}
use Rattle.std.specs.Prelude.{IsTrue, Some, nat_le, not, slice_get, slice_set, sum, ◌&&◌, ◌||◌, if◌then◌else◌}
use Rattle.std.proofs.Math.Nat.{mul-le-mul_left}
use Rattle.std.proofs.lemmas.Bool.{leb-true}
use Rattle.std.proofs.lemmas.Bool.Decides.{nat_tests}
use Rattle.std.proofs.lemmas.List.Sums.{sum_by-set, sum_by_push}
use Rattle.catalog.specs.Classes.{is_unit}
use Rattle.catalog.specs.declared.amounts.TheConstants.{CAP}
use Rattle.catalog.specs.declared.kind.Kind.{Kind}
use Rattle.catalog.specs.declared.kind.Kind.TheVariants.{MetalMine}
use Rattle.catalog.specs.declared.ships.TheConstants.{UNITS}
use Rattle.planet_cell.specs.Bounds.{HasBegun, left_in}
use Rattle.planet_cell.specs.Yard.{CanTakeBatch}
use Rattle.planet_cell.specs.declared.batch.Batch.{Batch}
use Rattle.prices.specs.Prices.{price_of}
use Rattle.tick_model.specs.Buildings.{can_pay}
use Rattle.tick_model.specs.Refusals.{Refusal, are_met, first_refusal, is_dome, queued, yard_refusal}
use Rattle.tick_model.specs.Universe.{AccountFields, Item, PlanetFields}
use Rattle.tick_model.specs.Yards.{batch_price, count_of}
use Rattle.tick_model.specs.declared.codes.TheConstants.{CEILING, LEVEL_CAP, MOST_QUEUED, POOR, QUEUE_FULL, REQUIRES}

follows : (a b : Bool) → IsTrue (not a || b) → IsTrue a → IsTrue b
follows true b either holds = either
follows false b either holds = cc

-- no unit costs more than this of a resource
metal_listed : (kind : Kind) → IsTrue (not (is_unit kind) || nat_le (price_of kind 1).metal 5000000)
metal_listed MetalMine = refl
metal_listed _ = refl

crystal_listed : (kind : Kind) → IsTrue (not (is_unit kind) || nat_le (price_of kind 1).crystal 5000000)
crystal_listed MetalMine = refl
crystal_listed _ = refl

deuterium_listed : (kind : Kind) → IsTrue (not (is_unit kind) || nat_le (price_of kind 1).deuterium 5000000)
deuterium_listed MetalMine = refl
deuterium_listed _ = refl

product_fits : (count amount : ℕ) → count ≤ UNITS → amount ≤ 5000000 → count * amount ≤ CAP
product_fits count amount within small = omega (arith, mul-le-mul_left count small)

-- so many units as an account may have cost no more than a stock holds
pub metal_fits : (kind : Kind) (count amount : ℕ) → IsTrue (is_unit kind) → amount ≡ (price_of kind 1).metal → count ≤ UNITS → count * amount ≤ CAP
metal_fits kind count amount class is within = product_fits count amount within (omega (arith, leb-true _ _ (follows _ _ (metal_listed kind) class)))

pub crystal_fits : (kind : Kind) (count amount : ℕ) → IsTrue (is_unit kind) → amount ≡ (price_of kind 1).crystal → count ≤ UNITS → count * amount ≤ CAP
crystal_fits kind count amount class is within = product_fits count amount within (omega (arith, leb-true _ _ (follows _ _ (crystal_listed kind) class)))

pub deuterium_fits : (kind : Kind) (count amount : ℕ) → IsTrue (is_unit kind) → amount ≡ (price_of kind 1).deuterium → count ≤ UNITS → count * amount ≤ CAP
deuterium_fits kind count amount class is within = product_fits count amount within (omega (arith, leb-true _ _ (follows _ _ (deuterium_listed kind) class)))

pub ruleset units_fit = (metal_fits, crystal_fits, deuterium_fits)

-- the five reasons to refuse a batch
reasons : Bool → Bool → Bool → Bool → Bool → List Refusal
reasons full dome needs poor ceiling =
    record { code = QUEUE_FULL; holds = full }
    ∷ record { code = LEVEL_CAP; holds = dome }
    ∷ record { code = REQUIRES; holds = needs }
    ∷ record { code = POOR; holds = poor }
    ∷ record { code = CEILING; holds = ceiling }
    ∷ []

-- if there is no reason, none of them holds
none : (full dome needs poor ceiling : Bool) → first_refusal (reasons full dome needs poor ceiling) ≡ 0 → (full ≡ false) × (poor ≡ false) × (ceiling ≡ false)
unfolding reasons
none true dome needs poor ceiling clear = absurd (omega arith)
none false true needs poor ceiling clear = absurd (omega arith)
none false false true poor ceiling clear = absurd (omega arith)
none false false false true ceiling clear = absurd (omega arith)
none false false false false true clear = absurd (omega arith)
none false false false false false clear = (refl, refl, refl)

pays : (can : Bool) → not can ≡ false → IsTrue can
pays true poor = refl
pays false poor = cc

less : (a b : ℕ) → nat_le a b ≡ false → b < a
less a b fails = grind (arith, nat_tests)

-- a batch that isn't refused can be taken
pub can_take_batch : (account : AccountFields) (units : ℕ) (planet : PlanetFields) (batches : List Item) (kind : Kind) (count : ℕ) → yard_refusal account units planet batches kind count ≡ 0
    → CanTakeBatch units planet batches kind count
unfolding yard_refusal reasons
can_take_batch account units planet batches kind count granted =
    let clear = none (nat_le MOST_QUEUED (length batches)) (is_dome kind && nat_le 2 (count_of planet kind + queued kind batches + count)) (not (are_met account planet kind)) (not (can_pay planet.stock (batch_price kind count))) (nat_le (UNITS + 1) (units + count)) granted in
    let ceiling = less (UNITS + 1) (units + count) clear.2 in
    record {
      room = less MOST_QUEUED (length batches) clear.0;
      payable = pays (can_pay planet.stock (batch_price kind count)) clear.1;
      within = omega (arith, ceiling);
    }

-- so it can on a planet that has no more units than its account
pub can_take_own : (own units : ℕ) (planet : PlanetFields) (batches : List Item) (kind : Kind) (count : ℕ) → own ≤ units → CanTakeBatch units planet batches kind count → CanTakeBatch own planet batches kind count
can_take_own own units planet batches kind count fewer can = record { room = can.room; payable = can.payable; within = omega (arith, can.within) }

-- a batch more
pub total_pushed : (units : List ℕ) (batches next : List Batch) (batch : Batch) (fits : Bool) → next ≡ (if fits then batches ++ batch ∷ [] else batches) → sum units + left_in batches + batch.left ≤ UNITS
    → sum units + left_in next ≤ UNITS
total_pushed units batches next batch true is within =
    omega (arith, ap left_in is, sum_by_push (λ (x : Batch). x.left) batches batch)
total_pushed units batches next batch false is within = omega (arith, ap left_in is)

first_of : (batches : List Batch) (batch last : Batch) → 0 < length batches → Some batch ≡ slice_get (batches ++ last ∷ []) 0 → Some batch ≡ slice_get batches 0
first_of [] batch last some here = absurd (omega arith)
first_of (head ∷ later) batch last some here = here

pub begun_pushed : (batches next : List Batch) (batch : Batch) (fits : Bool) → next ≡ (if fits then batches ++ batch ∷ [] else batches) → HasBegun batches → 0 < length batches → HasBegun next
begun_pushed batches next batch true is begun some =
    subst HasBegun (sym is) (record { first = λ found here. begun.first found (first_of batches found batch some here) })
begun_pushed batches next batch false is begun some = subst HasBegun (sym is) begun

-- the first batch of an empty yard
pub begun_first : (batches next : List Batch) (batch : Batch) → batches ≡ [] → next ≡ batches ++ batch ∷ [] → 1 ≤ batch.unit_seconds → HasBegun next
begun_first batches next batch empty is takes =
    let all : next ≡ batch ∷ [] = is ∙ ap (λ (xs : List Batch). xs ++ batch ∷ []) empty in
    let one : HasBegun (batch ∷ []) =
    record {
      first = λ found here.
          let this : found ≡ batch = cc here in
          let seconds : found.unit_seconds ≡ batch.unit_seconds = ap (λ (x : Batch). x.unit_seconds) this in
          omega (arith, seconds);
    } in
    subst HasBegun (sym all) one

-- a batch gives way to one that differs in its number alone
pub total_numbered : (units : List ℕ) (batches : List Batch) (place : ℕ) (last next : Batch) → sum units + left_in batches ≤ UNITS → place < length batches → last ≡ get_or batches place last → next.left ≡ last.left
    → sum units + left_in (slice_set batches place next) ≤ UNITS
total_numbered units batches place last next within spot here same =
    let set = sum_by-set (λ (x : Batch). x.left) batches place next last spot in
    let found : (get_or batches place last).left ≡ last.left = ap (λ (x : Batch). x.left) (sym here) in
    omega (arith, set, found)

pub begun_numbered : (batches : List Batch) (place : ℕ) (last next : Batch) → HasBegun batches → place < length batches → last ≡ get_or batches place last → next.unit_seconds ≡ last.unit_seconds
    → HasBegun (slice_set batches place next)
begun_numbered [] place last next begun spot here same = begun
begun_numbered (head ∷ later) zero last next begun spot here same =
    record {
      first = λ found is.
          let this : found ≡ next = cc is in
          let seconds : found.unit_seconds ≡ head.unit_seconds = ap (λ (x : Batch). x.unit_seconds) this ∙ same ∙ ap (λ (x : Batch). x.unit_seconds) here in
          omega (arith, begun.first head refl, seconds);
    }
begun_numbered (head ∷ later) (suc place) last next begun spot here same = record { first = λ found is. begun.first found is }
