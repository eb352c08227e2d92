-- A base that is the same as another is spelled the same.
use Rattle.std.proofs.Common.{◌≡◌, [], ◌∷◌, codes, length, ap, sym}
use Rattle.std.specs.Int.{cast_unsigned, w16}
use Rattle.std.specs.List.{flat_map}
use Rattle.std.proofs.lemmas.List.Elements.{length_all_zip}
use Rattle.account_cell.specs.declared.account.Account.{Account}
use Rattle.base_bytes.specs.Spelling.{account_bytes, base_spelling, batch_bytes, building_bytes, coord_bytes, counts_bytes, fleet_bytes, goods_bytes, ground_bytes, planet_bytes, research_bytes, rules_bytes, works_bytes}
use Rattle.base_bytes.specs.Told.{AreAlike, AreSame, IsTold}
use Rattle.base_bytes.specs.declared.base.Base.{Base}
use Rattle.base_bytes.proofs.Pairwise.{flat-same}
use Rattle.planet_cell.specs.declared.planet.Planet.{Planet}
use Rattle.records.specs.Entries.{joined, u8, u16, u32, u64}

account-same : (x y : Account) → AreAlike x y → account_bytes y ≡ account_bytes x
account-same x y same = λ i.
    joined (u32 (same.player i).k ∷ (same.techs i).n ∷ u32 (same.units i)
    ∷ u8 (length (same.research i)) ∷ flat_map research_bytes (same.research i) ∷ [])

ground-same : (x y : Planet) → AreSame x y → ground_bytes y ≡ ground_bytes x
ground-same x y same = λ i.
    joined (coord_bytes (same.at i) ∷ u32 (same.owner i).k ∷ u16 (cast_unsigned w16 (same.temperature i)) ∷ u16 (same.fields i)
    ∷ same.levels i ∷ same.tenths i ∷ [])

goods-same : (x y : Planet) → AreSame x y → goods_bytes y ≡ goods_bytes x
goods-same x y same = λ i.
    joined (u64 (same.stock i).metal ∷ u64 (same.stock i).crystal ∷ u64 (same.stock i).deuterium
    ∷ u64 (same.debris i).metal ∷ u64 (same.debris i).crystal ∷ flat_map u32 (same.units i) ∷ [])

works-same : (x y : Planet) → AreSame x y → works_bytes y ≡ works_bytes x
works-same x y same = λ i.
    joined (u8 (length (same.buildings i)) ∷ flat_map building_bytes (same.buildings i)
    ∷ u8 (length (same.yard i)) ∷ flat_map batch_bytes (same.yard i) ∷ [])

planet-same : (x y : Planet) → AreSame x y → planet_bytes y ≡ planet_bytes x
planet-same x y same =
    let ground = ground-same x y same in
    let goods = goods-same x y same in
    let works = works-same x y same in
    λ i. joined (ground i ∷ goods i ∷ works i ∷ [])

rules-same : (base told : Base) → IsTold base told → rules_bytes told ≡ rules_bytes base
rules-same base told same = λ i.
    joined (codes "OGBASE01" ∷ u64 (same.seed i) ∷ u32 (same.speed i) ∷ u32 (same.capacity i) ∷ u64 (same.moment i) ∷ u64 (same.number i) ∷ [])

counts-same : (base told : Base) → IsTold base told → counts_bytes told ≡ counts_bytes base
counts-same base told same =
    let accounts = sym (length_all_zip AreAlike base.accounts.items told.accounts.items same.accounts) in
    let planets = sym (length_all_zip AreSame base.planets.items told.planets.items same.planets) in
    λ i. joined (u32 (accounts i) ∷ u32 (planets i) ∷ u32 (length (same.fleets i)) ∷ [])

pub spelling-same : (base told : Base) → IsTold base told → base_spelling told ≡ base_spelling base
unfolding base_spelling
spelling-same base told same =
    let rules = rules-same base told same in
    let counts = counts-same base told same in
    let accounts = flat-same account_bytes AreAlike account-same base.accounts.items told.accounts.items same.accounts in
    let planets = flat-same planet_bytes AreSame planet-same base.planets.items told.planets.items same.planets in
    let fleets = ap (flat_map fleet_bytes) same.fleets in
    λ i. joined (rules i ∷ counts i ∷ accounts i ∷ planets i ∷ fleets i ∷ [])
