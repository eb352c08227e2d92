-- What is told of a base of the rules is a base of the rules.
use Rattle.std.proofs.Common.{◌≡◌, ℕ, ◌≤◌, length, ap, ◌∙◌, List, subst, sym}
use Rattle.base_bytes.specs.Rules.{IsBase, IsInRange}
use Rattle.base_bytes.specs.Told.{AreSame, IsRead, IsTold}
use Rattle.base_bytes.specs.declared.base.Base.{Base}
use Rattle.base_bytes.specs.declared.limits.TheConstants.{MOST_FIELDS, MOST_OWNED}
use Rattle.base_bytes.proofs.Carrying.{AreEqual, accounts-equal}
use Rattle.base_bytes.proofs.Pairwise.{all-carried}
use Rattle.base_bytes.proofs.Sameness.{planets-carried, sound-carried}
use Rattle.base_ids.specs.declared.coord.Coord.{Coord}
use Rattle.catalog.specs.declared.amounts.TheConstants.{CAP}
use Rattle.catalog.specs.declared.classes.TheConstants.{TECHNOLOGIES}
use Rattle.catalog.specs.declared.techs.Techs.{Techs}
use Rattle.planet_cell.specs.declared.planet.Planet.{Planet}
use Rattle.tick_model.specs.declared.debris.Debris.{Debris}

-- a planet in its ranges
range-carried : (x y : Planet) → AreSame x y → IsInRange x → IsInRange y
range-carried x y same range = record {
  levels = ap length same.levels ∙ range.levels;
  tenths = ap length same.tenths ∙ range.tenths;
  some = subst (λ (n : ℕ). 1 ≤ n) (sym same.fields) range.some;
  fields = subst (λ (n : ℕ). n ≤ MOST_FIELDS) (sym same.fields) range.fields;
  metal = subst (λ (debris : Debris). debris.metal ≤ CAP) (sym same.debris) range.metal;
  crystal = subst (λ (debris : Debris). debris.crystal ≤ CAP) (sym same.debris) range.crystal;
}

pub base-carried : (base told : Base) → IsBase base → IsTold base told → IsRead told → IsBase told
base-carried base told fine same read =
    let equal = accounts-equal base told fine.sound same read in
    let accounts = base.accounts.items in
    let others = told.accounts.items in
    record {
      sound = sound-carried base told fine.sound same read;
      players = read.players;
      planets = read.planets;
      owned = all-carried AreEqual (λ a. length a.planets.items ≤ MOST_OWNED) (λ a. length a.planets.items ≤ MOST_OWNED)
          (λ x y one holds. subst (λ (places : List Coord). length places ≤ MOST_OWNED) (sym one.places) holds) accounts others equal fine.owned;
      ranges = planets-carried base told same IsInRange IsInRange range-carried fine.ranges;
      levels = all-carried AreEqual (λ a. length a.techs.n ≡ length TECHNOLOGIES) (λ a. length a.techs.n ≡ length TECHNOLOGIES)
          (λ x y one holds. ap (λ (techs : Techs). length techs.n) one.techs ∙ holds) accounts others equal fine.levels;
      fleets = (fine.fleets.0, same.fleets ∙ fine.fleets.1);
    }
