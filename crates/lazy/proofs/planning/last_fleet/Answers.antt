use Rattle.std.proofs.Common.{◌≡◌, ℕ, zero, suc, ◌+◌, ◌-◌, List, [], ◌∷◌, map, length, refl, ap, ◌∙◌, arith}
use Rattle.std.specs.Prelude.{option_map, slice_get}
use Rattle.fleet_rec.specs.Fleet.{fleet_seen}
use Rattle.fleet_rec.specs.declared.fleet.Fleet.{Fleet as FleetRecord}
use Rattle.lazy.specs.Plans.{last_fleet}
use Rattle.lazy.proofs.planning.last_fleet.Goals as goal

-- of a list with one more in front, each stands one place later
get-later : {A : Type 0} (x : A) (xs : List A) (place before : ℕ) → place ≡ before + 1 → slice_get (x ∷ xs) place ≡ slice_get xs before
get-later x xs zero before later = absurd (omega (arith, later))
get-later x xs (suc place) before later = let same : place ≡ before = omega (arith, later) in ap (slice_get xs) same

last-seen : (xs : List FleetRecord) → option_map fleet_seen (slice_get xs (length xs - 1)) ≡ last_fleet (map fleet_seen xs)
last-seen [] = refl
last-seen (x ∷ []) = refl
last-seen (x ∷ y ∷ later) =
    let more : length (x ∷ y ∷ later) - 1 ≡ (length (y ∷ later) - 1) + 1 = omega arith in
    ap (option_map fleet_seen) (get-later x (y ∷ later) (length (x ∷ y ∷ later) - 1) (length (y ∷ later) - 1) more) ∙ last-seen (y ∷ later)

pub returns : goal.returns
returns c = ap (option_map fleet_seen) (c.copied.ensures ∙ c.last.ensures.value) ∙ last-seen c.as_slice.result.now ∙ ap last_fleet c.as_slice.ensures
