-- What no queue raises stays: a planet's levels, its fields and its domes, and what an account knows.
use Rattle.std.proofs.Common.{◌≡◌, ℕ, zero, suc, ◌+◌, ◌-◌, ◌<◌, ◌≤◌, Bool, true, false, cond, List, [], ◌∷◌, length, arith, refl, ap, ◌∙◌, sym, subst}
use Rattle.std.specs.Prelude.{slice_index}
use Rattle.base_ids.specs.Cells.{same_cell}
use Rattle.base_ids.specs.declared.cell_id.CellId.{CellId}
use Rattle.catalog.specs.Kinds.{place_in}
use Rattle.catalog.specs.declared.classes.TheConstants.{UNIT_KINDS}
use Rattle.catalog.specs.declared.kind.Kind.{Kind}
use Rattle.tick_model.specs.Changes.{put_own}
use Rattle.tick_model.specs.Flights.{joined_by, left_by}
use Rattle.tick_model.specs.Lines.{slots_of}
use Rattle.tick_model.specs.Refusals.{is_dome}
use Rattle.tick_model.specs.Universe.{Own, of_account, of_planet, AccountFields, PlanetFields}
use Rattle.tick_model.specs.Yards.{count_of}
use Rattle.tick_model.proofs.Lists.{cell-is}

-- a planet has the same levels and fields, and no more domes
pub record IsBuiltAlike (old new : PlanetFields) : Type 0 where
  pub levels : new.levels ≡ old.levels
  pub fields : new.fields ≡ old.fields
  pub domes : (kind : Kind) → is_dome kind ≡ true → count_of new kind ≤ count_of old kind

-- what a cell has of its own is the same, or a planet that is built alike
pub data IsSteady (old new : Own) : Type 0 where
  same : new ≡ old → IsSteady old new
  alike : (before after : PlanetFields) → old ≡ of_planet before → new ≡ of_planet after → IsBuiltAlike before after → IsSteady old new

pub built-itself : (planet : PlanetFields) → IsBuiltAlike planet planet
built-itself planet = record { levels = refl; fields = refl; domes = λ kind dome. omega arith }

pub built-then : (one two three : PlanetFields) → IsBuiltAlike one two → IsBuiltAlike two three → IsBuiltAlike one three
built-then one two three first second = record {
  levels = second.levels ∙ first.levels;
  fields = second.fields ∙ first.fields;
  domes = λ kind dome. let before = first.domes kind dome in let after = second.domes kind dome in omega (arith, before, after);
}

-- counts of units stay if the units do
pub units-alike : (old new : PlanetFields) → new.levels ≡ old.levels → new.fields ≡ old.fields → new.units ≡ old.units → IsBuiltAlike old new
unfolding count_of
units-alike old new levels fields units = record {
  levels = levels;
  fields = fields;
  domes = λ kind dome. let counts : slice_index new.units (place_in UNIT_KINDS kind) ≡ slice_index old.units (place_in UNIT_KINDS kind) = ap (λ (ns : List ℕ). slice_index ns (place_in UNIT_KINDS kind)) units in omega (arith, counts);
}

pub steady-planet : (old new : PlanetFields) → IsBuiltAlike old new → IsSteady (of_planet old) (of_planet new)
steady-planet old new built = alike old new refl refl built

pub steady-itself : (own : Own) → IsSteady own own
steady-itself own = same refl

pub one-planet : (a b : PlanetFields) → of_planet a ≡ of_planet b → a ≡ b
one-planet a b is = cc

pub one-account : (a b : AccountFields) → of_account a ≡ of_account b → a ≡ b
one-account a b is = cc

pub steady-then : (one two three : Own) → IsSteady one two → IsSteady two three → IsSteady one three
steady-then one two three (same first) second = subst (λ own. IsSteady own three) first second
steady-then one two three (alike a b one_is two_is built) (same second) = alike a b one_is (second ∙ two_is) built
steady-then one two three (alike a b one_is two_is first) (alike c d two_too three_is second) =
    let middle = one-planet b c (sym two_is ∙ two_too) in
    alike a d one_is three_is (built-then a b d first (subst (λ planet. IsBuiltAlike planet d) (sym middle) second))

-- one cell has something else of its own that is steady
pub put-steady : (cell : CellId) (new : Own) (own : CellId → Own) → IsSteady (own cell) new → (x : CellId) → IsSteady (own x) (put_own cell new own x)
put-steady cell new own here x =
    elim (same_cell cell x) as (λ b. same_cell cell x ≡ b → IsSteady (own x) (cond b new (own x))) [
      | true ↦ λ is. subst (λ y. IsSteady (own y) new) (cell-is cell x is) here
      | false ↦ λ apart. steady-itself (own x)
    ] refl

-- an account has at least the slots that it had
abbrev pub SlotsStay : Own → Own → Type 0
SlotsStay old new = (account : AccountFields) → new ≡ of_account account → (was : AccountFields) × (old ≡ of_account was) × (slots_of was ≤ slots_of account)

pub steady-slots : (old new : Own) → IsSteady old new → SlotsStay old new
steady-slots old new (same is) account has = (account, sym is ∙ has, omega arith)
steady-slots old new (alike before after old_is new_is built) account has = absurd (let both : of_planet after ≡ of_account account = sym new_is ∙ has in cc)

pub slots-then : (one two three : Own) → SlotsStay one two → SlotsStay two three → SlotsStay one three
slots-then one two three first second account has =
    let middle = second account has in
    let start = first middle.0 middle.1 in
    let less = start.2 in
    let more = middle.2 in
    (start.0, start.1, omega (arith, less, more))

-- Ships come to a planet, or leave it.

pub left-below : (counts ships : List ℕ) (place : ℕ) → slice_index (left_by counts ships) place ≤ slice_index counts place
left-below [] ships place = omega arith
left-below (count ∷ counts) [] place = omega arith
left-below (count ∷ counts) (ship ∷ ships) zero = let less : count - ship ≤ count = omega arith in less
left-below (count ∷ counts) (ship ∷ ships) (suc place) = left-below counts ships place

-- behind the ships that come, counts stay
pub joined-behind : (counts ships : List ℕ) (place : ℕ) → length ships ≤ place → slice_index (joined_by counts ships) place ≡ slice_index counts place
joined-behind [] ships place behind = refl
joined-behind (count ∷ counts) [] place behind = refl
joined-behind (count ∷ counts) (ship ∷ ships) zero behind = absurd (omega (arith, behind))
joined-behind (count ∷ counts) (ship ∷ ships) (suc place) behind = joined-behind counts ships place (omega (arith, behind))
