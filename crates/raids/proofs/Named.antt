-- Each fleet that is left has the number of one that fought.
use Rattle.std.proofs.Common.{ℕ, inl, inr, Bool, true, false, cond, List, [], ◌∷◌, nat_le, sum, refl, ap, sym, subst}
use Rattle.battle.specs.declared.part.Part.{Part}
use Rattle.fleet_rec.specs.Fleet.{fleet_seen}
use Rattle.raids.specs.Leaving.{fleets_seen, numbers_of}
use Rattle.raids.specs.declared.aftermath.Raider.{Raider}
use Rattle.reply_text.specs.declared.units.Units.{Units}
use Rattle.tick_model.specs.Battles.{battered, fitting, laden, survivors, without}
use Rattle.tick_model.specs.Flights.{free_room}
use Rattle.tick_model.specs.Rules.{IsIn}
use Rattle.tick_model.specs.Universe.{Fleet}

survivor_at : (raider : Raider) (raiders : List Raider) (left : Part) (rest : List Fleet) (b : Bool) (x : Fleet) → (IsIn x rest → IsIn x.number (numbers_of raiders))
    → IsIn x (cond b (battered (fleet_seen raider.fleet) left ∷ rest) rest) → IsIn x.number (numbers_of (raider ∷ raiders))
survivor_at raider raiders left rest true x later (inl same) = inl (ap (λ (f : Fleet). f.number) same)
survivor_at raider raiders left rest true x later (inr there) = inr (later there)
survivor_at raider raiders left rest false x later there = inr (later there)

pub survivor_in : (raiders : List Raider) (lefts : List Part) (x : Fleet) → IsIn x (survivors (fleets_seen raiders) lefts) → IsIn x.number (numbers_of raiders)
survivor_in [] lefts x there = absurd there
survivor_in (raider ∷ raiders) [] x there = absurd there
survivor_in (raider ∷ raiders) (left ∷ lefts) x there =
    survivor_at raider raiders left (survivors (fleets_seen raiders) lefts) (nat_le 1 (sum (battered (fleet_seen raider.fleet) left).ships)) x (survivor_in raiders lefts x) there

pub laden_in : (numbers : List ℕ) (taken : Units) (fleets : List Fleet) → ((y : Fleet) → IsIn y fleets → IsIn y.number numbers) → (x : Fleet) → IsIn x (laden taken fleets) → IsIn x.number numbers
laden_in numbers taken [] have x there = absurd there
laden_in numbers taken (fleet ∷ fleets) have x (inl same) = subst (λ (n : ℕ). IsIn n numbers) (sym (ap (λ (f : Fleet). f.number) same)) (have fleet (inl refl))
laden_in numbers taken (fleet ∷ fleets) have x (inr there) = laden_in numbers (without taken (fitting (free_room fleet) taken)) fleets (λ y has. have y (inr has)) x there
