-- What is held after a fleet joined those of its cells.
use Rattle.std.proofs.Common.{◌≡◌, ◌++◌, [], ◌∷◌, ap, ◌∙◌, sym, Some}
use Rattle.std.specs.Prelude.{OnOk}
use Rattle.std.specs.declared.result.Result.{Result}
use Rattle.std.specs.declared.result.Result.TheVariants.{Ok, Err}
use Rattle.base_ids.specs.Cells.{same_cell}
use Rattle.base_ids.specs.declared.cell_id.CellId.{CellId}
use Rattle.account_cell.specs.Account.{account_fields, account_queue}
use Rattle.planet_cell.specs.Planet.{fields_of, queue_of}
use Rattle.tick_model.specs.Universe.{Fleet, of_account, of_planet}
use Rattle.tick_model.proofs.Lists.{cell-is}
use Rattle.happenings.specs.Held.{Puts, Stand, account_stand, held_at, planet_stand}
use Rattle.happenings.specs.Joining.{JoinsAt, appended}
use Rattle.happenings.specs.declared.held.AccountCell.{AccountCell}
use Rattle.happenings.specs.declared.held.Held.{Held}
use Rattle.happenings.specs.declared.held.PlanetCell.{PlanetCell}
use Rattle.happenings.proofs.Numbered.{put-at}
use Rattle.happenings.proofs.Standing.{planet_seen}

-- what holds in any case holds if it went well
pub in_any_case : {T E : Type 0} (r : Result T E) (P : Type 0) → P → OnOk r P
in_any_case (Ok x) P p = p
in_any_case (Err e) P p = tt

pub planet_joined : (fleet : Fleet) (old new : PlanetCell) → new.second ≡ old.second → new.planet ≡ old.planet → new.fleets ≡ old.fleets ++ fleet ∷ []
    → planet_stand new ≡ appended fleet (planet_stand old)
planet_joined fleet old new second planet fleets = λ i. record { second = second i; seen = planet_seen (of_planet (fields_of (planet i))) (queue_of (planet i)) (fleets i) }

pub account_joined : (fleet : Fleet) (old new : AccountCell) → new.second ≡ old.second → new.account ≡ old.account → new.fleets ≡ old.fleets ++ fleet ∷ []
    → account_stand new ≡ appended fleet (account_stand old)
account_joined fleet old new second account fleets = λ i. record {
  second = second i;
  seen = record { own = of_account (account_fields (account i)); queue = account_queue (account i); fleets = fleets i; planets = (account i).planets.items; units = (account i).units };
}

-- one cell
pub puts_joined : (fleet : Fleet) (old new : Held) (name : CellId) (stand now : Stand) → Puts old new name now → held_at old name ≡ Some stand → now ≡ appended fleet stand → JoinsAt name fleet old new
puts_joined fleet old new name stand now puts found is cell =
    puts cell ∙ put-at (same_cell name cell) (appended fleet) (held_at old cell) stand now (λ same. ap (held_at old) (sym (cell-is name cell same)) ∙ found) is
