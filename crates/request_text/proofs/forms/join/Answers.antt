use Rattle.std.proofs.Common.{◌∷◌, []}
use Rattle.base_ids.specs.Text.{coord_text}
use Rattle.request_text.specs.Flights.{flight_words}
use Rattle.request_text.proofs.Tails.{if_none, tail_same, tail_same_two}
use Rattle.request_text.proofs.forms.join.Goals as goal

pub returns-in_err-fleet : goal.returns-in_err-fleet
returns-in_err-fleet c =
    if_none c.from_residual.result _ _ c.from_residual.ensures
    (λ fleet from to setting ships cargo spells. c.in_err-fleet.ensures fleet (coord_text from ∷ coord_text to ∷ flight_words setting ships cargo []) spells)

pub returns-in_err-from : goal.returns-in_err-from
returns-in_err-from c =
    if_none c.from_residual-in_err-from.result _ _ c.from_residual-in_err-from.ensures (λ fleet from to setting ships cargo spells.
    let flight = flight_words setting ships cargo [] in
    c.in_err-from.ensures from to flight (tail_same _ _ _ _ (coord_text from ∷ coord_text to ∷ flight) c.in_ok-fleet.ensures spells))

pub returns-in_err-setting : goal.returns-in_err-setting
returns-in_err-setting c =
    if_none c.from_residual-in_err-setting.result _ _ c.from_residual-in_err-setting.ensures (λ fleet from to setting ships cargo spells.
    let flight = flight_words setting ships cargo [] in
    c.in_err-setting.ensures setting ships cargo [] (tail_same_two _ _ _ _ _ _ flight c.in_ok-from.ensures (tail_same _ _ _ _ (coord_text from ∷ coord_text to ∷ flight) c.in_ok-fleet.ensures spells)))
