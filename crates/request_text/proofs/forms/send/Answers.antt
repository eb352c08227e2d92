use Rattle.std.proofs.Common.{◌∷◌, []}
use Rattle.catalog.specs.Missions.{mission_word}
use Rattle.request_text.specs.Flights.{flight_words}
use Rattle.request_text.proofs.Tails.{if_none, tail_same, tail_same_two}
use Rattle.request_text.proofs.forms.send.Goals as goal

pub returns-in_err-from : goal.returns-in_err-from
returns-in_err-from c =
    if_none c.from_residual.result _ _ c.from_residual.ensures
    (λ from to mission setting ships cargo spells. c.in_err-from.ensures from to (mission_word mission ∷ flight_words setting ships cargo []) spells)

pub returns-in_err-mission : goal.returns-in_err-mission
returns-in_err-mission c =
    if_none c.from_residual-in_err-mission.result _ _ c.from_residual-in_err-mission.ensures (λ from to mission setting ships cargo spells.
    let flight = flight_words setting ships cargo [] in
    c.in_err-mission.ensures mission flight (tail_same_two _ _ _ _ _ _ (mission_word mission ∷ flight) c.in_ok-from.ensures spells))

pub returns-in_err-setting : goal.returns-in_err-setting
returns-in_err-setting c =
    if_none c.from_residual-in_err-setting.result _ _ c.from_residual-in_err-setting.ensures (λ from to mission setting ships cargo spells.
    let flight = flight_words setting ships cargo [] in
    c.in_err-setting.ensures setting ships cargo [] (tail_same _ _ _ _ flight c.in_ok-mission.ensures (tail_same_two _ _ _ _ _ _ (mission_word mission ∷ flight) c.in_ok-from.ensures spells)))
