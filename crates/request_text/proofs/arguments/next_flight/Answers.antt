use Rattle.std.proofs.Common.{◌∷◌, decimal}
use Rattle.catalog.specs.Texts.{ships_text}
use Rattle.request_text.proofs.Tails.{if_none, tail_same}
use Rattle.request_text.proofs.arguments.next_flight.Goals as goal

pub returns-in_err-setting : goal.returns-in_err-setting
returns-in_err-setting c =
    if_none c.from_residual.result _ _ c.from_residual.ensures
    (λ setting ships cargo more spells. c.in_err-setting.ensures setting (ships_text ships.n ∷ decimal cargo.m ∷ decimal cargo.c ∷ decimal cargo.d ∷ more) spells)

pub returns-in_err-ships : goal.returns-in_err-ships
returns-in_err-ships c =
    if_none c.from_residual-in_err-ships.result _ _ c.from_residual-in_err-ships.ensures (λ setting ships cargo more spells.
    let amounts = decimal cargo.m ∷ decimal cargo.c ∷ decimal cargo.d ∷ more in
    c.in_err-ships.ensures ships amounts (tail_same _ _ _ _ (ships_text ships.n ∷ amounts) c.in_ok-setting.ensures spells))

pub returns-in_err-cargo : goal.returns-in_err-cargo
returns-in_err-cargo c =
    if_none c.from_residual-in_err-cargo.result _ _ c.from_residual-in_err-cargo.ensures (λ setting ships cargo more spells.
    let amounts = decimal cargo.m ∷ decimal cargo.c ∷ decimal cargo.d ∷ more in
    c.in_err-cargo.ensures cargo more (tail_same _ _ _ _ amounts c.in_ok-ships.ensures (tail_same _ _ _ _ (ships_text ships.n ∷ amounts) c.in_ok-setting.ensures spells)))
