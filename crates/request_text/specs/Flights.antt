-- The words that `send` and `join` share. Rule: docs/PROTOCOL.md, "Requests".
use Rattle.std.specs.Prelude.{ℕ, List, ◌∷◌}
use Rattle.std.specs.Fmt.{decimal}
use Rattle.catalog.specs.Texts.{ships_text}
use Rattle.catalog.specs.declared.amounts.Amounts.{Amounts}
use Rattle.catalog.specs.declared.settings.SpeedSetting.{SpeedSetting}
use Rattle.catalog.specs.declared.ships.Ships.{Ships}

-- speed setting, ships and cargo, and more words after them
abbrev pub flight_words : SpeedSetting → Ships → Amounts → List (List ℕ) → List (List ℕ)
flight_words setting ships cargo more = decimal setting.p ∷ ships_text ships.n ∷ decimal cargo.m ∷ decimal cargo.c ∷ decimal cargo.d ∷ more
