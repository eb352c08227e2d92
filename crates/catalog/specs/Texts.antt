-- How amounts and ships are written. Rule: docs/PROTOCOL.md, "The words of a request".
use Rattle.std.specs.Prelude.{ℕ, List, [], ◌∷◌, ◌++◌, ◌==◌, codes, if◌then◌else◌}
use Rattle.std.specs.List.{join_with_byte}
use Rattle.std.specs.Fmt.{decimal}
use Rattle.catalog.specs.Kinds.{kind_word}
use Rattle.catalog.specs.declared.amounts.Amounts.{Amounts}
use Rattle.catalog.specs.declared.kind.Kind.{Kind}
use Rattle.catalog.specs.declared.ships.TheConstants.{SHIPS}

-- amounts are written as metal, crystal and deuterium, with one space between them
abbrev pub amounts_text : Amounts → List ℕ
amounts_text amounts = decimal amounts.m ++ codes " " ++ decimal amounts.c ++ codes " " ++ decimal amounts.d

-- a kind of ship with its count
abbrev pub ship_part : Kind → ℕ → List ℕ
ship_part kind count = kind_word kind ++ codes "=" ++ decimal count

-- the kinds that are there, each with its count
abbrev pub ship_parts : List Kind → List ℕ → List (List ℕ)
ship_parts [] counts = []
ship_parts (kind ∷ kinds) [] = []
ship_parts (kind ∷ kinds) (count ∷ counts) = if count == 0 then ship_parts kinds counts else ship_part kind count ∷ ship_parts kinds counts

-- ships are written kind=count, joined by commas
abbrev pub ships_text : List ℕ → List ℕ
ships_text counts = join_with_byte 44 (ship_parts SHIPS counts)
