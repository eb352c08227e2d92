-- How units of metal, crystal and deuterium are written.
use Rattle.std.specs.Prelude.{ℕ, List, ◌++◌, codes}
use Rattle.std.specs.Fmt.{decimal}
use Rattle.reply_text.specs.declared.units.Units.{Units}

-- units are written METAL CRYSTAL DEUTERIUM
abbrev pub units_text : Units → List ℕ
units_text units = decimal units.metal ++ codes " " ++ decimal units.crystal ++ codes " " ++ decimal units.deuterium
