-- The founding part of a generated text. Rule: docs/FORMATS.md, "The generated text".
use Rattle.std.specs.Prelude.{ℕ, List, [], ◌∷◌, ◌++◌, codes}
use Rattle.std.specs.Fmt.{decimal}
use Rattle.catalog.specs.Kinds.{kind_word}
use Rattle.catalog.specs.declared.kind.Kind.{Kind}
use Rattle.catalog.specs.declared.kind.Kind.TheVariants.{Combustion, Computer, CrystalMine, DeuteriumSynth, Lab, Launcher, LightFighter, MetalMine, Recycler, Robotics, Shipyard, SmallCargo, SolarPlant, Weapons}
use Rattle.reply_text.specs.Words.{line}
use Rattle.generate.specs.Counting.{each}
use Rattle.generate.specs.Homes.{home_text}

-- for each kind the line START KIND NUMBER
unfoldable pub kind_lines : List ℕ → List (Kind × ℕ) → List ℕ
kind_lines start [] = []
kind_lines start ((kind, number) ∷ more) = line (start ∷ kind_word kind ∷ decimal number ∷ []) ++ kind_lines start more

-- `universe SEED SPEED CAPACITY MOMENT`
abbrev pub universe_line : ℕ → ℕ → List ℕ
universe_line seed lines = line (codes "universe" ∷ decimal seed ∷ codes "10" ∷ decimal lines ∷ codes "0" ∷ [])

-- a player
abbrev pub player_line : ℕ → List ℕ
player_line player = line (codes "player" ∷ decimal player ∷ [])

-- the technologies of a player
abbrev pub tech_lines : ℕ → List ℕ
tech_lines player = kind_lines (codes "tech " ++ decimal player) ((Combustion, 6) ∷ (Computer, 5) ∷ (Weapons, 3) ∷ [])

-- a planet at a place, with its player and its temperature
abbrev pub planet_line : List ℕ → ℕ → ℕ → List ℕ
planet_line at player temperature = line (codes "planet" ∷ at ∷ decimal player ∷ decimal temperature ∷ codes "200" ∷ [])

-- its stock
abbrev pub stock_line : List ℕ → List ℕ
stock_line at = line (codes "stock" ∷ at ∷ codes "1000000" ∷ codes "1000000" ∷ codes "1000000" ∷ [])

-- its levels
abbrev pub level_lines : List ℕ → List ℕ
level_lines at =
    kind_lines (codes "level " ++ at) ((MetalMine, 10) ∷ (CrystalMine, 8) ∷ (DeuteriumSynth, 5) ∷ (SolarPlant, 14) ∷ (Robotics, 4) ∷ (Shipyard, 6) ∷ (Lab, 5) ∷ [])

-- its units
abbrev pub units_lines : List ℕ → List ℕ
units_lines at = kind_lines (codes "units " ++ at) ((SmallCargo, 20) ∷ (LightFighter, 50) ∷ (Recycler, 5) ∷ (Launcher, 30) ∷ [])

-- a planet with all that it has
abbrev pub home_lines : List ℕ → ℕ → ℕ → List ℕ
home_lines at player temperature = planet_line at player temperature ++ stock_line at ++ level_lines at ++ units_lines at

-- the two planets of a player
abbrev pub homes_lines : ℕ → List ℕ
homes_lines player = home_lines (home_text player 4) player 20 ++ home_lines (home_text player 8) player 0

-- the universe, then all players, then their technologies, then their planets, and the line that ends it
abbrev pub founded : ℕ → ℕ → List ℕ
founded seed lines = universe_line seed lines ++ each player_line 50 ++ each tech_lines 50 ++ each homes_lines 50 ++ codes ".\n"
