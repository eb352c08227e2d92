-- Each mission is listed.
use Rattle.std.proofs.Common.{◌≡◌, ℕ, List, lit<}
use Rattle.std.specs.Prelude.{Option, Some, None, MatchOption}
use Rattle.std.specs.List.{All}
use Rattle.catalog.specs.Missions.{mission_word}
use Rattle.catalog.specs.declared.mission.Mission.{Mission}
use Rattle.catalog.specs.declared.mission.Mission.TheVariants.{Transport, Deploy, Harvest, Attack}
use Rattle.catalog.specs.declared.mission.TheConstants.{MISSIONS}

-- what holds of each mission in the list holds of every mission
every_mission : (P : Mission → Type 0) → All P MISSIONS → (mission : Mission) → P mission
every_mission P all Transport = all 0 Transport (lit< tt)
every_mission P all Deploy = all 1 Transport (lit< tt)
every_mission P all Harvest = all 2 Transport (lit< tt)
every_mission P all Attack = all 3 Transport (lit< tt)

-- a search of the whole list finds the mission that a word names
pub read_listed : (word : List ℕ) (found : Option Mission) → MatchOption found (All (λ mission. word ≡ mission_word mission → ⊥) MISSIONS) (λ mission. word ≡ mission_word mission) → MatchOption found ((mission : Mission) → word ≡ mission_word mission → ⊥) (λ mission. word ≡ mission_word mission)
read_listed word None none = every_mission (λ mission. word ≡ mission_word mission → ⊥) none
read_listed word (Some mission) named = named
