-- The missions of fleets, their numbers and their words. Rule: docs/PROTOCOL.md, "The words of a request".
use Rattle.std.specs.Prelude.{ℕ, List, codes}
use Rattle.catalog.specs.declared.mission.Mission.{Mission}
use Rattle.catalog.specs.declared.mission.Mission.TheVariants.{Transport, Deploy, Harvest, Attack}

-- the number of a mission
abbrev pub mission_number : Mission → ℕ
mission_number Transport = 1
mission_number Deploy = 2
mission_number Harvest = 3
mission_number Attack = 4

-- the word of a mission
abbrev pub mission_word : Mission → List ℕ
mission_word Transport = codes "transport"
mission_word Deploy = codes "deploy"
mission_word Harvest = codes "harvest"
mission_word Attack = codes "attack"
