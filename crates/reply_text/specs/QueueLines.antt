-- The lines that show the items of queues, each queue in its order.
use Rattle.std.specs.Prelude.{ℕ, List, [], ◌∷◌, codes}
use Rattle.std.specs.Fmt.{decimal}
use Rattle.base_ids.specs.Text.{coord_text}
use Rattle.base_ids.specs.declared.coord.Coord.{Coord}
use Rattle.catalog.specs.Kinds.{kind_word}
use Rattle.catalog.specs.declared.kind.Kind.{Kind}
use Rattle.reply_text.specs.Words.{line}
use Rattle.reply_text.specs.declared.queue_lines.RunningBuilding.{RunningBuilding}
use Rattle.reply_text.specs.declared.queue_lines.RunningResearch.{RunningResearch}
use Rattle.reply_text.specs.declared.queue_lines.RunningBatch.{RunningBatch}

-- `building N BUILDING LEVEL SECOND`: the level that is built and the second at which it ends
abbrev pub building_line : RunningBuilding → List ℕ
building_line item =
    line (codes "building" ∷ decimal item.number ∷ kind_word item.kind ∷ decimal item.level ∷ decimal item.second ∷ [])

-- `waiting N BUILDING`
abbrev pub waiting_building_line : ℕ → Kind → List ℕ
waiting_building_line number kind = line (codes "waiting" ∷ decimal number ∷ kind_word kind ∷ [])

-- `yard N UNIT LEFT SECOND`: the units that are left and the second of the next
abbrev pub yard_line : RunningBatch → List ℕ
yard_line batch =
    line (codes "yard" ∷ decimal batch.number ∷ kind_word batch.kind ∷ decimal batch.left ∷ decimal batch.second ∷ [])

-- `yardwaiting N UNIT LEFT`
abbrev pub yard_waiting_line : ℕ → Kind → ℕ → List ℕ
yard_waiting_line number kind left = line (codes "yardwaiting" ∷ decimal number ∷ kind_word kind ∷ decimal left ∷ [])

-- `research N TECH LEVEL SECOND C`: the level that is researched, the second at which it ends, and whose lab does it
abbrev pub research_line : RunningResearch → List ℕ
research_line item =
    line (codes "research" ∷ decimal item.number ∷ kind_word item.kind ∷ decimal item.level ∷ decimal item.second ∷ coord_text item.at ∷ [])

-- `waiting N TECH C`
abbrev pub waiting_research_line : ℕ → Kind → Coord → List ℕ
waiting_research_line number kind at =
    line (codes "waiting" ∷ decimal number ∷ kind_word kind ∷ coord_text at ∷ [])
