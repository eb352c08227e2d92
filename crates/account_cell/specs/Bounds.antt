-- What always holds of the technologies of an account. Rule: docs/RULES.md, "Kinds and costs".
use Rattle.std.specs.Prelude.{ℕ, ◌+◌, ◌≤◌, ◌==◌, List, IsTrue, count_by}
use Rattle.account_cell.specs.declared.research_item.ResearchItem.{ResearchItem}
use Rattle.catalog.specs.Classes.{is_technology}
use Rattle.catalog.specs.Kinds.{kind_number}
use Rattle.catalog.specs.Levels.{level_cap_of}
use Rattle.catalog.specs.Technologies.{level_in}
use Rattle.catalog.specs.declared.kind.Kind.{Kind}

-- how many items of a kind stand in a queue
abbrev pub count_of : Kind → List ResearchItem → ℕ
count_of kind items = count_by (λ item. kind_number item.kind.kind == kind_number kind) items

-- No technology rises above its highest level, even if all items of the queue are researched.
pub record AreWithinCaps (levels : List ℕ) (items : List ResearchItem) : Type 0 where
  pub each : (kind : Kind) → IsTrue (is_technology kind) → level_in levels kind + count_of kind items ≤ level_cap_of kind
