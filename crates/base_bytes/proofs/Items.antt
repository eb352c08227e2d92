-- Items of queues are what stands in their fields.
use Rattle.std.proofs.Common.{◌≡◌, ℕ, ◌≤◌, ◌<◌, ◌^◌, subst, ◌∙◌}
use Rattle.std.specs.Coded.{le_prop}
use Rattle.account_cell.specs.declared.research_item.ResearchItem.{ResearchItem}
use Rattle.planet_cell.specs.declared.batch.Batch.{Batch}
use Rattle.planet_cell.specs.declared.building_item.BuildingItem.{BuildingItem}

pub research_same : (a b : ResearchItem) → a.number ≡ b.number → a.kind ≡ b.kind → a.at ≡ b.at → a.level ≡ b.level → a.second ≡ b.second → a ≡ b
research_same a b number kind at level second =
    let first : a ≡ record a { number = b.number; kind = b.kind; at = b.at; level = b.level } =
    λ i. record a { number = number i; kind = kind i; at = at i; level = level i } in
    let c : ResearchItem = record a { number = b.number; kind = b.kind; at = b.at; level = b.level } in
    let ends = λ (s : ℕ). (in_time : s < 2 ^ 42) → c ≡ record c { second = s; in_time = in_time } in
    first ∙ subst ends second (λ in_time i. record c { in_time = le_prop c.in_time in_time i }) b.in_time

pub building_same : (a b : BuildingItem) → a.number ≡ b.number → a.kind ≡ b.kind → a.level ≡ b.level → a.second ≡ b.second → a ≡ b
building_same a b number kind level second =
    let first : a ≡ record a { number = b.number; kind = b.kind; level = b.level } =
    λ i. record a { number = number i; kind = kind i; level = level i } in
    let c : BuildingItem = record a { number = b.number; kind = b.kind; level = b.level } in
    let ends = λ (s : ℕ). (in_time : s < 2 ^ 42) → c ≡ record c { second = s; in_time = in_time } in
    first ∙ subst ends second (λ in_time i. record c { in_time = le_prop c.in_time in_time i }) b.in_time

pub batch_same : (a b : Batch) → a.number ≡ b.number → a.kind ≡ b.kind → a.left ≡ b.left → a.unit_seconds ≡ b.unit_seconds → a.second ≡ b.second → a ≡ b
batch_same a b number kind left unit_seconds second =
    let first : a ≡ record a { number = b.number; kind = b.kind } = λ i. record a { number = number i; kind = kind i } in
    let c : Batch = record a { number = b.number; kind = b.kind } in
    let has_left = λ (n : ℕ). (some : 1 ≤ n) → c ≡ record c { left = n; some = some } in
    let next = subst has_left left (λ some i. record c { some = le_prop c.some some i }) b.some in
    let d : Batch = record c { left = b.left; some = b.some } in
    let takes = λ (s : ℕ). (short : s ≤ 2 ^ 41) → d ≡ record d { unit_seconds = s; short = short } in
    let later = subst takes unit_seconds (λ short i. record d { short = le_prop d.short short i }) b.short in
    let e : Batch = record d { unit_seconds = b.unit_seconds; short = b.short } in
    let ends = λ (s : ℕ). (in_time : s < 2 ^ 42) → e ≡ record e { second = s; in_time = in_time } in
    first ∙ next ∙ later ∙ subst ends second (λ in_time i. record e { in_time = le_prop e.in_time in_time i }) b.in_time
