-- How much a planet stores by the level of a store. Rule: docs/RULES.md, "Storage limits".
use Rattle.std.specs.Prelude.{ℕ, List, [], ◌∷◌, slice_index}

-- the limits of a store of level 0, 1 and so on up to 16, in units
abbrev pub storage_limits : List ℕ
storage_limits = 10000 ∷ 20000 ∷ 40000 ∷ 75000 ∷ 140000 ∷ 255000 ∷ 470000 ∷ 865000 ∷ 1590000 ∷ 2920000 ∷ 5355000 ∷ 9820000 ∷ 18005000 ∷ 33005000 ∷ 60510000 ∷ 110925000 ∷ 203350000 ∷ []

-- the limit of a store of this level
abbrev pub storage_limit : ℕ → ℕ
storage_limit level = slice_index storage_limits level
