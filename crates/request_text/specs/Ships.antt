-- One kind of ship among the parts of a text of ships.
use Rattle.std.specs.Prelude.{◌≡◌, ℕ, ◌≤◌, List, [], ◌∷◌, ◌++◌}
use Rattle.catalog.specs.Kinds.{kind_word}
use Rattle.catalog.specs.Texts.{ship_parts}
use Rattle.catalog.specs.declared.kind.Kind.{Kind}
use Rattle.catalog.specs.declared.ships.TheConstants.{UNITS}

-- the first of these parts does not begin with the kind and `=`
abbrev pub IsOther : Kind → List (List ℕ) → Type 0
IsOther kind parts = (text : List ℕ) (more : List (List ℕ)) → parts ≡ (kind_word kind ++ (61 ∷ text)) ∷ more → ⊥

-- these parts begin with so many of the kind, none of them if it is 0, and others follow
abbrev pub Begins : Kind → List (List ℕ) → ℕ → List (List ℕ) → Type 0
Begins kind parts count others = parts ≡ ship_parts (kind ∷ []) (count ∷ []) ++ others

-- they begin with this many and in no other way
pub record Counted (kind : Kind) (parts others : List (List ℕ)) (count : ℕ) : Type 0 where
  pub within : count ≤ UNITS
  pub begins : Begins kind parts count others
  pub once : (n : ℕ) (rest : List (List ℕ)) → n ≤ UNITS → IsOther kind rest → Begins kind parts n rest → (n ≡ count) × (rest ≡ others)

-- they begin with no number that is in range
abbrev pub IsUncounted : Kind → List (List ℕ) → Type 0
IsUncounted kind parts = (n : ℕ) (rest : List (List ℕ)) → n ≤ UNITS → IsOther kind rest → Begins kind parts n rest → ⊥
