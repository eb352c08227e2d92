-- A list whose elements are changed one after the other.
use Rattle.std.proofs.Common.{◌≡◌, ℕ, ◌+◌, ◌<◌, List, ◌++◌, length, map, take, drop, get_or, refl, arith, append_assoc}
use Rattle.std.specs.List.{enumerate_from}
use Rattle.std.proofs.lemmas.List.{drop-set-lt, drop_more, take_more_set}
use Rattle.std.proofs.Math.ListN.{set}

-- one element more is changed, where the change depends on its place
pub placed_more : {X : Type 0} (f : ℕ → X → X) (xs : List X) (i : ℕ) (d y : X) → i < length xs → y ≡ f i (get_or xs i d)
    → take (i + 1) (set xs i y) ++ map (λ placed. f placed.0 placed.1) (enumerate_from (i + 1) (drop (i + 1) (set xs i y)))
    ≡ take i xs ++ map (λ placed. f placed.0 placed.1) (enumerate_from i (drop i xs))
placed_more f xs i d y within e =
    rw (take_more_set xs i y within, drop-set-lt (i + 1) xs i y (omega arith), append_assoc, drop_more xs i d within, e) refl
