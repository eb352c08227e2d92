-- Whether there are ships.
use Rattle.std.proofs.Common.{◌≡◌, ℕ, false, List, [], ◌∷◌, sum, refl, arith}
use Rattle.std.specs.Prelude.{nat_lt}
use Rattle.std.specs.List.{list_any}
use Rattle.std.proofs.lemmas.Bool.Decides.{nat_tests}
use Rattle.std.proofs.lemmas.List.Sums.{sum_by-cons}

-- if no count is above 0 there is none
pub none_there : (counts : List ℕ) → list_any (λ count. nat_lt 0 count) counts ≡ false → sum counts ≡ 0
none_there [] is = refl
none_there (count ∷ counts) is =
    let here : count ≡ 0 = grind (arith, nat_tests) in
    let rest : list_any (λ count. nat_lt 0 count) counts ≡ false = grind (arith, nat_tests) in
    let later = none_there counts rest in
    let all = sum_by-cons (λ (n : ℕ). n) count counts in
    omega (arith, here, later, all)

pub ruleset ships = (none_there)
