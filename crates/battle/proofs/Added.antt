-- What one more shot changes.
use Rattle.std.proofs.Common.{◌≡◌, ℕ, ◌+◌, ◌-◌, ◌≤◌, List, [], ◌∷◌, ◌++◌, length, Bool, true, false, not, ◌&&◌, ◌||◌, append-nil, filter, ap, ◌∙◌, refl, arith}
use Rattle.std.specs.Prelude.{nat_lt, ◌==◌}
use Rattle.std.specs.List.{list_any, range_with_len, sum_by}
use Rattle.std.proofs.lemmas.Bool.{and_from, and_right, eq-eqb, le-ltb, ne_eqb}
use Rattle.std.proofs.lemmas.List.Elements.{filter-append}
use Rattle.std.proofs.lemmas.List.Folds.{list_any-append}
use Rattle.std.proofs.lemmas.List.Sums.{sum_by-append}
use Rattle.battle.specs.Shots.{Shot, alive, drawn, found, hull_taken, is_alive, is_at, is_destroyed, rank, shield_taken, unit_at}
use Rattle.battle.specs.Sides.{Battle, Party, attackers, planet, enemy, units}

or_false : (c : Bool) → (c || false) ≡ c
or_false true = refl
or_false false = refl

and_true : (c : Bool) → (c && true) ≡ c
and_true true = refl
and_true false = refl

-- a test on one element
pub filter_one : {X : Type 0} (p : X → Bool) (x : X) → p x ≡ false → filter p (x ∷ []) ≡ []
filter_one p x fails = rw fails refl

-- no shot of an earlier round is added in this one
pub earlier_kept : (shots : List Shot) (s : Shot) (round : ℕ) → round ≤ s.round → filter (λ t. nat_lt t.round round) (shots ++ s ∷ []) ≡ filter (λ t. nat_lt t.round round) shots
earlier_kept shots s round late =
    filter-append (λ t. nat_lt t.round round) shots (s ∷ [])
    ∙ ap (λ ts. filter (λ t. nat_lt t.round round) shots ++ ts) (filter_one (λ t. nat_lt t.round round) s (le-ltb s.round round late))
    ∙ append-nil (filter (λ t. nat_lt t.round round) shots)

-- so the same units are alive at its start
pub alive_kept : (b : Battle) (shots : List Shot) (s : Shot) (round : ℕ) (party : Party) → round ≤ s.round → alive b (shots ++ s ∷ []) round party ≡ alive b shots round party
alive_kept b shots s round party late =
    ap (λ ts. filter (λ place. not (is_destroyed ts party place)) (range_with_len 0 (length (units b party)))) (earlier_kept shots s round late)

pub is_alive_kept : (shots : List Shot) (s : Shot) (round : ℕ) (party : Party) (place : ℕ) → round ≤ s.round → is_alive (shots ++ s ∷ []) round party place ≡ is_alive shots round party place
is_alive_kept shots s round party place late = ap (λ ts. not (is_destroyed ts party place)) (earlier_kept shots s round late)

-- sums and tests over one more
pub sum_more : {X : Type 0} (f : X → ℕ) (xs : List X) (x : X) → sum_by f (xs ++ x ∷ []) ≡ sum_by f xs + f x
sum_more f xs x = let all = sum_by-append f xs (x ∷ []) in omega (arith, all)

pub any_more : {X : Type 0} (p : X → Bool) (xs : List X) (x : X) → list_any p (xs ++ x ∷ []) ≡ (list_any p xs || p x)
any_more p xs x = list_any-append p xs (x ∷ []) ∙ ap (λ c. list_any p xs || c) (or_false (p x))

-- the words that were drawn
pub drawn_more : (shots : List Shot) (s : Shot) → drawn (shots ++ s ∷ []) ≡ drawn shots + length s.words
drawn_more shots s = sum_more (λ t. length t.words) shots s

-- a shot at another unit takes nothing from this one
pub sum_where_yes : {X : Type 0} (f : X → ℕ) (p : X → Bool) (xs : List X) (x : X) → p x ≡ true → sum_by f (filter p (xs ++ x ∷ [])) ≡ sum_by f (filter p xs) + f x
sum_where_yes f p xs x passes =
    ap (sum_by f) (filter-append p xs (x ∷ []) ∙ ap (λ ys. filter p xs ++ ys) (rw passes refl)) ∙ sum_more f (filter p xs) x

pub sum_where_no : {X : Type 0} (f : X → ℕ) (p : X → Bool) (xs : List X) (x : X) → p x ≡ false → sum_by f (filter p (xs ++ x ∷ [])) ≡ sum_by f (filter p xs)
sum_where_no f p xs x fails =
    ap (sum_by f) (filter-append p xs (x ∷ []) ∙ ap (λ ys. filter p xs ++ ys) (filter_one p x fails) ∙ append-nil (filter p xs))

-- the two sides are not one
pub enemy_twice : (party : Party) → enemy (enemy party) ≡ party
enemy_twice attackers = refl
enemy_twice planet = refl

pub same_rank : (party : Party) → (rank party == rank party) ≡ true
same_rank attackers = refl
same_rank planet = refl

pub other_rank : (party : Party) → (rank (enemy party) == rank party) ≡ false
other_rank attackers = refl
other_rank planet = refl

-- a shot is at no unit of its own side, and of the other side at its target alone
pub not_at_own : (s : Shot) (place : ℕ) → is_at s.party place s ≡ false
not_at_own s place = rw (other_rank s.party) refl

pub at_target : (s : Shot) → is_at (enemy s.party) s.target s ≡ true
at_target s = rw (enemy_twice s.party) (rw (same_rank s.party) (eq-eqb s.target s.target refl))

pub not_at_other : (s : Shot) (place : ℕ) → (s.target ≡ place → ⊥) → is_at (enemy s.party) place s ≡ false
not_at_other s place differs = rw (enemy_twice s.party) (rw (same_rank s.party) (ne_eqb s.target place differs))

-- a unit at which the shot is not stays as it was
pub found_kept : (b : Battle) (shots : List Shot) (s : Shot) (round : ℕ) (party : Party) (place : ℕ) → is_at party place s ≡ false → found b (shots ++ s ∷ []) round party place ≡ found b shots round party place
found_kept b shots s round party place away =
    let shield : shield_taken (shots ++ s ∷ []) round party place ≡ shield_taken shots round party place =
    sum_where_no (λ t. t.shield) (λ t. t.round == round && is_at party place t) shots s (and_right (s.round == round) (is_at party place s) away) in
    let hull : hull_taken (shots ++ s ∷ []) party place ≡ hull_taken shots party place = sum_where_no (λ t. t.hull) (is_at party place) shots s away in
    let destroyed : is_destroyed (shots ++ s ∷ []) party place ≡ is_destroyed shots party place =
    any_more (λ t. t.destroyed && is_at party place t) shots s ∙ rw (and_right s.destroyed (is_at party place s) away) (or_false (is_destroyed shots party place)) in
    rw shield (rw hull (rw destroyed refl))

-- the target of a shot of this round lost what the shot says
pub found_struck : (b : Battle) (shots : List Shot) (s : Shot) (party : Party) (place : ℕ) → is_at party place s ≡ true
    → found b (shots ++ s ∷ []) s.round party place
    ≡ record {
      fighter = unit_at b party place;
      shield = (found b shots s.round party place).shield - s.shield;
      hull = (found b shots s.round party place).hull - s.hull;
      is_destroyed = is_destroyed shots party place || s.destroyed;
    }
found_struck b shots s party place at =
    let shield : shield_taken (shots ++ s ∷ []) s.round party place ≡ shield_taken shots s.round party place + s.shield =
    sum_where_yes (λ t. t.shield) (λ t. t.round == s.round && is_at party place t) shots s (and_from (s.round == s.round) (is_at party place s) (eq-eqb s.round s.round refl) at) in
    let hull : hull_taken (shots ++ s ∷ []) party place ≡ hull_taken shots party place + s.hull = sum_where_yes (λ t. t.hull) (is_at party place) shots s at in
    let destroyed : is_destroyed (shots ++ s ∷ []) party place ≡ (is_destroyed shots party place || s.destroyed) =
    any_more (λ t. t.destroyed && is_at party place t) shots s ∙ rw at (ap (λ c. is_destroyed shots party place || c) (and_true s.destroyed)) in
    rw shield (rw hull (rw destroyed (rw (less_twice (unit_at b party place).shield (shield_taken shots s.round party place) s.shield) (rw (less_twice (unit_at b party place).hull (hull_taken shots party place) s.hull) refl))))
  where
    less_twice : (a x y : ℕ) → a - (x + y) ≡ a - x - y
    less_twice a x y = omega arith
