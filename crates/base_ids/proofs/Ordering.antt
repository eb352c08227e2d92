-- The orders are strict and total.
use Rattle.std.proofs.Common.{◌≡◌, ℕ, Bool, true, false, eqb, ltb, refl, ap, arith}
use Rattle.std.specs.Prelude.{◌&&◌, ◌||◌}
use Rattle.std.proofs.lemmas.Bool.Decides.{nat_tests}
use Rattle.base_ids.specs.Order.{IsOrder, cell_before, EventKey, coord_before, event_key, key_before, player_before}
use Rattle.base_ids.specs.declared.cell_id.CellId.{CellId}
use Rattle.base_ids.specs.declared.cell_id.CellId.TheVariants.{Account, Planet}
use Rattle.base_ids.proofs.Names.{coord_is, key_is, player_is}

-- three numbers come before three others
abbrev pub lex : ℕ → ℕ → ℕ → ℕ → ℕ → ℕ → Bool
lex a b c x y z = ltb a x || eqb a x && (ltb b y || eqb b y && ltb c z)

lex-itself : (a b c : ℕ) → lex a b c a b c ≡ false
lex-itself a b c = grind (arith, nat_tests)

lex-transitive : (a b c p q r x y z : ℕ) → lex a b c p q r ≡ true → lex p q r x y z ≡ true → lex a b c x y z ≡ true
lex-transitive a b c p q r x y z first second = grind (arith, nat_tests)

lex-first : (a b c x y z : ℕ) → lex a b c x y z ≡ false → lex x y z a b c ≡ false → a ≡ x
lex-first a b c x y z first second = grind (arith, nat_tests)

lex-second : (a b c x y z : ℕ) → lex a b c x y z ≡ false → lex x y z a b c ≡ false → b ≡ y
lex-second a b c x y z first second = grind (arith, nat_tests)

lex-third : (a b c x y z : ℕ) → lex a b c x y z ≡ false → lex x y z a b c ≡ false → c ≡ z
lex-third a b c x y z first second = grind (arith, nat_tests)

-- events with the same numbers are one
event_is : (a b : EventKey) → a.second ≡ b.second → a.number ≡ b.number → a.step ≡ b.step → a ≡ b
event_is a b second number step = λ i. record { second = second i; number = number i; step = step i }

pub players_ordered : IsOrder player_before
players_ordered = record {
  never_itself = λ a. grind (arith, nat_tests);
  transitive = λ a b c first second. grind (arith, nat_tests);
  total = λ a b first second. let same : a.k ≡ b.k = grind (arith, nat_tests) in player_is a b same;
}

pub coords_ordered : IsOrder coord_before
coords_ordered = record {
  never_itself = λ a. lex-itself a.g a.s a.p;
  transitive = λ a b c first second. lex-transitive a.g a.s a.p b.g b.s b.p c.g c.s c.p first second;
  total = λ a b first second. coord_is a b (lex-first a.g a.s a.p b.g b.s b.p first second) (lex-second a.g a.s a.p b.g b.s b.p first second) (lex-third a.g a.s a.p b.g b.s b.p first second);
}

pub events_ordered : IsOrder key_before
events_ordered = record {
  never_itself = λ a. lex-itself a.second a.number a.step;
  transitive = λ a b c first second. lex-transitive a.second a.number a.step b.second b.number b.step c.second c.number c.step first second;
  total = λ a b first second.
      let seconds = lex-first a.second a.number a.step b.second b.number b.step first second in
      let numbers = lex-second a.second a.number a.step b.second b.number b.step first second in
      let steps = lex-third a.second a.number a.step b.second b.number b.step first second in
      event_is a b seconds numbers steps;
}

-- keys with the same numbers are one
pub keys_ordered : IsOrder (λ a b. key_before (event_key a) (event_key b))
keys_ordered = record {
  never_itself = λ a. events_ordered.never_itself (event_key a);
  transitive = λ a b c first second. events_ordered.transitive (event_key a) (event_key b) (event_key c) first second;
  total = λ a b first second. key_is a b (lex-first a.second a.number a.step b.second b.number b.step first second) (lex-second a.second a.number a.step b.second b.number b.step first second) (lex-third a.second a.number a.step b.second b.number b.step first second);
}

cell_itself : (a : CellId) → cell_before a a ≡ false
cell_itself (Account a) = players_ordered.never_itself a
cell_itself (Planet a) = coords_ordered.never_itself a

cell_transitive : (a b c : CellId) → cell_before a b ≡ true → cell_before b c ≡ true → cell_before a c ≡ true
cell_transitive (Account a) (Account b) (Account c) first second = players_ordered.transitive a b c first second
cell_transitive (Account a) b (Planet c) first second = refl
cell_transitive (Account a) (Planet b) (Account c) first second = cc
cell_transitive (Planet a) (Account b) c first second = cc
cell_transitive (Planet a) (Planet b) (Account c) first second = second
cell_transitive (Planet a) (Planet b) (Planet c) first second = coords_ordered.transitive a b c first second

cell_total : (a b : CellId) → cell_before a b ≡ false → cell_before b a ≡ false → a ≡ b
cell_total (Account a) (Account b) first second = ap Account (players_ordered.total a b first second)
cell_total (Account a) (Planet b) first second = cc
cell_total (Planet a) (Account b) first second = cc
cell_total (Planet a) (Planet b) first second = ap Planet (coords_ordered.total a b first second)

pub cells_ordered : IsOrder cell_before
cells_ordered = record { never_itself = cell_itself; transitive = cell_transitive; total = cell_total }
