-- The orders of players, places, cells and events. Rules: docs/RULES.md, "Names and their order".
use Rattle.std.specs.Prelude.{◌≡◌, ℕ, Bool, true, false, nat_lt, ◌==◌, ◌&&◌, ◌||◌}
use Rattle.base_ids.specs.declared.coord.Coord.{Coord}
use Rattle.base_ids.specs.declared.player.Player.{Player}
use Rattle.base_ids.specs.declared.key.Key.{Key}
use Rattle.base_ids.specs.declared.cell_id.CellId.{CellId}
use Rattle.base_ids.specs.declared.cell_id.CellId.TheVariants.{Account, Planet}

-- by number
abbrev pub player_before : Player → Player → Bool
player_before a b = nat_lt a.k b.k

-- by galaxy, then system, then position
abbrev pub coord_before : Coord → Coord → Bool
coord_before a b = nat_lt a.g b.g || a.g == b.g && (nat_lt a.s b.s || a.s == b.s && nat_lt a.p b.p)

-- accounts come before planets
abbrev pub cell_before : CellId → CellId → Bool
cell_before (Account a) (Account b) = player_before a b
cell_before (Account a) (Planet b) = true
cell_before (Planet a) (Account b) = false
cell_before (Planet a) (Planet b) = coord_before a b

-- what orders an event: its second, the number of its request and its step
pub record EventKey : Type 0 where
  pub second : ℕ
  pub number : ℕ
  pub step : ℕ

-- the numbers of a key
abbrev pub event_key : Key → EventKey
event_key key = record { second = key.second; number = key.number; step = key.step }

-- by second, then number, then step
abbrev pub key_before : EventKey → EventKey → Bool
key_before a b = nat_lt a.second b.second || a.second == b.second && (nat_lt a.number b.number || a.number == b.number && nat_lt a.step b.step)

-- a strict order in which any two are the same or one is before the other
pub record IsOrder {A : Type 0} (before : A → A → Bool) : Type 0 where
  pub never_itself : (a : A) → before a a ≡ false
  pub transitive : (a b c : A) → before a b ≡ true → before b c ≡ true → before a c ≡ true
  pub total : (a b : A) → before a b ≡ false → before b a ≡ false → a ≡ b
