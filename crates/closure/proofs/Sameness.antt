-- Cells with the same numbers are one.
use Rattle.std.proofs.Common.{◌≡◌, true, refl, ap, arith}
use Rattle.std.proofs.lemmas.Bool.Decides.{nat_tests}
use Rattle.base_ids.specs.Cells.{same_cell, same_coord, same_player}
use Rattle.base_ids.specs.declared.coord.Coord.{Coord}
use Rattle.base_ids.specs.declared.player.Player.{Player}
use Rattle.base_ids.specs.declared.cell_id.CellId.{CellId}
use Rattle.base_ids.specs.declared.cell_id.CellId.TheVariants.{Account, Planet}
use Rattle.base_ids.proofs.Names.{coord_is, player_is}

pub same_player_is : (a b : Player) → same_player a b ≡ true → a ≡ b
same_player_is a b same = let k : a.k ≡ b.k = grind (arith, nat_tests) in player_is a b k

pub same_coord_is : (a b : Coord) → same_coord a b ≡ true → a ≡ b
same_coord_is a b same =
    let g : a.g ≡ b.g = grind (arith, nat_tests) in
    let s : a.s ≡ b.s = grind (arith, nat_tests) in
    let p : a.p ≡ b.p = grind (arith, nat_tests) in
    coord_is a b g s p

pub same_cell_is : (a b : CellId) → same_cell a b ≡ true → a ≡ b
same_cell_is (Account a) (Account b) same = ap Account (same_player_is a b same)
same_cell_is (Planet a) (Planet b) same = ap Planet (same_coord_is a b same)
same_cell_is (Account a) (Planet b) same = cc
same_cell_is (Planet a) (Account b) same = cc

pub same_cell_itself : (a : CellId) → same_cell a a ≡ true
same_cell_itself (Account a) = grind (arith, nat_tests)
same_cell_itself (Planet a) = grind (arith, nat_tests)

pub same_cell_swap : (a b : CellId) → same_cell a b ≡ same_cell b a
same_cell_swap (Account a) (Account b) = grind (arith, nat_tests)
same_cell_swap (Planet a) (Planet b) = grind (arith, nat_tests)
same_cell_swap (Account a) (Planet b) = refl
same_cell_swap (Planet a) (Account b) = refl
