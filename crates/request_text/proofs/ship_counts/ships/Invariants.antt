-- The parts passed so far are those of the counts that were read, and of no other counts.
use Rattle.std.proofs.Common.{◌≡◌, ℕ, true, List, ◌++◌, length, take, drop}
use Rattle.base_text.specs.Parts.{parts}
use Rattle.catalog.specs.Texts.{ship_parts}
use Rattle.catalog.specs.declared.ships.TheConstants.{SHIPS}
use Rattle.request_text.proofs.ShipParts.{are_within}
use Rattle.request_text.proofs.ship_counts.ships.Given as goal

abbrev pub invariant-kinds : goal.invariant-kinds
invariant-kinds l = record {
  long : length l.n ≡ 13;
  read : parts 44 l.word ≡ ship_parts (take l.i SHIPS) (take l.i l.n) ++ l.parts;
  within : are_within (take l.i l.n) ≡ true;
  once : (ns : List ℕ) → length ns ≡ 13 → are_within ns ≡ true → parts 44 l.word ≡ ship_parts SHIPS ns → (take l.i ns ≡ take l.i l.n) × (l.parts ≡ ship_parts (drop l.i SHIPS) (drop l.i ns));
}
