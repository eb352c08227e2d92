use Rattle.std.proofs.Common.{◌++◌, ◌∙◌}
use Rattle.std.specs.List.{flat_map}
use Rattle.records.specs.Entries.{u32, u64}
use Rattle.records.proofs.Pieces.{open_4}
use Rattle.records.proofs.readers.next_load.Goals as goal

pub returns : goal.returns
returns c = λ load more fits is.
    let text = is ∙ open_4 (u64 load.metal) (u64 load.crystal) (u64 load.deuterium) (flat_map u32 load.ships) more in
    let after_3 = flat_map u32 load.ships ++ more in
    let after_2 = u64 load.deuterium ++ after_3 in
    let after_1 = u64 load.crystal ++ after_2 in
    let metal = c.next_u64-metal.ensures load.metal after_1 fits.metal text in
    let crystal = c.next_u64-crystal.ensures load.crystal after_2 fits.crystal metal.1 in
    let deuterium = c.next_u64-deuterium.ensures load.deuterium after_3 fits.deuterium crystal.1 in
    let ships = c.next_counts.ensures load.ships more fits.ships deuterium.1 in
    (λ i. record { metal = metal.0 i; crystal = crystal.0 i; deuterium = deuterium.0 i; ships = ships.0 i }, ships.1)
