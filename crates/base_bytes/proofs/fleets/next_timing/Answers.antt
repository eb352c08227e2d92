use Rattle.std.proofs.Common.{◌++◌, ◌∙◌, arith}
use Rattle.records.proofs.Pieces.{open_3}
use Rattle.records.specs.Entries.{u8, u64}
use Rattle.base_bytes.proofs.fleets.next_timing.Goals as goal

pub returns : goal.returns
returns c = λ fleet more is.
    let text = is ∙ open_3 (u8 fleet.setting.p) (u64 fleet.launch) (u64 fleet.second) more in
    let after_2 = u64 fleet.second ++ more in
    let after_1 = u64 fleet.launch ++ after_2 in
    let setting = c.next_u8.ensures fleet.setting.p after_1 text in
    let launch = c.next_u64-launch.ensures fleet.launch after_2 (omega (arith, fleet.launched)) setting.1 in
    let second = c.next_u64-second.ensures fleet.second more (omega (arith, fleet.in_time)) launch.1 in
    let the_setting = c.speed_setting-setting.ensures fleet.setting setting.0 in
    (λ i. record { setting = the_setting i; launch = launch.0 i; second = second.0 i }, second.1)
