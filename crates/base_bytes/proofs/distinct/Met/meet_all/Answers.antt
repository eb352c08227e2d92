use Rattle.std.proofs.Common.{subst, sym, false}
use Rattle.account_cell.specs.Account.{research_of}
use Rattle.base_bytes.specs.Base.{all_items, planet_items}
use Rattle.base_bytes.specs.Counting.{Meets}
use Rattle.std.specs.List.{flat_map}
use Rattle.base_bytes.proofs.Meeting.{meets-both, meets-some}
use Rattle.base_bytes.proofs.distinct.Met.meet_all.Goals as goal

pub returns-in_ok-meet_planets : goal.returns-in_ok-meet_planets
returns-in_ok-meet_planets c =
    let accounts = c.args.accounts.now in
    let planets = c.args.planets.now in
    let first = subst (Meets (flat_map research_of accounts) c.args.self.now c.meet_accounts.new.self) c.if-branch.true c.in_ok-meet_accounts.ensures in
    meets-both (flat_map research_of accounts) (flat_map planet_items planets) c.args.self.now c.meet_accounts.new.self c.meet_planets.new.self c.in_ok-meet_planets.field-0 first c.in_ok-meet_planets.ensures

pub returns-else-branch : goal.returns-else-branch
returns-else-branch c =
    let accounts = c.args.accounts.now in
    let planets = c.args.planets.now in
    let stop = subst (Meets (flat_map research_of accounts) c.args.self.now c.meet_accounts.new.self) c.if-branch.false c.in_ok-meet_accounts.ensures in
    subst (λ b. Meets (all_items accounts planets) c.args.self.now c.meet_accounts.new.self b) (sym c.if-branch.false)
    (meets-some (flat_map research_of accounts) (flat_map planet_items planets) c.args.self.now c.meet_accounts.new.self c.meet_accounts.new.self stop)
