use Rattle.std.proofs.Common.{◌≡◌, ◌∙◌, ap, map, true, sym, subst, AllPairs, List}
use Rattle.std.specs.Map.{values_of}
use Rattle.account_cell.specs.declared.account.Account.{Account}
use Rattle.base_ids.specs.Order.{coord_before, player_before}
use Rattle.planet_cell.specs.declared.planet.Planet.{Planet}
use Rattle.founding.specs.Filing.{account_facts, facts_of}
use Rattle.founding.proofs.Listed.{listed-universe}
use Rattle.founding.proofs.Soundness.{comes-sound}
use Rattle.founding.proofs.draft.Draft.found.Goals as goal

pub returns-clause-universe : goal.returns-clause-universe
returns-clause-universe c =
    let draft = c.args.self in
    let base = c.base.ensures in
    listed-universe c.base.result draft.heading draft.players.entries (values_of draft.planets.entries) base.rules base.moment base.number base.fleets
    (ap (λ v. map account_facts v.items) base.accounts ∙ c.list_accounts-accounts.ensures.items) (ap (λ v. map facts_of v.items) base.planets ∙ c.list_planets-planets.ensures.items)

pub returns-clause-sound : goal.returns-clause-sound
returns-clause-sound c =
    let draft = c.args.self in
    let base = c.base.ensures in
    comes-sound c.base.result draft.players.entries (values_of draft.planets.entries)
    (record {
      accounts_are = ap (λ v. map account_facts v.items) base.accounts ∙ c.list_accounts-accounts.ensures.items;
      planets_are = ap (λ v. map facts_of v.items) base.planets ∙ c.list_planets-planets.ensures.items;
      rises = subst (λ (xs : List Account). AllPairs (λ a b. player_before a.player b.player ≡ true) xs) (ap (λ v. v.items) (sym base.accounts)) c.list_accounts-accounts.ensures.rise;
      ordered = c.list_accounts-accounts.ensures.ordered;
      kept = c.requires.listed;
      counts = c.requires.counted;
    })
    (subst (λ (xs : List Planet). AllPairs (λ a b. coord_before a.at b.at ≡ true) xs) (ap (λ v. v.items) (sym base.planets)) c.list_planets-planets.ensures.rise)
    base.fleets
