use Rattle.std.proofs.Common.{◌≡◌, true, All, List, map, subst, sym}
use Rattle.std.specs.Prelude.{AllPairs}
use Rattle.std.specs.List.{Contains}
use Rattle.account_cell.specs.declared.account.Account.{Account}
use Rattle.base_bytes.specs.Kept.{ListsRise}
use Rattle.base_bytes.specs.Told.{DoRise}
use Rattle.base_ids.specs.Order.{player_before}
use Rattle.planet_cell.specs.declared.planet.Planet.{Planet}
use Rattle.base_bytes.proofs.keeping.lists_rise.Goals as goal

pub returns-then-fleets_rise : goal.returns-then-fleets_rise
returns-then-fleets_rise c =
    let accounts = c.args.base.now.accounts.items in
    let rise = λ (l : List Account). AllPairs (λ (a b : Account). player_before a.player b.player ≡ true) l in
    let owned = λ (l : List Account) (p : Planet). Contains (map (λ (a : Account). a.player) l) p.owner in
    let one : rise accounts = subst rise c.deref.ensures.value (c.accounts_rise.ensures.0 c.if-not-accounts_rise.false) in
    let two : DoRise c.args.base.now.planets.items = subst DoRise c.deref-2.ensures.value (c.planets_rise.ensures.0 c.if-not-planets_rise.false) in (
      λ yes. record {
        accounts = one;
        planets = two;
        fleets = c.fleets_rise.ensures.0 c.if-fleets_rise.true;
        owned = subst (λ l. All (owned l) c.args.base.now.planets.items) c.deref-then-fleets_rise.ensures.value
            (subst (All (owned c.deref-then-fleets_rise.result.now)) c.deref-then-fleets_rise-2.ensures.value (c.are_owned.ensures.0 yes));
      },
      λ keeps. c.are_owned.ensures.1
          (subst (All (owned c.deref-then-fleets_rise.result.now)) (sym c.deref-then-fleets_rise-2.ensures.value)
          (subst (λ l. All (owned l) c.args.base.now.planets.items) (sym c.deref-then-fleets_rise.ensures.value) keeps.owned)),
    )
