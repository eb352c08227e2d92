use Rattle.std.proofs.Common.{◌≡◌, ◌++◌, ◌∷◌, [], All, ap, subst, sym, ◌∙◌}
use Rattle.std.specs.List.{AllZip}
use Rattle.std.proofs.lemmas.List.Elements.{All-push, AllZip-push}
use Rattle.account_cell.specs.declared.account.Account.{Account}
use Rattle.base_bytes.specs.Sound.{places_owned}
use Rattle.base_bytes.specs.Told.{AreAlike}
use Rattle.base_bytes.proofs.places.with_all_places.Goals as goal

pub accounts-preserved : goal.accounts-preserved
accounts-preserved c =
    let own = c.with_places.result in
    let alike = c.with_places.ensures.alike in
    let has_places = λ (account : Account). account.planets.items ≡ places_owned account.player c.args.planets.now in
    let there = c.with_places.ensures.places ∙ c.in_ok-places.ensures ∙ c.in_ok-owners.ensures c.in-Some.account.player ∙ ap (λ k. places_owned k c.args.planets.now) (sym alike.player) in
    record {
      alike = subst (AllZip AreAlike (c.accounts.yielded ++ c.in-Some.account ∷ [])) (sym c.in_ok-push.ensures.items)
          (AllZip-push AreAlike c.accounts.yielded c.accounts.all.items c.in-Some.account own c.accounts.invariant.alike alike);
      places = subst (All has_places) (sym c.in_ok-push.ensures.items) (All-push has_places c.accounts.all.items own c.accounts.invariant.places there);
    }
