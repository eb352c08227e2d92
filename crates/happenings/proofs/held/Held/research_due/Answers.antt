use Rattle.std.proofs.Common.{◌≡◌, ◌∷◌, ◌++◌, [], ap, ◌∙◌, sym, refl, subst, append_assoc}
use Rattle.std.proofs.lemmas.List.{append-nil}
use Rattle.std.proofs.lemmas.Map.Iter.{rest_all, rest_more}
use Rattle.std.specs.Map.Iter.{deref_pair}
use Rattle.base_ids.specs.declared.player.Player.{Player}
use Rattle.happenings.specs.Due.{IsFirstOwed, key_at, sooner_of}
use Rattle.happenings.specs.declared.held.AccountCell.{AccountCell}
use Rattle.happenings.proofs.Firsts.{first_more}
use Rattle.happenings.proofs.Keys.{holds_within}
use Rattle.happenings.proofs.Owing.{account_owes, account_there, accounts_first}
use Rattle.happenings.proofs.held.Held.research_due.Goals as goal

pub accounts-preserved : goal.accounts-preserved
accounts-preserved c =
    let held = c.args.self.now in
    let owed = account_owes c.args.moment in
    let before = c.accounts.invariant in
    let entry : Player × AccountCell = (c.in-Some.player.now, c.in-Some.cell.now) in
    let step : c.accounts.player-iterator ≡ entry ∷ c.next.new.self =
    rest_more deref_pair c.accounts.player-iterator c.next.new.self c.next.result (c.in-Some.player, c.in-Some.cell) c.in-Some.is c.next.ensures.steps in
    let parts : before.0 ++ entry ∷ c.next.new.self ≡ held.accounts.entries = ap (λ rest. before.0 ++ rest) (sym step) ∙ before.1 in
    let found = holds_within (account_there held) before.0 c.next.new.self held.accounts.entries entry c.iter-player-items.ensures.found parts in (
      before.0 ++ entry ∷ [],
      append_assoc before.0 (entry ∷ []) c.next.new.self ∙ parts,
      subst (IsFirstOwed key_at owed (account_there held) (before.0 ++ entry ∷ [])) (ap (sooner_of key_at c.accounts.first) (sym c.owed.ensures) ∙ sym c.sooner-first.ensures)
          (first_more key_at owed (account_there held) before.0 entry c.accounts.first _ found refl before.2),
    )

pub returns : goal.returns
returns c =
    let held = c.args.self.now in
    let before = c.accounts.invariant in
    let none = rest_all deref_pair c.accounts.player-iterator c.next.new.self c.next.result c.in-None.is c.next.ensures.steps in
    let all : before.0 ≡ held.accounts.entries = sym (append-nil before.0) ∙ ap (λ rest. before.0 ++ rest) (sym none) ∙ before.1 in
    accounts_first held c.args.moment c.accounts.first (subst (λ entries. IsFirstOwed key_at (account_owes c.args.moment) (account_there held) entries c.accounts.first) all before.2)
