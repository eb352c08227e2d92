use Rattle.std.proofs.Common.{◌∙◌, ◌≤◌, ap, refl, arith, subst, sym, vec_capacity}
use Rattle.std.proofs.Math.Path.{fun_ext}
use Rattle.std.specs.BTreeMap.{is_at}
use Rattle.std.proofs.lemmas.Map.Entries.{length-keys_of}
use Rattle.std.specs.Map.{keys_of, lookup}
use Rattle.founding.specs.Drafts.{Names}
use Rattle.founding.specs.DraftMaps.{draft_of, own_in, player_order}
use Rattle.founding.specs.declared.draft.TheConstants.{MOST_OWNED}
use Rattle.founding.proofs.Finding.{named_absent, named_put}
use Rattle.founding.proofs.Keeping.{added-same, player_kept}
use Rattle.founding.proofs.Stepping.{steps-memory}
use Rattle.founding.proofs.draft.Draft.name_player.Goals as goal

pub returns-in_err-reserve-clause-steps : goal.returns-in_err-reserve-clause-steps
returns-in_err-reserve-clause-steps c =
    let old = c.args.self.now in
    let new = record old { account_room = c.reserve.new.self } in
    let may = c.if-not-may_name.ensures.0 refl in
    steps-memory (λ before after. Names before c.args.player after) old new c.from_residual.result c.from_residual.ensures.1 (_, (may, refl)) refl

pub returns-in_err-places-clause-steps : goal.returns-in_err-places-clause-steps
returns-in_err-places-clause-steps c =
    let old = c.args.self.now in
    let new = record old { account_room = c.reserve.new.self } in
    let may = c.if-not-may_name.ensures.0 refl in
    steps-memory (λ before after. Names before c.args.player after) old new c.from_residual-in_err-places.result c.from_residual-in_err-places.ensures.1 (_, (may, refl)) refl

pub returns-in_err-insert-clause-steps : goal.returns-in_err-insert-clause-steps
returns-in_err-insert-clause-steps c =
    let old = c.args.self.now in
    let new = record old { players = c.insert.new.self; account_room = c.reserve.new.self } in
    let may = c.if-not-may_name.ensures.0 refl in
    let same = c.in_err-insert.ensures.err in
    steps-memory (λ before after. Names before c.args.player after) old new c.from_residual-in_err-insert.result c.from_residual-in_err-insert.ensures.1 (_, (may, refl))
    (ap (λ entries. record (draft_of old) { players = keys_of entries; owns = λ player. own_in (lookup (is_at (player_order player)) entries) }) same)

pub returns-clause-steps : goal.returns-clause-steps
returns-clause-steps c =
    let old = c.args.self.now in
    let new = record old { players = c.insert.new.self; account_room = c.reserve.new.self } in
    let may = c.if-not-may_name.ensures.0 refl in
    let players = ap keys_of c.in_ok-insert.ensures.entries ∙ named_put c.args.player c.new.result old.players.entries (named_absent c.args.player old.players.entries may.unnamed) in
    let owns = fun_ext (λ q. added-same own_in old new c.args.player q c.new.result may (c.in_ok-insert.ensures.updates.0 q) c.new.ensures.own) in
    (may, λ i. record (draft_of old) { players = players i; owns = owns i })

pub returns-clause-kept : goal.returns-clause-kept
returns-clause-kept c =
    let old = c.args.self.now in
    let new = record old { players = c.insert.new.self; account_room = c.reserve.new.self } in
    let may = c.if-not-may_name.ensures.0 refl in
    let count = length-keys_of old.players.entries in
    let room = c.in_ok-places.ensures.capacity in
    player_kept old new c.args.player c.new.result c.requires may refl c.in_ok-insert.ensures.entries c.in_ok-insert.ensures.updates.0
    (ap (λ v. v.items) c.new.ensures.planets ∙ c.in_ok-places.ensures.items) c.new.ensures.units (subst (λ v. MOST_OWNED ≤ vec_capacity v) (sym c.new.ensures.planets) room)
    (c.in_ok-reserve.ensures.items ∙ c.requires.no_accounts) (omega (arith, count, c.in_ok-reserve.ensures.ok, c.len.ensures.len)) refl
