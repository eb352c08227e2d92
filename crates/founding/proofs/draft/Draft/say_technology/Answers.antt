use Rattle.std.proofs.Common.{ap, refl, ◌∙◌}
use Rattle.std.proofs.Math.Path.{fun_ext}
use Rattle.base_bytes.proofs.Owned.{player-one}
use Rattle.base_ids.specs.Cells.{same_player}
use Rattle.base_ids.specs.declared.player.Player.{Player}
use Rattle.std.specs.BTreeMap.{get}
use Rattle.founding.specs.DraftMaps.{draft_of, own_in, player_order}
use Rattle.founding.specs.Drafts.{learned_to}
use Rattle.founding.proofs.Judging.{named_has, named_listed}
use Rattle.founding.proofs.Keeping.{both-chosen, owns-altered, players-altered, taught_kept}
use Rattle.founding.proofs.draft.Draft.say_technology.Goals as goal

pub teach-requires : goal.teach-requires
teach-requires c = named_listed c.args.self.now c.args.new.player c.requires (c.if-not-may_teach.ensures.0 refl).named

pub returns-clause-steps : goal.returns-clause-steps
returns-clause-steps c =
    let old = c.args.self.now in
    let player = c.args.new.player in
    let may = c.if-not-may_teach.ensures.0 refl in
    let has = named_has old player may.named in
    let players = players-altered player _ _ _ old.players c.teach.new.players has c.teach.ensures in
    let own = λ (p : Player). own_in (get player_order old.players p) in
    let owns =
    fun_ext (λ q.
    owns-altered player _ _ _ old.players c.teach.new.players has c.teach.ensures q
    ∙ both-chosen (same_player player q) (learned_to c.args.new (own player)) (learned_to c.args.new (own q)) (own q) (own q) (λ same. ap (λ (p : Player). learned_to c.args.new (own p)) (player-one player q same)) refl) in
    (may, λ i. record (draft_of old) { players = players i; owns = owns i })

pub returns-clause-kept : goal.returns-clause-kept
returns-clause-kept c =
    let old = c.args.self.now in
    let new = record old { players = c.teach.new.players } in
    let may = c.if-not-may_teach.ensures.0 refl in
    taught_kept old new c.args.new.player _ c.requires (named_has old c.args.new.player may.named) c.teach.ensures refl refl refl
