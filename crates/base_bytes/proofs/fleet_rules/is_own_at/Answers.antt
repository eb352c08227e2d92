use Rattle.std.proofs.Common.{◌≡◌, ◌∙◌, subst, sym}
use Rattle.base_bytes.specs.Told.{IsOwnAt}
use Rattle.base_bytes.proofs.Owned.{player-one, player-same}
use Rattle.base_bytes.proofs.fleet_rules.is_own_at.Goals as goal

pub returns-in-Some : goal.returns-in-Some
returns-in-Some c =
    let owner = c.in-Some.owner in
    let player = c.args.player in (
      (λ same. subst (λ p. IsOwnAt c.args.planets.now p c.args.at) (player-one owner player (sym c.eq.ensures ∙ same)) c.in-Some.ensures.own),
      (λ own. let one : owner ≡ player = cc (c.in-Some.ensures.owner player c.requires own) in c.eq.ensures ∙ player-same owner player one),
    )

pub returns-in-None : goal.returns-in-None
returns-in-None c = (λ not_true. absurd cc, λ own. absurd (cc (c.in-None.ensures.owner c.args.player c.requires own)))
