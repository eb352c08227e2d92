use Rattle.std.proofs.Common.{Bool, ap, ◌∙◌, sym}
use Rattle.recovery.specs.Reopening.{side}
use Rattle.recovery.proofs.Openings.{opens-on}
use Rattle.recovery.proofs.reopening.reopen.Goals as goal

pub returns-then-choice-clause-opens : goal.returns-then-choice-clause-opens
returns-then-choice-clause-opens g c told =
    let story = g.D.Disk.story in
    let left = story.seen c.args.left.now in
    let right = story.seen c.args.right.now in
    let on_left = c.in_ok-on_left.ensures.shows told in (
      on_left.0,
      λ told_right.
          let opens = c.open_area.ensures.opens told_right in
          let on_right = c.in_ok-on_right.ensures.shows opens.0 in
          let looks = c.in_ok-on_right.ensures.looks opens.0 in (
            on_right.0,
            opens-on left right (story.seen c.read_head-2.new.disk) c.in-Some.choice c.open_area.result (c.in-Some.ensures left right on_left.1 on_right.1)
                (looks.1.seen ∙ ap (λ (b : Bool). side b left right) (sym c.if-choice.true))
                opens.1,
          ),
    )

pub returns-else-choice-clause-opens : goal.returns-else-choice-clause-opens
returns-else-choice-clause-opens g c told =
    let story = g.D.Disk.story in
    let left = story.seen c.args.left.now in
    let right = story.seen c.args.right.now in
    let opens = c.open_area-else-choice.ensures.opens told in
    let on_left = c.in_ok-on_left.ensures.shows opens.0 in
    let looks = c.in_ok-on_left.ensures.looks opens.0 in (
      on_left.0,
      λ told_right.
          let on_right = c.in_ok-on_right.ensures.shows told_right in (
            on_right.0,
            opens-on left right (story.seen c.read_head.new.disk) c.in-Some.choice c.open_area-else-choice.result (c.in-Some.ensures left right on_left.1 on_right.1)
                (looks.1.seen ∙ ap (λ (b : Bool). side b left right) (sym c.if-choice.false))
                opens.1,
          ),
    )
