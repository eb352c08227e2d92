use Rattle.std.proofs.Common.{◌≡◌, ◌+◌, ◌<◌, ◌++◌, length, drop, get_or, arith, rules, sym, ◌∙◌}
use Rattle.std.specs.List.{flat_map}
use Rattle.base_bytes.proofs.Listing.{next-first, read-more, some-element}
use Rattle.base_bytes.proofs.queues.next_queue.Goals as goal

pub returns-in_default-clause-items : goal.returns-in_default-clause-items
returns-in_default-clause-items g c = λ items more few fits is.
    let spells = g.T.Spelled.bytes in
    let i = c.items.counter in
    let count = c.next_u8-count.ensures (length items) (flat_map spells items ++ more) is in
    let so_far = c.items.invariant.items items more (sym count.0) fits count.1 in
    let below : i < length items = omega (arith, count.0) in
    let d = some-element items i below in
    let after = flat_map spells (drop (i + 1) items) ++ more in
    let next = c.next.ensures (get_or items i d) after (fits i d below) (next-first spells items i d _ more below so_far.1) in
    absurd (cc next.0)

pub items-preserved : goal.items-preserved
items-preserved g c =
    let spells = g.T.Spelled.bytes in
    let i = c.items.counter in
    let item = c.in-Some.item in
    record {
      items = λ items more size fits is.
          let so_far = c.items.invariant.items items more size fits is in
          let below : i < length items = omega (arith, size) in
          let after = flat_map spells (drop (i + 1) items) ++ more in
          let next = c.next.ensures (get_or items i item) after (fits i item below) (next-first spells items i item _ more below so_far.1) in
          let same : item ≡ get_or items i item = cc next.0 in
          (c.in_ok-push.ensures.items ∙ read-more items c.items.queue.items i item item below so_far.0 same, next.1);
      size = search rules;
    }
