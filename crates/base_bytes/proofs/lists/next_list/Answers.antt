use Rattle.std.proofs.Common.{◌+◌, ◌<◌, ◌++◌, length, drop, get_or, arith, rules}
use Rattle.std.specs.List.{flat_map}
use Rattle.base_bytes.proofs.Listing.{alike-more, holds-of, next-first, not-none, some-element}
use Rattle.base_bytes.proofs.lists.next_list.Goals as goal

pub returns-in_default-clause-list : goal.returns-in_default-clause-list
returns-in_default-clause-list g c = λ items more size fits is.
    let spells = g.T.Listed.bytes in
    let i = c.items.counter in
    let so_far = c.items.invariant.list items more size fits is in
    let below : i < length items = omega (arith, size) in
    let d = some-element items i below in
    let after = flat_map spells (drop (i + 1) items) ++ more in
    let next = c.in_ok-next.ensures (get_or items i d) after (fits i d below) (next-first spells items i d _ more below so_far.1) in
    absurd (not-none _ (g.T.Listed.Alike (get_or items i d)) c.in_default.is next.0)

pub items-preserved : goal.items-preserved
items-preserved g c =
    let spells = g.T.Listed.bytes in
    let i = c.items.counter in
    let item = c.in-Some.item in
    record {
      list = λ items more size fits is.
          let so_far = c.items.invariant.list items more size fits is in
          let below : i < length items = omega (arith, size) in
          let after = flat_map spells (drop (i + 1) items) ++ more in
          let next = c.in_ok-next.ensures (get_or items i item) after (fits i item below) (next-first spells items i item _ more below so_far.1) in
          let alike = holds-of _ item (g.T.Listed.Alike (get_or items i item)) c.in-Some.is next.0 in
          (alike-more g.T.Listed.Alike items c.items.list.items _ i item item below so_far.0 alike c.in_ok-push.ensures.items, next.1);
      size = search rules;
    }
