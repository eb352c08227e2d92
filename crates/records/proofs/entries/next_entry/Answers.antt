use Rattle.std.proofs.Common.{[], ◌++◌, ◌∙◌, replicate}
use Rattle.records.specs.Columns.{order_of, load_of}
use Rattle.records.specs.Entries.{head_of, order_bytes, load_bytes}
use Rattle.records.proofs.Fitting.{head_fits, order_fits, load_fits}
use Rattle.records.proofs.Pieces.{entry_parts}
use Rattle.records.proofs.entries.next_entry.Goals as goal

pub returns : goal.returns
returns c = λ entry range is.
    let tail = replicate 124 0 ++ [] in
    let after_order = load_bytes (load_of entry.req) ++ tail in
    let after_head = order_bytes (order_of entry.req) ++ after_order in
    let head = c.next_head-head.ensures (head_of entry) after_head (head_fits entry range) (is ∙ entry_parts entry) in
    let order = c.next_order-order.ensures (order_of entry.req) after_order (order_fits entry.req) head.1 in
    let load = c.next_load-load.ensures (load_of entry.req) tail (load_fits entry.req) order.1 in
    c.entry_of.ensures entry head.0 order.0 load.0
