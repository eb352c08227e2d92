use Rattle.std.proofs.Common.{ℕ, List, ◌-◌, drop, length, min, take, ap, ◌∙◌, sym}
use Rattle.recovery.proofs.Bases.{base-read}
use Rattle.recovery.proofs.reading.read_base.Goals as goal

pub returns-clause-bytes : goal.returns-clause-bytes
returns-clause-bytes g c told =
    let story = g.D.Disk.story in
    let bytes = c.in_ok-count.ensures.bytes told in
    let count = c.in_ok-count.ensures.count told in
    let long = c.in_ok-length.ensures.length bytes.0 in
    let rests = c.len.ensures.images bytes.0 in
    let size = c.args.size in
    let length_is = long.1 ∙ ap (λ (l : List ℕ). length l) (sym rests.1.seen) in (
      long.0,
      base-read (story.seen c.len.new.self) c.read_at.new.into c.deref_mut.result.now c.in_ok-bytes.bytes.items c.truncate.new.self.items size c.in_ok-count.count c.in_ok-bytes.bytes.len count.1 bytes.1 c.deref_mut.ensures.len
          (c.in_ok-bytes.ensures.len ∙ c.min-room.ensures ∙ ap (λ (n : ℕ). min size n) (c.saturating_sub.ensures ∙ ap (λ (n : ℕ). n - 57) length_is))
          c.truncate.ensures.items
          ∙ ap (λ (l : List ℕ). take size (drop 57 l)) rests.1.seen,
    )
