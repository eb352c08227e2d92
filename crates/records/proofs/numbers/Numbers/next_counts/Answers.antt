use Rattle.std.proofs.Common.{◌≡◌, ℕ, ◌+◌, ◌<◌, List, [], ◌∷◌, ◌++◌, length, take, drop, get_or, sym, ◌∙◌, ap, arith, append_assoc}
use Rattle.std.proofs.lemmas.List.{take_more, take_more_set, drop_more, length-set}
use Rattle.std.specs.List.{flat_map}
use Rattle.records.specs.Entries.{u32}
use Rattle.records.proofs.numbers.Numbers.next_counts.Goals as goal

pub counts-preserved : goal.counts-preserved
counts-preserved c = λ counts more fits is.
    let i = c.counts.count-index in
    let into = c.counts.into in
    let here : i < length into = omega arith in
    let size : length counts ≡ length into = fits.size ∙ length-set into i c.next_u32.result in
    let in_counts : i < length counts = omega arith in
    let so_far = c.counts.invariant counts more (record { size = size; each = λ k h. fits.each k (omega (arith, length-set into i c.next_u32.result)) }) is in
    let rest = flat_map u32 (drop (i + 1) counts) in
    let left = so_far.1 ∙ ap (λ (l : List ℕ). flat_map u32 l ++ more) (drop_more counts i 0 in_counts) ∙ append_assoc (u32 (get_or counts i 0)) rest more in
    let next = c.next_u32.ensures (get_or counts i 0) (rest ++ more) (fits.each i (omega (arith, length-set into i c.next_u32.result))) left in
    (take_more_set into i c.next_u32.result here ∙ ap (λ (l : List ℕ). l ++ c.next_u32.result ∷ []) so_far.0 ∙ ap (λ n. take i counts ++ n ∷ []) next.0 ∙ sym (take_more counts i 0 in_counts), next.1)
