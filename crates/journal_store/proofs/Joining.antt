-- Batches that were found, and those behind them.
use Rattle.std.proofs.Common.{◌≡◌, ℕ, ◌+◌, ◌<◌, ◌≤◌, List, [], ◌∷◌, ◌++◌, length, take, drop, refl, sym, ◌∙◌, ap, subst, arith, append_assoc, length-append, length-drop, take-append-drop}
use Rattle.std.proofs.Math.Seq.{take-append-add}
use Rattle.std.proofs.lemmas.List.{drop-append-le, drop-drop, drop-take, drop_at, length-take-le, take-take, take_at}
use Rattle.std.proofs.lemmas.List.Concat.{flat_map-append}
use Rattle.std.proofs.lemmas.List.Elements.{All-append}
use Rattle.journal_store.specs.Batches.{Batches, HoldsFirst, IsBatch, IsShut, entries_of, open_batch, open_batches}
use Rattle.journal_store.specs.Gates.{Rests}
use Rattle.request_text.specs.declared.entry.Entry.{Entry}

-- a rest that isn't empty and is shut begins with a closed gate
gate_of : (text content rest : List ℕ) → content ≡ text ++ rest → 1 ≤ length rest → IsShut rest → Rests text content
gate_of text content [] is some shut = absurd (omega (arith, some))
gate_of text content (gate ∷ rest) is some shut = record { gate = gate; shut = shut; rest = rest; is = is }

pub found-rests : (content : List ℕ) (from : ℕ) (entries : List Entry) (end : ℕ) → Batches content from entries end → end < length content → Rests (take end content) content
found-rests content from entries end batches fit =
    let bytes = open_batches batches.batches in
    let rest_is : drop end content ≡ batches.rest =
    ap (λ (n : ℕ). drop n content) batches.end_is ∙ sym (drop-drop (length bytes) from content) ∙ ap (drop (length bytes)) batches.bytes_are ∙ drop_at bytes batches.rest (length bytes) refl in
    gate_of (take end content) content batches.rest (sym (take-append-drop end content) ∙ ap (λ (l : List ℕ). take end content ++ l) rest_is) (omega (arith, ap length rest_is, length-drop end content, fit)) batches.shut

module _ (seen content : List ℕ) (from end : ℕ) (entries drawn : List Entry) (least : ℕ) (found : Batches seen from entries end) (within : end ≤ length seen) (holds : HoldsFirst (take end seen) drawn least content) where
  ends : length (take end seen) ≡ end
  ends = length-take-le end seen within

  later : from ≤ end
  later = omega (arith, found.end_is)

  begins : take end content ≡ take end seen
  begins = ap (λ (n : ℕ). take n content) (sym ends) ∙ holds.begins

  long : end < length content
  long = omega (arith, holds.fit, holds.batches.end_is, ends)

  begins_from : take (length (take from seen)) content ≡ take from seen
  begins_from =
      ap (λ (n : ℕ). take n content) (length-take-le from seen (omega (arith, later, within)))
      ∙ sym (take-take from end content later)
      ∙ ap (take from) begins
      ∙ take-take from end seen later

  -- the bytes of both
  bytes-join : drop from content ≡ open_batches (found.batches ++ holds.batches.batches) ++ holds.batches.rest
  bytes-join =
      let first = open_batches found.batches in
      let second = open_batches holds.batches.batches in
      let front_is : drop from (take end content) ≡ first =
      ap (drop from) begins
      ∙ ap (λ (n : ℕ). drop from (take n seen)) found.end_is
      ∙ drop-take from (length first) seen
      ∙ ap (take (length first)) found.bytes_are
      ∙ take_at first found.rest (length first) refl in
      let back_is : drop end content ≡ second ++ holds.batches.rest = ap (λ (n : ℕ). drop n content) (sym ends) ∙ holds.batches.bytes_are in
      ap (drop from) (sym (take-append-drop end content))
      ∙ drop-append-le from (take end content) (drop end content) (omega (arith, length-take-le end content (omega (arith, long)), later))
      ∙ ap (λ (l : List ℕ). l ++ drop end content) front_is
      ∙ ap (λ (l : List ℕ). first ++ l) back_is
      ∙ sym (append_assoc first second holds.batches.rest)
      ∙ ap (λ (l : List ℕ). l ++ holds.batches.rest) (sym (flat_map-append open_batch found.batches holds.batches.batches))

  -- and their entries
  entries-join : take (length entries + holds.count) (entries ++ drawn) ≡ entries_of (found.batches ++ holds.batches.batches)
  entries-join =
      take-append-add entries drawn holds.count
      ∙ ap (λ (l : List Entry). l ++ take holds.count drawn) found.entries_are
      ∙ ap (λ (l : List Entry). entries_of found.batches ++ l) holds.batches.entries_are
      ∙ sym (flat_map-append (λ (l : List Entry). l) found.batches holds.batches.batches)

  pub holds-joined : HoldsFirst (take from seen) (entries ++ drawn) (length entries + least) content
  holds-joined =
      let front : length (take from seen) ≡ from = length-take-le from seen (omega (arith, later, within)) in
      record {
        begins = begins_from;
        count = length entries + holds.count;
        no_less = omega (arith, holds.no_less);
        no_more = omega (arith, holds.no_more, length-append entries drawn);
        end = holds.end;
        batches = subst (λ (n : ℕ). Batches content n (take (length entries + holds.count) (entries ++ drawn)) holds.end) (sym front) (record {
          batches = found.batches ++ holds.batches.batches;
          each = All-append IsBatch found.batches holds.batches.batches found.each holds.batches.each;
          entries_are = entries-join;
          rest = holds.batches.rest;
          bytes_are = bytes-join;
          shut = holds.batches.shut;
          end_is = omega (arith, holds.batches.end_is, ends, found.end_is, ap length (flat_map-append open_batch found.batches holds.batches.batches), length-append (open_batches found.batches) (open_batches holds.batches.batches));
        });
        fit = holds.fit;
      }
