-- A cell that is named is untouched, so what it stood for it still stands for. And numbers rise.
use Rattle.std.proofs.Common.{◌≡◌, ℕ, zero, suc, ◌+◌, ◌<◌, Bool, true, false, List, [], ◌∷◌, ◌++◌, length, refl, sym, subst, arith, append_assoc}
use Rattle.std.specs.Prelude.{Contains}
use Rattle.std.proofs.lemmas.List.{append-nil}
use Rattle.base_ids.specs.declared.cell_id.CellId.{CellId}
use Rattle.request_text.specs.declared.entry.Entry.{Entry}
use Rattle.tick_model.specs.History.{IsLegalFrom}
use Rattle.fronts.specs.declared.claim.Claim.{Claim}
use Rattle.fronts.specs.declared.claim.Claim.TheVariants.{Cell}
use Rattle.fronts.specs.declared.view.Sent.{Sent}
use Rattle.fronts.specs.Start.{Start}
use Rattle.fronts.specs.History.{entries_of}
use Rattle.fronts.specs.Claims.{Follows, IsQuiet}
use Rattle.fronts.proofs.Following.{entries_more}

module _ (start : Start) (id : CellId) (cs : List Claim) (named : Contains cs (Cell id)) (Stands : List Entry → Type 0)
    (untouched : (before : List Entry) (entry : Entry) → start.touches before entry id ≡ false → Stands before → Stands (before ++ entry ∷ [])) where
  not_touched : (b : Bool) → (b ≡ true → ⊥) → b ≡ false
  not_touched true never = absurd (never refl)
  not_touched false never = refl

  stands_later : (xs later : List Sent) → IsQuiet start cs xs later → Stands (entries_of xs) → Stands (entries_of (xs ++ later))
  stands_later xs [] q h = subst (λ (l : List Sent). Stands (entries_of l)) (sym (append-nil xs)) h
  stands_later xs (s ∷ later) q h =
      let one : Stands (entries_of xs ++ s.entry ∷ []) = untouched (entries_of xs) s.entry (not_touched (start.touches (entries_of xs) s.entry id) (q.0 (Cell id) named)) h in
      let more : Stands (entries_of (xs ++ s ∷ [])) = subst Stands (sym (entries_more xs s)) one in
      subst (λ (l : List Sent). Stands (entries_of l)) (append_assoc xs (s ∷ []) later) (stands_later (xs ++ s ∷ []) later q.1 more)

  pub stands_until_touched : (xs ys : List Sent) → Follows start cs xs ys → Stands (entries_of xs) → Stands (entries_of ys)
  stands_until_touched xs ys f h = subst (λ (l : List Sent). Stands (entries_of l)) f.begins (stands_later xs f.later f.quiet h)

-- the entries of a legal history have numbers above the last one before it, one more from each to the next
pub numbers_from : (number moment : ℕ) (es : List Entry) → IsLegalFrom number moment es → (k : ℕ) (d : Entry) → k < length es → (Rattle.std.specs.Prelude.slice_index_or es k d).number ≡ number + k + 1
numbers_from number moment [] legal k d less = absurd (omega arith)
numbers_from number moment (e ∷ es) legal zero d less = let next = legal.0.next in omega arith
numbers_from number moment (e ∷ es) legal (suc k) d less =
    let next = legal.0.next in
    let rest = numbers_from e.number e.moment es legal.1 k d (omega arith) in
    omega arith
