-- What holds of the changes of a disk in memory. The disk's own laws rest on it.
use Rattle.std.specs.Prelude.{◌≡◌, ℕ, ◌+◌, ◌-◌, ◌<◌, ◌≤◌, min, List, [], ◌∷◌, ◌++◌, length, take, drop, replicate, refl}
use Rattle.std.proofs.Common.{inl, inr, arith, get_or, length-append, ◌∙◌, ap}
use Rattle.std.proofs.lemmas.List.{length-take, length-drop, length-replicate, get_or_append_left, get_or-take, get_or-append_right, get_or-drop}
use Rattle.disk_port.specs.Contents.{written, Torn, Shortened}
use Rattle.disk_port.specs.History.{read_of, kept_of, marked_of, IsLeft, WasLeft}
use Rattle.disk_port.specs.declared.change.Change.{Change}
use Rattle.disk_port.specs.declared.change.Change.TheVariants.{Wrote, WroteNothing, Cut, CutNothing, Synced}

-- a crash may leave nothing of a write
pub torn_not : (at n : ℕ) (c : List ℕ) → Torn at n c c
torn_not at n c = record { no_shorter = omega arith; no_longer = omega arith; below = λ i l b. refl; above = λ i l a. refl }

length-written : (old : List ℕ) (at : ℕ) (bytes : List ℕ) → length (written old at bytes) ≡ min at (length old) + length bytes + (length old - (at + length bytes))
length-written old at bytes = omega (arith, length-append (take at old ++ bytes) (drop (at + length bytes) old), length-append (take at old) bytes, length-take at old, length-drop (at + length bytes) old)

-- or all of it
pub torn_whole : (at n : ℕ) (old bytes : List ℕ) → length bytes ≤ n → Torn at n old (written old at bytes)
torn_whole at n old bytes fits = record {
  no_shorter = omega (arith, length-written old at bytes);
  no_longer = omega (arith, length-written old at bytes);
  below = λ i l b.
      let front : i < length (take at old) = omega (arith, length-take at old) in
      get_or_append_left (take at old ++ bytes) (drop (at + length bytes) old) 0 i (omega (arith, length-append (take at old) bytes))
      ∙ get_or_append_left (take at old) bytes 0 i front ∙ get_or-take at old i 0 b;
  above = λ i l a.
      let end = at + length bytes in
      let front : length (take at old ++ bytes) ≡ end = omega (arith, length-append (take at old) bytes, length-take at old) in
      let there : end + (i - end) ≡ i = omega arith in
      get_or-append_right (take at old ++ bytes) (drop end old) end i 0 front (omega arith) ∙ get_or-drop end old (i - end) 0 ∙ ap (λ k. get_or old k 0) there;
}

-- a crash may leave nothing of a cut
pub shortened_not : (len : ℕ) (c : List ℕ) → Shortened len c c
shortened_not len c = record { no_shorter = omega arith; no_longer = omega arith; below = λ i l b. refl }

-- or all of it
pub shortened_whole : (len : ℕ) (old : List ℕ) → Shortened len old (take len old)
shortened_whole len old = record { no_shorter = omega (arith, length-take len old); no_longer = omega (arith, length-take len old); below = λ i l b. get_or-take len old i 0 b }

-- what a read gives may be left
pub read_is_left : (first : List ℕ) (changes : List Change) → IsLeft first changes (read_of first changes)
read_is_left first [] = refl
read_is_left first (Wrote at bytes ∷ older) = (read_of first older, read_is_left first older, torn_whole at (length bytes.items) (read_of first older) bytes.items (omega arith))
read_is_left first (WroteNothing at count ∷ older) = (read_of first older, read_is_left first older, torn_not at count (read_of first older))
read_is_left first (Cut len ∷ older) = (read_of first older, read_is_left first older, shortened_whole len (read_of first older))
read_is_left first (CutNothing len ∷ older) = (read_of first older, read_is_left first older, shortened_not len (read_of first older))
read_is_left first (Synced ∷ older) = refl

-- and so may what stood at the last sync
pub kept_is_left : (first : List ℕ) (changes : List Change) → IsLeft first changes (kept_of first changes)
kept_is_left first [] = refl
kept_is_left first (Wrote at bytes ∷ older) = (kept_of first older, kept_is_left first older, torn_not at (length bytes.items) (kept_of first older))
kept_is_left first (WroteNothing at count ∷ older) = (kept_of first older, kept_is_left first older, torn_not at count (kept_of first older))
kept_is_left first (Cut len ∷ older) = (kept_of first older, kept_is_left first older, shortened_not len (kept_of first older))
kept_is_left first (CutNothing len ∷ older) = (kept_of first older, kept_is_left first older, shortened_not len (kept_of first older))
kept_is_left first (Synced ∷ older) = refl

-- and so may what a read gives with each byte set that was written since the last sync
pub marked_is_left : (byte : ℕ) (first : List ℕ) (changes : List Change) → IsLeft first changes (marked_of byte first changes)
marked_is_left byte first [] = refl
marked_is_left byte first (Wrote at bytes ∷ older) =
    (marked_of byte first older, marked_is_left byte first older, torn_whole at (length bytes.items) (marked_of byte first older) (replicate (length bytes.items) byte) (omega (arith, length-replicate (length bytes.items) byte)))
marked_is_left byte first (WroteNothing at count ∷ older) =
    let room = min count (length (marked_of byte first older) - at) in
    (marked_of byte first older, marked_is_left byte first older, torn_whole at count (marked_of byte first older) (replicate room byte) (omega (arith, length-replicate room byte)))
marked_is_left byte first (Cut len ∷ older) = (marked_of byte first older, marked_is_left byte first older, shortened_whole len (marked_of byte first older))
marked_is_left byte first (CutNothing len ∷ older) = (marked_of byte first older, marked_is_left byte first older, shortened_not len (marked_of byte first older))
marked_is_left byte first (Synced ∷ older) = refl

-- a crash now is one since any earlier moment
pub left_was_left : (first : List ℕ) (changes : List Change) (t : ℕ) (c : List ℕ) → IsLeft first changes c → WasLeft first changes t c
left_was_left first [] t c left = left
left_was_left first (change ∷ older) t c left = inl left

-- and since now there is no other
pub was_left_now : (first : List ℕ) (changes : List Change) (t : ℕ) (c : List ℕ) → length changes ≤ t → WasLeft first changes t c → IsLeft first changes c
was_left_now first [] t c le left = left
was_left_now first (change ∷ older) t c le (inl left) = left
was_left_now first (change ∷ older) t c le (inr earlier) = absurd (omega (arith, earlier.0))
