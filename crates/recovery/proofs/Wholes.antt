-- An area that was laid, read again.
use Rattle.std.proofs.Common.{◌≡◌, ℕ, zero, suc, ◌+◌, ◌-◌, ◌*◌, ◌<◌, ◌^◌, List, [], ◌∷◌, ◌++◌, length, take, drop, get_or, refl, ap, ◌∙◌, sym, subst, arith, length-append, append-nil, w32, w64}
use Rattle.std.proofs.lemmas.List.{drop_at, get_or-append_right, get_or-drop, take_at}
use Rattle.std.proofs.lemmas.Bool.{true≢false}
use Rattle.std.proofs.lemmas.Nat.{from_be_bytes-to_be_bytes_8}
use Rattle.std.specs.Int.{from_be_bytes, to_be_bytes}
use Rattle.records.specs.Entries.{u64}
use Rattle.base_bytes.specs.Rules.{IsBase}
use Rattle.base_bytes.specs.Spelling.{base_spelling}
use Rattle.base_bytes.specs.declared.base.Base.{Base}
use Rattle.recovery.specs.Areas.{IsArea, IsHeadOf, IsOpen, behind_gate, digest_of, head_bytes, sized_bytes}
use Rattle.recovery.specs.Laws.{AreasReopen, IsWhole}
use Rattle.recovery.specs.Reopening.{HoldsBase, IsFoundIn, base_there, computed_digest, first_batch, generation_of, kept_digest, size_of}
use Rattle.recovery.specs.declared.head.Head.{Head}
use Rattle.recovery.specs.declared.outcome.Found.{Found}
use Rattle.sha2.specs.Sha256.{digest_bytes, final_hash, initial_hash_256, sha256}

length-digest_bytes : (hash : List ℕ) (n : ℕ) → length (digest_bytes hash n) ≡ 4 * n
unfolding digest_bytes
length-digest_bytes hash zero = refl
length-digest_bytes hash (suc n) =
    let before = length-digest_bytes hash n in
    let both = length-append (digest_bytes hash n) (to_be_bytes w32 (get_or hash n 0)) in
    let last : length (to_be_bytes w32 (get_or hash n 0)) ≡ 4 = refl in
    omega (arith, before, both, last)

length-sha256 : (message : List ℕ) → length (sha256 message) ≡ 32
unfolding sha256
length-sha256 message = length-digest_bytes (final_hash initial_hash_256 message) 8

-- what stands behind the sizes
abbrev ending : List ℕ → List ℕ → List ℕ
ending digest base = (digest ++ []) ++ (base ++ ((0 ∷ []) ++ []))

-- An area's pieces.
module _ (generation : ℕ) (base : List ℕ) (head : Head) (is : IsHeadOf generation base head) where
  abbrev whole : List ℕ
  whole = 1 ∷ behind_gate head base

  long-digest : length head.digest ≡ 32
  unfolding digest_of
  long-digest = ap length is.digest_is ∙ length-sha256 (sized_bytes generation (length base) ++ base)

  sizes-then : drop 25 whole ≡ ending head.digest base
  unfolding head_bytes u64
  sizes-then = refl

  ending-is : ending head.digest base ≡ head.digest ++ (base ++ (0 ∷ []))
  ending-is = ap (λ (l : List ℕ). l ++ (base ++ (0 ∷ []))) (append-nil head.digest)

  base-then : drop 57 whole ≡ base ++ (0 ∷ [])
  unfolding head_bytes u64
  base-then = ap (λ (l : List ℕ). drop 32 l) ending-is ∙ drop_at head.digest (base ++ (0 ∷ [])) 32 long-digest

  long-whole : length whole ≡ 58 + length base
  unfolding head_bytes u64
  long-whole =
      let all = length-append (head.digest ++ []) (base ++ (0 ∷ [])) in
      let digest : length (head.digest ++ []) ≡ 32 = ap length (append-nil head.digest) ∙ long-digest in
      let rest = length-append base (0 ∷ []) in
      omega (arith, all, digest, rest)

  pub opens : IsOpen whole
  unfolding head_bytes
  opens = record { long = omega (arith, long-whole); marked = (refl, refl) }

  pub generation-read : generation < 2 ^ 64 → generation_of whole ≡ generation
  unfolding generation_of head_bytes u64
  generation-read fits = ap (λ (n : ℕ). from_be_bytes w64 (to_be_bytes w64 n)) is.generation_is ∙ from_be_bytes-to_be_bytes_8 generation fits

  pub size-read : length base < 2 ^ 64 → size_of whole ≡ length base
  unfolding size_of head_bytes u64
  size-read fits = ap (λ (n : ℕ). from_be_bytes w64 (to_be_bytes w64 n)) is.size_is ∙ from_be_bytes-to_be_bytes_8 (length base) fits

  base-read : length base < 2 ^ 64 → base_there whole ≡ base
  unfolding base_there
  base-read fits = (λ i. take (size-read fits i) (base-then i)) ∙ take_at base (0 ∷ []) (length base) refl

  digest-read : kept_digest whole ≡ head.digest
  unfolding kept_digest head_bytes u64
  digest-read = ap (λ (l : List ℕ). take 32 l) ending-is ∙ take_at head.digest (base ++ (0 ∷ [])) 32 long-digest

  sizes-read : take 24 (drop 1 whole) ≡ sized_bytes generation (length base)
  unfolding head_bytes u64
  sizes-read = λ i. sized_bytes (is.generation_is i) (is.size_is i)

  pub agree : length base < 2 ^ 64 → computed_digest whole ≡ kept_digest whole
  unfolding computed_digest digest_of
  agree fits = (λ i. sha256 (sizes-read i ++ base-read fits i)) ∙ sym is.digest_is ∙ sym digest-read

  pub end-is : length base < 2 ^ 64 → first_batch whole ≡ 57 + length base
  unfolding first_batch
  end-is fits = ap (λ (n : ℕ). 57 + n) (size-read fits)

  pub last-closed : get_or whole (57 + length base) 0 ≡ 0
  last-closed =
      sym (get_or-drop 57 whole (length base) 0) ∙ ap (λ (l : List ℕ). get_or l (length base) 0) base-then
      ∙ get_or-append_right base (0 ∷ []) (length base) (length base) 0 refl (omega arith)
      ∙ ap (λ (k : ℕ). get_or (0 ∷ []) k 0) (let none : length base - length base ≡ 0 = omega arith in none)

-- and so what is found of it
area-opens : (generation : ℕ) (base : Base) (content : List ℕ) → IsArea generation (base_spelling base) content → IsOpen content
area-opens generation base content area = subst IsOpen (sym area.is) (opens generation (base_spelling base) area.head area.is_head)

whole-found : (generation : ℕ) (base : Base) (head : Head) (found : Found) → IsHeadOf generation (base_spelling base) head → generation < 2 ^ 64 → IsBase base → base.seed < 2 ^ 64 → length (base_spelling base) < 2 ^ 64
    → IsWhole generation base found → IsFoundIn (1 ∷ behind_gate head (base_spelling base)) found
whole-found generation base head found is fits rules seed size whole =
    let bytes = base_spelling base in
    let end = end-is generation bytes head is size in
    let long = long-whole generation bytes head is in
    record {
      generation_is = whole.generation_is ∙ sym (generation-read generation bytes head is fits);
      agrees = agree generation bytes head is size;
      holds = subst (λ (b : Base). HoldsBase (1 ∷ behind_gate head bytes) b) (sym whole.base_is) (record { whole = omega (arith, end, long); spelt = record { rules = rules; seed = seed; is = base-read generation bytes head is size } });
      end_is = whole.end_is ∙ sym end;
      no_batch = λ batch. let zero : get_or (1 ∷ behind_gate head bytes) (first_batch (1 ∷ behind_gate head bytes)) 0 ≡ 0 = ap (λ (n : ℕ). get_or (1 ∷ behind_gate head bytes) n 0) end ∙ last-closed generation bytes head is in absurd (omega (arith, zero, batch));
      short_is = (λ short. absurd (true≢false (sym short ∙ whole.short_is)), λ past. absurd (omega (arith, past, end, long)));
    }

pub areas-reopen : AreasReopen
areas-reopen generation base content fits rules seed size area =
    (area-opens generation base content area, λ found whole. subst (λ (c : List ℕ). IsFoundIn c found) (sym area.is) (whole-found generation base area.head found area.is_head fits rules seed size whole))
