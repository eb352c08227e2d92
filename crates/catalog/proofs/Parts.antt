-- The parts of a text of ships, one kind more at a time.
use Rattle.std.proofs.Common.{◌≡◌, ℕ, zero, suc, ◌+◌, ◌<◌, ◌≢◌, ne_eqb, Bool, true, false, List, [], ◌∷◌, ◌++◌, length, get_or, take, refl, ap, ◌∙◌, sym, arith, eqb, cond, append_assoc, add-one}
use Rattle.std.specs.List.{join_with_byte}
use Rattle.catalog.specs.Texts.{ship_part, ship_parts}
use Rattle.catalog.specs.declared.kind.Kind.{Kind}

-- there is no part yet
abbrev pub no_parts : List (List ℕ) → Bool
no_parts [] = true
no_parts (part ∷ parts) = false

-- one part more
pub join-more : (c : ℕ) (parts : List (List ℕ)) (part : List ℕ) → join_with_byte c (parts ++ part ∷ []) ≡ join_with_byte c parts ++ cond (no_parts parts) part (c ∷ part)
join-more c [] part = refl
join-more c (first ∷ []) part = refl
join-more c (first ∷ next ∷ parts) part =
    ap (λ rest. first ++ (c ∷ rest)) (join-more c (next ∷ parts) part) ∙ sym (append_assoc first (c ∷ join_with_byte c (next ∷ parts)) (c ∷ part))

pub some_parts : (parts : List (List ℕ)) (part : List ℕ) → no_parts (parts ++ part ∷ []) ≡ false
some_parts [] part = refl
some_parts (first ∷ parts) part = refl

-- a kind that is not there adds no part
pub parts-absent : (kinds : List Kind) (counts : List ℕ) (i : ℕ) → i < length kinds → i < length counts → get_or counts i 0 ≡ 0 → ship_parts (take (i + 1) kinds) (take (i + 1) counts) ≡ ship_parts (take i kinds) (take i counts)
parts-absent kinds counts i within there none = rw (add-one) (absent kinds counts i within there none)
  where
    absent : (kinds : List Kind) (counts : List ℕ) (i : ℕ) → i < length kinds → i < length counts → get_or counts i 0 ≡ 0 → ship_parts (take (suc i) kinds) (take (suc i) counts) ≡ ship_parts (take i kinds) (take i counts)
    absent (kind ∷ kinds) (count ∷ counts) zero within there none = rw none refl
    absent (kind ∷ kinds) (count ∷ counts) (suc i) within there none =
        ap (λ rest. cond (eqb count 0) rest (ship_part kind count ∷ rest)) (absent kinds counts i (omega arith) (omega arith) none)
    absent [] counts i within there none = absurd (omega arith)
    absent (kind ∷ kinds) [] i within there none = absurd (omega arith)

-- a kind that is there adds its part
pub parts-present : (kinds : List Kind) (counts : List ℕ) (i : ℕ) (d : Kind) → i < length kinds → i < length counts → get_or counts i 0 ≢ 0 → ship_parts (take (i + 1) kinds) (take (i + 1) counts) ≡ ship_parts (take i kinds) (take i counts) ++ ship_part (get_or kinds i d) (get_or counts i 0) ∷ []
parts-present kinds counts i d within there some = rw (add-one) (present kinds counts i within there some)
  where
    present : (kinds : List Kind) (counts : List ℕ) (i : ℕ) → i < length kinds → i < length counts → get_or counts i 0 ≢ 0 → ship_parts (take (suc i) kinds) (take (suc i) counts) ≡ ship_parts (take i kinds) (take i counts) ++ ship_part (get_or kinds i d) (get_or counts i 0) ∷ []
    present (first ∷ kinds) (count ∷ counts) zero within there some = rw (ne_eqb count 0 some) refl
    present (first ∷ kinds) (count ∷ counts) (suc i) within there some =
        elim (eqb count 0) as (λ b. cond b (ship_parts (take (suc i) kinds) (take (suc i) counts)) (ship_part first count ∷ ship_parts (take (suc i) kinds) (take (suc i) counts)) ≡ cond b (ship_parts (take i kinds) (take i counts)) (ship_part first count ∷ ship_parts (take i kinds) (take i counts)) ++ ship_part (get_or kinds i d) (get_or counts i 0) ∷ [])
        [ true ↦ present kinds counts i (omega arith) (omega arith) some | false ↦ ap (λ rest. ship_part first count ∷ rest) (present kinds counts i (omega arith) (omega arith) some) ]
    present [] counts i within there some = absurd (omega arith)
    present (first ∷ kinds) [] i within there some = absurd (omega arith)
