-- The lines of kinds, one more at a time, and the line of a fleet from its parts.
use Rattle.std.proofs.Common.{◌≡◌, ℕ, suc, zero, ◌+◌, ◌<◌, List, [], ◌∷◌, ◌++◌, length, take, get_or, refl, ap, sym, ◌∙◌, arith, append_assoc, add-one, append-nil}
use Rattle.std.specs.Prelude.{codes}
use Rattle.std.specs.List.{join_with_byte}
use Rattle.catalog.specs.declared.kind.Kind.{Kind}
use Rattle.reply_text.specs.FleetLines.{course_words, fleet_line, state_words}
use Rattle.reply_text.specs.declared.fleet_lines.FleetLine.{FleetLine}
use Rattle.reply_text.specs.Words.{kind_line, kind_lines, line}

-- the line of one kind more
pub kinds_more : (label : List ℕ) (usual : ℕ) (kinds : List Kind) (numbers : List ℕ) (i : ℕ) (d : Kind) → i < length kinds → i < length numbers → kind_lines label usual (take (i + 1) kinds) (take (i + 1) numbers) ≡ kind_lines label usual (take i kinds) (take i numbers) ++ kind_line label usual (get_or kinds i d) (get_or numbers i 0)
unfolding kind_lines
kinds_more label usual kinds numbers i d within there = rw (add-one) (more kinds numbers i within there)
  where
    more : (kinds : List Kind) (numbers : List ℕ) (i : ℕ) → i < length kinds → i < length numbers → kind_lines label usual (take (suc i) kinds) (take (suc i) numbers) ≡ kind_lines label usual (take i kinds) (take i numbers) ++ kind_line label usual (get_or kinds i d) (get_or numbers i 0)
    more (kind ∷ kinds) (number ∷ numbers) zero within there = append-nil (kind_line label usual kind number)
    more (kind ∷ kinds) (number ∷ numbers) (suc i) within there =
        ap (λ rest. kind_line label usual kind number ++ rest) (more kinds numbers i (omega arith) (omega arith))
        ∙ sym (append_assoc (kind_line label usual kind number) (kind_lines label usual (take i kinds) (take i numbers)) (kind_line label usual (get_or kinds i d) (get_or numbers i 0)))
    more [] numbers i within there = absurd (omega arith)
    more (kind ∷ kinds) [] i within there = absurd (omega arith)

-- a piece more behind what was written
pub written_more : (old new front piece whole : List ℕ) → new ≡ old ++ piece → old ≡ front → whole ≡ front ++ piece → new ≡ whole
written_more old new front piece whole last before more = last ∙ ap (λ text. text ++ piece) before ∙ sym more

-- words of two lists, one after the other
join-both : (c : ℕ) (xs ys : List (List ℕ)) → 0 < length xs → 0 < length ys → join_with_byte c (xs ++ ys) ≡ join_with_byte c xs ++ (c ∷ join_with_byte c ys)
join-both c (x ∷ []) (y ∷ ys) some more = refl
join-both c (x ∷ next ∷ xs) (y ∷ ys) some more =
    ap (λ rest. x ++ (c ∷ rest)) (join-both c (next ∷ xs) (y ∷ ys) (omega arith) more)
    ∙ sym (append_assoc x (c ∷ join_with_byte c (next ∷ xs)) (c ∷ join_with_byte c (y ∷ ys)))
join-both c [] ys some more = absurd (omega (arith, some))
join-both c xs [] some more = absurd (omega (arith, more))

-- the line of a fleet in two parts
pub fleet_line_by : (fleet : FleetLine) (course state : List ℕ) → course ≡ join_with_byte 32 (course_words fleet) → state ≡ join_with_byte 32 (state_words fleet)
    → fleet_line fleet ≡ (codes "fleet " ++ (course ++ (32 ∷ state))) ++ 10 ∷ []
unfolding line
fleet_line_by fleet course state course_is state_is =
    ap (λ text. (codes "fleet " ++ text) ++ 10 ∷ []) (join-both 32 (course_words fleet) (state_words fleet) (omega arith) (omega arith))
    ∙ ap (λ text. (codes "fleet " ++ (text ++ (32 ∷ join_with_byte 32 (state_words fleet)))) ++ 10 ∷ []) (sym course_is)
    ∙ ap (λ text. (codes "fleet " ++ (course ++ (32 ∷ text))) ++ 10 ∷ []) (sym state_is)
