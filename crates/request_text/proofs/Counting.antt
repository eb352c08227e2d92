-- How many ships of one kind the parts of a text begin with.
use Rattle.std.proofs.Common.{◌≡◌, ◌≢◌, ℕ, zero, suc, ◌≤◌, List, [], ◌∷◌, ◌++◌, refl, ap, sym, ◌∙◌, arith, ne_eqb, append_assoc, decimal}
use Rattle.std.specs.Prelude.{Option, Some, None, MatchOption}
use Rattle.std.specs.Borrow.{Bor}
use Rattle.std.proofs.lemmas.Fmt.{decimal_injective}
use Rattle.base_text.specs.Parts.{parts}
use Rattle.base_text.proofs.Splitting.{parts-one, parts-join, parts-more, join-parts}
use Rattle.base_text.proofs.Joining.{last_part}
use Rattle.base_text.proofs.Lacking.{lacks-decimal}
use Rattle.std.specs.List.{join_with_byte}
use Rattle.catalog.specs.Kinds.{kind_word}
use Rattle.catalog.specs.Texts.{ship_part, ship_parts}
use Rattle.catalog.specs.declared.kind.Kind.{Kind}
use Rattle.catalog.specs.declared.ships.TheConstants.{UNITS}
use Rattle.request_text.specs.Ships.{Begins, Counted, IsOther, IsUncounted}
use Rattle.request_text.proofs.Plain.{kind_lacks}

-- a part is cut at its =
pub part_joined : (kind : Kind) (n : ℕ) → ship_part kind n ≡ kind_word kind ++ (61 ∷ decimal n)
part_joined kind n = append_assoc (kind_word kind) (61 ∷ []) (decimal n)

pub parts-named : (kind : Kind) (text : List ℕ) → parts 61 (kind_word kind ++ (61 ∷ text)) ≡ kind_word kind ∷ parts 61 text
parts-named kind text = parts-join 61 (kind_word kind) text (kind_lacks 61 kind (omega arith))

parts-number : (n : ℕ) → parts 61 (decimal n) ≡ decimal n ∷ []
parts-number n = parts-one 61 (decimal n) (lacks-decimal 61 n (λ h. omega (arith, h.1)))

-- one kind that is there
pub some_part : (kind : Kind) (n : ℕ) → n ≢ 0 → ship_parts (kind ∷ []) (n ∷ []) ≡ ship_part kind n ∷ []
some_part kind n some = rw (ne_eqb n 0 some) refl

-- where the parts do not begin with the kind and =, its count is 0
pub absent_once : (kind : Kind) (old : List (List ℕ)) → IsOther kind old → Counted kind old old 0
absent_once kind old other = record { within = omega arith; begins = refl; once = once }
  where
    once : (n : ℕ) (rest : List (List ℕ)) → n ≤ UNITS → IsOther kind rest → Begins kind old n rest → (n ≡ 0) × (rest ≡ old)
    once zero rest within others begins = (refl, sym begins)
    once (suc n) rest within others begins =
        let is : old ≡ (kind_word kind ++ (61 ∷ decimal (suc n))) ∷ rest = begins ∙ ap (λ ps. ps ++ rest) (some_part kind (suc n) (λ e. omega arith)) ∙ ap (λ p. p ∷ rest) (part_joined kind (suc n)) in
        absurd (other (decimal (suc n)) rest is)

-- no part at all
pub no_part : (kind : Kind) (old : List (List ℕ)) → old ≡ [] → Counted kind old old 0
no_part kind old none = absent_once kind old (λ text more e. let both : [] ≡ (kind_word kind ++ (61 ∷ text)) ∷ more = sym none ∙ e in cc)

-- a part without =
pub no_sign : (kind : Kind) (old : List (List ℕ)) (part : List ℕ) (rest : List (List ℕ)) → old ≡ part ∷ rest → parts 61 part ≡ part ∷ [] → Counted kind old old 0
no_sign kind old part rest is whole = absent_once kind old other
  where
    other : IsOther kind old
    other text more e =
        let same : part ∷ rest ≡ (kind_word kind ++ (61 ∷ text)) ∷ more = sym is ∙ e in
        let first : part ≡ kind_word kind ++ (61 ∷ text) = cc in
        let both : part ∷ [] ≡ kind_word kind ∷ parts 61 text = sym whole ∙ ap (parts 61) first ∙ parts-named kind text in
        let (one, (later, cut)) = parts-more 61 text in
        let all : part ∷ [] ≡ kind_word kind ∷ one ∷ later = both ∙ ap (λ ps. kind_word kind ∷ ps) cut in
        cc

-- a part of another word
pub other_word : (kind : Kind) (old : List (List ℕ)) (part word number : List ℕ) (rest : List (List ℕ)) → old ≡ part ∷ rest → parts 61 part ≡ word ∷ parts 61 number → word ≢ kind_word kind → Counted kind old old 0
other_word kind old part word number rest is cut apart = absent_once kind old other
  where
    other : IsOther kind old
    other text more e =
        let same : part ∷ rest ≡ (kind_word kind ++ (61 ∷ text)) ∷ more = sym is ∙ e in
        let first : part ≡ kind_word kind ++ (61 ∷ text) = cc in
        let both : word ∷ parts 61 number ≡ kind_word kind ∷ parts 61 text = sym cut ∙ ap (parts 61) first ∙ parts-named kind text in
        apart (cc)

-- the part as a text
named_part : (kind : Kind) (part word number : List ℕ) → parts 61 part ≡ word ∷ parts 61 number → word ≡ kind_word kind → part ≡ kind_word kind ++ (61 ∷ number)
named_part kind part word number cut named =
    sym (join-parts 61 part) ∙ ap (join_with_byte 61) (cut ∙ ap (λ w. w ∷ parts 61 number) named ∙ sym (parts-named kind number)) ∙ join-parts 61 (kind_word kind ++ (61 ∷ number))

-- a part of the kind: its number is the one that is spelled
number_of : (kind : Kind) (n : ℕ) (number : List ℕ) → ship_part kind n ≡ kind_word kind ++ (61 ∷ number) → number ≡ decimal n
number_of kind n number e =
    let both : kind_word kind ∷ parts 61 number ≡ kind_word kind ∷ parts 61 (decimal n) = sym (parts-named kind number) ∙ ap (parts 61) (sym e ∙ part_joined kind n) ∙ parts-named kind (decimal n) in
    let rest : parts 61 number ≡ decimal n ∷ [] = cc (both, parts-number n) in
    last_part 61 number (decimal n) rest

begins_with : (kind : Kind) (old : List (List ℕ)) (number : List ℕ) (more : List (List ℕ)) (n : ℕ) (rest : List (List ℕ)) → old ≡ (kind_word kind ++ (61 ∷ number)) ∷ more → n ≢ 0 → Begins kind old n rest → (number ≡ decimal n) × (rest ≡ more)
begins_with kind old number more n rest is some begins =
    let both : ship_part kind n ∷ rest ≡ (kind_word kind ++ (61 ∷ number)) ∷ more = sym (begins ∙ ap (λ ps. ps ++ rest) (some_part kind n some)) ∙ is in
    (number_of kind n number (cc), cc)

-- a part of the kind with no number in range
pub bad_number : (kind : Kind) (old : List (List ℕ)) (part word number : List ℕ) (more : List (List ℕ)) → old ≡ part ∷ more → parts 61 part ≡ word ∷ parts 61 number → word ≡ kind_word kind → ((n : ℕ) → 1 ≤ n → n ≤ UNITS → number ≡ decimal n → ⊥) → IsUncounted kind old
bad_number kind old part word number more is cut named none = refuse
  where
    whole : old ≡ (kind_word kind ++ (61 ∷ number)) ∷ more
    whole = is ∙ ap (λ p. p ∷ more) (named_part kind part word number cut named)

    refuse : IsUncounted kind old
    refuse zero rest within others begins = others number more (sym begins ∙ whole)
    refuse (suc n) rest within others begins =
        let found = begins_with kind old number more (suc n) rest whole (λ e. omega arith) begins in
        none (suc n) (omega arith) within found.0

-- a part of the kind with its number
pub good_number : (kind : Kind) (old : List (List ℕ)) (part word number : List ℕ) (more : List (List ℕ)) (count : ℕ) → old ≡ part ∷ more → parts 61 part ≡ word ∷ parts 61 number → word ≡ kind_word kind → 1 ≤ count → count ≤ UNITS → number ≡ decimal count → Counted kind old more count
good_number kind old part word number more count is cut named some within spelled = record { within = within; begins = begins; once = once }
  where
    whole : old ≡ (kind_word kind ++ (61 ∷ number)) ∷ more
    whole = is ∙ ap (λ p. p ∷ more) (named_part kind part word number cut named)

    begins : Begins kind old count more
    begins = whole ∙ ap (λ d. (kind_word kind ++ (61 ∷ d)) ∷ more) spelled ∙ ap (λ p. p ∷ more) (sym (part_joined kind count)) ∙ ap (λ ps. ps ++ more) (sym (some_part kind count (λ e. omega arith)))

    once : (n : ℕ) (rest : List (List ℕ)) → n ≤ UNITS → IsOther kind rest → Begins kind old n rest → (n ≡ count) × (rest ≡ more)
    once zero rest small others starts = absurd (others number more (sym starts ∙ whole))
    once (suc n) rest small others starts =
        let found = begins_with kind old number more (suc n) rest whole (λ e. omega arith) starts in
        (decimal_injective (suc n) count (omega arith) (omega arith) (sym found.0 ∙ spelled), found.1)

-- what is left after the next part, which was looked at before
pub after_part : (old new : List (List ℕ)) (part : List ℕ) (rest : List (List ℕ)) (taken : Option (Bor (List ℕ))) → old ≡ part ∷ rest → MatchOption taken ((old ≡ []) × (new ≡ [])) (λ p. old ≡ p.now ∷ new) → old ≡ part ∷ new
after_part old new part rest None is none = let both : part ∷ rest ≡ [] = sym is ∙ none.0 in cc
after_part old new part rest (Some p) is some = let both : part ∷ rest ≡ p.now ∷ new = sym is ∙ some in cc

pub ruleset counting = (no_part, no_sign, other_word)
