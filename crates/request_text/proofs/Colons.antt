-- A system's text: two numbers with a colon between them.
use Rattle.std.proofs.Common.{◌≡◌, ℕ, ◌<◌, ◌^◌, List, [], ◌∷◌, ◌++◌, codes, decimal, sym, ap, ◌∙◌, append_assoc}
use Rattle.std.specs.List.{join_with_byte}
use Rattle.std.proofs.lemmas.Fmt.{decimal_injective}
use Rattle.base_text.specs.Parts.{parts}
use Rattle.base_text.proofs.Splitting.{parts-one, parts-join, join-parts}
use Rattle.base_text.proofs.Joining.{last_part}
use Rattle.base_text.proofs.Lacking.{decimal_lacks_colon}

two_colons : (a b : ℕ) → decimal a ++ codes ":" ++ decimal b ≡ decimal a ++ (58 ∷ decimal b)
two_colons a b = simp append_assoc

pub parts-two : (a b : ℕ) → parts 58 (decimal a ++ codes ":" ++ decimal b) ≡ decimal a ∷ decimal b ∷ []
parts-two a b = ap (parts 58) (two_colons a b) ∙ parts-join 58 (decimal a) (decimal b) (decimal_lacks_colon a) ∙ ap (λ ps. decimal a ∷ ps) (parts-one 58 (decimal b) (decimal_lacks_colon b))

-- what a cut at a colon tells of such a text
pub two_found : (text first rest : List ℕ) (a b : ℕ) → parts 58 text ≡ first ∷ parts 58 rest → text ≡ decimal a ++ codes ":" ++ decimal b → (first ≡ decimal a) × (rest ≡ decimal b)
two_found text first rest a b e f =
    let whole : first ∷ parts 58 rest ≡ decimal a ∷ decimal b ∷ [] = sym e ∙ ap (parts 58) f ∙ parts-two a b in
    (cc, last_part 58 rest (decimal b) (cc))

pub two_cut : (text : List ℕ) (a b : ℕ) → parts 58 text ≡ text ∷ [] → text ≡ decimal a ++ codes ":" ++ decimal b → ⊥
two_cut text a b e f =
    let whole : text ∷ [] ≡ decimal a ∷ decimal b ∷ [] = sym e ∙ ap (parts 58) f ∙ parts-two a b in
    cc

pub two_read : (text first rest : List ℕ) (a b : ℕ) → parts 58 text ≡ first ∷ parts 58 rest → first ≡ decimal a → rest ≡ decimal b → text ≡ decimal a ++ codes ":" ++ decimal b
two_read text first rest a b e f g =
    sym (join-parts 58 text) ∙ ap (join_with_byte 58) (e ∙ (λ i. f i ∷ parts 58 (g i)) ∙ ap (λ ps. decimal a ∷ ps) (parts-one 58 (decimal b) (decimal_lacks_colon b))) ∙ sym (two_colons a b)

-- two such texts are the same only if the numbers are
pub two_once : (a b x y : ℕ) → a < 2 ^ 64 → b < 2 ^ 64 → x < 2 ^ 64 → y < 2 ^ 64 → decimal a ++ codes ":" ++ decimal b ≡ decimal x ++ codes ":" ++ decimal y → (a ≡ x) × (b ≡ y)
two_once a b x y la lb lx ly e =
    let same : decimal a ∷ decimal b ∷ [] ≡ decimal x ∷ decimal y ∷ [] = sym (parts-two a b) ∙ ap (parts 58) e ∙ parts-two x y in
    (decimal_injective a x la lx (cc), decimal_injective b y lb ly (cc))

pub ruleset systems = (two_found, two_cut, two_read)
