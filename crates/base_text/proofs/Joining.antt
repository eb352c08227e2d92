-- Texts that are joined from pieces with separators between them: their parts are the pieces.
use Rattle.std.proofs.Common.{◌≡◌, ℕ, ◌<◌, ◌^◌, List, [], ◌∷◌, ◌++◌, codes, decimal, sym, ap, ◌∙◌, append_assoc}
use Rattle.std.specs.List.{AllByRecursion, join_with_byte}
use Rattle.std.proofs.lemmas.Fmt.{decimal_injective}
use Rattle.base_text.specs.Parts.{parts, Lacks}
use Rattle.base_text.proofs.Splitting.{parts-one, parts-join, join-parts}
use Rattle.base_text.proofs.Lacking.{decimal_lacks_colon}

-- the parts are the pieces, if none has the separator
pub parts-join_with_byte : (c : ℕ) (first : List ℕ) (more : List (List ℕ)) → AllByRecursion (Lacks c) (first ∷ more) → parts c (join_with_byte c (first ∷ more)) ≡ first ∷ more
parts-join_with_byte c first [] free = parts-one c first free.0
parts-join_with_byte c first (next ∷ more) free = parts-join c first (join_with_byte c (next ∷ more)) free.0 ∙ ap (λ ps. first ∷ ps) (parts-join_with_byte c next more free.1)

-- three numbers with a colon between each two
pub colons : (a b c : ℕ) → decimal a ++ codes ":" ++ decimal b ++ codes ":" ++ decimal c ≡ join_with_byte 58 (decimal a ∷ decimal b ∷ decimal c ∷ [])
colons a b c = simp append_assoc

pub parts-three : (a b c : ℕ) → parts 58 (decimal a ++ codes ":" ++ decimal b ++ codes ":" ++ decimal c) ≡ decimal a ∷ decimal b ∷ decimal c ∷ []
parts-three a b c = ap (parts 58) (colons a b c) ∙ parts-join_with_byte 58 (decimal a) (decimal b ∷ decimal c ∷ []) (decimal_lacks_colon a, (decimal_lacks_colon b, (decimal_lacks_colon c, tt)))

-- the same text grouped to the right
pub parts-three_nested : (a b c : ℕ) → parts 58 (decimal a ++ (codes ":" ++ (decimal b ++ (codes ":" ++ decimal c)))) ≡ decimal a ∷ decimal b ∷ decimal c ∷ []
parts-three_nested a b c = ap (parts 58) (sym (colons a b c)) ∙ parts-three a b c

pub text_of_three : (text : List ℕ) (a b c : ℕ) → parts 58 text ≡ decimal a ∷ decimal b ∷ decimal c ∷ [] → text ≡ decimal a ++ codes ":" ++ decimal b ++ codes ":" ++ decimal c
text_of_three text a b c e = sym (join-parts 58 text) ∙ ap (join_with_byte 58) e ∙ sym (colons a b c)

-- the last part is all that is left
pub last_part : (c : ℕ) (text last : List ℕ) → parts c text ≡ last ∷ [] → text ≡ last
last_part c text last e = sym (join-parts c text) ∙ ap (join_with_byte c) e

pub parts-decimal : (n : ℕ) → parts 58 (decimal n) ≡ decimal n ∷ []
parts-decimal n = parts-one 58 (decimal n) (decimal_lacks_colon n)

-- what two cuts at a colon tell of such a text, and what they must find for it to be one
pub three_found : (text first rest second third : List ℕ) (a b c : ℕ) → parts 58 text ≡ first ∷ parts 58 rest → parts 58 rest ≡ second ∷ parts 58 third → text ≡ decimal a ++ codes ":" ++ decimal b ++ codes ":" ++ decimal c → (first ≡ decimal a) × (second ≡ decimal b) × (third ≡ decimal c)
three_found text first rest second third a b c e f g =
    let whole : first ∷ second ∷ parts 58 third ≡ decimal a ∷ decimal b ∷ decimal c ∷ [] = sym (e ∙ ap (λ ps. first ∷ ps) f) ∙ ap (parts 58) g ∙ parts-three a b c in
    (cc, cc, last_part 58 third (decimal c) (cc))

pub three_read : (text first rest second third : List ℕ) (a b c : ℕ) → parts 58 text ≡ first ∷ parts 58 rest → parts 58 rest ≡ second ∷ parts 58 third → first ≡ decimal a → second ≡ decimal b → third ≡ decimal c → text ≡ decimal a ++ codes ":" ++ decimal b ++ codes ":" ++ decimal c
three_read text first rest second third a b c e f g h i =
    let last : parts 58 third ≡ decimal c ∷ [] = ap (parts 58) i ∙ parts-decimal c in
    text_of_three text a b c (cc)

-- two such texts are the same only if the numbers are
pub three_once : (a b c x y z : ℕ) → a < 2 ^ 64 → b < 2 ^ 64 → c < 2 ^ 64 → x < 2 ^ 64 → y < 2 ^ 64 → z < 2 ^ 64 → decimal a ++ codes ":" ++ decimal b ++ codes ":" ++ decimal c ≡ decimal x ++ codes ":" ++ decimal y ++ codes ":" ++ decimal z → (a ≡ x) × (b ≡ y) × (c ≡ z)
three_once a b c x y z la lb lc lx ly lz e =
    let same : decimal a ∷ decimal b ∷ decimal c ∷ [] ≡ decimal x ∷ decimal y ∷ decimal z ∷ [] = sym (parts-three a b c) ∙ ap (parts 58) e ∙ parts-three x y z in
    (decimal_injective a x la lx (cc), decimal_injective b y lb ly (cc), decimal_injective c z lc lz (cc))

-- for a reader of such a text by `cut` and `number`: the cases without a result close by these
pub ruleset colon_numbers = (parts-decimal, parts-three, join-parts, colons, last_part)
