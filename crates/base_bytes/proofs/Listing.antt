-- A list whose elements are read one after another.
use Rattle.std.proofs.Common.{◌≡◌, ℕ, zero, suc, ◌+◌, ◌<◌, List, [], ◌∷◌, ◌++◌, length, take, drop, get_or, Option, None, Some, arith, subst, sym, ◌∙◌, ap}
use Rattle.std.specs.Prelude.{IfSome, IsSomeAnd}
use Rattle.std.specs.List.{AllZip, flat_map}
use Rattle.std.proofs.lemmas.List.{append_assoc, drop_more, take_more}
use Rattle.std.proofs.lemmas.List.Elements.{AllZip-push}

-- an element of a list that is long enough
pub some-element : {X : Type 0} (xs : List X) (i : ℕ) → i < length xs → X
some-element [] i below = absurd (omega (arith, below))
some-element (x ∷ xs) zero below = x
some-element (x ∷ xs) (suc i) below = some-element xs i (omega (arith, below))

-- the bytes of the next element stand first
pub next-first : {X : Type 0} (f : X → List ℕ) (xs : List X) (i : ℕ) (d : X) (rest more : List ℕ) → i < length xs → rest ≡ flat_map f (drop i xs) ++ more
    → rest ≡ f (get_or xs i d) ++ (flat_map f (drop (i + 1) xs) ++ more)
next-first f xs i d rest more below is =
    is ∙ ap (λ l. flat_map f l ++ more) (drop_more xs i d below) ∙ append_assoc (f (get_or xs i d)) (flat_map f (drop (i + 1) xs)) more

-- one element more is read
pub read-more : {X : Type 0} (xs read : List X) (i : ℕ) (x d : X) → i < length xs → read ≡ take i xs → x ≡ get_or xs i d → read ++ x ∷ [] ≡ take (i + 1) xs
read-more xs read i x d below so_far is =
    ap (λ l. l ++ x ∷ []) so_far ∙ ap (λ y. take i xs ++ y ∷ []) is ∙ sym (take_more xs i d below)

-- one element more is read that is alike to the next one
pub alike-more : {X : Type 0} (R : X → X → Type 0) (xs read new : List X) (i : ℕ) (x d : X) → i < length xs → AllZip R (take i xs) read → R (get_or xs i d) x
    → new ≡ read ++ x ∷ [] → AllZip R (take (i + 1) xs) new
alike-more R xs read new i x d below so_far alike next =
    subst (λ l. AllZip R (take (i + 1) xs) l) (sym next)
    (subst (λ l. AllZip R l (read ++ x ∷ [])) (sym (take_more xs i d below)) (AllZip-push R (take i xs) read (get_or xs i d) x so_far alike))

-- what holds of what there is
pub holds-of : {X : Type 0} (found : Option X) (x : X) (P : X → Type 0) → found ≡ Some x → IsSomeAnd found P → P x
holds-of {X = X} found x P is holds = subst (λ (f : Option X). IsSomeAnd f P) is holds

-- if something is found, there is something
pub not-none : {X : Type 0} (found : Option X) (P : X → Type 0) → found ≡ None → IsSomeAnd found P → ⊥
not-none {X = X} found P is holds = subst (λ (f : Option X). IsSomeAnd f P) is holds

-- what holds of what there is, if there is something
pub holds-if : {X : Type 0} (found : Option X) (x : X) (P : X → Type 0) → found ≡ Some x → IfSome found P → P x
holds-if {X = X} found x P is holds = subst (λ (f : Option X). IfSome f P) is holds
