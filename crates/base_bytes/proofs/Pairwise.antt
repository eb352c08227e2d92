-- Lists whose elements are related, one by one.
use Rattle.std.proofs.Common.{◌≡◌, ◌<◌, List, [], ◌∷◌, ◌++◌, All, length, get_or, map, arith, refl, subst, sym}
use Rattle.std.specs.Prelude.{AllPairs}
use Rattle.std.specs.List.{AllZip, flat_map}
use Rattle.std.proofs.lemmas.List.Elements.{AllZip-get_or, length_all_zip}

-- what holds of two values holds of two that are equal to them
pub carry-2 : {A B : Type 0} (P : A → B → Type 0) (a c : A) (b d : B) → c ≡ a → d ≡ b → P a b → P c d
carry-2 P a c b d first second holds = subst (λ x. P x d) (sym first) (subst (λ y. P a y) (sym second) holds)

-- what holds of each element of a list holds of each of another whose elements are the same, one by one
pub all-carried : {X : Type 0} (R : X → X → Type 0) (P Q : X → Type 0) → ((x y : X) → R x y → P x → Q y) → (xs ys : List X) → AllZip R xs ys → All P xs → All Q ys
all-carried R P Q one xs ys same all = λ i d below.
    let long = length_all_zip R xs ys same in
    let within : i < length xs = omega (arith, below, long) in
    one (get_or xs i d) (get_or ys i d) (AllZip-get_or R xs ys i d d same within) (all i d within)

pub pairs-carried : {X : Type 0} (R : X → X → Type 0) (P Q : X → X → Type 0) → ((a b c d : X) → R a c → R b d → P a b → Q c d) → (xs ys : List X) → AllZip R xs ys → AllPairs P xs → AllPairs Q ys
pairs-carried R P Q one xs ys same pairs = λ i j d before below.
    let long = length_all_zip R xs ys same in
    let later : j < length xs = omega (arith, below, long) in
    let sooner : i < length xs = omega (arith, before, later) in
    one (get_or xs i d) (get_or xs j d) (get_or ys i d) (get_or ys j d) (AllZip-get_or R xs ys i d d same sooner) (AllZip-get_or R xs ys j d d same later) (pairs i j d before later)

-- if a function has the same values, so have the lists of them
pub map-same : {X Y : Type 0} (f : X → Y) (R : X → X → Type 0) → ((x y : X) → R x y → f y ≡ f x) → (xs ys : List X) → AllZip R xs ys → map f ys ≡ map f xs
map-same f R one [] [] same = refl
map-same f R one [] (y ∷ ys) same = absurd same
map-same f R one (x ∷ xs) [] same = absurd same
map-same f R one (x ∷ xs) (y ∷ ys) same =
    let first = one x y same.0 in
    let rest = map-same f R one xs ys same.1 in
    λ i. first i ∷ rest i

-- and so are the lists that follow one another
pub flat-same : {X Y : Type 0} (f : X → List Y) (R : X → X → Type 0) → ((x y : X) → R x y → f y ≡ f x) → (xs ys : List X) → AllZip R xs ys → flat_map f ys ≡ flat_map f xs
flat-same f R one [] [] same = refl
flat-same f R one [] (y ∷ ys) same = absurd same
flat-same f R one (x ∷ xs) [] same = absurd same
flat-same f R one (x ∷ xs) (y ∷ ys) same =
    let first = one x y same.0 in
    let rest = flat-same f R one xs ys same.1 in
    λ i. first i ++ rest i
