-- Facts of what a source has left, where it tells.
use Rattle.std.proofs.Common.{◌≡◌, List, ℕ, [], ◌++◌, None, Some, Option, sym, subst}
use Rattle.std.specs.Io.KnownBytes.{Consumes, IsAtEnd}
use Rattle.request_text.specs.LineReading.{Known}

-- one fact after another
pub known-then : (a b c : Option (List ℕ)) (P Q R : List ℕ → List ℕ → Type 0) → ((x y z : List ℕ) → P x y → Q y z → R x z) → Known a b P → Known b c Q → Known a c R
known-then None b c P Q R step p q = tt
known-then (Some x) None c P Q R step p q = absurd p
known-then (Some x) (Some y) None P Q R step p q = absurd q
known-then (Some x) (Some y) (Some z) P Q R step p q = step x y z p q

-- a fact that follows from another
pub known-map : (a b : Option (List ℕ)) (P R : List ℕ → List ℕ → Type 0) → ((x y : List ℕ) → P x y → R x y) → Known a b P → Known a b R
known-map None b P R step p = tt
known-map (Some x) None P R step p = absurd p
known-map (Some x) (Some y) P R step p = step x y p

-- one that follows at the end of the input
pub known-end : (a b : Option (List ℕ)) (P R : List ℕ → List ℕ → Type 0) → ((x : List ℕ) → P x [] → R x []) → IsAtEnd b → Known a b P → Known a b R
known-end None b P R step end p = tt
known-end (Some x) None P R step end p = absurd p
known-end (Some x) (Some y) P R step end p = subst (R x) (sym end) (step x (subst (P x) end p))

-- one of a source that was not read
pub known-same : (a : Option (List ℕ)) (P : List ℕ → List ℕ → Type 0) → ((x : List ℕ) → P x x) → Known a a P
known-same None P here = tt
known-same (Some x) P here = here x

-- one of a source that gave these bytes
pub known-consumed : (a b : Option (List ℕ)) (got : List ℕ) (P : List ℕ → List ℕ → Type 0) → ((x y : List ℕ) → x ≡ got ++ y → P x y) → Consumes a b got → Known a b P
known-consumed None b got P here p = tt
known-consumed (Some x) None got P here p = absurd p
known-consumed (Some x) (Some y) got P here p = here x y p
