-- The digest of an area.
use Rattle.std.proofs.Common.{◌≡◌, ℕ, List, [], ◌++◌, codes, ap, ◌∙◌, sym, append_assoc, append-nil}
use Rattle.std.specs.Int.{to_be_bytes, w64}
use Rattle.records.specs.Entries.{u64}
use Rattle.recovery.specs.Areas.{sized_bytes}
use Rattle.sha2.specs.Sha256.{sha256}

-- the pieces that are hashed, one after another
pieces : (a b c d : List ℕ) → ((a ++ b) ++ c) ++ d ≡ (a ++ (b ++ (c ++ []))) ++ d
pieces a b c d = ap (λ (l : List ℕ). l ++ d) (append_assoc a b c ∙ ap (λ (l : List ℕ). a ++ (b ++ l)) (sym (append-nil c)))

pub digest-is : (generation size : ℕ) (base first second result : List ℕ) → first ≡ to_be_bytes w64 generation → second ≡ to_be_bytes w64 size
    → result ≡ sha256 (((codes "OGAREA01" ++ first) ++ second) ++ base) → result ≡ sha256 (sized_bytes generation size ++ base)
unfolding u64
digest-is generation size base first second result generation_is size_is is =
    is ∙ (λ i. sha256 (((codes "OGAREA01" ++ generation_is i) ++ size_is i) ++ base)) ∙ ap sha256 (pieces (codes "OGAREA01") (to_be_bytes w64 generation) (to_be_bytes w64 size) base)
