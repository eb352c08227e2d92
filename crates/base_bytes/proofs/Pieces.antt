-- Bytes that are written piece by piece.
use Rattle.std.proofs.Common.{◌≡◌, ℕ, List, [], ◌∷◌, ◌++◌, ◌∙◌, ap, codes, refl}
use Rattle.std.specs.List.{flat_map}
use Rattle.std.proofs.lemmas.List.{append_assoc, append-nil}
use Rattle.base_bytes.specs.Spelling.{account_bytes, base_spelling, counts_bytes, fleet_bytes, planet_bytes, rules_bytes}
use Rattle.base_bytes.specs.declared.base.Base.{Base}
use Rattle.records.specs.Entries.{joined, u64}

-- 5 pieces
pub five_pieces : (s0 s1 s2 s3 s4 s5 a b c d e : List ℕ) → s1 ≡ s0 ++ a → s2 ≡ s1 ++ b → s3 ≡ s2 ++ c → s4 ≡ s3 ++ d → s5 ≡ s4 ++ e
    → s5 ≡ s0 ++ joined (a ∷ b ∷ c ∷ d ∷ e ∷ [])
five_pieces s0 s1 s2 s3 s4 s5 a b c d e e1 e2 e3 e4 e5 =
    (e5 ∙ ap (λ (l : List ℕ). l ++ e) (e4 ∙ ap (λ (l : List ℕ). l ++ d) (e3 ∙ ap (λ (l : List ℕ). l ++ c) (e2 ∙ ap (λ (l : List ℕ). l ++ b) e1))))
    ∙ simp (append_assoc, append-nil)

-- the bytes of a base
pub whole_base : (s0 s1 s2 s3 s4 s5 : List ℕ) (base : Base) → s0 ≡ [] → s1 ≡ s0 ++ rules_bytes base → s2 ≡ s1 ++ counts_bytes base
    → s3 ≡ s2 ++ flat_map account_bytes base.accounts.items → s4 ≡ s3 ++ flat_map planet_bytes base.planets.items
    → s5 ≡ s4 ++ flat_map fleet_bytes base.fleets → s5 ≡ base_spelling base
unfolding base_spelling
whole_base s0 s1 s2 s3 s4 s5 base e0 e1 e2 e3 e4 e5 =
    five_pieces s0 s1 s2 s3 s4 s5 (rules_bytes base) (counts_bytes base) (flat_map account_bytes base.accounts.items)
    (flat_map planet_bytes base.planets.items) (flat_map fleet_bytes base.fleets) e1 e2 e3 e4 e5
    ∙ ap (λ (l : List ℕ). l ++ base_spelling base) e0

-- 5 pieces and what stands behind them
pub open_5 : (a b c d e more : List ℕ) → joined (a ∷ b ∷ c ∷ d ∷ e ∷ []) ++ more ≡ a ++ (b ++ (c ++ (d ++ (e ++ more))))
open_5 a b c d e more = simp append_assoc

-- the mark is the number that stands for it
pub mark_is : codes "OGBASE01" ≡ u64 5712607500680114225
unfolding u64
mark_is = refl
