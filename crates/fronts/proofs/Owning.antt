-- Claims: when two are one, and what is left of a list without one.
use Rattle.std.proofs.Common.{◌≡◌, ℕ, Bool, true, false, List, [], ◌∷◌, ⊎_elim, refl, sym, ap, ◌∙◌, subst, arith}
use Rattle.std.specs.Prelude.{Contains, if◌then◌else◌}
use Rattle.std.proofs.lemmas.Bool.Decides.{nat_tests}
use Rattle.base_ids.proofs.Names.{coord_is, player_is}
use Rattle.base_ids.specs.Cells.{same_cell}
use Rattle.base_ids.specs.declared.cell_id.CellId.{CellId}
use Rattle.base_ids.specs.declared.cell_id.CellId.TheVariants.{Account, Planet}
use Rattle.fronts.specs.declared.claim.Claim.{Claim}
use Rattle.fronts.specs.declared.claim.Claim.TheVariants.{Pen, Flush, Number, Cell}
use Rattle.fronts.specs.Views.{same_claim, without}
use Rattle.fronts.proofs.Listed.{contains_cases, contains_head, contains_none, contains_tail}

pub cells_are : (a b : CellId) → same_cell a b ≡ true → a ≡ b
cells_are (Account a) (Account b) same = let k : a.k ≡ b.k = grind (arith, nat_tests) in ap Account (player_is a b k)
cells_are (Planet a) (Planet b) same =
    let g : a.g ≡ b.g = grind (arith, nat_tests) in
    let s : a.s ≡ b.s = grind (arith, nat_tests) in
    let p : a.p ≡ b.p = grind (arith, nat_tests) in
    ap Planet (coord_is a b g s p)
cells_are (Account a) (Planet b) same = cc
cells_are (Planet a) (Account b) same = cc

pub cell_itself : (a : CellId) → same_cell a a ≡ true
cell_itself (Account a) = grind (arith, nat_tests)
cell_itself (Planet a) = grind (arith, nat_tests)

pub claims_are : (a b : Claim) → same_claim a b ≡ true → a ≡ b
claims_are Pen Pen same = refl
claims_are Flush Flush same = refl
claims_are (Number m) (Number n) same = let is : m ≡ n = grind (arith, nat_tests) in ap Number is
claims_are (Cell a) (Cell b) same = ap Cell (cells_are a b same)
claims_are _ _ same = cc

pub claim_itself : (a : Claim) → same_claim a a ≡ true
claim_itself Pen = refl
claim_itself Flush = refl
claim_itself (Number n) = grind (arith, nat_tests)
claim_itself (Cell a) = cell_itself a

pub number_is : (m n : ℕ) → Number m ≡ Number n → m ≡ n
number_is m n e = cc e

-- a claim goes over to another view
abbrev pub given_to : Claim → ℕ → (Claim → ℕ) → Claim → ℕ
given_to claim seat owner c = if same_claim claim c then seat else owner c

pub given_here : (claim : Claim) (seat : ℕ) (owner : Claim → ℕ) → given_to claim seat owner claim ≡ seat
given_here claim seat owner = rw (claim_itself claim) refl

pub given_else : (claim : Claim) (seat : ℕ) (owner : Claim → ℕ) (c : Claim) → (claim ≡ c → ⊥) → given_to claim seat owner c ≡ owner c
given_else claim seat owner c other = on (same_claim claim c) refl
  where
    on : (b : Bool) → same_claim claim c ≡ b → given_to claim seat owner c ≡ owner c
    on true e = absurd (other (claims_are claim c e))
    on false e = rw e refl

module _ (claim : Claim) where
  pub without_head : (c : Claim) (cs : List Claim) → same_claim claim c ≡ true → without claim (c ∷ cs) ≡ without claim cs
  without_head c cs e = rw e refl

  pub without_keeps : (c : Claim) (cs : List Claim) → same_claim claim c ≡ false → without claim (c ∷ cs) ≡ c ∷ without claim cs
  without_keeps c cs e = rw e refl

  -- what is left was there, and is another claim
  pub left_in : (cs : List Claim) (c : Claim) → Contains (without claim cs) c → Contains cs c × (claim ≡ c → ⊥)
  left_in [] c h = absurd (contains_none c h)
  left_in (d ∷ cs) c h = on (same_claim claim d) refl (left_in cs c)
    where
      more : Contains cs c × (claim ≡ c → ⊥) → Contains (d ∷ cs) c × (claim ≡ c → ⊥)
      more t = (contains_tail c d cs t.0, t.1)

      other : same_claim claim d ≡ false → d ≡ c → claim ≡ c → ⊥
      other e same is = let on_d : same_claim claim d ≡ true = ap (same_claim claim) (same ∙ sym is) ∙ claim_itself claim in cc (e, on_d)

      on : (b : Bool) → same_claim claim d ≡ b → (Contains (without claim cs) c → Contains cs c × (claim ≡ c → ⊥)) → Contains (d ∷ cs) c × (claim ≡ c → ⊥)
      on true e further = more (further (subst (λ (l : List Claim). Contains l c) (without_head d cs e) h))
      on false e further =
          ⊎_elim
          (λ (same : d ≡ c). (subst (λ x. Contains (d ∷ cs) x) same (contains_head d cs), other e same))
          (λ (t : Contains (without claim cs) c). more (further t))
          (contains_cases c d (without claim cs) (subst (λ (l : List Claim). Contains l c) (without_keeps d cs e) h))

  -- each other claim is left
  pub left_if_other : (cs : List Claim) (c : Claim) → Contains cs c → (claim ≡ c → ⊥) → Contains (without claim cs) c
  left_if_other [] c h other = absurd (contains_none c h)
  left_if_other (d ∷ cs) c h other = on (same_claim claim d) refl (λ t. left_if_other cs c t other)
    where
      on : (b : Bool) → same_claim claim d ≡ b → (Contains cs c → Contains (without claim cs) c) → Contains (without claim (d ∷ cs)) c
      on true e further =
          ⊎_elim
          (λ (same : d ≡ c). absurd (other (claims_are claim d e ∙ same)))
          (λ (t : Contains cs c). subst (λ (l : List Claim). Contains l c) (sym (without_head d cs e)) (further t))
          (contains_cases c d cs h)
      on false e further =
          subst (λ (l : List Claim). Contains l c) (sym (without_keeps d cs e))
          (⊎_elim
          (λ (same : d ≡ c). subst (λ x. Contains (d ∷ without claim cs) x) same (contains_head d (without claim cs)))
          (λ (t : Contains cs c). contains_tail c d (without claim cs) (further t))
          (contains_cases c d cs h))
