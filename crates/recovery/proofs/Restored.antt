-- What the bytes of a base tell of its area.
use Rattle.std.proofs.Common.{◌≡◌, ◌≢◌, ℕ, ◌-◌, List, ◌++◌, length, drop, min, ap, ◌∙◌, sym, subst, arith, length-drop}
use Rattle.std.proofs.lemmas.List.{length-take}
use Rattle.base_bytes.specs.Rules.{Spells}
use Rattle.base_bytes.specs.declared.base.Base.{Base}
use Rattle.recovery.specs.Areas.{sized_bytes}
use Rattle.recovery.specs.Reopening.{HasBadBase, HoldsBase, IsDamaged, IsHeadIn, IsIntact, base_there, computed_digest, first_batch, kept_digest, size_of}
use Rattle.recovery.specs.declared.head.Head.{Head}
use Rattle.sha2.specs.Sha256.{sha256}

module _ (content : List ℕ) (head : Head) (is : IsHeadIn content head) (bytes : List ℕ) (there : bytes ≡ base_there content) where
  computed-is : (computed : List ℕ) → computed ≡ sha256 (sized_bytes head.generation head.size ++ bytes) → computed ≡ computed_digest content
  unfolding computed_digest
  computed-is computed hashed = hashed ∙ (λ i. sha256 (is.sized_is i ++ there i))

  pub damaged : (computed : List ℕ) → computed ≡ sha256 (sized_bytes head.generation head.size ++ bytes) → computed ≢ head.digest → IsDamaged head.digest computed content
  damaged computed hashed apart = record { kept_is = is.digest_is; computed_is = computed-is computed hashed; apart = apart }

  pub agree : (computed : List ℕ) → computed ≡ sha256 (sized_bytes head.generation head.size ++ bytes) → computed ≡ head.digest → computed_digest content ≡ kept_digest content
  agree computed hashed same = sym (computed-is computed hashed) ∙ same ∙ is.digest_is

  long-there : length bytes ≡ min (size_of content) (length content - 57)
  unfolding base_there
  long-there = ap length there ∙ length-take (size_of content) (drop 57 content) ∙ ap (λ (n : ℕ). min (size_of content) n) (length-drop 57 content)

  -- not all of them are there
  pub ends-early : computed_digest content ≡ kept_digest content → length bytes ≢ head.size → HasBadBase content
  unfolding first_batch
  ends-early agrees other = record {
    agrees = agrees;
    no_base = λ base holds. let whole = holds.whole in other (omega (arith, long-there, is.size_is, whole));
  }

  -- they spell nothing
  pub spells-none : computed_digest content ≡ kept_digest content → ((base : Base) → Spells bytes base → ⊥) → HasBadBase content
  spells-none agrees none = record { agrees = agrees; no_base = λ base holds. none base (subst (λ (l : List ℕ). Spells l base) (sym there) holds.spelt) }

  -- they spell a base
  holds-base : length bytes ≡ head.size → (base : Base) → Spells bytes base → HoldsBase content base
  unfolding first_batch
  holds-base all base spells =
      let room = is.opens.long in
      record { whole = omega (arith, all, long-there, is.size_is, room); spelt = subst (λ (l : List ℕ). Spells l base) there spells }

  pub intact : (computed : List ℕ) → computed ≡ sha256 (sized_bytes head.generation head.size ++ bytes) → computed ≡ head.digest → length bytes ≡ head.size → (base : Base) → Spells bytes base → IsIntact content head base
  intact computed hashed same all base spells = record { is_head = is; agrees = agree computed hashed same; holds = holds-base all base spells }
