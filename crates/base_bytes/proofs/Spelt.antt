-- What is read of the bytes of a base.
use Rattle.std.proofs.Common.{◌≡◌, ◌<◌, ◌^◌, ℕ, List, subst, sym, ◌∙◌}
use Rattle.base_bytes.specs.Rules.{Spells}
use Rattle.base_bytes.specs.Told.{IsRead, IsTold}
use Rattle.base_bytes.specs.declared.base.Base.{Base}
use Rattle.base_bytes.proofs.Respelling.{spelling-same}
use Rattle.base_bytes.proofs.Ruled.{base-carried}

-- what is told of a base is spelt by the same bytes
pub told-spells : (bytes : List ℕ) (base told : Base) → Spells bytes base → IsTold base told → IsRead told → Spells bytes told
told-spells bytes base told spelt same read = record {
  rules = base-carried base told spelt.rules same read;
  seed = subst (λ n. n < 2 ^ 64) (sym same.seed) spelt.seed;
  is = spelt.is ∙ sym (spelling-same base told same);
}
