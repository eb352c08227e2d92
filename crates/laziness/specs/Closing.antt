-- The least closed set: what a request asks for, what those cells bring, what these bring, and so on.
use Rattle.std.specs.Prelude.{◌≡◌, ℕ, zero, suc, Bool, true, ◌&&◌, ◌||◌, length}
use Rattle.std.specs.List.{list_any}
use Rattle.laziness.specs.Model.{Model}
use Rattle.laziness.specs.Laws.{IsClosed, Covers}

-- a round: the cells so far, and what one of them brings
abbrev pub round : (M : Model) → (M.Id → M.View) → ℕ → (M.Id → Bool) → M.Id → Bool
round M seen t S y = S y || list_any (λ x. S x && M.brings (seen x) t y) M.ids

-- so many rounds
abbrev pub rounds : (M : Model) → (M.Id → M.View) → ℕ → ℕ → (M.Id → Bool) → M.Id → Bool
rounds M seen t zero S = S
rounds M seen t (suc n) S = round M seen t (rounds M seen t n S)

-- the closure of what a request asks for at a second: as many rounds as there are names
abbrev pub closing : (M : Model) → (M.Id → M.View) → ℕ → M.Ask → M.Id → Bool
closing M seen t a = rounds M seen t (length M.ids) (M.asks a seen)

-- a set is the least closed one with what a request asks for
pub record IsLeast (M : Model) (seen : M.Id → M.View) (t : ℕ) (a : M.Ask) (S : M.Id → Bool) : Type 0 where
  pub closed : IsClosed M seen t S
  pub covers : Covers M seen a S
  pub least : (R : M.Id → Bool) → IsClosed M seen t R → Covers M seen a R → (x : M.Id) → S x ≡ true → R x ≡ true
