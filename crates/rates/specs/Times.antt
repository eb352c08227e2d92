-- A step that is taken again and again.
use Rattle.std.specs.Prelude.{ℕ, zero, suc}

-- x after the step f was taken so many times
unfoldable pub times : {A : Type 0} → ℕ → (A → A) → A → A
times zero f x = x
times (suc count) f x = f (times count f x)
