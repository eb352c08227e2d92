-- Steps that are taken again and again add up.
use Rattle.std.proofs.Common.{◌≡◌, ℕ, zero, suc, ◌+◌, arith, refl, ap}
use Rattle.rates.specs.Times.{times}

-- no step changes nothing
pub times_none : {A : Type 0} (f : A → A) (x : A) → times 0 f x ≡ x
unfolding times
times_none f x = refl

pub times_once : {A : Type 0} (f : A → A) (x : A) → times 1 f x ≡ f x
unfolding times
times_once f x = refl

-- one step more comes last
pub times_next : {A : Type 0} (count : ℕ) (f : A → A) (x : A) → times (count + 1) f x ≡ f (times count f x)
unfolding times
times_next count f x = let next : count + 1 ≡ suc count = omega arith in rw next refl

-- so many steps, and then so many more, are the sum
pub times_add : {A : Type 0} (more count : ℕ) (f : A → A) (x : A) → times more f (times count f x) ≡ times (count + more) f x
unfolding times
times_add zero count f x = let none : count + 0 ≡ count = omega arith in rw none refl
times_add (suc more) count f x =
    let next : count + suc more ≡ suc (count + more) = omega arith in rw next (ap f (times_add more count f x))

-- the first step of many can be taken first
pub times_first : {A : Type 0} (count : ℕ) (f : A → A) (x : A) → times count f (f x) ≡ times (count + 1) f x
unfolding times
times_first zero f x = refl
times_first (suc count) f x =
    let next : suc count + 1 ≡ suc (count + 1) = omega arith in rw next (ap f (times_first count f x))

-- what each step keeps, many steps keep
pub times_keep : {A : Type 0} (Good : A → Type 0) (count : ℕ) (f : A → A) (x : A) → ((y : A) → Good y → Good (f y)) → Good x → Good (times count f x)
unfolding times
times_keep Good zero f x keeps good = good
times_keep Good (suc count) f x keeps good = keeps (times count f x) (times_keep Good count f x keeps good)
