-- A share is what its bounds say, and nothing else is.
use Rattle.std.proofs.Common.{◌≡◌, ℕ, ◌+◌, ◌*◌, ◌/◌, ◌<◌, ◌≤◌, inl, inr, min, arith}
use Rattle.std.proofs.Math.Nat.{mul-le-mul_left}
use Rattle.std.proofs.lemmas.Bool.{cases_order}
use Rattle.base_num.proofs.Quotients.{floor_bounds}
use Rattle.spoils.specs.Shares.{IsShare}

pub share_bounds : (room parts there : ℕ) → 1 ≤ parts → IsShare room parts there (min (room / parts) there)
share_bounds room parts there some =
    let floor = floor_bounds room parts some in
    let part = room / parts in
    let under : parts * min part there ≤ parts * part = mul-le-mul_left parts (omega arith) in
    record {
      within = omega arith;
      fits = omega (arith, under, floor.fits);
      most = λ more. let same : min part there ≡ part = omega (arith, more) in rw same floor.most;
    }

-- a share is no smaller than another of the same room
not_below : (room parts there a b : ℕ) → IsShare room parts there a → IsShare room parts there b → a < b → ⊥
not_below room parts there a b first second less =
    let more = first.most (omega (arith, less, second.within)) in
    let under : parts * (a + 1) ≤ parts * b = mul-le-mul_left parts (omega (arith, less)) in
    omega (arith, more, under, second.fits)

share_once : (room parts there a b : ℕ) → IsShare room parts there a → IsShare room parts there b → a ≡ b
share_once room parts there a b first second =
    elim (cases_order a b) [
      | inl same ↦ same
      | inr other ↦
          elim other [
            | inl less ↦ absurd (not_below room parts there a b first second less)
            | inr more ↦ absurd (not_below room parts there b a second first more)
          ]
    ]

pub share_is : (room parts there taken : ℕ) → 1 ≤ parts → IsShare room parts there taken → taken ≡ min (room / parts) there
share_is room parts there taken some share = share_once room parts there taken (min (room / parts) there) share (share_bounds room parts there some)

pub ruleset shares = (share_bounds)
