-- When a turn is open, and which turn is next.
use Rattle.std.proofs.Common.{◌≡◌, ℕ, ◌+◌, ◌*◌, ◌<◌, ◌≤◌, List, [], ◌∷◌, ◌++◌, length, Bool, true, false, not, ◌&&◌, ◌||◌, ◌⊎◌, inl, inr, ap, ◌∙◌, sym, refl, arith}
use Rattle.std.specs.Prelude.{nat_lt}
use Rattle.std.proofs.lemmas.Bool.{both_ways, cases_order, eq-eqb, lt-ltb}
use Rattle.battle.proofs.Added.{alive_kept, any_more, is_alive_kept}
use Rattle.battle.specs.Shots.{Shot, is_alive, rank, unit_at}
use Rattle.battle.specs.Sides.{Battle, Party, attackers, planet, units}
use Rattle.battle.specs.Turns.{Turn, IsNext, half, has_fired, is_before, is_round_fought, is_open, is_same, turn_of}

-- a shot ends a turn if it is a shot of that turn and does not let the unit fire again
abbrev pub ends : Shot → Turn → Bool
ends s u = is_same (turn_of s) u && not s.again

spread : (f s a w h x : Bool) → (f && s && a && w && not (h || x)) ≡ ((f && s && a && w && not h) && not x)
spread false s a w h x = refl
spread true false a w h x = refl
spread true true false w h x = refl
spread true true true false h x = refl
spread true true true true true x = refl
spread true true true true false x = refl

-- after one more shot the same turns are open, up to its round, but for the one that it ends
pub open_after : (b : Battle) (shots : List Shot) (s : Shot) (u : Turn) → u.round ≤ s.round → is_open b (shots ++ s ∷ []) u ≡ (is_open b shots u && not (ends s u))
open_after b shots s u late =
    rw (alive_kept b shots s u.round attackers late)
    (rw (alive_kept b shots s u.round planet late)
    (rw (is_alive_kept shots s u.round u.party u.place late)
    (rw (any_more (λ t. is_same (turn_of t) u && not t.again) shots s)
    (spread (is_round_fought b shots u.round) (nat_lt u.place (length (units b u.party))) (is_alive shots u.round u.party u.place) (nat_lt 0 (unit_at b u.party u.place).attack) (has_fired shots u) (ends s u)))))

-- a half of a round tells its side
pub same_round : (t u : Turn) → half t ≡ half u → t.round ≡ u.round
same_round t u same = either t.party u.party same
  where
    either : (p q : Party) → 2 * t.round + rank p ≡ 2 * u.round + rank q → t.round ≡ u.round
    either attackers attackers same = omega (arith, same)
    either attackers planet same = omega (arith, same)
    either planet attackers same = omega (arith, same)
    either planet planet same = omega (arith, same)

parity : (m n : ℕ) → 2 * m ≡ 2 * n + 1 → ⊥
parity m n odd = omega (arith, odd)

pub same_party : (t u : Turn) → half t ≡ half u → t.party ≡ u.party
same_party t u same = either t.party u.party same
  where
    either : (p q : Party) → 2 * t.round + rank p ≡ 2 * u.round + rank q → p ≡ q
    either attackers attackers same = refl
    either attackers planet same = elim (parity t.round u.round (omega (arith, same))) [ ]
    either planet attackers same = elim (parity u.round t.round (omega (arith, same))) [ ]
    either planet planet same = refl

abbrev pub make : ℕ → Party → ℕ → Turn
make round party place = record { round = round; party = party; place = place }

pub same_turn : (t u : Turn) → half t ≡ half u → t.place ≡ u.place → t ≡ u
same_turn t u same place = ap (λ r. make r t.party t.place) (same_round t u same) ∙ ap (λ p. make u.round p t.place) (same_party t u same) ∙ ap (λ k. make u.round u.party k) place

-- of two turns one is before the other, or they are one
pub turns_in_order : (t u : Turn) → (t ≡ u) ⊎ ((is_before t u ≡ true) ⊎ (is_before u t ≡ true))
turns_in_order t u = by_half (cases_order (half t) (half u)) (cases_order t.place u.place)
  where
    earlier : (t u : Turn) → half t < half u → is_before t u ≡ true
    earlier t u less = rw (lt-ltb (half t) (half u) less) refl

    beside : (t u : Turn) → half t ≡ half u → t.place < u.place → is_before t u ≡ true
    beside t u same less = grind (arith, eq-eqb (half t) (half u) same, lt-ltb t.place u.place less)

    by_half : (half t ≡ half u) ⊎ ((half t < half u) ⊎ (half u < half t)) → (t.place ≡ u.place) ⊎ ((t.place < u.place) ⊎ (u.place < t.place)) → (t ≡ u) ⊎ ((is_before t u ≡ true) ⊎ (is_before u t ≡ true))
    by_half (inr (inl less)) places = inr (inl (earlier t u less))
    by_half (inr (inr less)) places = inr (inr (earlier u t less))
    by_half (inl same) (inl place) = inl (same_turn t u same place)
    by_half (inl same) (inr (inl less)) = inr (inl (beside t u same less))
    by_half (inl same) (inr (inr less)) = inr (inr (beside u t (sym same) less))

-- at most one turn is next
pub next_once : (b : Battle) (shots : List Shot) (t u : Turn) → IsNext b shots t → IsNext b shots u → t ≡ u
next_once b shots t u first second = either (turns_in_order t u)
  where
    either : (t ≡ u) ⊎ ((is_before t u ≡ true) ⊎ (is_before u t ≡ true)) → t ≡ u
    either (inl same) = same
    either (inr (inl less)) = elim (both_ways (is_open b shots t) (second.first t less) first.open_now) [ ]
    either (inr (inr less)) = elim (both_ways (is_open b shots u) (first.first u less) second.open_now) [ ]
