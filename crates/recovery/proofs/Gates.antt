-- What calls on a disk leave of the gate of an area.
use Rattle.std.proofs.Common.{◌≡◌, ◌≢◌, ℕ, suc, ◌+◌, ◌≤◌, inl, inr, Bool, true, false, not, nat_eq, List, [], ◌∷◌, ◌++◌, length, take, drop, refl, ap, ◌∙◌, sym, subst, arith}
use Rattle.std.specs.Prelude.{slice_index}
use Rattle.std.proofs.lemmas.Bool.{cases_eq}
use Rattle.std.proofs.lemmas.Bool.Decides.{nat_tests}
use Rattle.std.proofs.Math.Seq.{drop-nil}
use Rattle.std.proofs.lemmas.List.{append-nil, drop_all, ext_get_or, take-take}
use Rattle.disk_port.specs.Contents.{given, written, Torn, Shortened}
use Rattle.recovery.specs.Areas.{IsMarked, IsOpen}
use Rattle.recovery.specs.Laying.{HasBehind, HasGate, IsClosedAs, IsClosing, IsOpening, IsUnclosed, begins, empty, opened, shut, stood, unopened}

-- what a gate doesn't open
pub gate-shut : (c : List ℕ) → HasGate c → IsOpen c → ⊥
gate-shut c has opens =
    let first : slice_index c 0 ≡ has.gate = ap (λ (l : List ℕ). slice_index l 0) has.is in
    has.closed (sym first ∙ opens.marked.0)

-- a write of the gate tears the gate alone
first-torn : (x : ℕ) (rest c : List ℕ) → Torn 0 1 (x ∷ rest) c → (y : ℕ) × (c ≡ y ∷ rest)
first-torn x rest [] torn = absurd (let some = torn.no_shorter in omega (arith, some))
first-torn x rest (y ∷ ys) torn =
    let least = torn.no_shorter in
    let most = torn.no_longer in
    let long : length ys ≡ length rest = omega (arith, least, most) in
    let same : ys ≡ rest = ext_get_or 0 ys rest long (λ i within. torn.above (suc i) (omega (arith, within, long)) (omega arith)) in
    (y, ap (λ (l : List ℕ). y ∷ l) same)

empty-torn : (d c : List ℕ) → d ≡ [] → Torn 0 1 d c → IsOpen c → ⊥
empty-torn d c none torn opens =
    let most = torn.no_longer in
    let zero_long : length d ≡ 0 = ap length none in
    let long = opens.long in
    absurd (omega (arith, most, zero_long, long))

-- a gate is as it was, or it opens nothing
gate-or : (x y : ℕ) (rest c : List ℕ) → c ≡ y ∷ rest → (y ≡ x → IsOpening (x ∷ rest) c) → (y ≢ x → IsOpening (x ∷ rest) c) → IsOpening (x ∷ rest) c
gate-or x y rest c is same other = elim (cases_eq y x) [ inl one ↦ same one | inr apart ↦ other apart ]

gate-opens : (y : ℕ) (rest c : List ℕ) → c ≡ y ∷ rest → IsOpening (1 ∷ rest) c
gate-opens y rest c is =
    gate-or 1 y rest c is
    (λ one. opened (is ∙ ap (λ (n : ℕ). n ∷ rest) one))
    (λ other. unopened (gate-shut c (record { gate = y; closed = other; rest = rest; is = is })))

pub open-torn : (bytes d c : List ℕ) → HasBehind bytes d → Torn 0 1 d c → IsOpening (1 ∷ bytes) c
open-torn bytes d c has torn =
    let found = first-torn has.gate bytes c (subst (λ (l : List ℕ). Torn 0 1 l c) has.is torn) in
    gate-opens found.0 bytes c found.1

-- a gate is closed that was open
pub unclosed-torn : (before : List ℕ → Type 0) (d c : List ℕ) → IsUnclosed d → before d → Torn 0 1 d c → IsClosing before c
unclosed-torn before d c (empty none) was torn = shut (empty-torn d c none torn)
unclosed-torn before d c (begins rest is) was torn =
    let found = first-torn 1 rest c (subst (λ (l : List ℕ). Torn 0 1 l c) is torn) in
    elim (gate-opens found.0 rest c found.1) [
      | opened same ↦ stood (subst before (is ∙ sym same) was)
      | unopened other ↦ shut other
    ]

zero-shut : (n : ℕ) → n ≡ 0 → n ≢ 1
zero-shut n is one = absurd (omega (arith, is, one))

pub closed-written : (s : List ℕ) → HasGate (written s 0 (0 ∷ []))
closed-written s = record { gate = 0; closed = zero-shut 0 refl; rest = drop 1 s; is = refl }

pub opened-written : (bytes d : List ℕ) → HasBehind bytes d → written d 0 (1 ∷ []) ≡ 1 ∷ bytes
opened-written bytes d has = ap (λ (l : List ℕ). written l 0 (1 ∷ [])) has.is

-- what a read of the gate tells
gate-told : (x : ℕ) (xs : List ℕ) (b : Bool) → nat_eq x 1 ≡ b → IsClosedAs (not b) (x ∷ xs)
gate-told x xs true is = begins xs (ap (λ (n : ℕ). n ∷ xs) (let one : x ≡ 1 = grind (arith, nat_tests) in one))
gate-told x xs false is = record { gate = x; closed = (let other : x ≢ 1 = grind (arith, nat_tests) in other); rest = xs; is = refl }

pub closed-read : (s into : List ℕ) (n : ℕ) → n ≡ 1 → n ≡ given s 0 1 → into ≡ take n (drop 0 s) ++ drop n (0 ∷ []) → IsClosedAs (not (nat_eq (slice_index into 0) 1)) s
closed-read [] into n one count bytes = absurd (let none : given [] 0 1 ≡ 0 = omega arith in omega (arith, one, count, none))
closed-read (x ∷ xs) into n one count bytes =
    let read : into ≡ x ∷ [] = bytes ∙ ap (λ (k : ℕ). take k (x ∷ xs) ++ drop k (0 ∷ [])) one in
    subst (λ (l : List ℕ). IsClosedAs (not (nat_eq (slice_index l 0) 1)) (x ∷ xs)) (sym read) (gate-told x xs (nat_eq x 1) refl)

pub unread : (s : List ℕ) (n : ℕ) → n ≢ 1 → n ≡ given s 0 1 → IsUnclosed s
unread [] n other count = empty refl
unread (x ∷ xs) n other count = absurd (let one : given (x ∷ xs) 0 1 ≡ 1 = omega arith in other (omega (arith, count, one)))

-- What a read of the first 58 bytes tells.

front-marked : (s : List ℕ) → (slice_index (take 58 s) 0 ≡ slice_index s 0) × (take 8 (drop 1 (take 58 s)) ≡ take 8 (drop 1 s))
front-marked [] = (refl, refl)
front-marked (x ∷ xs) = (refl, take-take 8 57 xs (omega arith))

read-front : (s into old : List ℕ) (n : ℕ) → n ≡ 58 → length old ≡ 58 → into ≡ take n (drop 0 s) ++ drop n old → into ≡ take 58 s
read-front s into old n all long bytes =
    bytes ∙ ap (λ (k : ℕ). take k s ++ drop k old) all ∙ ap (λ (l : List ℕ). take 58 s ++ l) (drop_all 58 old (omega (arith, long))) ∙ append-nil (take 58 s)

pub read-open : (s into old : List ℕ) (n : ℕ) → n ≡ 58 → length old ≡ 58 → n ≡ given s 0 58 → into ≡ take n (drop 0 s) ++ drop n old → (IsMarked into → IsOpen s) × (IsOpen s → IsMarked into)
read-open s into old n all long count bytes =
    let front = read-front s into old n all long bytes in
    let same = front-marked s in
    let gate : slice_index into 0 ≡ slice_index s 0 = ap (λ (l : List ℕ). slice_index l 0) front ∙ same.0 in
    let mark : take 8 (drop 1 into) ≡ take 8 (drop 1 s) = ap (λ (l : List ℕ). take 8 (drop 1 l)) front ∙ same.1 in (
      λ marked. record { long = (let is : given s 0 58 ≡ 58 = sym count ∙ all in omega (arith, is)); marked = (sym gate ∙ marked.0, sym mark ∙ marked.1) },
      λ opens. (gate ∙ opens.marked.0, mark ∙ opens.marked.1),
    )

pub read-short : (s : List ℕ) (n : ℕ) → n ≢ 58 → n ≡ given s 0 58 → IsOpen s → ⊥
read-short s n other count opens = let long = opens.long in other (omega (arith, count, long))

-- What a cut or a write behind the gate leaves.

first-kept : (x : ℕ) (rest c : List ℕ) → 1 ≤ length c → slice_index c 0 ≡ x → (more : List ℕ) × (c ≡ x ∷ more)
first-kept x rest [] some same = absurd (omega (arith, some))
first-kept x rest (y ∷ ys) some same = (ys, ap (λ (n : ℕ). n ∷ ys) same)

kept-gate : (d c : List ℕ) → HasGate d → 1 ≤ length c → slice_index c 0 ≡ slice_index d 0 → HasGate c
kept-gate d c has some same =
    let first : slice_index d 0 ≡ has.gate = ap (λ (l : List ℕ). slice_index l 0) has.is in
    let kept = first-kept has.gate has.rest c some (same ∙ first) in
    record { gate = has.gate; closed = has.closed; rest = kept.0; is = kept.1 }

gate-long : (d : List ℕ) → HasGate d → 1 ≤ length d
gate-long d has = let long : length d ≡ suc (length has.rest) = ap length has.is in omega (arith, long)

pub cut-gate : (d c : List ℕ) → HasGate d → Shortened 1 d c → HasGate c
cut-gate d c has short =
    let long = gate-long d has in
    let least = short.no_shorter in
    kept-gate d c has (omega (arith, long, least)) (short.below 0 (omega (arith, long)) (omega arith))

pub behind-gate : (n : ℕ) (d c : List ℕ) → HasGate d → Torn 1 n d c → HasGate c
behind-gate n d c has torn =
    let long = gate-long d has in
    let least = torn.no_shorter in
    kept-gate d c has (omega (arith, long, least)) (torn.below 0 (omega (arith, long)) (omega arith))

-- there is the place for what is written behind it
pub cut-long : (d : List ℕ) → HasGate d → 1 ≤ length (take 1 d)
cut-long d has = let one : length (take 1 d) ≡ 1 = ap (λ (l : List ℕ). length (take 1 l)) has.is in omega (arith, one)

drop-short : (x : ℕ) (n : ℕ) → drop (1 + n) (x ∷ []) ≡ []
drop-short x n =
    let more : 1 + n ≡ suc n = omega arith in
    ap (λ (k : ℕ). drop k (x ∷ [])) more ∙ drop-nil n

pub filled : (d bytes : List ℕ) → HasGate d → HasBehind bytes (written (take 1 d) 1 bytes)
filled d bytes has = record {
  gate = has.gate;
  closed = has.closed;
  is = ap (λ (l : List ℕ). written (take 1 l) 1 bytes) has.is ∙ ap (λ (l : List ℕ). (has.gate ∷ bytes) ++ l) (drop-short has.gate (length bytes)) ∙ append-nil (has.gate ∷ bytes);
}
