-- A cell counts the entries that touch it, and a journal knows its line.
use Rattle.std.proofs.Common.{◌≡◌, ◌≢◌, ℕ, ◌+◌, ◌<◌, ◌≤◌, Bool, true, false, ◌||◌, List, [], ◌∷◌, ◌++◌, length, refl, sym, ap, ◌∙◌, subst, arith, append_assoc, length-append, max, eq-eqb, ne_eqb}
use Rattle.std.specs.Prelude.{Contains, IsTrue, nat_eq, if◌then◌else◌, All, ◌==◌}
use Rattle.std.proofs.lemmas.List.{append-nil, length-map}
use Rattle.std.proofs.lemmas.List.Elements.{Contains-append_left, Contains-push}
use Rattle.std.proofs.lemmas.Bool.Decides.{nat_tests}
use Rattle.base_ids.proofs.Names.{player_is}
use Rattle.base_ids.specs.Cells.{same_cell}
use Rattle.base_ids.specs.declared.cell_id.CellId.{CellId}
use Rattle.base_ids.specs.declared.cell_id.CellId.TheVariants.{Account}
use Rattle.base_ids.specs.declared.player.Player.{Player}
use Rattle.request_text.specs.declared.entry.Entry.{Entry}
use Rattle.tick_model.specs.History.{IsLegalFrom}
use Rattle.fronts.specs.declared.claim.Claim.{Claim}
use Rattle.fronts.specs.declared.claim.Claim.TheVariants.{Pen, Number, Cell}
use Rattle.fronts.specs.declared.view.Sent.{Sent}
use Rattle.fronts.specs.declared.view.View.{View}
use Rattle.fronts.specs.Start.{Start}
use Rattle.fronts.specs.History.{IsBounded, IsHistory, calls_by, entries_of, found_by}
use Rattle.fronts.specs.Ends.{HasAllCalls, HasAllNumbers}
use Rattle.fronts.specs.Pair.{hits, last_moment, pair}
use Rattle.fronts.specs.Tokens.{Unites}
use Rattle.fronts.proofs.Following.{pen_sees_all}
use Rattle.fronts.proofs.Owning.{cell_itself, cells_are}
use Rattle.fronts.proofs.Standing.{stands_until_touched}
use Rattle.fronts.proofs.Listed.{all_tail}

pub has_only : (c : Claim) (cs : List Claim) → cs ≡ c ∷ [] → Contains cs c
has_only c cs is = subst (λ (l : List Claim). Contains l c) (sym is) (Contains-push [] c)

module _ (start : Start) where
  -- whoever takes the pen in has seen all that it has
  pub pen_is_whole : (v w new : View) → Unites start v w new → w.claims ≡ Pen ∷ [] → w.front ≡ new.front
  pen_is_whole v w new f pen = pen_sees_all start w.claims w.front new.front (has_only Pen w.claims pen) f.second

  -- and has nothing to learn of other notes
  pub pen_knows_all : (v w new : View) → Unites start v w new → Contains v.claims Pen → new.front ≡ v.front
  pen_knows_all v w new f pen = sym (pen_sees_all start v.claims v.front new.front pen f.first)

  pub hits_more : (cell : CellId) (before es : List Entry) (e : Entry) → hits start cell before (es ++ e ∷ []) ≡ hits start cell before es + (if start.touches (before ++ es) e cell then 1 else 0)
  hits_more cell before [] e = subst (λ (l : List Entry). (if start.touches before e cell then 1 else 0) + 0 ≡ 0 + (if start.touches l e cell then 1 else 0)) (sym (append-nil before)) (omega arith)
  hits_more cell before (x ∷ es) e =
      let rest = hits_more cell (before ++ x ∷ []) es e in
      let at : (before ++ x ∷ []) ++ es ≡ before ++ (x ∷ es) = append_assoc before (x ∷ []) es in
      let rest' = subst (λ (l : List Entry). hits start cell (before ++ x ∷ []) (es ++ e ∷ []) ≡ hits start cell (before ++ x ∷ []) es + (if start.touches l e cell then 1 else 0)) at rest in
      omega (arith, rest')

  -- the cell of a note counts right for whatever the note is taken into
  pub hits_stay : (cell : CellId) (n : ℕ) (v w new : View) → Unites start v w new → w.claims ≡ Cell cell ∷ [] → n ≡ hits start cell [] (entries_of w.front) → n ≡ hits start cell [] (entries_of new.front)
  hits_stay cell n v w new f named is =
      stands_until_touched start cell w.claims (has_only (Cell cell) w.claims named) (λ es. n ≡ hits start cell [] es)
      (λ before e off h. h ∙ (let more = hits_more cell [] before e in let none : ◌≡◌ {A = ℕ} (if start.touches before e cell then 1 else 0) 0 = rw off refl in omega (arith, more, none)))
      w.front new.front f.second is

  one_at_most : (b : Bool) → (if b then 1 else 0) ≤ 1
  one_at_most true = omega arith
  one_at_most false = omega arith

  -- no cell counts more entries than there are
  pub hits_at_most : (cell : CellId) (before es : List Entry) → hits start cell before es ≤ length es
  hits_at_most cell before [] = omega arith
  hits_at_most cell before (e ∷ es) = omega (arith, one_at_most (start.touches before e cell), hits_at_most cell (before ++ e ∷ []) es)

pub last_moment_more : (moment : ℕ) (es : List Entry) (e : Entry) → last_moment moment (es ++ e ∷ []) ≡ e.moment
last_moment_more moment [] e = refl
last_moment_more moment (x ∷ es) e = last_moment_more x.moment es e

legal_more : (number moment : ℕ) (es : List Entry) (e : Entry) → IsLegalFrom number moment es → e.number ≡ number + length es + 1 → e.moment ≡ max e.reading (last_moment moment es) → IsLegalFrom number moment (es ++ e ∷ [])
legal_more number moment [] e legal next latest = (record { next = omega arith; latest = latest }, tt)
legal_more number moment (x ∷ es) e legal next latest =
    let before = legal.0.next in
    (legal.0, legal_more x.number x.moment es e legal.1 (omega arith) latest)

module _ (start : Start) (first second : Player) (is : start ≡ pair first second) where
  -- the entry with the next number may follow, while there is room
  pub may_append : (front : List Sent) (n : ℕ) (e : Entry) → IsHistory start front → n ≡ length front → n < 1000 → e.number ≡ n + 1 → e.moment ≡ max e.reading (last_moment 0 (entries_of front)) → IsBounded start (entries_of front ++ e ∷ [])
  may_append front n e history count room number moment =
      let size : length (entries_of front) ≡ length front = length-map front (λ (s : Sent). s.entry) in
      let longer : length (entries_of front ++ e ∷ []) ≡ length (entries_of front) + 1 = length-append (entries_of front) (e ∷ []) in
      let bounded = subst (λ s. IsBounded s (entries_of front)) is history.bounded in
      subst (λ s. IsBounded s (entries_of front ++ e ∷ [])) (sym is)
      (record { legal = legal_more 0 0 (entries_of front) e bounded.legal (omega arith) moment; room = omega arith; numbers = omega arith })

  -- both cells are all that it touches
  pub has_touched : (cs : List Claim) → Contains cs (Cell (Account first)) → Contains cs (Cell (Account second)) → (before : List Entry) (e : Entry) (cell : CellId) → start.touches before e cell ≡ true → Contains cs (Cell cell)
  has_touched cs one other before e cell touches = on (same_cell (Account first) cell) refl (subst (λ s. s.touches before e cell ≡ true) is touches)
    where
      at : (id : CellId) → same_cell id cell ≡ true → Contains cs (Cell id) → Contains cs (Cell cell)
      at id same has = subst (λ x. Contains cs (Cell x)) (cells_are id cell same) has

      on : (b : Bool) → same_cell (Account first) cell ≡ b → same_cell (Account first) cell || same_cell (Account second) cell ≡ true → Contains cs (Cell cell)
      on true same t = at (Account first) same one
      on false same t = at (Account second) (subst (λ x. (x || same_cell (Account second) cell) ≡ true) same t) other

  pub touches_first : (before : List Entry) (e : Entry) → start.touches before e (Account first) ≡ true
  touches_first before e = subst (λ s. s.touches before e (Account first) ≡ true) (sym is) (rw (cell_itself (Account first)) refl)

  pub touches_second : (before : List Entry) (e : Entry) → start.touches before e (Account second) ≡ true
  touches_second before e = subst (λ s. s.touches before e (Account second) ≡ true) (sym is) (or_true (same_cell (Account first) (Account second)))
    where
      or_true : (b : Bool) → (b || same_cell (Account second) (Account second)) ≡ true
      or_true true = refl
      or_true false = cell_itself (Account second)

-- what a pass has after it took in the pen and two cells
module _ (cs one two three : List Claim) (a b : CellId) (pen : one ≡ cs ++ Pen ∷ []) (first : two ≡ one ++ Cell a ∷ []) (second : three ≡ two ++ Cell b ∷ []) where
  from_two : (c : Claim) → Contains two c → Contains three c
  from_two c h = subst (λ (l : List Claim). Contains l c) (sym second) (Contains-append_left two (Cell b ∷ []) c h)

  from_one : (c : Claim) → Contains one c → Contains three c
  from_one c h = from_two c (subst (λ (l : List Claim). Contains l c) (sym first) (Contains-append_left one (Cell a ∷ []) c h))

  pub has_pen : Contains three Pen
  has_pen = from_one Pen (subst (λ (l : List Claim). Contains l Pen) (sym pen) (Contains-push cs Pen))

  pub has_first : Contains three (Cell a)
  has_first = from_two (Cell a) (subst (λ (l : List Claim). Contains l (Cell a)) (sym first) (Contains-push one (Cell a)))

  pub has_second : Contains three (Cell b)
  has_second = subst (λ (l : List Claim). Contains l (Cell b)) (sym second) (Contains-push two (Cell b))

-- the cells of two players are two
pub cells_apart : (p q : Player) (a b : CellId) → a ≡ Account p → b ≡ Account q → p.k ≢ q.k → Cell a ≡ Cell b → ⊥
cells_apart p q a b one other apart same = let is : p ≡ q = cc (one, other, same) in apart (ap (λ (x : Player). x.k) is)

-- one hit more
pub one_hit_more : (start : Start) (cell : CellId) (n : ℕ) (xs : List Sent) (es : List Entry) (e : Entry) → n ≡ hits start cell [] (entries_of xs) → es ≡ entries_of xs ++ e ∷ [] → start.touches (entries_of xs) e cell ≡ true
    → n + 1 ≡ hits start cell [] es
one_hit_more start cell n xs es e is more touches =
    let one : ◌≡◌ {A = ℕ} (if start.touches (entries_of xs) e cell then 1 else 0) 1 = rw touches refl in
    let after = hits_more start cell [] (entries_of xs) e in
    let now : hits start cell [] es ≡ hits start cell [] (entries_of xs ++ e ∷ []) = ap (hits start cell []) more in
    omega (arith, after, one, now, is)

-- a cell is a player's account if the numbers are equal
pub account_is : (a p : Player) (cell : CellId) → cell ≡ Account a → (IsTrue (nat_eq a.k p.k) → cell ≡ Account p) × (cell ≡ Account p → IsTrue (nat_eq a.k p.k))
account_is a p cell is =
    ((λ t. let k : a.k ≡ p.k = grind (arith, nat_tests) in is ∙ ap Account (player_is a p k)), (λ e. let same : a ≡ p = cc (is, e) in let k : a.k ≡ p.k = ap (λ (x : Player). x.k) same in grind (arith, nat_tests)))

one_pass_or_other : (xs : List Sent) → All (λ s. (1 ≤ s.pass) × (s.pass < 3)) xs → length xs ≡ length (calls_by 1 xs) + length (calls_by 2 xs)
one_pass_or_other [] h = refl
one_pass_or_other (s ∷ xs) h =
    let bounds : (1 ≤ s.pass) × (s.pass < 3) = h 0 s (omega arith) in
    on (s.pass == 1) refl bounds (one_pass_or_other xs (all_tail (λ (x : Sent). (1 ≤ x.pass) × (x.pass < 3)) s xs h))
  where
    on : (b : Bool) → (s.pass == 1) ≡ b → (1 ≤ s.pass) × (s.pass < 3) → length xs ≡ length (calls_by 1 xs) + length (calls_by 2 xs) → length (s ∷ xs) ≡ length (calls_by 1 (s ∷ xs)) + length (calls_by 2 (s ∷ xs))
    on true one bounds rest =
        let not_two : (s.pass == 2) ≡ false = ne_eqb s.pass 2 (λ e. let is : s.pass ≡ 1 = grind (arith, nat_tests) in omega arith) in
        rw (one, not_two) (omega (arith, rest))
    on false not_one bounds rest =
        let two : (s.pass == 2) ≡ true = eq-eqb s.pass 2 (let off : s.pass ≢ 1 = grind (arith, nat_tests) in omega (arith, bounds.0, bounds.1)) in
        rw (not_one, two) (omega (arith, rest))

-- all entries are those of the two passes
pub two_passes : (first second : Player) (start : Start) (v : View) → start ≡ pair first second → HasAllCalls start v → v.next ≡ 3 → length v.front ≡ length (calls_by 1 v.front) + length (calls_by 2 v.front)
two_passes first second start v is all three =
    let none : found_by start ≡ [] = ap found_by is in
    let whole : all.later ≡ v.front = subst (λ (l : List Sent). l ++ all.later ≡ v.front) none all.begins in
    let passes : All (λ (s : Sent). (1 ≤ s.pass) × (s.pass < 3)) all.later = subst (λ n. All (λ (s : Sent). (1 ≤ s.pass) × (s.pass < n)) all.later) three all.calls in
    subst (λ (l : List Sent). length l ≡ length (calls_by 1 l) + length (calls_by 2 l)) whole (one_pass_or_other all.later passes)

-- the two numbers that were given
pub both_numbers : (v : View) → Contains v.claims (Number 1) → Contains v.claims (Number 2) → v.next ≡ 3 → HasAllNumbers v
both_numbers v one two three = record { may_give = λ none. omega arith; numbers = λ n least most. on n (n == 1) refl least (omega arith) }
  where
    on : (n : ℕ) (b : Bool) → (n == 1) ≡ b → 1 ≤ n → n < 3 → Contains v.claims (Number n)
    on n true is least most = let same : 1 ≡ n = grind (arith, nat_tests) in subst (λ m. Contains v.claims (Number m)) same one
    on n false is least most = let off : n ≢ 1 = grind (arith, nat_tests) in let same : 2 ≡ n = omega arith in subst (λ m. Contains v.claims (Number m)) same two
