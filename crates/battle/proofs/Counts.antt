-- The units that are left, counted by their kinds.
use Rattle.std.proofs.Common.{◌≡◌, ◌≢◌, ℕ, ◌+◌, ◌-◌, ◌<◌, ◌≤◌, ◌==◌, ◌&&◌, Bool, cond, List, [], ◌∷◌, ◌++◌, length, map, get_or, refl, ap, sym, ◌∙◌, subst, arith, inl, inr, add-zero}
use Rattle.std.specs.List.{enumerate_from, range_with_len}
use Rattle.std.proofs.Math.ListN.{set}
use Rattle.std.proofs.lemmas.List.{ext_get_or, get_or-map, get_or-set_other, get_or-set_same, get_or_append_left, get_or-append_right, length-map, length-set}
use Rattle.std.proofs.lemmas.List.Sums.{count_by-le-length, sum_by-append, sum_by-cons}
use Rattle.std.proofs.lemmas.List.FromFn.{get_or-enumerate_from, get_or-range_with_len, length-enumerate_from}
use Rattle.std.proofs.lemmas.Bool.{cases_eq, cases_lt, eq-eqb, ne_eqb}
use Rattle.catalog.specs.Kinds.{kind_number}
use Rattle.catalog.specs.declared.classes.TheConstants.{UNIT_KINDS}
use Rattle.catalog.specs.declared.kind.Kind.{Kind}
use Rattle.catalog.specs.declared.kind.Kind.TheVariants.{SmallCargo}
use Rattle.battle.specs.declared.fighter.Fighter.{Fighter}
use Rattle.battle.specs.declared.part.Part.{Part}
use Rattle.battle.specs.Outcomes.{count_of, survivors}
use Rattle.battle.specs.Places.{GainsOne, unit_number}
use Rattle.battle.specs.Trace.{one_if}

-- the numbers of the kinds of units, in their order
numbers : map kind_number UNIT_KINDS ≡ range_with_len 41 14 ++ range_with_len 61 8
numbers = refl

unit_number_at : (place : ℕ) → place < 22 → unit_number place ≡ get_or (range_with_len 41 14 ++ range_with_len 61 8) place 0
unit_number_at place within = sym (get_or-map kind_number UNIT_KINDS place SmallCargo 0 within) ∙ ap (λ (ns : List ℕ). get_or ns place 0) numbers

-- the ships and the satellite come first
pub ship_number : (place : ℕ) → place < 14 → unit_number place ≡ 41 + place
ship_number place within =
    unit_number_at place (omega arith) ∙ get_or_append_left (range_with_len 41 14) (range_with_len 61 8) 0 place within ∙ get_or-range_with_len 41 14 place 0 within

-- the defences come after them
pub defence_number : (place : ℕ) → 14 ≤ place → place < 22 → unit_number place ≡ 47 + place
defence_number place behind within =
    let at : get_or (range_with_len 61 8) (place - 14) 0 ≡ 61 + (place - 14) = get_or-range_with_len 61 8 (place - 14) 0 (omega arith) in
    let back : 61 + (place - 14) ≡ 47 + place = omega arith in
    unit_number_at place within ∙ get_or-append_right (range_with_len 41 14) (range_with_len 61 8) 14 place 0 refl behind ∙ at ∙ back

-- no kind has two places
pub one_place : (i j : ℕ) → i < 22 → j < 22 → unit_number i ≡ unit_number j → i ≡ j
one_place i j i_within j_within same =
    elim (cases_lt i 14) [
      | inl a ↦
          elim (cases_lt j 14) [
            | inl b ↦ omega (arith, ship_number i a, ship_number j b, same)
            | inr b ↦ absurd (omega (arith, ship_number i a, defence_number j b j_within, same))
          ]
      | inr a ↦
          elim (cases_lt j 14) [
            | inl b ↦ absurd (omega (arith, defence_number i a i_within, ship_number j b, same))
            | inr b ↦ omega (arith, defence_number i a i_within, defence_number j b j_within, same)
          ]
    ]

-- what stands for a read outside a side
abbrev pub no_part : Part
no_part = record { number = 0; techs = record { n = [] }; n = [] }

-- one unit more at its place
pub added : (part : Part) (kind : Kind) (at : ℕ) → at < length part.n → at < 22 → unit_number at ≡ kind_number kind
    → GainsOne kind part (record part { n = set part.n at (get_or part.n at 0 + 1) })
added part kind at long within is =
    record {
      same_part = refl;
      as_many = length-set part.n at (get_or part.n at 0 + 1);
      one_more = one_more;
    }
  where
    one_more : (place : ℕ) → place < 22 → get_or (set part.n at (get_or part.n at 0 + 1)) place 0 ≡ get_or part.n place 0 + one_if (kind_number kind == unit_number place)
    one_more place inside =
        elim (cases_eq place at) [
          | inl here ↦
              let here_is : kind_number kind ≡ unit_number place = sym is ∙ ap unit_number (sym here) in
              rw (here, get_or-set_same part.n at (get_or part.n at 0 + 1) 0 long, eq-eqb (kind_number kind) (unit_number at) (sym is)) refl
          | inr elsewhere ↦
              let apart : kind_number kind ≡ unit_number place → ⊥ = λ same. elsewhere (one_place place at inside within (sym (is ∙ same))) in
              rw (get_or-set_other part.n at place (get_or part.n at 0 + 1) 0 elsewhere, ne_eqb (kind_number kind) (unit_number place) apart, add-zero) refl
        ]

-- what is no unit changes no count
pub not_added : (part : Part) (kind : Kind) → ((place : ℕ) → place < 22 → unit_number place ≢ kind_number kind) → GainsOne kind part part
not_added part kind none =
    record {
      same_part = refl;
      as_many = refl;
      one_more = λ place inside. rw (ne_eqb (kind_number kind) (unit_number place) (λ same. none place inside (sym same)), add-zero) refl;
    }

-- a part with the units that are left of it
abbrev pub left_of : List Fighter → ℕ → Part → Part
left_of living place part = record part { n = map (count_of living place) UNIT_KINDS }

-- one unit more counts for its part and its kind, and for no other
count_more : (living : List Fighter) (f : Fighter) (part : ℕ) (kind : Kind)
    → count_of (living ++ f ∷ []) part kind ≡ count_of living part kind + one_if (f.part == part && kind_number f.kind == kind_number kind)
count_more living f part kind =
    let one = λ (g : Fighter). cond {A = ℕ} (g.part == part && kind_number g.kind == kind_number kind) 1 0 in
    let both = sum_by-append one living (f ∷ []) in
    let last = sum_by-cons one f [] in
    omega (arith, both, last)

-- the count at a place
count_at : (living : List Fighter) (part place : ℕ) → place < 22 → get_or (map (count_of living part) UNIT_KINDS) place 0 ≡ count_of living part (get_or UNIT_KINDS place SmallCargo)
count_at living part place inside = get_or-map (count_of living part) UNIT_KINDS place SmallCargo 0 inside

-- the part at a place, with its units
survivor_at : (living : List Fighter) (parts : List Part) (i : ℕ) (d : Part) → i < length parts → get_or (survivors living parts) i d ≡ left_of living i (get_or parts i d)
survivor_at living parts i d within =
    let first : 0 + i ≡ i = omega arith in
    get_or-map (λ (placed : ℕ × Part). left_of living placed.0 placed.1) (enumerate_from 0 parts) i (0, d) d (rw (length-enumerate_from 0 parts) within)
    ∙ ap (λ (placed : ℕ × Part). left_of living placed.0 placed.1) (get_or-enumerate_from 0 parts i (0, d) within)
    ∙ ap (λ (place : ℕ). left_of living place (get_or parts i d)) first

length-survivors : (living : List Fighter) (parts : List Part) → length (survivors living parts) ≡ length parts
length-survivors living parts = length-map (enumerate_from 0 parts) (λ (placed : ℕ × Part). left_of living placed.0 placed.1) ∙ length-enumerate_from 0 parts

-- the counts of another part stay
counts_same : (living : List Fighter) (f : Fighter) (part : ℕ) → f.part ≢ part → map (count_of (living ++ f ∷ []) part) UNIT_KINDS ≡ map (count_of living part) UNIT_KINDS
counts_same living f part other =
    ext_get_or 0 (map (count_of (living ++ f ∷ []) part) UNIT_KINDS) (map (count_of living part) UNIT_KINDS) refl
    (λ place inside.
    let kind = get_or UNIT_KINDS place SmallCargo in
    let more : one_if (f.part == part && kind_number f.kind == kind_number kind) ≡ 0 = rw (ne_eqb f.part part other) refl in
    let same : count_of (living ++ f ∷ []) part kind ≡ count_of living part kind = count_more living f part kind ∙ omega (arith, more) in
    count_at (living ++ f ∷ []) part place inside ∙ same ∙ sym (count_at living part place inside))

-- the counts of the unit's part are one more at its kind
counts_more : (living : List Fighter) (f : Fighter) (old new : Part) → old.n ≡ map (count_of living f.part) UNIT_KINDS → GainsOne f.kind old new → new.n ≡ map (count_of (living ++ f ∷ []) f.part) UNIT_KINDS
counts_more living f old new old_is gains =
    ext_get_or 0 new.n (map (count_of (living ++ f ∷ []) f.part) UNIT_KINDS) long
    (λ place within.
    let inside : place < 22 = omega (arith, within, long) in
    let kind = get_or UNIT_KINDS place SmallCargo in
    let own : (f.part == f.part && kind_number f.kind == kind_number kind) ≡ (kind_number f.kind == kind_number kind) = rw (eq-eqb f.part f.part refl) refl in
    gains.one_more place inside
    ∙ ap (λ (ns : List ℕ). get_or ns place 0 + one_if (kind_number f.kind == unit_number place)) old_is
    ∙ ap (λ (n : ℕ). n + one_if (kind_number f.kind == unit_number place)) (count_at living f.part place inside)
    ∙ ap (λ (b : Bool). count_of living f.part kind + one_if b) (sym own)
    ∙ sym (count_more living f f.part kind)
    ∙ sym (count_at (living ++ f ∷ []) f.part place inside))
  where
    long : length new.n ≡ 22
    long = gains.as_many ∙ ap length old_is

-- one unit more in its part
pub survivors_more : (living : List Fighter) (f : Fighter) (parts : List Part) (at d : Part) → f.part < length parts
    → GainsOne f.kind (get_or (survivors living parts) f.part d) at
    → set (survivors living parts) f.part at ≡ survivors (living ++ f ∷ []) parts
survivors_more living f parts at d within gains =
    ext_get_or d (set (survivors living parts) f.part at) (survivors (living ++ f ∷ []) parts)
    (length-set (survivors living parts) f.part at ∙ length-survivors living parts ∙ sym (length-survivors (living ++ f ∷ []) parts))
    (λ i inside. each i (omega (arith, inside, length-set (survivors living parts) f.part at, length-survivors living parts)))
  where
    found : get_or (survivors living parts) f.part d ≡ left_of living f.part (get_or parts f.part d)
    found = survivor_at living parts f.part d within

    gained : at ≡ left_of (living ++ f ∷ []) f.part (get_or parts f.part d)
    gained =
        gains.same_part
        ∙ ap (λ (part : Part). record part { n = at.n }) found
        ∙ ap (λ (ns : List ℕ). record (get_or parts f.part d) { n = ns })
        (counts_more living f (get_or (survivors living parts) f.part d) at (ap (λ (part : Part). part.n) found) gains)

    each : (i : ℕ) → i < length parts → get_or (set (survivors living parts) f.part at) i d ≡ get_or (survivors (living ++ f ∷ []) parts) i d
    each i inside =
        elim (cases_eq i f.part) [
          | inl here ↦
              rw (here, get_or-set_same (survivors living parts) f.part at d (rw (length-survivors living parts) within)) (gained ∙ sym (survivor_at (living ++ f ∷ []) parts f.part d within))
          | inr elsewhere ↦
              get_or-set_other (survivors living parts) f.part i at d elsewhere
              ∙ survivor_at living parts i d inside
              ∙ ap (λ (ns : List ℕ). record (get_or parts i d) { n = ns }) (sym (counts_same living f i (λ same. elsewhere (sym same))))
              ∙ sym (survivor_at (living ++ f ∷ []) parts i d inside)
        ]

-- a unit of no part changes nothing
pub survivors_same : (living : List Fighter) (f : Fighter) (parts : List Part) (d : Part) → length parts ≤ f.part → survivors living parts ≡ survivors (living ++ f ∷ []) parts
survivors_same living f parts d outside =
    ext_get_or d (survivors living parts) (survivors (living ++ f ∷ []) parts) (length-survivors living parts ∙ sym (length-survivors (living ++ f ∷ []) parts))
    (λ i within.
    let inside : i < length parts = omega (arith, within, length-survivors living parts) in
    survivor_at living parts i d inside
    ∙ ap (λ (ns : List ℕ). record (get_or parts i d) { n = ns }) (sym (counts_same living f i (λ same. (omega (arith, same, inside, outside)))))
    ∙ sym (survivor_at (living ++ f ∷ []) parts i d inside))

-- no part has more units of a kind than there are
pub survivor_count : (living : List Fighter) (parts : List Part) (at place : ℕ) (d : Part) → at < length parts → place < 22 → get_or (get_or (survivors living parts) at d).n place 0 ≤ length living
survivor_count living parts at place d within inside =
    let counted = count_by-le-length (λ f. f.part == at && kind_number f.kind == kind_number (get_or UNIT_KINDS place SmallCargo)) living in
    rw (survivor_at living parts at d within, count_at living at place inside) counted

-- a unit more is looked at: one of a part
pub kept_more : (before more : List Fighter) (f : Fighter) (parts side after : List Part) (at d : Part) → more ≡ before ++ f ∷ []
    → side ≡ survivors before parts → f.part < length side → GainsOne f.kind (get_or side f.part d) at → after ≡ set side f.part at
    → after ≡ survivors more parts
kept_more before more f parts side after at d one so_far inside gains after_is =
    let P : List Part → Type 0 = λ s. GainsOne f.kind (get_or s f.part d) at in
    let long = ap length so_far ∙ length-survivors before parts in
    after_is
    ∙ ap (λ (s : List Part). set s f.part at) so_far
    ∙ survivors_more before f parts at d (omega (arith, inside, long)) (subst P so_far gains)
    ∙ ap (λ (fs : List Fighter). survivors fs parts) (sym one)

-- a unit more is looked at: one of no part
pub kept_same : (before more : List Fighter) (f : Fighter) (parts side after : List Part) (d : Part) → more ≡ before ++ f ∷ []
    → side ≡ survivors before parts → length side ≤ f.part → after ≡ side
    → after ≡ survivors more parts
kept_same before more f parts side after d one so_far outside after_is =
    let long = ap length so_far ∙ length-survivors before parts in
    after_is ∙ so_far ∙ survivors_same before f parts d (omega (arith, outside, long)) ∙ ap (λ (fs : List Fighter). survivors fs parts) (sym one)

-- no count is above how many units were looked at
pub kept_room : (before : List Fighter) (at most : ℕ) (parts side : List Part) (d : Part) → length before < most
    → side ≡ survivors before parts → at < length side → (place : ℕ) → place < 22 → get_or (get_or side at d).n place 0 < most
kept_room before at most parts side d fewer so_far inside place below =
    let long = ap length so_far ∙ length-survivors before parts in
    let count = survivor_count before parts at place d (omega (arith, inside, long)) below in
    let same = ap (λ (s : List Part). get_or (get_or s at d).n place 0) so_far in
    omega (arith, count, same, fewer)
