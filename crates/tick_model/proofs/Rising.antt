-- What is done keeps the limits: of what was queued one thing is no longer queued, but there.
use Rattle.std.proofs.Common.{◌≡◌, ℕ, suc, ◌+◌, ◌-◌, ◌<◌, ◌≤◌, Bool, true, false, cond, nat_le, List, [], ◌∷◌, length, sum, arith, refl, ap, ◌∙◌, sym, subst}
use Rattle.std.specs.Prelude.{slice_index}
use Rattle.base_ids.specs.Cells.{same_cell}
use Rattle.base_ids.specs.declared.cell_id.CellId.{CellId}
use Rattle.base_ids.specs.declared.cell_id.CellId.TheVariants.{Planet}
use Rattle.catalog.specs.Classes.{is_building, is_technology}
use Rattle.catalog.specs.Kinds.{place_in}
use Rattle.catalog.specs.Levels.{level_cap_of}
use Rattle.catalog.specs.Technologies.{level_in}
use Rattle.catalog.specs.declared.classes.TheConstants.{BUILDINGS, TECHNOLOGIES, UNIT_KINDS}
use Rattle.catalog.specs.declared.kind.Kind.{Kind}
use Rattle.catalog.specs.declared.kind.Kind.TheVariants.{Computer}
use Rattle.tick_model.specs.Buildings.{Works, can_pay, done, next_price, pays, raised, started, starts_first}
use Rattle.tick_model.specs.Changes.{put_own}
use Rattle.tick_model.specs.Limits.{KeepsLevels, KeepsTechs, OthersWait, Rises, Waits, ordered_units}
use Rattle.tick_model.specs.Lines.{slots_of}
use Rattle.tick_model.specs.Production.{level_of}
use Rattle.tick_model.specs.Refusals.{is_dome, queued, used_fields}
use Rattle.tick_model.specs.Researches.{can_start, learned, pays_research, researched, starts_first_research, starts_research}
use Rattle.tick_model.specs.Universe.{Own, of_nothing, of_account, of_planet, AccountFields, PlanetFields, QueueClass, Buildings, Researches, Yard, Item}
use Rattle.tick_model.specs.Yards.{begins_first, begun, count_of, manned, unit_done, yard_left}
use Rattle.tick_model.proofs.Ends.{buildings-start, research-starts}
use Rattle.tick_model.proofs.Lists.{cell-is, cell-itself}
use Rattle.tick_model.proofs.LimitsOwn.{IsKept, kept-queues, kept-steady, level-same, levels-queues, used-same}
use Rattle.tick_model.proofs.Raising.{batch_units, building-place, dome-place, follows-queued, follows-shorter, one_if, ordered-first, queued-first, raised-least, raised-most, raised-sum, technology-place}
use Rattle.tick_model.proofs.Waiting.{building-rises, research-rises, rises-same, yard-waits}
use Rattle.tick_model.proofs.Steady.{IsBuiltAlike, IsSteady, same, SlotsStay, built-itself, built-then, one-account, one-planet, put-steady, slots-then, steady-itself, steady-planet, steady-slots, steady-then, units-alike}

-- A building.

starts-built : (speed second : ℕ) (planet : PlanetFields) (items : List Item) → IsBuiltAlike planet (starts_first speed second planet items).planet
starts-built speed second planet [] = built-itself planet
starts-built speed second planet (item ∷ later) =
    let skipped = starts_first speed second planet later in
    let paid : Works = record { planet = pays planet item.kind; queue = started speed second planet item ∷ later } in
    elim (can_pay planet.stock (next_price planet item.kind)) as (λ b. IsBuiltAlike planet (cond b paid skipped).planet) [
      | true ↦ units-alike planet (pays planet item.kind) refl refl refl
      | false ↦ starts-built speed second planet later
    ]

pub raised-level : (planet : PlanetFields) (k kind : Kind) → is_building kind ≡ true → level_of (raised planet k) kind ≤ level_of planet kind + one_if k kind
unfolding raised level_of
raised-level planet k kind is = raised-most BUILDINGS planet.levels k kind (building-place kind is)

raised-used : (planet : PlanetFields) (k : Kind) → used_fields (raised planet k) ≤ used_fields planet + 1
unfolding raised level_of
raised-used planet k = raised-sum planet.levels (place_in BUILDINGS k)

raised-else : (planet : PlanetFields) (k : Kind) → ((raised planet k).fields ≡ planet.fields) × ((raised planet k).units ≡ planet.units)
unfolding raised
raised-else planet k = (refl, refl)

units-count : (one other : PlanetFields) (kind : Kind) → one.units ≡ other.units → count_of one kind ≡ count_of other kind
unfolding count_of
units-count one other kind units = ap (λ (ns : List ℕ). slice_index ns (place_in UNIT_KINDS kind)) units

built-levels : (speed : ℕ) (item : Item) (later : List Item) (planet : PlanetFields) (old new : QueueClass → List Item) → old Buildings ≡ item ∷ later
    → new Buildings ≡ (starts_first speed item.second (raised planet item.kind) later).queue → new Yard ≡ old Yard → KeepsLevels planet old
    → KeepsLevels (starts_first speed item.second (raised planet item.kind) later).planet new
built-levels speed item later planet old new was now yard keeps =
    let up = raised planet item.kind in
    let works = starts_first speed item.second up later in
    let built = starts-built speed item.second up later in
    let follows = (buildings-start speed item.second up later).0.follows in
    let else_is = raised-else planet item.kind in
    record {
      capped = λ kind is.
          let level = level-same works.planet up kind built.levels in
          let rises = raised-level planet item.kind kind is in
          let left = follows-queued kind later works.queue follows in
          let first = queued-first kind item later in
          let before = keeps.capped kind is in
          let old_is = ap (queued kind) was in
          let new_is = ap (queued kind) now in
          omega (arith, level, rises, left, first, before, old_is, new_is);
      fielded =
          let used = used-same works.planet up built.levels in
          let rises = raised-used planet item.kind in
          let fields : works.planet.fields ≡ planet.fields = built.fields ∙ else_is.0 in
          let less = follows-shorter later works.queue follows in
          let before = keeps.fielded in
          let old_is : length (old Buildings) ≡ suc (length later) = ap length was in
          let new_is = ap (λ (items : List Item). length items) now in
          omega (arith, used, rises, fields, less, before, old_is, new_is);
      domed = λ kind is.
          let fewer = built.domes kind is in
          let counts = units-count up planet kind else_is.1 in
          let same = ap (ordered_units kind) yard in
          let before = keeps.domed kind is in
          omega (arith, fewer, counts, same, before);
      rising = subst (Rises (level_of works.planet)) (sym now) (building-rises speed item.second up later (subst (Rises (level_of planet)) was keeps.rising).1);
      waiting = subst OthersWait (sym yard) keeps.waiting;
    }

pub built-kept : (speed : ℕ) (item : Item) (later : List Item) (own : Own) (old new : QueueClass → List Item) → old Buildings ≡ item ∷ later → new Buildings ≡ (done speed item later own).queue
    → new Yard ≡ old Yard → new Researches ≡ old Researches → IsKept own old → IsKept (done speed item later own).own new
built-kept speed item later of_nothing old new was now yard research kept = record { levelled = λ planet is. absurd cc; learned = λ account is. absurd cc }
built-kept speed item later (of_account account) old new was now yard research kept =
    record { levelled = λ planet is. absurd cc; learned = λ a is. subst (KeepsTechs a) (sym research) (kept.learned a is) }
built-kept speed item later (of_planet planet) old new was now yard research kept =
    let works = starts_first speed item.second (raised planet item.kind) later in
    record {
      levelled = λ p is. subst (λ x. KeepsLevels x new) (one-planet works.planet p is) (built-levels speed item later planet old new was now yard (kept.levelled planet refl));
      learned = λ account is. absurd cc;
    }

pub done-slots : (speed : ℕ) (item : Item) (later : List Item) (own : Own) → SlotsStay own (done speed item later own).own
done-slots speed item later of_nothing account is = absurd cc
done-slots speed item later (of_account known) account is = (account, is, omega arith)
done-slots speed item later (of_planet planet) account is = absurd cc

-- A research.

pays-steady : (account : AccountFields) (planet : PlanetFields) (kind : Kind) → IsBuiltAlike planet (pays_research account planet kind)
pays-steady account planet kind = units-alike planet (pays_research account planet kind) refl refl refl

one-steady : (speed second : ℕ) (account : AccountFields) (own : CellId → Own) (payer : Own) (item : Item) (later : List Item) → own (Planet item.place) ≡ payer
    → (x : CellId) → IsSteady (own x) ((starts_research speed second account own payer item later).own x)
one-steady speed second account own of_nothing item later is x = steady-itself (own x)
one-steady speed second account own (of_account other) item later is x = steady-itself (own x)
one-steady speed second account own (of_planet planet) item later is x =
    let new = of_planet (pays_research account planet item.kind) in
    put-steady (Planet item.place) new own (subst (λ old. IsSteady old new) (sym is) (steady-planet planet (pays_research account planet item.kind) (pays-steady account planet item.kind))) x

starts-steady : (speed second : ℕ) (account : AccountFields) (own : CellId → Own) (items : List Item) (x : CellId)
    → IsSteady (own x) ((starts_first_research speed second account own items).own x)
starts-steady speed second account own [] x = steady-itself (own x)
starts-steady speed second account own (item ∷ later) x =
    let skipped = starts_first_research speed second account own later in
    let paid = starts_research speed second account own (own (Planet item.place)) item later in
    elim (can_start speed account (own (Planet item.place)) item) as (λ b. IsSteady (own x) ((cond b paid skipped).own x)) [
      | true ↦ one-steady speed second account own (own (Planet item.place)) item later refl x
      | false ↦ starts-steady speed second account own later x
    ]

pub learned-level : (account : AccountFields) (k kind : Kind) → is_technology kind ≡ true → level_in (learned account k).techs.n kind ≤ level_in account.techs.n kind + one_if k kind
unfolding learned
learned-level account k kind is = raised-most TECHNOLOGIES account.techs.n k kind (technology-place kind is)

-- elsewhere than at the account, planets may pay
pub research-steady : (speed : ℕ) (item : Item) (later : List Item) (own : CellId → Own) (caller : Own) (x : CellId) → same_cell item.cell x ≡ false
    → IsSteady (own x) ((researched speed item later own caller).own x)
research-steady speed item later own of_nothing x apart = steady-itself (own x)
research-steady speed item later own (of_planet planet) x apart = steady-itself (own x)
research-steady speed item later own (of_account account) x apart =
    let new = learned account item.kind in
    let put = put_own item.cell (of_account new) own in
    let there : put x ≡ own x = ap (λ b. cond b (of_account new) (own x)) apart in
    subst (λ old. IsSteady old ((starts_first_research speed item.second new put later).own x)) there (starts-steady speed item.second new put later x)

learned-kept : (speed : ℕ) (item : Item) (later : List Item) (account : AccountFields) (put : CellId → Own) (old new : QueueClass → List Item) → old Researches ≡ item ∷ later
    → new Researches ≡ (starts_first_research speed item.second (learned account item.kind) put later).queue → KeepsTechs account (old Researches) → KeepsTechs (learned account item.kind) (new Researches)
learned-kept speed item later account put old new was now keeps =
    let up = learned account item.kind in
    let came = starts_first_research speed item.second up put later in
    record {
      capped = λ kind is.
          let rises = learned-level account item.kind kind is in
          let left = follows-queued kind later came.queue (research-starts speed item.second up put later).0.follows in
          let first = queued-first kind item later in
          let before = keeps.capped kind is in
          let old_is = ap (queued kind) was in
          let new_is = ap (queued kind) now in
          omega (arith, rises, left, first, before, old_is, new_is);
      rising = subst (Rises (level_in up.techs.n)) (sym now)
          (research-rises speed item.second up put later (subst (Rises (level_in account.techs.n)) was keeps.rising).1);
    }

pub research-kept : (speed : ℕ) (item : Item) (later : List Item) (own : CellId → Own) (caller : Own) (old new : QueueClass → List Item) → own item.cell ≡ caller → old Researches ≡ item ∷ later
    → new Researches ≡ (researched speed item later own caller).queue → new Buildings ≡ old Buildings → new Yard ≡ old Yard → IsKept (own item.cell) old
    → IsKept ((researched speed item later own caller).own item.cell) new
research-kept speed item later own of_nothing old new caller was now buildings yard kept =
    record { levelled = λ planet is. levels-queues planet old new buildings yard (kept.levelled planet is); learned = λ account is. absurd (let both : of_nothing ≡ of_account account = sym caller ∙ is in cc) }
research-kept speed item later own (of_planet p) old new caller was now buildings yard kept =
    record { levelled = λ planet is. levels-queues planet old new buildings yard (kept.levelled planet is); learned = λ account is. absurd (let both : of_planet p ≡ of_account account = sym caller ∙ is in cc) }
research-kept speed item later own (of_account account) old new caller was now buildings yard kept =
    let up = learned account item.kind in
    let put = put_own item.cell (of_account up) own in
    let came = starts_first_research speed item.second up put later in
    let here : put item.cell ≡ of_account up = ap (λ b. cond b (of_account up) (own item.cell)) (cell-itself item.cell) in
    let learns : IsKept (of_account up) new = record {
      levelled = λ planet is. absurd cc;
      learned = λ a is. subst (λ x. KeepsTechs x (new Researches)) (one-account up a is) (learned-kept speed item later account put old new was now (kept.learned account caller));
    } in
    kept-steady (put item.cell) (came.own item.cell) new (starts-steady speed item.second up put later item.cell) (subst (λ own. IsKept own new) (sym here) learns)

computer-least : (account : AccountFields) (k : Kind) → slots_of account ≤ slots_of (learned account k)
unfolding learned
computer-least account k = let more = raised-least account.techs.n (place_in TECHNOLOGIES k) (place_in TECHNOLOGIES Computer) in omega (arith, more)

-- an account keeps its slots
pub research-slots : (speed : ℕ) (item : Item) (later : List Item) (own : CellId → Own) (caller : Own) → own item.cell ≡ caller
    → (x : CellId) → SlotsStay (own x) ((researched speed item later own caller).own x)
research-slots speed item later own of_nothing caller x = steady-slots (own x) (own x) (steady-itself (own x))
research-slots speed item later own (of_planet planet) caller x = steady-slots (own x) (own x) (steady-itself (own x))
research-slots speed item later own (of_account account) caller x =
    let up = learned account item.kind in
    let put = put_own item.cell (of_account up) own in
    let came = starts_first_research speed item.second up put later in
    let first : SlotsStay (own x) (put x) =
    elim (same_cell item.cell x) as (λ b. same_cell item.cell x ≡ b → SlotsStay (own x) (cond b (of_account up) (own x))) [
      | true ↦ λ here. λ a is.
          (account, ap own (sym (cell-is item.cell x here)) ∙ caller, subst (λ k. slots_of account ≤ slots_of k) (one-account up a is) (computer-least account item.kind))
      | false ↦ λ apart. steady-slots (own x) (own x) (steady-itself (own x))
    ] refl in
    slots-then (own x) (put x) (came.own x) first (steady-slots (put x) (came.own x) (starts-steady speed item.second up put later x))

-- A unit.

manned-else : (planet : PlanetFields) (k : Kind) → ((manned planet k 1).levels ≡ planet.levels) × ((manned planet k 1).fields ≡ planet.fields)
unfolding manned
manned-else planet k = (refl, refl)

manned-count : (planet : PlanetFields) (k kind : Kind) → is_dome kind ≡ true → count_of (manned planet k 1) kind ≤ count_of planet kind + one_if k kind
unfolding manned count_of
manned-count planet k kind is = raised-most UNIT_KINDS planet.units k kind (dome-place kind is).0

begins-ordered : (speed second : ℕ) (planet : PlanetFields) (later : List Item) (kind : Kind) → ordered_units kind (begins_first speed second planet later) ≡ ordered_units kind later
begins-ordered speed second planet [] kind = refl
begins-ordered speed second planet (batch ∷ later) kind = ordered-first kind (begun speed second planet batch) later ∙ sym (ordered-first kind batch later)

less-left : (b : Bool) (left : ℕ) → 1 ≤ left → cond b 1 0 + cond b (left - 1) 0 ≡ cond b left 0
less-left true left some = omega (arith, some)
less-left false left some = refl

one-unit : (b : Bool) (left : ℕ) → 1 ≤ left → cond b 1 0 ≤ cond b left 0
one-unit true left some = some
one-unit false left some = omega arith

-- one unit fewer of its kind is ordered
left-ordered : (speed : ℕ) (planet : PlanetFields) (batch : Item) (later : List Item) (kind : Kind) → 1 ≤ batch.left
    → ordered_units kind (yard_left speed planet batch later) + one_if batch.kind kind ≤ ordered_units kind (batch ∷ later)
left-ordered speed planet batch later kind some =
    let next = begins_first speed batch.second planet later in
    let rest = record batch { left = batch.left - 1; second = batch.second + batch.unit_seconds } in
    let before = ordered-first kind batch later in
    elim (nat_le batch.left 1) as (λ b. ordered_units kind (cond b next (rest ∷ later)) + one_if batch.kind kind ≤ ordered_units kind (batch ∷ later)) [
      | true ↦
          (let begins = begins-ordered speed batch.second planet later kind in
          let one : one_if batch.kind kind ≤ batch_units kind batch = one-unit _ batch.left some in
          omega (arith, before, begins, one))
      | false ↦
          (let after = ordered-first kind rest later in
          let less : one_if batch.kind kind + batch_units kind rest ≡ batch_units kind batch = less-left _ batch.left some in
          omega (arith, before, after, less))
    ]

pub unit-kept : (speed : ℕ) (batch : Item) (later : List Item) (own : Own) (old new : QueueClass → List Item) → 1 ≤ batch.left → old Yard ≡ batch ∷ later → new Yard ≡ (unit_done speed batch later own).queue
    → new Buildings ≡ old Buildings → new Researches ≡ old Researches → IsKept own old → IsKept (unit_done speed batch later own).own new
unit-kept speed batch later of_nothing old new some was now buildings research kept = record { levelled = λ planet is. absurd cc; learned = λ account is. absurd cc }
unit-kept speed batch later (of_account account) old new some was now buildings research kept =
    record { levelled = λ planet is. absurd cc; learned = λ a is. subst (KeepsTechs a) (sym research) (kept.learned a is) }
unit-kept speed batch later (of_planet planet) old new some was now buildings research kept =
    let up = manned planet batch.kind 1 in
    let keeps = kept.levelled planet refl in
    let else_is = manned-else planet batch.kind in
    let levels : KeepsLevels up new = record {
      capped = λ kind is.
          let level = level-same up planet kind else_is.0 in
          let same = ap (queued kind) buildings in
          let before = keeps.capped kind is in
          omega (arith, level, same, before);
      fielded =
          let used = used-same up planet else_is.0 in
          let fields = else_is.1 in
          let same = ap (λ (items : List Item). length items) buildings in
          let before = keeps.fielded in
          omega (arith, used, fields, same, before);
      domed = λ kind is.
          let more = manned-count planet batch.kind kind is in
          let left = left-ordered speed planet batch later kind some in
          let old_is = ap (ordered_units kind) was in
          let new_is = ap (ordered_units kind) now in
          let before = keeps.domed kind is in
          omega (arith, more, left, old_is, new_is, before);
      rising = subst (Rises (level_of up)) (sym buildings)
          (rises-same (level_of planet) (level_of up) (old Buildings) (λ kind. level-same planet up kind (sym else_is.0)) keeps.rising);
      waiting = subst OthersWait (sym now) (yard-waits speed planet batch later (subst OthersWait was keeps.waiting));
    } in
    record { levelled = λ p is. subst (λ x. KeepsLevels x new) (one-planet up p is) levels; learned = λ account is. absurd cc }

pub unit-slots : (speed : ℕ) (batch : Item) (later : List Item) (own : Own) → SlotsStay own (unit_done speed batch later own).own
unit-slots speed batch later of_nothing account is = absurd cc
unit-slots speed batch later (of_account known) account is = (account, is, omega arith)
unit-slots speed batch later (of_planet planet) account is = absurd cc
