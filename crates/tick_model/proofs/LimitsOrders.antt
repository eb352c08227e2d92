-- What joins a queue keeps the limits, as it is allowed.
use Rattle.std.proofs.Common.{◌≡◌, ◌≢◌, ℕ, ◌+◌, ◌<◌, ◌≤◌, inl, inr, Bool, true, false, cond, ◌&&◌, List, [], ◌∷◌, ◌++◌, length, arith, refl, ap, ◌∙◌, sym, subst}
use Rattle.std.proofs.lemmas.Bool.{cases_eq}
use Rattle.std.proofs.lemmas.Bool.Decides.{nat_tests}
use Rattle.std.proofs.lemmas.List.{length-append}
use Rattle.std.specs.Prelude.{◌==◌}
use Rattle.catalog.specs.Kinds.{kind_number}
use Rattle.catalog.specs.Levels.{level_cap_of}
use Rattle.catalog.specs.Technologies.{level_in}
use Rattle.catalog.specs.declared.kind.Kind.{Kind}
use Rattle.tick_model.specs.Limits.{KeepsLevels, KeepsTechs, OthersWait, Rises, ordered_units}
use Rattle.tick_model.specs.Production.{level_of}
use Rattle.tick_model.specs.Refusals.{is_dome, queued, used_fields}
use Rattle.tick_model.specs.Rules.{IsBatch}
use Rattle.tick_model.specs.Universe.{Own, of_account, of_planet, AccountFields, PlanetFields, QueueClass, Buildings, Researches, Yard, same_class, Item}
use Rattle.tick_model.specs.Yards.{count_of}
use Rattle.tick_model.proofs.LimitsOwn.{IsKept, level-same, levels-queues, used-same}
use Rattle.tick_model.proofs.Outcomes.{IsAllowed}
use Rattle.tick_model.proofs.Raising.{batch_units, none-ordered, one-kind, one_if, ones, ordered-last, queued-last}
use Rattle.tick_model.proofs.Steady.{IsBuiltAlike, IsSteady, same, alike, one-planet}
use Rattle.tick_model.proofs.Waiting.{IsBehind, IsNext, next-same, others-joined, rises-joined}

-- what is allowed stays so as long as what a cell has of its own is steady
building-still : (item : Item) (items : List Item) (old new : PlanetFields) → IsBuiltAlike old new
    → (level_of old item.kind + queued item.kind items < level_cap_of item.kind) × (used_fields old + length items < old.fields) × IsNext (level_of old) items item
    → (level_of new item.kind + queued item.kind items < level_cap_of item.kind) × (used_fields new + length items < new.fields) × IsNext (level_of new) items item
building-still item items old new built below =
    let level = level-same new old item.kind built.levels in
    let used = used-same new old built.levels in
    let room = built.fields in
    let cap = below.0 in
    let field = below.1 in
    (omega (arith, level, cap), omega (arith, used, room, field), next-same (level_of old) (level_of new) items item (λ kind. level-same old new kind (sym built.levels)) below.2)

dome-still : (n count was left : ℕ) → count ≤ was → was + n + left ≤ 1 → count + n + left ≤ 1
dome-still n count was left fewer alone = omega (arith, fewer, alone)

pub allowed-still : (class : QueueClass) (item : Item) (old new : Own) (items : List Item) → IsSteady old new → IsAllowed class item old items → IsAllowed class item new items
allowed-still class item old new items (same is) allowed = subst (λ own. IsAllowed class item own items) (sym is) allowed
allowed-still Buildings item old new items (alike before after old_is new_is built) allowed = λ planet is.
    building-still item items before planet (subst (IsBuiltAlike before) (one-planet after planet (sym new_is ∙ is)) built) (allowed before old_is)
allowed-still Researches item old new items (alike before after old_is new_is built) allowed = λ account is. absurd (let both : of_planet after ≡ of_account account = sym new_is ∙ is in cc)
allowed-still Yard item old new items (alike before after old_is new_is built) allowed = λ planet is.
    let one = subst (IsBuiltAlike before) (one-planet after planet (sym new_is ∙ is)) built in
    let was = allowed before old_is in
    (λ dome. dome-still (queued item.kind items) (count_of planet item.kind) (count_of before item.kind) item.left (one.domes item.kind dome) (was.0 dome), was.1)

others-none : (one other : Kind) → kind_number one ≢ kind_number other → one_if one other ≡ 0
others-none one other apart = grind (arith, nat_tests)

-- one more of a kind that is below its bound keeps all within theirs
one-below : (k kind : Kind) (level : Kind → ℕ) → level k < level_cap_of k → level kind ≤ level_cap_of kind → level kind + one_if k kind ≤ level_cap_of kind
one-below k kind level below within =
    elim (cases_eq (kind_number k) (kind_number kind)) [
      | inl is ↦ subst (λ x. level x + one_if k x ≤ level_cap_of x) (one-kind k kind is) (let one = ones k k refl in omega (arith, one, below))
      | inr apart ↦ (let none = others-none k kind apart in omega (arith, none, within))
    ]

joined-building : (item : Item) (planet : PlanetFields) (old new : QueueClass → List Item) → new Buildings ≡ old Buildings ++ item ∷ [] → new Yard ≡ old Yard
    → (level_of planet item.kind + queued item.kind (old Buildings) < level_cap_of item.kind) × (used_fields planet + length (old Buildings) < planet.fields)
    × IsNext (level_of planet) (old Buildings) item
    → KeepsLevels planet old → KeepsLevels planet new
joined-building item planet old new more yard allowed keeps = record {
  capped = λ kind is.
      let level = λ (x : Kind). level_of planet x + queued x (old Buildings) in
      let below = one-below item.kind kind level allowed.0 (keeps.capped kind is) in
      let all : queued kind (new Buildings) ≡ queued kind (old Buildings) + one_if item.kind kind = ap (queued kind) more ∙ queued-last kind (old Buildings) item in
      omega (arith, below, all);
  fielded =
      let all : length (new Buildings) ≡ length (old Buildings) + 1 = ap (λ (items : List Item). length items) more ∙ length-append (old Buildings) (item ∷ []) in
      let below = allowed.1 in
      omega (arith, all, below);
  domed = λ kind is.
      let same = ap (ordered_units kind) yard in
      let before = keeps.domed kind is in
      omega (arith, same, before);
  rising = subst (Rises (level_of planet)) (sym more) (rises-joined (level_of planet) (old Buildings) item allowed.2 keeps.rising);
  waiting = subst OthersWait (sym yard) keeps.waiting;
}

joined-research : (item : Item) (account : AccountFields) (old new : List Item) → new ≡ old ++ item ∷ []
    → (level_in account.techs.n item.kind + queued item.kind old < level_cap_of item.kind) × IsNext (level_in account.techs.n) old item
    → KeepsTechs account old → KeepsTechs account new
joined-research item account old new more allowed keeps = record {
  capped = λ kind is.
      let level = λ (x : Kind). level_in account.techs.n x + queued x old in
      let below = one-below item.kind kind level allowed.0 (keeps.capped kind is) in
      let all : queued kind new ≡ queued kind old + one_if item.kind kind = ap (queued kind) more ∙ queued-last kind old item in
      omega (arith, below, all);
  rising = subst (Rises (level_in account.techs.n)) (sym more) (rises-joined (level_in account.techs.n) old item allowed.1 keeps.rising);
}

-- a dome is ordered where none is
one-dome : (item : Item) (planet : PlanetFields) (old : List Item) (kind : Kind) → 1 ≤ item.left → (is_dome item.kind ≡ true → count_of planet item.kind + queued item.kind old + item.left ≤ 1)
    → is_dome kind ≡ true → count_of planet kind + ordered_units kind old ≤ 1 → count_of planet kind + (ordered_units kind old + batch_units kind item) ≤ 1
one-dome item planet old kind some allowed is before =
    elim (cases_eq (kind_number item.kind) (kind_number kind)) [
      | inl one ↦
          (let kinds = one-kind item.kind kind one in
          let alone = allowed (ap is_dome kinds ∙ is) in
          let none = none-ordered item.kind old (omega (arith, alone, some)) in
          let units : batch_units item.kind item ≤ item.left = units-most (kind_number item.kind == kind_number item.kind) item.left in
          subst (λ k. count_of planet k + (ordered_units k old + batch_units k item) ≤ 1) kinds (omega (arith, alone, none, units)))
      | inr apart ↦
          (let none : batch_units kind item ≡ 0 = units-none (kind_number item.kind == kind_number kind) item.left (others-none item.kind kind apart) in
          omega (arith, none, before))
    ]
  where
    units-most : (b : Bool) (left : ℕ) → cond b left 0 ≤ left
    units-most true left = omega arith
    units-most false left = omega arith

    units-none : (b : Bool) (left : ℕ) → cond {A = ℕ} b 1 0 ≡ 0 → cond b left 0 ≡ 0
    units-none true left is = absurd (omega (arith, is))
    units-none false left is = refl

joined-batch : (item : Item) (planet : PlanetFields) (old new : QueueClass → List Item) → new Yard ≡ old Yard ++ item ∷ [] → new Buildings ≡ old Buildings → 1 ≤ item.left
    → (is_dome item.kind ≡ true → count_of planet item.kind + queued item.kind (old Yard) + item.left ≤ 1) × IsBehind (old Yard) item → KeepsLevels planet old → KeepsLevels planet new
joined-batch item planet old new more buildings some allowed keeps = record {
  capped = λ kind is.
      let same = ap (queued kind) buildings in
      let before = keeps.capped kind is in
      omega (arith, same, before);
  fielded =
      let same = ap (λ (items : List Item). length items) buildings in
      let before = keeps.fielded in
      omega (arith, same, before);
  domed = λ kind is.
      let one = one-dome item planet (old Yard) kind some allowed.0 is (keeps.domed kind is) in
      let all : ordered_units kind (new Yard) ≡ ordered_units kind (old Yard) + batch_units kind item = ap (ordered_units kind) more ∙ ordered-last kind (old Yard) item in
      omega (arith, one, all);
  rising = subst (Rises (level_of planet)) (sym buildings) keeps.rising;
  waiting = subst OthersWait (sym more) (others-joined (old Yard) item allowed.1 keeps.waiting);
}

-- a cell keeps its limits when an item that is allowed joins a queue of it
pub joined-kept : (class : QueueClass) (item : Item) (own : Own) (old new : QueueClass → List Item) → new class ≡ old class ++ item ∷ []
    → ((other : QueueClass) → same_class class other ≡ false → new other ≡ old other) → IsBatch class item → IsAllowed class item own (old class) → IsKept own old → IsKept own new
joined-kept Buildings item own old new more others batch allowed kept = record {
  levelled = λ planet is. joined-building item planet old new more (others Yard refl) (allowed planet is) (kept.levelled planet is);
  learned = λ account is. subst (KeepsTechs account) (sym (others Researches refl)) (kept.learned account is);
}
joined-kept Researches item own old new more others batch allowed kept = record {
  levelled = λ planet is. levels-queues planet old new (others Buildings refl) (others Yard refl) (kept.levelled planet is);
  learned = λ account is. joined-research item account (old Researches) (new Researches) more (allowed account is) (kept.learned account is);
}
joined-kept Yard item own old new more others batch allowed kept = record {
  levelled = λ planet is. joined-batch item planet old new more (others Buildings refl) batch.0 (allowed planet is) (kept.levelled planet is);
  learned = λ account is. subst (KeepsTechs account) (sym (others Researches refl)) (kept.learned account is);
}
