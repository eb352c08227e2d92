-- What a cell has of its own keeps its limits, with its queues, as long as it is steady.
use Rattle.std.proofs.Common.{◌≡◌, ℕ, ◌+◌, ◌<◌, ◌≤◌, inl, inr, true, cond, List, length, sum, arith, refl, ap, ◌∙◌, sym, subst}
use Rattle.std.specs.Prelude.{slice_index}
use Rattle.base_ids.specs.declared.player.Player.{Player}
use Rattle.base_ids.specs.declared.cell_id.CellId.{CellId}
use Rattle.base_ids.specs.declared.cell_id.CellId.TheVariants.{Account}
use Rattle.catalog.specs.Kinds.{place_in}
use Rattle.catalog.specs.declared.classes.TheConstants.{BUILDINGS}
use Rattle.catalog.specs.declared.kind.Kind.{Kind}
use Rattle.laziness.proofs.Bringing.{test}
use Rattle.tick_model.specs.Changes.{owns}
use Rattle.tick_model.specs.Limits.{KeepsLevels, KeepsLimits, KeepsTechs, OthersWait, Rises}
use Rattle.tick_model.specs.Lines.{own_fleets, slots_of}
use Rattle.tick_model.specs.Production.{level_of}
use Rattle.tick_model.specs.Refusals.{used_fields}
use Rattle.tick_model.specs.Universe.{Own, of_account, of_planet, AccountFields, PlanetFields, QueueClass, Buildings, Researches, Yard, Fleet, Item, Setting, State}
use Rattle.tick_model.specs.Views.{queue_in, shown, view}
use Rattle.tick_model.proofs.Steady.{IsBuiltAlike, IsSteady, same, alike, SlotsStay, one-planet, steady-itself}
use Rattle.tick_model.proofs.Waiting.{rises-same}
use Rattle.tick_model.proofs.Writes.{owns_after, shown-own}

-- what a cell has of its own keeps its limits with these queues
pub record IsKept (own : Own) (queue : QueueClass → List Item) : Type 0 where
  pub levelled : (planet : PlanetFields) → own ≡ of_planet planet → KeepsLevels planet queue
  pub learned : (account : AccountFields) → own ≡ of_account account → KeepsTechs account (queue Researches)

-- so does each cell
abbrev pub AllKept : (CellId → Own) → List Item → Type 0
AllKept own items = (x : CellId) → IsKept (own x) (queue_in items x)

pub all-kept : (setting : Setting) (u : State) → KeepsLimits setting u → AllKept u.own u.items
all-kept setting u limits x = record { levelled = limits.levelled x; learned = limits.learned x }

pub level-same : (one other : PlanetFields) (kind : Kind) → one.levels ≡ other.levels → level_of one kind ≡ level_of other kind
unfolding level_of
level-same one other kind levels = ap (λ (ns : List ℕ). slice_index ns (place_in BUILDINGS kind)) levels

pub used-same : (one other : PlanetFields) → one.levels ≡ other.levels → used_fields one ≡ used_fields other
used-same one other levels = ap (λ (ns : List ℕ). sum ns) levels

levels-steady : (old new : PlanetFields) (queue : QueueClass → List Item) → IsBuiltAlike old new → KeepsLevels old queue → KeepsLevels new queue
levels-steady old new queue built keeps = record {
  capped = λ kind is. let level = level-same new old kind built.levels in let before = keeps.capped kind is in omega (arith, level, before);
  fielded = let used = used-same new old built.levels in let fields = built.fields in let before = keeps.fielded in omega (arith, used, fields, before);
  domed = λ kind is. let fewer = built.domes kind is in let before = keeps.domed kind is in omega (arith, fewer, before);
  rising = rises-same (level_of old) (level_of new) (queue Buildings) (λ kind. level-same old new kind (sym built.levels)) keeps.rising;
  waiting = keeps.waiting;
}

pub kept-steady : (old new : Own) (queue : QueueClass → List Item) → IsSteady old new → IsKept old queue → IsKept new queue
kept-steady old new queue (same is) kept = subst (λ own. IsKept own queue) (sym is) kept
kept-steady old new queue (alike before after old_is new_is built) kept = record {
  levelled = λ planet is. subst (λ p. KeepsLevels p queue) (one-planet after planet (sym new_is ∙ is)) (levels-steady before after queue built (kept.levelled before old_is));
  learned = λ account is. absurd (let both : of_planet after ≡ of_account account = sym new_is ∙ is in cc);
}

-- levels go by the queues of buildings and of the yard
pub levels-queues : (planet : PlanetFields) (old new : QueueClass → List Item) → new Buildings ≡ old Buildings → new Yard ≡ old Yard → KeepsLevels planet old → KeepsLevels planet new
levels-queues planet old new buildings yard keeps =
    let built = λ (items : List Item). KeepsLevels planet (λ class. pick items (old Yard) class) in
    let first : KeepsLevels planet (λ class. pick (old Buildings) (old Yard) class) = record { capped = keeps.capped; fielded = keeps.fielded; domed = keeps.domed; rising = keeps.rising; waiting = keeps.waiting } in
    let second = subst (λ items. KeepsLevels planet (λ class. pick items (old Yard) class)) (sym buildings) first in
    let third = subst (λ items. KeepsLevels planet (λ class. pick (new Buildings) items class)) (sym yard) second in
    record { capped = third.capped; fielded = third.fielded; domed = third.domed; rising = third.rising; waiting = third.waiting }
  where
    pick : List Item → List Item → QueueClass → List Item
    pick buildings yard Buildings = buildings
    pick buildings yard Yard = yard
    pick buildings yard Researches = yard

-- and all goes by all queues
pub kept-queues : (own : Own) (old new : QueueClass → List Item) → new Buildings ≡ old Buildings → new Yard ≡ old Yard → new Researches ≡ old Researches → IsKept own old → IsKept own new
kept-queues own old new buildings yard research kept = record {
  levelled = λ planet is. levels-queues planet old new buildings yard (kept.levelled planet is);
  learned = λ account is. subst (KeepsTechs account) (sym research) (kept.learned account is);
}

-- what is written of cells that are shown is as steady as they were
pub after-steady : (list : List CellId) (cells : CellId → _) (u : State) (own : CellId → Own) (x : CellId) → IsSteady (owns (shown cells (view list u)) x) (own x) → IsSteady (u.own x) (owns_after cells own u x)
after-steady list cells u own x steady =
    elim (test (cells x)) [
      | inl has ↦
          subst (λ new. IsSteady (u.own x) new) (sym (ap (λ b. cond b (own x) (u.own x)) has))
          (subst (λ old. IsSteady old (own x)) (shown-own list cells u x has) steady)
      | inr out ↦ subst (λ new. IsSteady (u.own x) new) (sym (ap (λ b. cond b (own x) (u.own x)) out)) (steady-itself (u.own x))
    ]

pub after-slots : (list : List CellId) (cells : CellId → _) (u : State) (own : CellId → Own) (x : CellId) → SlotsStay (owns (shown cells (view list u)) x) (own x) → SlotsStay (u.own x) (owns_after cells own u x)
after-slots list cells u own x stay =
    elim (test (cells x)) [
      | inl has ↦
          subst (λ new. SlotsStay (u.own x) new) (sym (ap (λ b. cond b (own x) (u.own x)) has))
          (subst (λ old. SlotsStay old (own x)) (shown-own list cells u x has) stay)
      | inr out ↦ subst (λ new. SlotsStay (u.own x) new) (sym (ap (λ b. cond b (own x) (u.own x)) out)) (λ account has. (account, has, omega arith))
    ]

-- no account has more fleets than before, nor fewer slots
pub slots-kept : (setting : Setting) (u : State) (own : CellId → Own) (fleets : List Fleet) → ((x : CellId) → SlotsStay (u.own x) (own x))
    → ((player : Player) → length (own_fleets player fleets) ≤ length (own_fleets player u.fleets)) → KeepsLimits setting u
    → (player : Player) (account : AccountFields) → own (Account player) ≡ of_account account → length (own_fleets player fleets) ≤ slots_of account
slots-kept setting u own fleets stay fewer limits player account is =
    let was = stay (Account player) account is in
    let before = limits.slots player was.0 was.1 in
    let less = was.2 in
    let few = fewer player in
    omega (arith, before, less, few)
