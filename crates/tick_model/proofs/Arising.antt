-- An event that stands after a request stood before it, or is later than it.
use Rattle.std.proofs.Common.{◌≡◌, ℕ, ◌<◌, ◌≤◌, ◌⊎◌, inl, inr, Bool, true, false, cond, eqb, ◌-◌, max, arith, Some, ◌&&◌, List, [], ◌∷◌, ◌++◌, filter, refl, ap, ◌∙◌, sym, subst}
use Rattle.base_ids.specs.Cells.{same_cell}
use Rattle.base_ids.specs.declared.cell_id.CellId.{CellId}
use Rattle.base_ids.specs.declared.cell_id.CellId.TheVariants.{Planet}
use Rattle.laziness.proofs.Bringing.{early, test}
use Rattle.tick_model.specs.Events.{Event, IsRaid, item_due, lands, fights, home, second_of}
use Rattle.tick_model.specs.Flights.{recalled_at, turned}
use Rattle.tick_model.specs.Raids.{Raid, attacks, is_attack, raid_of}
use Rattle.tick_model.specs.Rules.{IsIn}
use Rattle.tick_model.specs.Universe.{Fleet, Item, State, same_class}
use Rattle.tick_model.specs.Views.{belongs, queue_in}
use Rattle.tick_model.proofs.Lists.{and-is, cell-is, class-is, from-changed, from-filter, in-append, in-filter}
use Rattle.tick_model.proofs.Queues.{queue-new, queue-other, queued}
use Rattle.tick_model.proofs.Raids.{target-belongs}
use Rattle.tick_model.proofs.RulesKept.{recalled-out}
use Rattle.tick_model.proofs.Writes.{became_at, with_queue}
use Rattle.tick_model.proofs.Written.{IsNew, Makes, stays, changed, ordered, sent, recalled, recalled_by, standing}

-- an event stands, by items and fleets alone
abbrev pub Comes : State → Event → Type 0
Comes state (item_due class item later) = queue_in state.items item.cell class ≡ item ∷ later
Comes state (lands fleet) = IsIn fleet state.fleets × (attacks fleet ≡ false)
Comes state (fights raid) = IsRaid (filter (belongs (Planet raid.target)) state.fleets) raid

-- no event of these cells is due at a moment
abbrev pub NoneComes : (CellId → Bool) → ℕ → State → Type 0
NoneComes S t state = (e : Event) → Comes state e → S (home e) ≡ true → second_of e ≤ t → ⊥

-- the first item of the queue that a new item joins is done later
arises-own : (S : CellId → Bool) (t : ℕ) (u : State) (new item : Item) (before later : List Item) → NoneComes S t u → IsNew u t new → new.cell ≡ item.cell → S item.cell ≡ true
    → queue_in u.items new.cell new.class ≡ before → before ++ new ∷ [] ≡ item ∷ later → t < item.second
arises-own S t u new item [] later none is_new here inside is all =
    let first : new ≡ item = cc all in
    subst (λ x. t < x.second) first (is_new.runs is)
arises-own S t u new item (first ∷ rest) later none is_new here inside is all =
    let whole : first ∷ (rest ++ new ∷ []) ≡ item ∷ later = all in
    let same : first ≡ item = cc whole in
    let place : first.cell ≡ new.cell = (queued u new.class new.cell first rest is first (inl refl)).place in
    let stands : Comes u (item_due new.class first rest) = ap (λ c. queue_in u.items c new.class) place ∙ is in
    let within : S first.cell ≡ true = ap (λ (x : Item). S x.cell) same ∙ inside in
    elim (early first.second t) [
      | inl due ↦ absurd (none (item_due new.class first rest) stands within due)
      | inr after ↦ subst (λ x. t < x.second) same after
    ]

-- a fleet that is recalled is back later
arises-back : (u : State) (t : ℕ) (old new : Fleet) (b : Bool) → IsIn old u.fleets → attacks new ≡ false → cond b (recalled_by t old) (Some old) ≡ Some new → Comes u (lands new) ⊎ (t < new.second)
arises-back u t old new true is peaceful becomes =
    let same : turned old (recalled_at old t) old.cargo ≡ new = cc in
    let least : 1 ≤ max 1 (t - old.launch) = omega arith in
    inr (subst (λ (f : Fleet). t < f.second) same (omega (arith, least)))
arises-back u t old new false is peaceful becomes = let same : old ≡ new = cc in inl (subst (λ f. IsIn f u.fleets) same is, peaceful)

-- a raid that flew before is not due
raid-runs : (S : CellId → Bool) (t : ℕ) (u : State) (one : Fleet) → NoneComes S t u → IsIn one u.fleets → attacks one ≡ true → S (Planet one.target) ≡ true → t < one.second
raid-runs S t u one none flies hostile inside =
    let out = (and-is one.outbound (is_attack one.mission) hostile).0 in
    let there = filter (belongs (Planet one.target)) u.fleets in
    let stands : IsRaid there (raid_of there one) = record {
      one = one;
      flies = in-filter (belongs (Planet one.target)) one u.fleets flies (target-belongs one.target one out refl);
      hostile = hostile;
      is = refl;
    } in
    elim (early one.second t) [
      | inl due ↦ absurd (none (fights (raid_of there one)) stands inside due)
      | inr after ↦ after
    ]

-- so a fleet that attacks arrives later, also one that is new
attacks-later : (S : CellId → Bool) (t : ℕ) (u v : State) (one : Fleet) → NoneComes S t u → Makes t u v → IsIn one v.fleets → attacks one ≡ true → S (Planet one.target) ≡ true → t < one.second
attacks-later S t u v one none (stays is) flies hostile inside = raid-runs S t u one none (subst (λ s. IsIn one s.fleets) is flies) hostile inside
attacks-later S t u v one none (changed own alike is) flies hostile inside = raid-runs S t u one none (subst (λ s. IsIn one s.fleets) is flies) hostile inside
attacks-later S t u v one none (ordered own new alike is_new is) flies hostile inside = raid-runs S t u one none (subst (λ s. IsIn one s.fleets) is flies) hostile inside
attacks-later S t u v one none (sent own new stay is_new is) flies hostile inside =
    elim (in-append one u.fleets (new ∷ []) (subst (λ s. IsIn one s.fleets) is flies)) [
      | inl before ↦ raid-runs S t u one none before hostile inside
      | inr last ↦ elim last [ inl same ↦ subst (λ (f : Fleet). t < f.second) (sym same) is_new.runs | inr nothing ↦ absurd nothing ]
    ]
attacks-later S t u v one none (recalled own number alike is) flies hostile inside =
    let found = from-changed (became_at number (recalled_by t)) one u.fleets (subst (λ s. IsIn one s.fleets) is flies) in
    let out = (and-is one.outbound (is_attack one.mission) hostile).0 in
    let same = recalled-out t found.0 one (eqb found.0.number number) found.2 out in
    raid-runs S t u one none (subst (λ f. IsIn f u.fleets) same found.1) hostile inside

pub arises-made : (S : CellId → Bool) (t : ℕ) (u v : State) → NoneComes S t u → Makes t u v → (d : Event) → S (home d) ≡ true → Comes v d → Comes u d ⊎ (t < second_of d)
arises-made S t u v none (stays is) (item_due class item later) inside stands = inl (sym (ap (λ s. queue_in s.items item.cell class) is) ∙ stands)
arises-made S t u v none (changed own alike is) (item_due class item later) inside stands = inl (sym (ap (λ s. queue_in s.items item.cell class) is) ∙ stands)
arises-made S t u v none (ordered own new alike is_new is) (item_due class item later) inside stands =
    let items = queue_in u.items new.cell new.class ++ new ∷ [] in
    let state = with_queue own new.cell new.class items u in
    let now : queue_in state.items item.cell class ≡ item ∷ later = sym (ap (λ s. queue_in s.items item.cell class) is) ∙ stands in
    elim (test (same_cell new.cell item.cell && same_class new.class class)) [
      | inl here ↦
          (let both = and-is (same_cell new.cell item.cell) (same_class new.class class) here in
          let place = cell-is new.cell item.cell both.0 in
          let sort = class-is new.class class both.1 in
          let all : items ≡ item ∷ later = sym (queue-new own new.cell new.class items u (standing u new)) ∙ (λ i. queue_in state.items (place i) (sort i)) ∙ now in
          inr (arises-own S t u new item (queue_in u.items new.cell new.class) later none is_new place inside refl all))
      | inr apart ↦ inl (sym (queue-other own new.cell item.cell new.class class items u apart (standing u new)) ∙ now)
    ]
arises-made S t u v none (sent own fleet stay is_new is) (item_due class item later) inside stands = inl (sym (ap (λ s. queue_in s.items item.cell class) is) ∙ stands)
arises-made S t u v none (recalled own number alike is) (item_due class item later) inside stands = inl (sym (ap (λ s. queue_in s.items item.cell class) is) ∙ stands)
arises-made S t u v none (stays is) (lands fleet) inside stands = inl (subst (λ s. IsIn fleet s.fleets) is stands.0, stands.1)
arises-made S t u v none (changed own alike is) (lands fleet) inside stands = inl (subst (λ s. IsIn fleet s.fleets) is stands.0, stands.1)
arises-made S t u v none (ordered own new alike is_new is) (lands fleet) inside stands = inl (subst (λ s. IsIn fleet s.fleets) is stands.0, stands.1)
arises-made S t u v none (sent own new stay is_new is) (lands fleet) inside stands =
    elim (in-append fleet u.fleets (new ∷ []) (subst (λ s. IsIn fleet s.fleets) is stands.0)) [
      | inl before ↦ inl (before, stands.1)
      | inr last ↦ elim last [ inl same ↦ inr (subst (λ (f : Fleet). t < f.second) (sym same) is_new.runs) | inr nothing ↦ absurd nothing ]
    ]
arises-made S t u v none (recalled own number alike is) (lands fleet) inside stands =
    let found = from-changed (became_at number (recalled_by t)) fleet u.fleets (subst (λ s. IsIn fleet s.fleets) is stands.0) in
    arises-back u t found.0 fleet (eqb found.0.number number) found.1 stands.1 found.2
arises-made S t u v none makes (fights raid) inside stands =
    let one = stands.one in
    let flies = (from-filter (belongs (Planet raid.target)) one v.fleets stands.flies).0 in
    let target : raid.target ≡ one.target = ap (λ (r : Raid). r.target) stands.is in
    let second : raid.second ≡ one.second = ap (λ (r : Raid). r.second) stands.is in
    let runs : t < one.second = attacks-later S t u v one none makes flies stands.hostile (ap (λ at. S (Planet at)) (sym target) ∙ inside) in
    inr (omega (arith, second, runs))
