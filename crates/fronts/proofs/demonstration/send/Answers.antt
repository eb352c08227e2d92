use Rattle.std.proofs.Common.{◌≡◌, ◌+◌, List, [], ◌∷◌, ◌++◌, length, sym, ap, ◌∙◌, subst, arith, true, max}
use Rattle.std.specs.Prelude.{Contains}
use Rattle.std.proofs.lemmas.List.{length-map}
use Rattle.base_ids.specs.declared.cell_id.CellId.{CellId}
use Rattle.fronts.specs.declared.claim.Claim.{Claim}
use Rattle.fronts.specs.declared.claim.Claim.TheVariants.{Pen, Cell}
use Rattle.fronts.specs.declared.view.Sent.{Sent}
use Rattle.fronts.specs.declared.view.View.{View}
use Rattle.fronts.specs.History.{IsBounded, entries_of, sent}
use Rattle.fronts.specs.Pair.{hits, last_moment}
use Rattle.fronts.proofs.Following.{entries_more}
use Rattle.fronts.proofs.Owning.{left_if_other}
use Rattle.fronts.proofs.Pairs.{cells_apart, has_first, has_pen, has_second, has_touched, hits_at_most, last_moment_more, may_append, one_hit_more, touches_first, touches_second}
use Rattle.fronts.proofs.demonstration.send.Goals as goal

pub append-requires-clause-cells : goal.append-requires-clause-cells
append-requires-clause-cells g c =
    let start = g.O.Origin.start in
    let p = c.args.players.0 in
    let q = c.args.players.1 in
    let a = c.args.counters.0.cell in
    let b = c.args.counters.1.cell in
    let e = c.args.entry in
    let v0 = c.args.pass.now in
    let v1 = c.take_pen-count.new.pass in
    let v2 = c.take_cell-first.new.pass in
    let v3 = c.take_cell-second.new.pass in
    let first = has_first v0.claims v1.claims v2.claims v3.claims a b c.take_pen-count.ensures.claims c.take_cell-first.ensures.claims c.take_cell-second.ensures.claims in
    let second = has_second v0.claims v1.claims v2.claims v3.claims a b c.take_pen-count.ensures.claims c.take_cell-first.ensures.claims c.take_cell-second.ensures.claims in
    has_touched start p q c.requires.start v3.claims (subst (λ (x : CellId). Contains v3.claims (Cell x)) c.requires.cells.0 first) (subst (λ (x : CellId). Contains v3.claims (Cell x)) c.requires.cells.1 second) (entries_of v3.front) e

pub append-requires-clause-legal : goal.append-requires-clause-legal
append-requires-clause-legal g c =
    let start = g.O.Origin.start in
    let p = c.args.players.0 in
    let q = c.args.players.1 in
    let a = c.args.counters.0.cell in
    let b = c.args.counters.1.cell in
    let e = c.args.entry in
    let v0 = c.args.pass.now in
    let v1 = c.take_pen-count.new.pass in
    let v2 = c.take_cell-first.new.pass in
    let v3 = c.take_cell-second.new.pass in
    let same : v3.front ≡ v1.front = c.take_cell-second.ensures.front ∙ c.take_cell-first.ensures.front in
    let line = c.take_pen-count.ensures.line in
    let last = sym line.1 ∙ c.take_pen-count.ensures.last in
    let bounded = may_append start p q c.requires.start v1.front c.args.journal.count e c.take_pen-count.ensures.history (sym line.0 ∙ c.take_pen-count.ensures.count) c.requires.room c.requires.number (c.requires.moment ∙ ap (max e.reading) last) in
    subst (λ (l : List Sent). IsBounded start (entries_of l ++ e ∷ [])) (sym same) bounded

pub overflow_add-hits : goal.overflow_add-hits
overflow_add-hits g c =
    let start = g.O.Origin.start in
    let p = c.args.players.0 in
    let q = c.args.players.1 in
    let a = c.args.counters.0.cell in
    let b = c.args.counters.1.cell in
    let e = c.args.entry in
    let v0 = c.args.pass.now in
    let v1 = c.take_pen-count.new.pass in
    let v2 = c.take_cell-first.new.pass in
    let v3 = c.take_cell-second.new.pass in
    omega (arith, c.take_cell-first.ensures.hits, hits_at_most start a [] (entries_of v2.front), length-map v2.front (λ (s : Sent). s.entry), ap length c.take_cell-first.ensures.front, c.take_pen-count.ensures.count, c.take_pen-count.ensures.line.0, c.requires.room)

pub overflow_add-others : goal.overflow_add-others
overflow_add-others g c =
    let start = g.O.Origin.start in
    let p = c.args.players.0 in
    let q = c.args.players.1 in
    let a = c.args.counters.0.cell in
    let b = c.args.counters.1.cell in
    let e = c.args.entry in
    let v0 = c.args.pass.now in
    let v1 = c.take_pen-count.new.pass in
    let v2 = c.take_cell-first.new.pass in
    let v3 = c.take_cell-second.new.pass in
    let same : v3.front ≡ v1.front = c.take_cell-second.ensures.front ∙ c.take_cell-first.ensures.front in
    omega (arith, c.take_cell-second.ensures.hits, hits_at_most start b [] (entries_of v3.front), length-map v3.front (λ (s : Sent). s.entry), ap length same, c.take_pen-count.ensures.count, c.take_pen-count.ensures.line.0, c.requires.room)

pub give_cell-one-requires-clause-has : goal.give_cell-one-requires-clause-has
give_cell-one-requires-clause-has g c =
    let start = g.O.Origin.start in
    let p = c.args.players.0 in
    let q = c.args.players.1 in
    let a = c.args.counters.0.cell in
    let b = c.args.counters.1.cell in
    let e = c.args.entry in
    let v0 = c.args.pass.now in
    let v1 = c.take_pen-count.new.pass in
    let v2 = c.take_cell-first.new.pass in
    let v3 = c.take_cell-second.new.pass in
    let claims : c.append.new.pass.claims ≡ v3.claims = ap (λ (v : View). v.claims) c.append.ensures.view in
    let has : Contains c.append.new.pass.claims (Cell a) = subst (λ (l : List Claim). Contains l (Cell a)) (sym claims) (has_first v0.claims v1.claims v2.claims v3.claims a b c.take_pen-count.ensures.claims c.take_cell-first.ensures.claims c.take_cell-second.ensures.claims) in
    subst (λ (x : CellId). Contains c.append.new.pass.claims (Cell x)) (sym c.take_cell-first.ensures.cell) has

pub give_cell-one-requires-clause-stands : goal.give_cell-one-requires-clause-stands
give_cell-one-requires-clause-stands g c =
    let start = g.O.Origin.start in
    let p = c.args.players.0 in
    let q = c.args.players.1 in
    let a = c.args.counters.0.cell in
    let b = c.args.counters.1.cell in
    let e = c.args.entry in
    let v0 = c.args.pass.now in
    let v1 = c.take_pen-count.new.pass in
    let v2 = c.take_cell-first.new.pass in
    let v3 = c.take_cell-second.new.pass in
    let v4 = c.append.new.pass in
    let n = c.take_cell-first.result.1 in
    let known : n ≡ hits start a [] (entries_of v3.front) = c.take_cell-first.ensures.hits ∙ ap (λ (l : List Sent). hits start a [] (entries_of l)) (sym c.take_cell-second.ensures.front) in
    let more : entries_of v4.front ≡ entries_of v3.front ++ e ∷ [] = ap (λ (v : View). entries_of v.front) c.append.ensures.view ∙ entries_more v3.front (sent v3.number e) in
    let touches = subst (λ (x : CellId). start.touches (entries_of v3.front) e x ≡ true) (sym c.requires.cells.0) (touches_first start p q c.requires.start (entries_of v3.front) e) in
    subst (λ (x : CellId). n + 1 ≡ hits start x [] (entries_of v4.front)) (sym c.take_cell-first.ensures.cell) (one_hit_more start a n v3.front (entries_of v4.front) e known more touches)

pub give_cell-other-requires-clause-has : goal.give_cell-other-requires-clause-has
give_cell-other-requires-clause-has g c =
    let start = g.O.Origin.start in
    let p = c.args.players.0 in
    let q = c.args.players.1 in
    let a = c.args.counters.0.cell in
    let b = c.args.counters.1.cell in
    let e = c.args.entry in
    let v0 = c.args.pass.now in
    let v1 = c.take_pen-count.new.pass in
    let v2 = c.take_cell-first.new.pass in
    let v3 = c.take_cell-second.new.pass in
    let v4 = c.append.new.pass in
    let v5 = c.give_cell-one.new.pass in
    let r = c.take_cell-first.result.0 in
    let s = c.take_cell-second.result.0 in
    let claims : v4.claims ≡ v3.claims = ap (λ (v : View). v.claims) c.append.ensures.view in
    let has : Contains v4.claims (Cell b) = subst (λ (l : List Claim). Contains l (Cell b)) (sym claims) (has_second v0.claims v1.claims v2.claims v3.claims a b c.take_pen-count.ensures.claims c.take_cell-first.ensures.claims c.take_cell-second.ensures.claims) in
    let still : Contains v4.claims (Cell s) = subst (λ (x : CellId). Contains v4.claims (Cell x)) (sym c.take_cell-second.ensures.cell) has in
    let apart = cells_apart p q r s (c.take_cell-first.ensures.cell ∙ c.requires.cells.0) (c.take_cell-second.ensures.cell ∙ c.requires.cells.1) c.requires.apart in
    let left = left_if_other (Cell r) v4.claims (Cell s) still apart in
    subst (λ (l : List Claim). Contains l (Cell s)) (sym (ap (λ (v : View). v.claims) c.give_cell-one.ensures.pass)) left

pub give_cell-other-requires-clause-stands : goal.give_cell-other-requires-clause-stands
give_cell-other-requires-clause-stands g c =
    let start = g.O.Origin.start in
    let p = c.args.players.0 in
    let q = c.args.players.1 in
    let a = c.args.counters.0.cell in
    let b = c.args.counters.1.cell in
    let e = c.args.entry in
    let v0 = c.args.pass.now in
    let v1 = c.take_pen-count.new.pass in
    let v2 = c.take_cell-first.new.pass in
    let v3 = c.take_cell-second.new.pass in
    let v4 = c.append.new.pass in
    let v5 = c.give_cell-one.new.pass in
    let n = c.take_cell-second.result.1 in
    let more : entries_of v5.front ≡ entries_of v3.front ++ e ∷ [] = ap (λ (v : View). entries_of v.front) c.give_cell-one.ensures.pass ∙ ap (λ (v : View). entries_of v.front) c.append.ensures.view ∙ entries_more v3.front (sent v3.number e) in
    let touches = subst (λ (x : CellId). start.touches (entries_of v3.front) e x ≡ true) (sym c.requires.cells.1) (touches_second start p q c.requires.start (entries_of v3.front) e) in
    subst (λ (x : CellId). n + 1 ≡ hits start x [] (entries_of v5.front)) (sym c.take_cell-second.ensures.cell) (one_hit_more start b n v3.front (entries_of v5.front) e c.take_cell-second.ensures.hits more touches)

pub give_pen-journal-requires-clause-has : goal.give_pen-journal-requires-clause-has
give_pen-journal-requires-clause-has g c =
    let start = g.O.Origin.start in
    let p = c.args.players.0 in
    let q = c.args.players.1 in
    let a = c.args.counters.0.cell in
    let b = c.args.counters.1.cell in
    let e = c.args.entry in
    let v0 = c.args.pass.now in
    let v1 = c.take_pen-count.new.pass in
    let v2 = c.take_cell-first.new.pass in
    let v3 = c.take_cell-second.new.pass in
    let v4 = c.append.new.pass in
    let r = c.take_cell-first.result.0 in
    let s = c.take_cell-second.result.0 in
    let claims : v4.claims ≡ v3.claims = ap (λ (v : View). v.claims) c.append.ensures.view in
    let has : Contains v4.claims Pen = subst (λ (l : List Claim). Contains l Pen) (sym claims) (has_pen v0.claims v1.claims v2.claims v3.claims a b c.take_pen-count.ensures.claims c.take_cell-first.ensures.claims c.take_cell-second.ensures.claims) in
    let one : Contains c.give_cell-one.new.pass.claims Pen = subst (λ (l : List Claim). Contains l Pen) (sym (ap (λ (v : View). v.claims) c.give_cell-one.ensures.pass)) (left_if_other (Cell r) v4.claims Pen has (λ x. cc x)) in
    subst (λ (l : List Claim). Contains l Pen) (sym (ap (λ (v : View). v.claims) c.give_cell-other.ensures.pass)) (left_if_other (Cell s) c.give_cell-one.new.pass.claims Pen one (λ x. cc x))

pub give_pen-journal-requires-clause-last : goal.give_pen-journal-requires-clause-last
give_pen-journal-requires-clause-last g c =
    let start = g.O.Origin.start in
    let p = c.args.players.0 in
    let q = c.args.players.1 in
    let a = c.args.counters.0.cell in
    let b = c.args.counters.1.cell in
    let e = c.args.entry in
    let v0 = c.args.pass.now in
    let v1 = c.take_pen-count.new.pass in
    let v2 = c.take_cell-first.new.pass in
    let v3 = c.take_cell-second.new.pass in
    let v6 = c.give_cell-other.new.pass in
    let more : entries_of v6.front ≡ entries_of v3.front ++ e ∷ [] = ap (λ (v : View). entries_of v.front) c.give_cell-other.ensures.pass ∙ ap (λ (v : View). entries_of v.front) c.give_cell-one.ensures.pass ∙ ap (λ (v : View). entries_of v.front) c.append.ensures.view ∙ entries_more v3.front (sent v3.number e) in
    sym (ap (last_moment 0) more ∙ last_moment_more 0 (entries_of v3.front) e)
