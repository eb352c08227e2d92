-- Views, and what each step makes of them.
use Rattle.std.specs.Prelude.{ℕ, ◌+◌, ◌-◌, ◌==◌, Bool, true, false, not, nat_lt, max, List, [], ◌∷◌, ◌++◌, map, filter, length, if◌then◌else◌}
use Rattle.base_ids.specs.Cells.{same_cell}
use Rattle.request_text.specs.declared.entry.Entry.{Entry}
use Rattle.fronts.specs.declared.claim.Claim.{Claim}
use Rattle.fronts.specs.declared.claim.Claim.TheVariants.{Pen, Flush, Number, Cell}
use Rattle.fronts.specs.declared.view.Sent.{Sent}
use Rattle.fronts.specs.declared.view.View.{View}
use Rattle.fronts.specs.Start.{Start}
use Rattle.fronts.specs.History.{sent, found_by, calls_by}

-- the calls that a pass made itself
abbrev pub own_calls : View → List Entry
own_calls v = calls_by v.number v.front

-- the same claim
abbrev pub same_claim : Claim → Claim → Bool
same_claim Pen Pen = true
same_claim Flush Flush = true
same_claim (Number a) (Number b) = a == b
same_claim (Cell a) (Cell b) = same_cell a b
same_claim _ _ = false

-- these claims but for one
abbrev pub without : Claim → List Claim → List Claim
without claim claims = filter (λ c. not (same_claim claim c)) claims

-- the first view: it has seen what was found, may do everything, and may give the pass numbers from 2 on
abbrev pub first_view : Start → View
first_view start = record {
  number = 1;
  next = 2;
  durable = length start.found;
  given = 0;
  marks = 0;
  front = found_by start;
  claims = Pen ∷ Flush ∷ Number 1 ∷ map Cell start.cells;
  heard = [];
  kept = [];
}

-- what is left of a view that another one has taken in
abbrev pub spent : View
spent = record { number = 0; next = 0; durable = 0; given = 0; marks = 0; front = []; claims = []; heard = []; kept = [] }

-- it has seen this history
abbrev pub with_front : View → List Sent → View
with_front v front = record v { front = front; heard = []; kept = [] }

-- it has appended an entry under its number
abbrev pub appended : View → Entry → View
appended v entry = with_front v (v.front ++ sent v.number entry ∷ [])

abbrev pub with_durable : View → ℕ → View
with_durable v count = record v { durable = count }

-- it has given a mark, and keeps it
abbrev pub marked : View → View
marked v = record v { given = v.given + 1; marks = v.marks + 1 }

-- a new view with the same front, which may do these things
abbrev pub note_with : View → List Claim → View
note_with v claims = record v { number = 0; next = 0; marks = 0; claims = claims; heard = []; kept = [] }

-- a new pass, and the pass that gave it its number
abbrev pub new_pass : View → View
new_pass v = record (note_with v (Number v.next ∷ [])) { number = v.next }

abbrev pub with_pass_given : View → View
with_pass_given v = record v { next = v.next + 1 }

abbrev pub with_claim_given : Claim → View → View
with_claim_given claim v = record v { claims = without claim v.claims; heard = []; kept = [] }

-- a new note with a mark, and the view that gave the mark
abbrev pub note_with_mark : View → View
note_with_mark v = record (note_with v []) { marks = 1 }

abbrev pub with_mark_given : View → View
with_mark_given v = record v { marks = v.marks - 1 }

abbrev pub is_shorter : View → View → Bool
is_shorter v w = nat_lt (length v.front) (length w.front)

-- Two views as one: the longer front, and all that both may do. It remembers the shorter front and its claims until it has
-- looked at the history once more.
abbrev pub as_one : Bool → View → View → View
as_one shorter v w = record {
  number = v.number;
  next = v.next + w.next;
  durable = max v.durable w.durable;
  given = max v.given w.given;
  marks = v.marks + w.marks;
  front = if shorter then w.front else v.front;
  claims = v.claims ++ w.claims;
  heard = if shorter then v.front else w.front;
  kept = if shorter then v.claims else w.claims;
}

abbrev pub both : View → View → View
both v w = as_one (nat_lt (length v.front) (length w.front)) v w

-- and after that
abbrev pub united : View → View → View
united v w = with_front (both v w) (both v w).front

-- a view that has met another one: it has seen what both have seen
abbrev pub met : View → View → View
met v w = record v {
  durable = max v.durable w.durable;
  given = max v.given w.given;
  front = (both v w).front;
  heard = [];
  kept = [];
}
