-- Cells that are held and that a fleet leaves when it lands.
use Rattle.std.proofs.Common.{◌≡◌, ◌≤◌, Bool, true, false, cond, not, ◌&&◌, refl, ap, ◌∙◌, sym, subst, Option, Some, None}
use Rattle.std.specs.Option.{ForSome}
use Rattle.std.specs.Prelude.{◌||◌, IfSome, option_map}
use Rattle.base_ids.specs.Cells.{same_cell}
use Rattle.base_ids.specs.declared.cell_id.CellId.{CellId}
use Rattle.base_ids.specs.declared.cell_id.CellId.TheVariants.{Account as AccountId, Planet as PlanetId}
use Rattle.base_ids.specs.declared.coord.Coord.{Coord}
use Rattle.base_ids.specs.declared.player.Player.{Player}
use Rattle.fleet_rec.specs.Fleets.{AreOutbound}
use Rattle.laziness.proofs.Bringing.{never}
use Rattle.reply_text.specs.declared.units.Units.{Units}
use Rattle.tick_model.specs.Universe.{Fleet}
use Rattle.tick_model.specs.Views.{belongs}
use Rattle.tick_model.specs.declared.rules.Rules.{Rules}
use Rattle.tick_model.proofs.Lists.{and-from, and-is, cell-is, cell-itself, not-true, or-first, or-second}
use Rattle.happenings.specs.Held.{Puts, Stand, held_at}
use Rattle.happenings.specs.Landings.{CanLand, CanLeave, Leaves, is_abroad, is_home, left}
use Rattle.happenings.specs.Queues.{seen_of}
use Rattle.happenings.specs.declared.held.Held.{Held}

left-at : (b : Bool) (rules : Rules) (fleet : Fleet) (back : Option Units) (name cell : CellId) (stand now : Stand) (o : Option Stand) → same_cell name cell ≡ b → (b ≡ true → o ≡ Some stand)
    → now ≡ left rules fleet back name stand → cond b (Some now) o ≡ cond b (option_map (left rules fleet back cell) o) o
left-at true rules fleet back name cell stand now o same here is =
    let one = cell-is name cell same in
    ap Some is ∙ (λ i. Some (left rules fleet back (one i) stand)) ∙ ap (option_map (left rules fleet back cell)) (sym (here refl))
left-at false rules fleet back name cell stand now o other here is = refl

-- a cell is held anew after the fleet left it
pub puts_left : (rules : Rules) (fleet : Fleet) (back : Option Units) (old new : Held) (name : CellId) (stand now : Stand) → Puts old new name now → held_at old name ≡ Some stand
    → now ≡ left rules fleet back name stand → Leaves (same_cell name) rules fleet back old new
puts_left rules fleet back old new name stand now puts found is cell =
    puts cell ∙ left-at (same_cell name cell) rules fleet back name cell stand now (held_at old cell) refl (λ same. ap (held_at old) (sym (cell-is name cell same)) ∙ found) is

none-left : (b : Bool) (f : Stand → Stand) (o : Option Stand) → (b ≡ true → o ≡ None) → o ≡ cond b (option_map f o) o
none-left true f o none = none refl ∙ ap (option_map f) (sym (none refl))
none-left false f o none = refl

-- one that isn't held makes no difference
pub nothing_left : (rules : Rules) (fleet : Fleet) (back : Option Units) (old : Held) (name : CellId) → held_at old name ≡ None → Leaves (same_cell name) rules fleet back old old
nothing_left rules fleet back old name none cell =
    none-left (same_cell name cell) (left rules fleet back cell) (held_at old cell) (λ same. ap (held_at old) (sym (cell-is name cell same)) ∙ none)

-- nor do no cells
pub no_cells : (S : CellId → Bool) (rules : Rules) (fleet : Fleet) (back : Option Units) (old : Held) → ((cell : CellId) → S cell ≡ false) → Leaves S rules fleet back old old
no_cells S rules fleet back old none cell = sym (ap (λ b. cond b (option_map (left rules fleet back cell) (held_at old cell)) (held_at old cell)) (none cell))

-- the same cells
pub same_cells : (S T : CellId → Bool) (rules : Rules) (fleet : Fleet) (back : Option Units) (old new : Held) → ((cell : CellId) → S cell ≡ T cell) → Leaves S rules fleet back old new → Leaves T rules fleet back old new
same_cells S T rules fleet back old new same leaves cell =
    leaves cell ∙ ap (λ b. cond b (option_map (left rules fleet back cell) (held_at old cell)) (held_at old cell)) (same cell)

two-left : (s t : Bool) (f : Stand → Stand) (o : Option Stand) → (s ≡ true → t ≡ false)
    → cond t (option_map f (cond s (option_map f o) o)) (cond s (option_map f o) o) ≡ cond (s || t) (option_map f o) o
two-left true true f o apart = never true refl (apart refl)
two-left true false f o apart = refl
two-left false true f o apart = refl
two-left false false f o apart = refl

-- some cells, and then others
pub leave_more : (S T : CellId → Bool) (rules : Rules) (fleet : Fleet) (back : Option Units) (old mid new : Held) → ((cell : CellId) → S cell ≡ true → T cell ≡ false)
    → Leaves S rules fleet back old mid → Leaves T rules fleet back mid new → Leaves (λ cell. S cell || T cell) rules fleet back old new
leave_more S T rules fleet back old mid new apart first second cell =
    second cell
    ∙ (λ i. cond (T cell) (option_map (left rules fleet back cell) (first cell i)) (first cell i))
    ∙ two-left (S cell) (T cell) (left rules fleet back cell) (held_at old cell) (apart cell)

-- a cell that the fleet has not left yet
pub leave_later : (S : CellId → Bool) (rules : Rules) (fleet : Fleet) (back : Option Units) (old mid : Held) (cell : CellId) → Leaves S rules fleet back old mid → S cell ≡ false
    → CanLeave fleet back old cell → CanLeave fleet back mid cell
leave_later S rules fleet back old mid cell leaves out can =
    let same : held_at mid cell ≡ held_at old cell = leaves cell ∙ ap (λ b. cond b (option_map (left rules fleet back cell) (held_at old cell)) (held_at old cell)) out in
    record {
      behind = subst (λ (o : Option Stand). IfSome o (λ stand. stand.second ≤ fleet.second)) (sym same) can.behind;
      flies = subst (λ (o : Option Stand). ForSome back (λ cargo. AreOutbound fleet.number (seen_of o).fleets)) (sym same) can.flies;
    }

-- a planet is no account
pub planet_apart : (at : Coord) (player : Player) (cell : CellId) → same_cell (PlanetId at) cell ≡ true → same_cell (AccountId player) cell ≡ false
planet_apart at player (PlanetId place) same = refl
planet_apart at player (AccountId other) same = never false same refl

-- Cells to which a fleet belongs only on its way out.

other-than : (fleet : Fleet) (id cell : CellId) → is_home fleet id ≡ false → (b : Bool) → same_cell id cell ≡ b → b ≡ (b && not (is_home fleet cell))
other-than fleet id cell out true same = ap not (sym (ap (is_home fleet) (sym (cell-is id cell same)) ∙ out))
other-than fleet id cell out false same = refl

-- a cell that is none to which it belongs on all its way
pub other_left : (rules : Rules) (fleet : Fleet) (back : Option Units) (old new : Held) (id : CellId) → is_home fleet id ≡ false → Leaves (same_cell id) rules fleet back old new
    → Leaves (λ cell. same_cell id cell && not (is_home fleet cell)) rules fleet back old new
other_left rules fleet back old new id out leaves =
    same_cells (same_cell id) (λ cell. same_cell id cell && not (is_home fleet cell)) rules fleet back old new (λ cell. other-than fleet id cell out (same_cell id cell) refl) leaves

none-of : (fleet : Fleet) (id cell : CellId) → is_home fleet id ≡ true → (b : Bool) → same_cell id cell ≡ b → (b && not (is_home fleet cell)) ≡ false
none-of fleet id cell home true same = ap not (ap (is_home fleet) (sym (cell-is id cell same)) ∙ home)
none-of fleet id cell home false same = refl

-- and one that is
pub home_stays : (rules : Rules) (fleet : Fleet) (back : Option Units) (old : Held) (id : CellId) → is_home fleet id ≡ true
    → Leaves (λ cell. same_cell id cell && not (is_home fleet cell)) rules fleet back old old
home_stays rules fleet back old id home =
    no_cells (λ cell. same_cell id cell && not (is_home fleet cell)) rules fleet back old (λ cell. none-of fleet id cell home (same_cell id cell) refl)

both-out : (a b n : Bool) → ((a && n) || (b && n)) ≡ ((a || b) && n)
both-out true b true = refl
both-out true true false = refl
both-out true false false = refl
both-out false b n = refl

apart-out : (a b n : Bool) → (a ≡ true → b ≡ false) → (a && n) ≡ true → (b && n) ≡ false
apart-out a b n apart is = ap (λ x. x && n) (apart (and-is a n is).0)

-- both cells
pub both_left : (rules : Rules) (fleet : Fleet) (back : Option Units) (old mid new : Held) → Leaves (λ cell. same_cell (PlanetId fleet.target) cell && not (is_home fleet cell)) rules fleet back old mid
    → Leaves (λ cell. same_cell (AccountId fleet.target_owner) cell && not (is_home fleet cell)) rules fleet back mid new → Leaves (is_abroad fleet) rules fleet back old new
both_left rules fleet back old mid new first second =
    let S = λ (cell : CellId). same_cell (PlanetId fleet.target) cell && not (is_home fleet cell) in
    let T = λ (cell : CellId). same_cell (AccountId fleet.target_owner) cell && not (is_home fleet cell) in
    same_cells (λ cell. S cell || T cell) (is_abroad fleet) rules fleet back old new
    (λ cell. both-out (same_cell (PlanetId fleet.target) cell) (same_cell (AccountId fleet.target_owner) cell) (not (is_home fleet cell)))
    (leave_more S T rules fleet back old mid new
    (λ cell. apart-out (same_cell (PlanetId fleet.target) cell) (same_cell (AccountId fleet.target_owner) cell) (not (is_home fleet cell)) (planet_apart fleet.target fleet.target_owner cell)) first second)

-- All cells of a fleet.

all-out : (h a : Bool) → (h || (a && not h)) ≡ (h || (true && a))
all-out true a = refl
all-out false true = refl
all-out false false = refl

pub belongs_out : (fleet : Fleet) (cell : CellId) → fleet.outbound ≡ true → (is_home fleet cell || is_abroad fleet cell) ≡ belongs cell fleet
belongs_out fleet cell out =
    let far = same_cell (PlanetId fleet.target) cell || same_cell (AccountId fleet.target_owner) cell in
    all-out (is_home fleet cell) far ∙ ap (λ b. is_home fleet cell || (b && far)) (sym out)

or-nothing : (h : Bool) → h ≡ (h || false)
or-nothing true = refl
or-nothing false = refl

pub belongs_back : (fleet : Fleet) (cell : CellId) → fleet.outbound ≡ false → is_home fleet cell ≡ belongs cell fleet
belongs_back fleet cell back =
    let far = same_cell (PlanetId fleet.target) cell || same_cell (AccountId fleet.target_owner) cell in
    or-nothing (is_home fleet cell) ∙ ap (λ b. is_home fleet cell || (b && far)) (sym back)

apart-home : (h a : Bool) → h ≡ true → (a && not h) ≡ false
apart-home true true is = refl
apart-home true false is = refl
apart-home false a is = never false is refl

-- the fleet has left all its cells
pub all_left_out : (rules : Rules) (fleet : Fleet) (back : Option Units) (old mid new : Held) → fleet.outbound ≡ true → Leaves (is_home fleet) rules fleet back old mid → Leaves (is_abroad fleet) rules fleet back mid new
    → Leaves (λ cell. belongs cell fleet) rules fleet back old new
all_left_out rules fleet back old mid new out first second =
    same_cells (λ cell. is_home fleet cell || is_abroad fleet cell) (λ cell. belongs cell fleet) rules fleet back old new (λ cell. belongs_out fleet cell out)
    (leave_more (is_home fleet) (is_abroad fleet) rules fleet back old mid new
    (λ cell. apart-home (is_home fleet cell) (same_cell (PlanetId fleet.target) cell || same_cell (AccountId fleet.target_owner) cell)) first second)

pub all_left_back : (rules : Rules) (fleet : Fleet) (back : Option Units) (old new : Held) → fleet.outbound ≡ false → Leaves (is_home fleet) rules fleet back old new
    → Leaves (λ cell. belongs cell fleet) rules fleet back old new
all_left_back rules fleet back old new home leaves = same_cells (is_home fleet) (λ cell. belongs cell fleet) rules fleet back old new (λ cell. belongs_back fleet cell home) leaves

-- A fleet that can land can leave its cells.
pub can_leave : (held : Held) (fleet : Fleet) (back : Option Units) → CanLand held fleet → ForSome back (λ cargo. fleet.outbound ≡ true) → (cell : CellId) → belongs cell fleet ≡ true
    → CanLeave fleet back held cell
can_leave held fleet back can out cell has = record {
  behind = can.behind cell has;
  flies = λ cargo is other within same. ap (λ (f : Fleet). f.outbound) (can.alone cell other within same) ∙ out cargo is;
}

-- what can be left of all cells can be left of those at home
pub leave_at_home : (held : Held) (fleet : Fleet) (back : Option Units) → ((cell : CellId) → belongs cell fleet ≡ true → CanLeave fleet back held cell) → (cell : CellId) → is_home fleet cell ≡ true
    → CanLeave fleet back held cell
leave_at_home held fleet back can cell home =
    can cell (or-first (is_home fleet cell) (fleet.outbound && (same_cell (PlanetId fleet.target) cell || same_cell (AccountId fleet.target_owner) cell)) home)

-- and then of those abroad
pub leave_out_there : (rules : Rules) (held mid : Held) (fleet : Fleet) (back : Option Units) → ((cell : CellId) → belongs cell fleet ≡ true → CanLeave fleet back held cell) → fleet.outbound ≡ true
    → Leaves (is_home fleet) rules fleet back held mid → (cell : CellId) → is_abroad fleet cell ≡ true → CanLeave fleet back mid cell
leave_out_there rules held mid fleet back can flies leaves cell abroad =
    let far = same_cell (PlanetId fleet.target) cell || same_cell (AccountId fleet.target_owner) cell in
    let both = and-is far (not (is_home fleet cell)) abroad in
    leave_later (is_home fleet) rules fleet back held mid cell leaves (not-true (is_home fleet cell) both.1)
    (can cell (or-second (is_home fleet cell) (fleet.outbound && far) (and-from fleet.outbound far flies both.0)))

-- the origin and the owner's account
pub origin_leaves : (held : Held) (fleet : Fleet) (back : Option Units) → ((cell : CellId) → is_home fleet cell ≡ true → CanLeave fleet back held cell) → CanLeave fleet back held (PlanetId fleet.origin)
origin_leaves held fleet back can =
    can (PlanetId fleet.origin) (or-first (same_cell (PlanetId fleet.origin) (PlanetId fleet.origin)) (same_cell (AccountId fleet.owner) (PlanetId fleet.origin)) (cell-itself (PlanetId fleet.origin)))

pub owner_leaves : (rules : Rules) (held mid : Held) (fleet : Fleet) (back : Option Units) → ((cell : CellId) → is_home fleet cell ≡ true → CanLeave fleet back held cell)
    → Leaves (same_cell (PlanetId fleet.origin)) rules fleet back held mid → CanLeave fleet back mid (AccountId fleet.owner)
owner_leaves rules held mid fleet back can leaves =
    leave_later (same_cell (PlanetId fleet.origin)) rules fleet back held mid (AccountId fleet.owner) leaves refl
    (can (AccountId fleet.owner) (or-second (same_cell (PlanetId fleet.origin) (AccountId fleet.owner)) (same_cell (AccountId fleet.owner) (AccountId fleet.owner)) (cell-itself (AccountId fleet.owner))))

pub home_left : (rules : Rules) (fleet : Fleet) (back : Option Units) (old mid new : Held) → Leaves (same_cell (PlanetId fleet.origin)) rules fleet back old mid
    → Leaves (same_cell (AccountId fleet.owner)) rules fleet back mid new → Leaves (is_home fleet) rules fleet back old new
home_left rules fleet back old mid new first second =
    leave_more (same_cell (PlanetId fleet.origin)) (same_cell (AccountId fleet.owner)) rules fleet back old mid new (planet_apart fleet.origin fleet.owner) first second

-- the target and its owner's account
pub target_leaves : (held : Held) (fleet : Fleet) (back : Option Units) → ((cell : CellId) → is_abroad fleet cell ≡ true → CanLeave fleet back held cell) → is_home fleet (PlanetId fleet.target) ≡ false
    → CanLeave fleet back held (PlanetId fleet.target)
target_leaves held fleet back can away =
    can (PlanetId fleet.target)
    (and-from (same_cell (PlanetId fleet.target) (PlanetId fleet.target) || same_cell (AccountId fleet.target_owner) (PlanetId fleet.target)) (not (is_home fleet (PlanetId fleet.target)))
    (or-first (same_cell (PlanetId fleet.target) (PlanetId fleet.target)) (same_cell (AccountId fleet.target_owner) (PlanetId fleet.target)) (cell-itself (PlanetId fleet.target))) (ap not away))

pub target_owner_leaves : (rules : Rules) (held mid : Held) (fleet : Fleet) (back : Option Units) → ((cell : CellId) → is_abroad fleet cell ≡ true → CanLeave fleet back held cell)
    → Leaves (λ cell. same_cell (PlanetId fleet.target) cell && not (is_home fleet cell)) rules fleet back held mid → is_home fleet (AccountId fleet.target_owner) ≡ false
    → CanLeave fleet back mid (AccountId fleet.target_owner)
target_owner_leaves rules held mid fleet back can leaves away =
    leave_later (λ cell. same_cell (PlanetId fleet.target) cell && not (is_home fleet cell)) rules fleet back held mid (AccountId fleet.target_owner) leaves refl
    (can (AccountId fleet.target_owner)
    (and-from (same_cell (PlanetId fleet.target) (AccountId fleet.target_owner) || same_cell (AccountId fleet.target_owner) (AccountId fleet.target_owner)) (not (is_home fleet (AccountId fleet.target_owner)))
    (or-second (same_cell (PlanetId fleet.target) (AccountId fleet.target_owner)) (same_cell (AccountId fleet.target_owner) (AccountId fleet.target_owner)) (cell-itself (AccountId fleet.target_owner))) (ap not away)))
