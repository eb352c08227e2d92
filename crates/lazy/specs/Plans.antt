-- What a plan is worth. Rule: docs/RULES.md, "Time and order".
use Rattle.std.specs.Prelude.{◌≡◌, ℕ, ◌+◌, ◌≤◌, List, [], ◌∷◌, Option, None, Some, IfSome, option_map, if◌then◌else◌}
use Rattle.base_ids.specs.declared.cell_id.CellId.{CellId}
use Rattle.base_ids.specs.declared.numbers.TheConstants.{LAST_NUMBER}
use Rattle.base_ids.specs.declared.player.Player.{Player}
use Rattle.fleet_rec.specs.Fleet.{fleet_seen}
use Rattle.happenings.specs.Held.{IsNamed, ShowsCell, Stand, held_at, holds}
use Rattle.happenings.specs.Numbering.{fleet_numbered, numbered_at}
use Rattle.happenings.specs.declared.held.Held.{Held}
use Rattle.happenings.specs.declared.queue.Queue.{Queue}
use Rattle.happenings.specs.declared.queue.Queue.TheVariants.{Buildings as BuildingsOf, Research as ResearchOf, Yard as YardAt}
use Rattle.laziness.specs.Stamps.{Stamps, brought, request_acts}
use Rattle.lazy.specs.Planning.{HoldsSame}
use Rattle.lazy.specs.declared.ordered.Ordered.{Ordered}
use Rattle.lazy.specs.declared.ordered.Ordered.TheVariants.{Item as ItemOrdered, Fleet as FleetSent}
use Rattle.lazy.specs.declared.planning.Plan.{Plan}
use Rattle.reply_text.specs.declared.reply.Reply.{Reply}
use Rattle.request_text.specs.declared.entry.Entry.{Entry}
use Rattle.request_text.specs.declared.request.Request.{Request}
use Rattle.request_text.specs.declared.request.Request.TheVariants.{Build, Research, Yard, Send, Join}
use Rattle.tick_model.specs.Game.{game}
use Rattle.tick_model.specs.Step.{step}
use Rattle.tick_model.specs.Universe.{Fleet, Setting}
use Rattle.tick_model.specs.Views.{belongs}

-- the queue whose last item is what a player's request orders, if it is granted
abbrev pub queue_ordered : Player → Request → Option Queue
queue_ordered player (Build at building) = Some (BuildingsOf at)
queue_ordered player (Research at technology) = Some (ResearchOf player)
queue_ordered player (Yard at unit count) = Some (YardAt at)
queue_ordered player _ = None

-- the last of some fleets
abbrev pub last_fleet : List Fleet → Option Fleet
last_fleet [] = None
last_fleet (fleet ∷ []) = Some fleet
last_fleet (fleet ∷ next ∷ later) = last_fleet (next ∷ later)

-- the fleet that a request sends, if it is granted: the last of the caller's
abbrev pub fleet_ordered : Request → List Fleet → Option Fleet
fleet_ordered (Send from to mission setting ships cargo) fleets = last_fleet fleets
fleet_ordered (Join group from to setting ships cargo) fleets = last_fleet fleets
fleet_ordered _ fleets = None

-- what is ordered is in this queue, or is this fleet, if there is either
abbrev pub IsOrdered : Option Queue → Option Fleet → Option Ordered → Type 0
IsOrdered queue fleet None = (queue ≡ None) × (fleet ≡ None)
IsOrdered queue fleet (Some (ItemOrdered ordered)) = (queue ≡ Some ordered) × (fleet ≡ None)
IsOrdered queue fleet (Some (FleetSent sent)) = (queue ≡ None) × (fleet ≡ Some (fleet_seen sent))

-- what is held of a cell once what was ordered has this number
abbrev pub ordered_at : ℕ → Option Ordered → Held → CellId → Option Stand
ordered_at number None held cell = held_at held cell
ordered_at number (Some (ItemOrdered queue)) held cell = numbered_at number (Some queue) held cell
ordered_at number (Some (FleetSent fleet)) held cell =
    if belongs cell (fleet_seen fleet) then option_map (fleet_numbered number) (held_at held cell) else held_at held cell

-- the reply, once the request has its number
abbrev pub reply_with : ℕ → Plan → Reply
reply_with number plan = record { number = number; moment = plan.moment; code = plan.code; body = plan.body }

-- The same cells are held, each under its own name. Once the request has the next number, they show the universe in which it acted,
-- what it ordered with that number; and the reply is the one that it has there.
pub record IsPlan (setting : Setting) (held : Held) (player : Player) (req : Request) (moment : ℕ) (f : Stamps (game setting)) (plan : Plan) : Type 0 where
  pub same : HoldsSame held plan.cells
  pub named : IsNamed plan.cells
  pub shows : (number : ℕ) (entry : Entry) → number ≡ f.universe.number + 1 → entry.player ≡ player → entry.req ≡ req → (cell : CellId)
      → IfSome (ordered_at number plan.ordered plan.cells cell) (ShowsCell setting (request_acts (game setting) (holds held) moment entry f) cell)
  pub replied : (number : ℕ) → number ≡ f.universe.number + 1
      → reply_with number plan ≡ (step setting player req moment (brought (game setting) (holds held) moment f).universe).reply
