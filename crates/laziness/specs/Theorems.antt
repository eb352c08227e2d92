-- What holds of every model that meets the laws.
use Rattle.std.specs.Prelude.{◌≡◌, ℕ, ◌<◌, ◌≤◌, Bool, true, not, List, [], ◌∷◌, ◌++◌}
use Rattle.laziness.specs.Model.{Model}
use Rattle.laziness.specs.Laws.{NoneDue, IsNext, IsClosed, Covers, IsReady, Agree}
use Rattle.laziness.specs.Closing.{closing, IsLeast}
use Rattle.laziness.specs.Second.{everything, second}
use Rattle.laziness.specs.World.{Base, IsBase, InOrder, last_moment, world, world_reply}
use Rattle.laziness.specs.Stamps.{Stamps, bring_to, event_acts, happened, brought, request_acts, IsTimely, AgreeStamped}
use Rattle.laziness.specs.Lazy.{touched, lazily, lazy, lazy_reply}
use Rattle.laziness.specs.Touch.{StandsFor}

-- The closure by rounds is the least closed set that has what a request asks for, and the only one.
pub record ClosuresAreLeast (M : Model) : Type 0 where
  pub least : (u : M.Universe) (t : ℕ) (a : M.Ask) → M.Fine u → IsLeast M (M.view u) t a (closing M (M.view u) t a)
  pub only : (u : M.Universe) (t : ℕ) (a : M.Ask) (S : M.Id → Bool) → M.Fine u → IsLeast M (M.view u) t a S → (x : M.Id) → S x ≡ closing M (M.view u) t a x

-- A second ends with nothing due, and keeps the rules; so the ticking universe can be a base at any moment that is no earlier
-- than its last entry.
pub record SecondsEnd (M : Model) : Type 0 where
  pub none : (t : ℕ) (u : M.Universe) → M.Fine u → NoneDue M (everything M) t (second M t u)
  pub fine : (t : ℕ) (u : M.Universe) → M.Fine u → M.Fine (second M t u)
  pub worlds : (base : Base M) (history : List M.Entry) (t : ℕ) → IsBase M base → InOrder M base.moment history → last_moment M base.moment history ≤ t
      → IsBase M (record { moment = t; universe = world M base history t })

-- two bases of one moment that show the same of a set, which is closed at a later second
pub record AgreeUntil (M : Model) (S : M.Id → Bool) (t : ℕ) (base other : Base M) : Type 0 where
  pub is_base : IsBase M base
  pub is_other : IsBase M other
  pub moment : base.moment ≡ other.moment
  pub later : base.moment ≤ t
  pub closed : IsClosed M (M.view base.universe) t S
  pub agree : Agree M S base.universe other.universe

-- Ticking is local: two such bases tick to that second, and show the same of the set; and a request that the set covers has
-- the same reply in both, and makes the same of the set, if as many requests came before.
pub record TicksLocally (M : Model) : Type 0 where
  pub views : (S : M.Id → Bool) (t : ℕ) (base other : Base M) → AgreeUntil M S t base other → Agree M S (world M base [] t) (world M other [] t)
  pub replies : (S : M.Id → Bool) (t : ℕ) (base other : Base M) (a : M.Ask) → AgreeUntil M S t base other → Covers M (M.view base.universe) a S → M.count base.universe ≡ M.count other.universe
      → M.reply a t (world M base [] t) ≡ M.reply a t (world M other [] t)
  pub changes : (S : M.Id → Bool) (t : ℕ) (base other : Base M) (a : M.Ask) → AgreeUntil M S t base other → Covers M (M.view base.universe) a S → M.count base.universe ≡ M.count other.universe
      → Agree M S (M.act a t (world M base [] t)) (M.act a t (world M other [] t))

-- Lazy equals ticking. After every history each cell of the lazy universe stands at its last touch, as the ticking
-- universe had it there; each entry has the reply that it has in the ticking universe; and at any later second the lazy
-- universe, with all cells brought there, shows the ticking one.
pub record LazyEqualsTicking (M : Model) : Type 0 where
  pub stands : (base : Base M) (history : List M.Entry) → IsBase M base → InOrder M base.moment history
      → StandsFor M base history (lazy M base history)
  pub replies : (base : Base M) (before : List M.Entry) (entry : M.Entry) → IsBase M base → InOrder M base.moment (before ++ entry ∷ [])
      → lazy_reply M base before entry ≡ world_reply M base before entry
  pub catches_up : (base : Base M) (history : List M.Entry) (t : ℕ) → IsBase M base → InOrder M base.moment history → last_moment M base.moment history ≤ t
      → (x : M.Id) → M.view (brought M (everything M) t (lazy M base history)).universe x ≡ M.view (world M base history t) x

-- One more entry is one more step of the lazy universe. The cells that it touches then stand at its moment; all others stay
-- as they are, at their seconds.
pub record EntriesTouchTheirClosure (M : Model) : Type 0 where
  pub steps : (base : Base M) (history : List M.Entry) (entry : M.Entry) → lazy M base (history ++ entry ∷ []) ≡ lazily M entry (lazy M base history)
  pub stamped : (base : Base M) (history : List M.Entry) (entry : M.Entry) → IsBase M base → InOrder M base.moment (history ++ entry ∷ [])
      → (x : M.Id) → touched M (lazy M base history) entry x ≡ true → (lazy M base (history ++ entry ∷ [])).at x ≡ M.moment_of entry
  pub untouched : (base : Base M) (history : List M.Entry) (entry : M.Entry) → IsBase M base → InOrder M base.moment (history ++ entry ∷ [])
      → AgreeStamped M (λ x. not (touched M (lazy M base history) entry x)) (lazy M base (history ++ entry ∷ [])) (lazy M base history)

-- A set of cells can be brought to a second: it is closed there, none of its cells stands later, and no cell stands later than
-- an event that needs it.
pub record CanBring (M : Model) (S : M.Id → Bool) (t : ℕ) (f : Stamps M) : Type 0 where
  pub fine : M.Fine f.universe
  pub timely : IsTimely M f
  pub closed : IsClosed M (M.view f.universe) t S
  pub behind : (x : M.Id) → S x ≡ true → f.at x ≤ t

-- The first event that is due acts: it stays in the set, which can still be brought and covers what it covered; fewer events can come;
-- and what happens then is what happens anyway.
pub record FirstActs (M : Model) (S : M.Id → Bool) (t : ℕ) (f : Stamps M) (e : M.Event) : Type 0 where
  pub inside : (x : M.Id) → M.footprint e x ≡ true → S x ≡ true
  pub still : CanBring M S t (event_acts M e f)
  pub covers : (a : M.Ask) → Covers M (M.view f.universe) a S → Covers M (M.view (event_acts M e f).universe) a S
  pub fewer : M.measure (event_acts M e f).universe < M.measure f.universe
  pub rest : happened M S t (event_acts M e f) ≡ happened M S t f

-- What becomes of a set of cells depends on these cells alone, whatever the others are, so code that holds only them can bring
-- them. It finds the first event that is due, lets it act, and goes on until none is due.
pub record CellsDecide (M : Model) : Type 0 where
  -- the lazy universe after a history can be brought to any later second
  pub can_bring : (base : Base M) (history : List M.Entry) (S : M.Id → Bool) (t : ℕ) → IsBase M base → InOrder M base.moment history → last_moment M base.moment history ≤ t
      → IsClosed M (M.view (lazy M base history).universe) t S → CanBring M S t (lazy M base history)
  -- if none is due, nothing happens
  pub none : (S : M.Id → Bool) (t : ℕ) (f : Stamps M) → M.Fine f.universe → NoneDue M S t f.universe → happened M S t f ≡ f
  -- the first event acts
  pub first : (S : M.Id → Bool) (t : ℕ) (f : Stamps M) (e : M.Event) → CanBring M S t f → IsNext M S t f.universe e → FirstActs M S t f e
  -- there is one first event, and it makes the same of equal cells
  pub one : (S : M.Id → Bool) (t : ℕ) (f : Stamps M) (e d : M.Event) → M.Fine f.universe → IsNext M S t f.universe e → IsNext M S t f.universe d → e ≡ d
  pub same_first : (S : M.Id → Bool) (t : ℕ) (f g : Stamps M) (e : M.Event) → CanBring M S t f → CanBring M S t g → AgreeStamped M S f g → IsNext M S t f.universe e
      → IsNext M S t g.universe e
  pub event : (S : M.Id → Bool) (t : ℕ) (f g : Stamps M) (e : M.Event) → CanBring M S t f → CanBring M S t g → AgreeStamped M S f g → IsNext M S t f.universe e
      → AgreeStamped M S (event_acts M e f) (event_acts M e g)
  -- equal cells are brought alike
  pub cells : (S : M.Id → Bool) (t : ℕ) (f g : Stamps M) → CanBring M S t f → CanBring M S t g → AgreeStamped M S f g
      → AgreeStamped M S (brought M S t f) (brought M S t g)
  -- a request that they cover can act on them then
  pub ready : (S : M.Id → Bool) (t : ℕ) (a : M.Ask) (f : Stamps M) → CanBring M S t f → Covers M (M.view f.universe) a S → IsReady M S t a (brought M S t f).universe
  -- and it makes the same of equal cells, with the same reply
  pub request : (S : M.Id → Bool) (t : ℕ) (a : M.Ask) (f g : Stamps M) → CanBring M S t f → CanBring M S t g → AgreeStamped M S f g
      → Covers M (M.view f.universe) a S → M.count f.universe ≡ M.count g.universe
      → AgreeStamped M S (request_acts M S t a f) (request_acts M S t a g)
  pub reply : (S : M.Id → Bool) (t : ℕ) (a : M.Ask) (f g : Stamps M) → CanBring M S t f → CanBring M S t g → AgreeStamped M S f g
      → Covers M (M.view f.universe) a S → M.count f.universe ≡ M.count g.universe
      → M.reply a t (brought M S t f).universe ≡ M.reply a t (brought M S t g).universe

-- These events act, one after another, each the first that is due by the second s, and lead to that end, where none is left. All
-- the way the set can be brought to the second t.
abbrev pub FirstsLead : (M : Model) → (M.Id → Bool) → ℕ → ℕ → Stamps M → List M.Event → Stamps M → Type 0
FirstsLead M S s t f [] end = CanBring M S t f × NoneDue M S s f.universe × (end ≡ f)
FirstsLead M S s t f (e ∷ es) end = CanBring M S t f × IsNext M S s f.universe e × FirstsLead M S s t (event_acts M e f) es end

-- Before a closed set is brought to a second, its events up to an earlier one can act, and then some of its cells can be brought
-- there: the set comes to the same.
pub record PartsComeFirst (M : Model) : Type 0 where
  -- what happens by the earlier second is one first event after another
  pub each : (S : M.Id → Bool) (s t : ℕ) (f : Stamps M) → s ≤ t → CanBring M S t f
      → (es : List M.Event) × FirstsLead M S s t f es (happened M S s f)
  -- then none of these is left, and the set can still be brought
  pub still : (S : M.Id → Bool) (s t : ℕ) (f : Stamps M) → s ≤ t → CanBring M S t f
      → CanBring M S t (happened M S s f) × NoneDue M S s (happened M S s f).universe
  -- what happens by the later second is what happens then
  pub onward : (S : M.Id → Bool) (s t : ℕ) (f : Stamps M) → s ≤ t → CanBring M S t f → happened M S t (happened M S s f) ≡ happened M S t f
  -- once nothing is due by a second, some of the cells that stand no later can be brought there, and it makes no difference to the
  -- set later
  pub early : (S P : M.Id → Bool) (s t : ℕ) (f : Stamps M) → s ≤ t → CanBring M S t f → NoneDue M S s f.universe → ((x : M.Id) → P x ≡ true → S x ≡ true)
      → ((x : M.Id) → P x ≡ true → f.at x ≤ s)
      → CanBring M S t (bring_to M P s f) × AgreeStamped M S (brought M S t (bring_to M P s f)) (brought M S t f)
