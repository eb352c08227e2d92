-- When each cell was last touched, told by the universe that ticks alone; and what it is to stand for that universe.
use Rattle.std.specs.Prelude.{◌≡◌, ℕ, Bool, List, [], ◌∷◌, ◌++◌, if◌then◌else◌}
use Rattle.laziness.specs.Model.{Model}
use Rattle.laziness.specs.Closing.{closing}
use Rattle.laziness.specs.World.{Base, world}
use Rattle.laziness.specs.Stamps.{Stamps}

-- what is seen of each cell in the ticking universe, at a second of its own
abbrev pub seen_at : (M : Model) → Base M → List M.Entry → (M.Id → ℕ) → M.Id → M.View
seen_at M base history seconds x = M.view (world M base history (seconds x)) x

-- an entry touches its closure, by what is seen of each cell at its last touch before
abbrev pub touches : (M : Model) → Base M → List M.Entry → (M.Id → ℕ) → M.Entry → M.Id → Bool
touches M base before last entry = closing M (seen_at M base before last) (M.moment_of entry) (M.ask_of entry)

-- the last touches after later entries, which follow on those before
abbrev pub last_after : (M : Model) → Base M → List M.Entry → (M.Id → ℕ) → List M.Entry → M.Id → ℕ
last_after M base before last [] = last
last_after M base before last (entry ∷ later) =
    last_after M base (before ++ entry ∷ []) (λ x. if touches M base before last entry x then M.moment_of entry else last x) later

-- the second of each cell's last touch in a history; the base touches every cell
abbrev pub last_touch : (M : Model) → Base M → List M.Entry → M.Id → ℕ
last_touch M base history = last_after M base [] (λ x. base.moment) history

-- Each cell stands at its last touch in the history, as the ticking universe had it there.
pub record StandsFor (M : Model) (base : Base M) (history : List M.Entry) (f : Stamps M) : Type 0 where
  pub second : (x : M.Id) → f.at x ≡ last_touch M base history x
  pub view : (x : M.Id) → M.view f.universe x ≡ M.view (world M base history (f.at x)) x
