-- The universe that answers without ticking: only the closure of a request is brought to its second.
use Rattle.std.specs.Prelude.{Bool, List, [], ◌∷◌}
use Rattle.laziness.specs.Model.{Model}
use Rattle.laziness.specs.Closing.{closing}
use Rattle.laziness.specs.World.{Base}
use Rattle.laziness.specs.Stamps.{Stamps, brought, request_acts}

-- the cells that an entry touches
abbrev pub touched : (M : Model) → Stamps M → M.Entry → M.Id → Bool
touched M f entry = closing M (M.view f.universe) (M.moment_of entry) (M.ask_of entry)

-- these are brought to its moment
abbrev pub prepared : (M : Model) → M.Entry → Stamps M → Stamps M
prepared M entry f = brought M (touched M f entry) (M.moment_of entry) f

-- and it acts there
abbrev pub lazily : (M : Model) → M.Entry → Stamps M → Stamps M
lazily M entry f = request_acts M (touched M f entry) (M.moment_of entry) (M.ask_of entry) f

-- entries act in their order
abbrev pub lazily_all : (M : Model) → List M.Entry → Stamps M → Stamps M
lazily_all M [] f = f
lazily_all M (entry ∷ later) f = lazily_all M later (lazily M entry f)

-- every cell stands at the base's moment
abbrev pub stamped : (M : Model) → Base M → Stamps M
stamped M base = record { universe = base.universe; at = λ x. base.moment }

-- the universe that a history makes of its base
abbrev pub lazy : (M : Model) → Base M → List M.Entry → Stamps M
lazy M base history = lazily_all M history (stamped M base)

-- the reply to an entry, after the entries before it
abbrev pub lazy_reply : (M : Model) → Base M → List M.Entry → M.Entry → M.Reply
lazy_reply M base before entry = M.reply (M.ask_of entry) (M.moment_of entry) (prepared M entry (lazy M base before)).universe
