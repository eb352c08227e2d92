-- The words of requests. Rule: docs/PROTOCOL.md, "Requests".
use Rattle.std.specs.Prelude.{◌≡◌, ℕ, List, [], ◌∷◌}
use Rattle.std.specs.List.{join_with_byte}
use Rattle.std.specs.Fmt.{decimal}
use Rattle.base_ids.specs.Text.{coord_text, system_text}
use Rattle.catalog.specs.Kinds.{kind_word}
use Rattle.catalog.specs.Missions.{mission_word}
use Rattle.request_text.specs.Flights.{flight_words}
use Rattle.request_text.specs.Forms.{form_word}
use Rattle.request_text.specs.declared.form.Form.{Form}
use Rattle.request_text.specs.declared.form.Form.TheVariants as F
use Rattle.request_text.specs.declared.request.Request.{Request}
use Rattle.request_text.specs.declared.request.Request.TheVariants.{Planet, Account, Fleets, System, Build, Research, Yard, Set, Send, Join, Recall}

-- the form of a request
abbrev pub form_of : Request → Form
form_of (Planet at) = F.Planet
form_of Account = F.Account
form_of Fleets = F.Fleets
form_of (System at) = F.System
form_of (Build at building) = F.Build
form_of (Research at technology) = F.Research
form_of (Yard at unit count) = F.Yard
form_of (Set at work tenths) = F.Set
form_of (Send from to mission setting ships cargo) = F.Send
form_of (Join fleet from to setting ships cargo) = F.Join
form_of (Recall fleet) = F.Recall

-- the words after the first
abbrev pub argument_words : Request → List (List ℕ)
argument_words (Planet at) = coord_text at ∷ []
argument_words Account = []
argument_words Fleets = []
argument_words (System at) = system_text at ∷ []
argument_words (Build at building) = coord_text at ∷ kind_word building.kind ∷ []
argument_words (Research at technology) = coord_text at ∷ kind_word technology.kind ∷ []
argument_words (Yard at unit count) = coord_text at ∷ kind_word unit.kind ∷ decimal count.n ∷ []
argument_words (Set at work tenths) = coord_text at ∷ kind_word work.kind ∷ decimal tenths.n ∷ []
argument_words (Send from to mission setting ships cargo) = coord_text from ∷ coord_text to ∷ mission_word mission ∷ flight_words setting ships cargo []
argument_words (Join fleet from to setting ships cargo) = decimal fleet.f ∷ coord_text from ∷ coord_text to ∷ flight_words setting ships cargo []
argument_words (Recall fleet) = decimal fleet.f ∷ []

-- a request is of this form and has these words after the first
abbrev pub IsSpelled : Form → List (List ℕ) → Request → Type 0
IsSpelled form arguments req = (form_of req ≡ form) × (arguments ≡ argument_words req)

-- the words that spell a request
abbrev pub request_words : Request → List (List ℕ)
request_words req = form_word (form_of req) ∷ argument_words req

-- the text of a request: its words, with one space between them
abbrev pub request_text : Request → List ℕ
request_text req = join_with_byte 32 (request_words req)
