-- The forms of requests, their numbers and their words. Rule: docs/PROTOCOL.md, "Requests".
use Rattle.std.specs.Prelude.{ℕ, List, codes}
use Rattle.request_text.specs.declared.form.Form.{Form}
use Rattle.request_text.specs.declared.form.Form.TheVariants.{Planet, Account, Fleets, System, Build, Research, Yard, Set, Send, Join, Recall}

-- the number of a form
abbrev pub form_number : Form → ℕ
form_number Planet = 1
form_number Account = 2
form_number Fleets = 3
form_number System = 4
form_number Build = 5
form_number Research = 6
form_number Yard = 7
form_number Set = 8
form_number Send = 9
form_number Join = 10
form_number Recall = 11

-- the word of a form
abbrev pub form_word : Form → List ℕ
form_word Planet = codes "planet"
form_word Account = codes "account"
form_word Fleets = codes "fleets"
form_word System = codes "system"
form_word Build = codes "build"
form_word Research = codes "research"
form_word Yard = codes "yard"
form_word Set = codes "set"
form_word Send = codes "send"
form_word Join = codes "join"
form_word Recall = codes "recall"
