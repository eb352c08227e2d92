-- Requests by their forms: the words of a form are those of a request of that form alone.
use Rattle.std.proofs.Common.{◌≡◌, ℕ, List, [], ◌∷◌, decimal, ap, sym, ◌∙◌}
use Rattle.std.specs.Prelude.{Option, Some, None, MatchOption}
use Rattle.base_ids.specs.Text.{coord_text, system_text}
use Rattle.base_ids.specs.declared.coord.Coord.{Coord}
use Rattle.base_ids.specs.declared.fleet_number.FleetNumber.{FleetNumber}
use Rattle.base_ids.specs.declared.system.System.{System as SystemId}
use Rattle.catalog.specs.Kinds.{kind_word}
use Rattle.catalog.specs.Missions.{mission_word}
use Rattle.catalog.specs.declared.amounts.Amounts.{Amounts}
use Rattle.catalog.specs.declared.classes.Building.{Building}
use Rattle.catalog.specs.declared.classes.Technology.{Technology}
use Rattle.catalog.specs.declared.classes.Unit.{Unit as UnitKind}
use Rattle.catalog.specs.declared.classes.Work.{Work}
use Rattle.catalog.specs.declared.mission.Mission.{Mission}
use Rattle.catalog.specs.declared.settings.Count.{Count}
use Rattle.catalog.specs.declared.settings.SpeedSetting.{SpeedSetting}
use Rattle.catalog.specs.declared.settings.Tenths.{Tenths}
use Rattle.catalog.specs.declared.ships.Ships.{Ships}
use Rattle.request_text.specs.Flights.{flight_words}
use Rattle.request_text.specs.Forms.{form_word}
use Rattle.request_text.specs.Words.{IsSpelled, argument_words, form_of, request_words}
use Rattle.request_text.specs.declared.form.Form.{Form}
use Rattle.request_text.specs.declared.form.Form.TheVariants as F
use Rattle.request_text.specs.declared.request.Request.{Request}
use Rattle.request_text.specs.declared.request.Request.TheVariants.{Planet, Account, Fleets, System, Build, Research, Yard, Set, Send, Join, Recall}
use Rattle.request_text.proofs.Heads.{form_once}

-- what a reader of a form owes
abbrev pub ReadsForm : Form → List (List ℕ) → Option Request → Type 0
ReadsForm form words found = MatchOption found ((req : Request) → form_of req ≡ form → words ≡ argument_words req → ⊥) (IsSpelled form words)

pub only_planet : (words : List (List ℕ)) (found : Option Request) → MatchOption found ((at : Coord) → words ≡ coord_text at ∷ [] → ⊥) (IsSpelled F.Planet words) → ReadsForm F.Planet words found
only_planet words (Some req) found = found
only_planet words None none = refuse
  where
    refuse : (req : Request) → form_of req ≡ F.Planet → words ≡ argument_words req → ⊥
    refuse (Planet at) form spells = none at spells
    refuse _ form spells = absurd (cc)

pub only_account : (words : List (List ℕ)) (found : Option Request) → MatchOption found (words ≡ [] → ⊥) (IsSpelled F.Account words) → ReadsForm F.Account words found
only_account words (Some req) found = found
only_account words None none = refuse
  where
    refuse : (req : Request) → form_of req ≡ F.Account → words ≡ argument_words req → ⊥
    refuse Account form spells = none spells
    refuse _ form spells = absurd (cc)

pub only_fleets : (words : List (List ℕ)) (found : Option Request) → MatchOption found (words ≡ [] → ⊥) (IsSpelled F.Fleets words) → ReadsForm F.Fleets words found
only_fleets words (Some req) found = found
only_fleets words None none = refuse
  where
    refuse : (req : Request) → form_of req ≡ F.Fleets → words ≡ argument_words req → ⊥
    refuse Fleets form spells = none spells
    refuse _ form spells = absurd (cc)

pub only_system : (words : List (List ℕ)) (found : Option Request) → MatchOption found ((system : SystemId) → words ≡ system_text system ∷ [] → ⊥) (IsSpelled F.System words) → ReadsForm F.System words found
only_system words (Some req) found = found
only_system words None none = refuse
  where
    refuse : (req : Request) → form_of req ≡ F.System → words ≡ argument_words req → ⊥
    refuse (System system) form spells = none system spells
    refuse _ form spells = absurd (cc)

pub only_build : (words : List (List ℕ)) (found : Option Request) → MatchOption found ((at : Coord) (building : Building) → words ≡ coord_text at ∷ kind_word building.kind ∷ [] → ⊥) (IsSpelled F.Build words) → ReadsForm F.Build words found
only_build words (Some req) found = found
only_build words None none = refuse
  where
    refuse : (req : Request) → form_of req ≡ F.Build → words ≡ argument_words req → ⊥
    refuse (Build at building) form spells = none at building spells
    refuse _ form spells = absurd (cc)

pub only_research : (words : List (List ℕ)) (found : Option Request) → MatchOption found ((at : Coord) (technology : Technology) → words ≡ coord_text at ∷ kind_word technology.kind ∷ [] → ⊥) (IsSpelled F.Research words) → ReadsForm F.Research words found
only_research words (Some req) found = found
only_research words None none = refuse
  where
    refuse : (req : Request) → form_of req ≡ F.Research → words ≡ argument_words req → ⊥
    refuse (Research at technology) form spells = none at technology spells
    refuse _ form spells = absurd (cc)

pub only_yard : (words : List (List ℕ)) (found : Option Request) → MatchOption found ((at : Coord) (unit : UnitKind) (count : Count) → words ≡ coord_text at ∷ kind_word unit.kind ∷ decimal count.n ∷ [] → ⊥) (IsSpelled F.Yard words) → ReadsForm F.Yard words found
only_yard words (Some req) found = found
only_yard words None none = refuse
  where
    refuse : (req : Request) → form_of req ≡ F.Yard → words ≡ argument_words req → ⊥
    refuse (Yard at unit count) form spells = none at unit count spells
    refuse _ form spells = absurd (cc)

pub only_set : (words : List (List ℕ)) (found : Option Request) → MatchOption found ((at : Coord) (work : Work) (tenths : Tenths) → words ≡ coord_text at ∷ kind_word work.kind ∷ decimal tenths.n ∷ [] → ⊥) (IsSpelled F.Set words) → ReadsForm F.Set words found
only_set words (Some req) found = found
only_set words None none = refuse
  where
    refuse : (req : Request) → form_of req ≡ F.Set → words ≡ argument_words req → ⊥
    refuse (Set at work tenths) form spells = none at work tenths spells
    refuse _ form spells = absurd (cc)

pub only_send : (words : List (List ℕ)) (found : Option Request) → MatchOption found ((from : Coord) (to : Coord) (mission : Mission) (setting : SpeedSetting) (ships : Ships) (cargo : Amounts) → words ≡ coord_text from ∷ coord_text to ∷ mission_word mission ∷ flight_words setting ships cargo [] → ⊥) (IsSpelled F.Send words) → ReadsForm F.Send words found
only_send words (Some req) found = found
only_send words None none = refuse
  where
    refuse : (req : Request) → form_of req ≡ F.Send → words ≡ argument_words req → ⊥
    refuse (Send from to mission setting ships cargo) form spells = none from to mission setting ships cargo spells
    refuse _ form spells = absurd (cc)

pub only_join : (words : List (List ℕ)) (found : Option Request) → MatchOption found ((fleet : FleetNumber) (from : Coord) (to : Coord) (setting : SpeedSetting) (ships : Ships) (cargo : Amounts) → words ≡ decimal fleet.f ∷ coord_text from ∷ coord_text to ∷ flight_words setting ships cargo [] → ⊥) (IsSpelled F.Join words) → ReadsForm F.Join words found
only_join words (Some req) found = found
only_join words None none = refuse
  where
    refuse : (req : Request) → form_of req ≡ F.Join → words ≡ argument_words req → ⊥
    refuse (Join fleet from to setting ships cargo) form spells = none fleet from to setting ships cargo spells
    refuse _ form spells = absurd (cc)

pub only_recall : (words : List (List ℕ)) (found : Option Request) → MatchOption found ((fleet : FleetNumber) → words ≡ decimal fleet.f ∷ [] → ⊥) (IsSpelled F.Recall words) → ReadsForm F.Recall words found
only_recall words (Some req) found = found
only_recall words None none = refuse
  where
    refuse : (req : Request) → form_of req ≡ F.Recall → words ≡ argument_words req → ⊥
    refuse (Recall fleet) form spells = none fleet spells
    refuse _ form spells = absurd (cc)

pub ruleset forms = (only_planet, only_account, only_fleets, only_system, only_build, only_research, only_yard, only_set, only_send, only_join, only_recall)

-- no word at all
pub no_word : (words : List (List ℕ)) → words ≡ [] → (req : Request) → words ≡ request_words req → ⊥
no_word words none req spells = let both : [] ≡ form_word (form_of req) ∷ argument_words req = sym none ∙ spells in cc

-- a first word of no form
pub no_form : (old new : List (List ℕ)) (word : List ℕ) → old ≡ word ∷ new → ((form : Form) → word ≡ form_word form → ⊥) → (req : Request) → old ≡ request_words req → ⊥
no_form old new word cut none req spells =
    let both : word ∷ new ≡ form_word (form_of req) ∷ argument_words req = sym cut ∙ spells in
    none (form_of req) (cc)

-- a first word of a form, and other words that are not those of a request of it
pub no_arguments : (old new : List (List ℕ)) (word : List ℕ) (form : Form) → old ≡ word ∷ new → word ≡ form_word form → ((req : Request) → form_of req ≡ form → new ≡ argument_words req → ⊥) → (req : Request) → old ≡ request_words req → ⊥
no_arguments old new word form cut named none req spells =
    let both : word ∷ new ≡ form_word (form_of req) ∷ argument_words req = sym cut ∙ spells in
    let head : word ≡ form_word (form_of req) = cc in
    none req (form_once (form_of req) form (sym head ∙ named)) (cc)

-- a first word of a form, and the other words of a request of it
pub spelled : (old new : List (List ℕ)) (word : List ℕ) (form : Form) (req : Request) → old ≡ word ∷ new → word ≡ form_word form → form_of req ≡ form → new ≡ argument_words req → old ≡ request_words req
spelled old new word form req cut named same arguments = cut ∙ (λ i. named i ∷ arguments i) ∙ ap (λ f. form_word f ∷ argument_words req) (sym same)

pub ruleset heading = (no_word, no_form, no_arguments, spelled)
