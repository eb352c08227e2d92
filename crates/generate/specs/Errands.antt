-- What a line of a generated text asks for. Rule: docs/FORMATS.md, "The generated text".
use Rattle.std.specs.Prelude.{ℕ, ◌+◌, List, [], ◌∷◌, codes, get_or}
use Rattle.std.specs.Fmt.{decimal}
use Rattle.catalog.specs.Kinds.{kind_word}
use Rattle.catalog.specs.Texts.{ship_part}
use Rattle.catalog.specs.declared.classes.TheConstants.{BUILDINGS, TECHNOLOGIES, UNIT_KINDS}
use Rattle.catalog.specs.declared.kind.Kind.{Kind}
use Rattle.catalog.specs.declared.kind.Kind.TheVariants.{LightFighter, MetalMine, SmallCargo}
use Rattle.rand_pcg.specs.Lcg.{Lcg}
use Rattle.generate.specs.Drawing.{drawn}
use Rattle.generate.specs.Homes.{drawn_home, home_text, system_of}
use Rattle.generate.specs.declared.errand.Errand.{Errand}
use Rattle.generate.specs.declared.errand.Errand.TheVariants.{Planet, Account, Fleets, System, Build, Research, Yard, Transport, Attack, Recall}

-- the errands by the number that draws them, 0 to 9
abbrev pub errands : List Errand
errands = Planet ∷ Account ∷ Fleets ∷ System ∷ Build ∷ Research ∷ Yard ∷ Transport ∷ Attack ∷ Recall ∷ []

-- how many words an errand draws for itself
abbrev pub own_draws : Errand → ℕ
own_draws Planet = 0
own_draws Account = 0
own_draws Fleets = 0
own_draws System = 0
own_draws Build = 1
own_draws Research = 1
own_draws Yard = 2
own_draws Transport = 2
own_draws Attack = 2
own_draws Recall = 1

-- the kind at a drawn place among the first n of some kinds
abbrev pub drawn_kind : List Kind → ℕ → Lcg → List ℕ
drawn_kind kinds n stream = kind_word (get_or kinds (drawn stream 0 n) MetalMine)

-- the words of the request, in the line of this number, of a player whose planet stands at this position
abbrev pub errand_words : Errand → ℕ → ℕ → ℕ → Lcg → List (List ℕ)
errand_words Planet number player position stream = codes "planet" ∷ home_text player position ∷ []
errand_words Account number player position stream = codes "account" ∷ []
errand_words Fleets number player position stream = codes "fleets" ∷ []
errand_words System number player position stream = codes "system" ∷ system_of player ∷ []
errand_words Build number player position stream = codes "build" ∷ home_text player position ∷ drawn_kind BUILDINGS 11 stream ∷ []
errand_words Research number player position stream = codes "research" ∷ home_text player position ∷ drawn_kind TECHNOLOGIES 14 stream ∷ []
errand_words Yard number player position stream =
    codes "yard" ∷ home_text player position ∷ drawn_kind UNIT_KINDS 14 stream ∷ decimal (1 + drawn stream 1 3) ∷ []
errand_words Transport number player position stream =
    codes "send" ∷ home_text player position ∷ drawn_home stream ∷ codes "transport" ∷ decimal 10 ∷ ship_part SmallCargo 1
    ∷ decimal 100 ∷ decimal 0 ∷ decimal 0 ∷ []
errand_words Attack number player position stream =
    codes "send" ∷ home_text player position ∷ drawn_home stream ∷ codes "attack" ∷ decimal 10 ∷ ship_part LightFighter 5
    ∷ decimal 0 ∷ decimal 0 ∷ decimal 0 ∷ []
errand_words Recall number player position stream = codes "recall" ∷ decimal (1 + drawn stream 0 number) ∷ []
