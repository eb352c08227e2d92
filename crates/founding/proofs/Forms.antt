-- What a line of one form adds to a draft, and nothing else.
use Rattle.std.proofs.Common.{◌≡◌, ℕ, ◌<◌, ◌≤◌, true, false, List, length, subst, ap, ◌∙◌, inl, inr, Some}
use Rattle.base_text.specs.Parts.{words}
use Rattle.base_ids.specs.declared.player.Player.{Player}
use Rattle.request_text.specs.declared.line_reader.TheConstants.{LONGEST_LINE}
use Rattle.founding.specs.Drafts.{first_planet, is_named, is_taken, planet_before, planets_of, put, Adds, DraftPlanet, Drafted, Gives, Mans, Names, Raises, Stocks, Teaches}
use Rattle.founding.specs.Lines.{level_words, planet_words, player_words, stock_words, technology_words, units_words}
use Rattle.founding.specs.declared.draft.TheConstants.{MOST_OWNED}
use Rattle.founding.specs.declared.named.NewLevel.{NewLevel}
use Rattle.founding.specs.declared.named.NewPlanet.{NewPlanet}
use Rattle.founding.specs.declared.named.NewStock.{NewStock}
use Rattle.founding.specs.declared.named.NewTechnology.{NewTechnology}
use Rattle.founding.specs.declared.named.NewUnits.{NewUnits}
use Rattle.founding.proofs.Wording.{no_level_technology, no_level_units, no_planet_level, no_planet_stock, no_planet_technology, no_planet_units, no_player_level, no_player_planet, no_player_stock, no_player_technology, no_player_units, no_stock_level, no_stock_technology, no_stock_units, no_technology_units, one_level, one_planet, one_player, one_stock, one_technology, one_units}

-- a planet may stand where another one may that is founded the same
gives_too : (draft : Drafted) (a b : NewPlanet) (new : Drafted) → first_planet a ≡ first_planet b → Gives draft a new → Gives draft b new
gives_too draft a b new same (may, added) = (
  record {
    free = subst (λ (p : DraftPlanet). is_taken p.at draft.planets ≡ false) same may.free;
    named = subst (λ (p : DraftPlanet). is_named p.own.owner draft.players ≡ true) same may.named;
    fewer = subst (λ (p : DraftPlanet). planets_of p.own.owner draft.planets < MOST_OWNED) same may.fewer;
    room = may.room;
  },
  added ∙ ap (λ p. record draft { planets = put planet_before p draft.planets }) same,
)

-- a line that names a player
pub player_adds : (draft : Drafted) (line : List ℕ) (player : Player) → length line ≤ LONGEST_LINE → words line ≡ player_words player → (new : Drafted) → Names draft player new → Adds (Some draft) line new
player_adds draft line player short spells new names = inl (record { value = player; spelled = record { short = short; spells = spells }; makes = names })

pub player_alone : (draft : Drafted) (line : List ℕ) (player : Player) → words line ≡ player_words player → (new : Drafted) → Adds (Some draft) line new → Names draft player new
player_alone draft line player spells new (inl says) = subst (λ (p : Player). Names draft p new) (one_player (words line) says.value player says.spelled.spells spells) says.makes
player_alone draft line player spells new (inr (inl says)) = absurd (no_player_planet (words line) player says.value spells says.spelled.spells)
player_alone draft line player spells new (inr (inr (inl says))) = absurd (no_player_stock (words line) player says.value spells says.spelled.spells)
player_alone draft line player spells new (inr (inr (inr (inl says)))) = absurd (no_player_level (words line) player says.value spells says.spelled.spells)
player_alone draft line player spells new (inr (inr (inr (inr (inl says))))) = absurd (no_player_technology (words line) player says.value spells says.spelled.spells)
player_alone draft line player spells new (inr (inr (inr (inr (inr says))))) = absurd (no_player_units (words line) player says.value spells says.spelled.spells)

-- a line that gives a planet
pub planet_adds : (draft : Drafted) (line : List ℕ) (planet : NewPlanet) → length line ≤ LONGEST_LINE → words line ≡ planet_words planet → (new : Drafted) → Gives draft planet new → Adds (Some draft) line new
planet_adds draft line planet short spells new gives = inr (inl (record { value = planet; spelled = record { short = short; spells = spells }; makes = gives }))

pub planet_alone : (draft : Drafted) (line : List ℕ) (planet : NewPlanet) → words line ≡ planet_words planet → (new : Drafted) → Adds (Some draft) line new → Gives draft planet new
planet_alone draft line planet spells new (inl says) = absurd (no_player_planet (words line) says.value planet says.spelled.spells spells)
planet_alone draft line planet spells new (inr (inl says)) = gives_too draft says.value planet new (one_planet (words line) says.value planet says.spelled.spells spells) says.makes
planet_alone draft line planet spells new (inr (inr (inl says))) = absurd (no_planet_stock (words line) planet says.value spells says.spelled.spells)
planet_alone draft line planet spells new (inr (inr (inr (inl says)))) = absurd (no_planet_level (words line) planet says.value spells says.spelled.spells)
planet_alone draft line planet spells new (inr (inr (inr (inr (inl says))))) = absurd (no_planet_technology (words line) planet says.value spells says.spelled.spells)
planet_alone draft line planet spells new (inr (inr (inr (inr (inr says))))) = absurd (no_planet_units (words line) planet says.value spells says.spelled.spells)

-- a line that says a stock
pub stock_adds : (draft : Drafted) (line : List ℕ) (stock : NewStock) → length line ≤ LONGEST_LINE → words line ≡ stock_words stock → (new : Drafted) → Stocks draft stock new → Adds (Some draft) line new
stock_adds draft line stock short spells new stocks = inr (inr (inl (record { value = stock; spelled = record { short = short; spells = spells }; makes = stocks })))

pub stock_alone : (draft : Drafted) (line : List ℕ) (stock : NewStock) → words line ≡ stock_words stock → (new : Drafted) → Adds (Some draft) line new → Stocks draft stock new
stock_alone draft line stock spells new (inl says) = absurd (no_player_stock (words line) says.value stock says.spelled.spells spells)
stock_alone draft line stock spells new (inr (inl says)) = absurd (no_planet_stock (words line) says.value stock says.spelled.spells spells)
stock_alone draft line stock spells new (inr (inr (inl says))) = subst (λ (s : NewStock). Stocks draft s new) (one_stock (words line) says.value stock says.spelled.spells spells) says.makes
stock_alone draft line stock spells new (inr (inr (inr (inl says)))) = absurd (no_stock_level (words line) stock says.value spells says.spelled.spells)
stock_alone draft line stock spells new (inr (inr (inr (inr (inl says))))) = absurd (no_stock_technology (words line) stock says.value spells says.spelled.spells)
stock_alone draft line stock spells new (inr (inr (inr (inr (inr says))))) = absurd (no_stock_units (words line) stock says.value spells says.spelled.spells)

-- a line that says a level
pub level_adds : (draft : Drafted) (line : List ℕ) (level : NewLevel) → length line ≤ LONGEST_LINE → words line ≡ level_words level → (new : Drafted) → Raises draft level new → Adds (Some draft) line new
level_adds draft line level short spells new raises = inr (inr (inr (inl (record { value = level; spelled = record { short = short; spells = spells }; makes = raises }))))

pub level_alone : (draft : Drafted) (line : List ℕ) (level : NewLevel) → words line ≡ level_words level → (new : Drafted) → Adds (Some draft) line new → Raises draft level new
level_alone draft line level spells new (inl says) = absurd (no_player_level (words line) says.value level says.spelled.spells spells)
level_alone draft line level spells new (inr (inl says)) = absurd (no_planet_level (words line) says.value level says.spelled.spells spells)
level_alone draft line level spells new (inr (inr (inl says))) = absurd (no_stock_level (words line) says.value level says.spelled.spells spells)
level_alone draft line level spells new (inr (inr (inr (inl says)))) = subst (λ (l : NewLevel). Raises draft l new) (one_level (words line) says.value level says.spelled.spells spells) says.makes
level_alone draft line level spells new (inr (inr (inr (inr (inl says))))) = absurd (no_level_technology (words line) level says.value spells says.spelled.spells)
level_alone draft line level spells new (inr (inr (inr (inr (inr says))))) = absurd (no_level_units (words line) level says.value spells says.spelled.spells)

-- a line that says the level of a technology
pub technology_adds : (draft : Drafted) (line : List ℕ) (technology : NewTechnology) → length line ≤ LONGEST_LINE → words line ≡ technology_words technology → (new : Drafted) → Teaches draft technology new → Adds (Some draft) line new
technology_adds draft line technology short spells new teaches = inr (inr (inr (inr (inl (record { value = technology; spelled = record { short = short; spells = spells }; makes = teaches })))))

pub technology_alone : (draft : Drafted) (line : List ℕ) (technology : NewTechnology) → words line ≡ technology_words technology → (new : Drafted) → Adds (Some draft) line new → Teaches draft technology new
technology_alone draft line technology spells new (inl says) = absurd (no_player_technology (words line) says.value technology says.spelled.spells spells)
technology_alone draft line technology spells new (inr (inl says)) = absurd (no_planet_technology (words line) says.value technology says.spelled.spells spells)
technology_alone draft line technology spells new (inr (inr (inl says))) = absurd (no_stock_technology (words line) says.value technology says.spelled.spells spells)
technology_alone draft line technology spells new (inr (inr (inr (inl says)))) = absurd (no_level_technology (words line) says.value technology says.spelled.spells spells)
technology_alone draft line technology spells new (inr (inr (inr (inr (inl says))))) = subst (λ (t : NewTechnology). Teaches draft t new) (one_technology (words line) says.value technology says.spelled.spells spells) says.makes
technology_alone draft line technology spells new (inr (inr (inr (inr (inr says))))) = absurd (no_technology_units (words line) technology says.value spells says.spelled.spells)

-- a line that says units
pub units_adds : (draft : Drafted) (line : List ℕ) (units : NewUnits) → length line ≤ LONGEST_LINE → words line ≡ units_words units → (new : Drafted) → Mans draft units new → Adds (Some draft) line new
units_adds draft line units short spells new mans = inr (inr (inr (inr (inr (record { value = units; spelled = record { short = short; spells = spells }; makes = mans })))))

pub units_alone : (draft : Drafted) (line : List ℕ) (units : NewUnits) → words line ≡ units_words units → (new : Drafted) → Adds (Some draft) line new → Mans draft units new
units_alone draft line units spells new (inl says) = absurd (no_player_units (words line) says.value units says.spelled.spells spells)
units_alone draft line units spells new (inr (inl says)) = absurd (no_planet_units (words line) says.value units says.spelled.spells spells)
units_alone draft line units spells new (inr (inr (inl says))) = absurd (no_stock_units (words line) says.value units says.spelled.spells spells)
units_alone draft line units spells new (inr (inr (inr (inl says)))) = absurd (no_level_units (words line) says.value units says.spelled.spells spells)
units_alone draft line units spells new (inr (inr (inr (inr (inl says))))) = absurd (no_technology_units (words line) says.value units says.spelled.spells spells)
units_alone draft line units spells new (inr (inr (inr (inr (inr says))))) = subst (λ (u : NewUnits). Mans draft u new) (one_units (words line) says.value units says.spelled.spells spells) says.makes
