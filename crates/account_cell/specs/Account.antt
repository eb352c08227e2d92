-- What an account of the program stands for.
use Rattle.std.specs.Prelude.{◌≡◌, List, [], map}
use Rattle.account_cell.specs.declared.account.Account.{Account}
use Rattle.account_cell.specs.declared.research_item.ResearchItem.{ResearchItem}
use Rattle.base_ids.specs.declared.cell_id.CellId.TheVariants.{Account as AccountId}
use Rattle.base_ids.specs.declared.player.Player.{Player}
use Rattle.tick_model.specs.Universe.{AccountFields, Buildings, Item, QueueClass, Researches, Yard}
use Rattle.tick_model.specs.Views.{View}

-- what an account has of its own
abbrev pub account_fields : Account → AccountFields
account_fields account = record { techs = account.techs }

-- an item of the research queue of a player's account
abbrev pub research_item : Player → ResearchItem → Item
research_item player item =
    record {
      number = item.number;
      cell = AccountId player;
      class = Researches;
      kind = item.kind.kind;
      place = item.at;
      level = item.level;
      left = 0;
      unit_seconds = 0;
      second = item.second;
    }

-- the research queue of an account
abbrev pub research_of : Account → List Item
research_of account = map (research_item account.player) account.research.items

-- the queues of an account: it only researches
abbrev pub account_queue : Account → QueueClass → List Item
account_queue account Buildings = []
account_queue account Researches = research_of account
account_queue account Yard = []

-- An account is what is seen of its cell. It has no fleets: no request sends one yet.
pub record Shows (account : Account) (seen : View) : Type 0 where
  pub planets : seen.planets ≡ account.planets.items
  pub units : seen.units ≡ account.units
  pub fleets : seen.fleets ≡ []
  pub research : seen.queue Researches ≡ research_of account

-- Two accounts are the same: of the same player, with the same technologies, planets, units and research.
pub record AreSame (first second : Account) : Type 0 where
  pub player : first.player ≡ second.player
  pub techs : first.techs ≡ second.techs
  pub planets : first.planets.items ≡ second.planets.items
  pub units : first.units ≡ second.units
  pub research : first.research.items ≡ second.research.items

-- an account is the same player's as before, with the same planets and units
pub record KeepsHoldings (old new : Account) : Type 0 where
  pub player : new.player ≡ old.player
  pub planets : new.planets.items ≡ old.planets.items
  pub units : new.units ≡ old.units

-- an account is the same player's as before, with the same technologies, planets and research
pub record KeepsResearch (old new : Account) : Type 0 where
  pub player : new.player ≡ old.player
  pub techs : new.techs ≡ old.techs
  pub planets : new.planets.items ≡ old.planets.items
  pub research : new.research.items ≡ old.research.items
