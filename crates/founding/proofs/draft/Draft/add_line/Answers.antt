use Rattle.std.proofs.Common.{Some}
use Rattle.founding.specs.Drafts.{Adds, Gives, Mans, Names, Raises, Stocks, Teaches}
use Rattle.founding.specs.DraftMaps.{draft_of}
use Rattle.founding.proofs.Forms.{level_adds, level_alone, planet_adds, planet_alone, player_adds, player_alone, stock_adds, stock_alone, technology_adds, technology_alone, units_adds, units_alone}
use Rattle.founding.proofs.Stepping.{steps-same}
use Rattle.founding.proofs.draft.Draft.add_line.Goals as goal

pub returns-in-Some-clause-steps : goal.returns-in-Some-clause-steps
returns-in-Some-clause-steps c =
    let old = draft_of c.args.self.now in
    let line = c.args.line.now in
    let player = c.in-Some.player in
    steps-same (λ before after. Names before player after) (λ before after. Adds (Some before) line after) c.args.self.now c.name_player.new.self c.name_player.result
    (player_adds old line player c.requires.short c.in-Some.ensures) (player_alone old line player c.in-Some.ensures) c.name_player.ensures.steps

pub returns-in-Some-read_planet-clause-steps : goal.returns-in-Some-read_planet-clause-steps
returns-in-Some-read_planet-clause-steps c =
    let old = draft_of c.args.self.now in
    let line = c.args.line.now in
    let planet = c.in-Some-read_planet.planet in
    steps-same (λ before after. Gives before planet after) (λ before after. Adds (Some before) line after) c.args.self.now c.give_planet.new.self c.give_planet.result
    (planet_adds old line planet c.requires.short c.in-Some-read_planet.ensures) (planet_alone old line planet c.in-Some-read_planet.ensures) c.give_planet.ensures.steps

pub returns-in-Some-read_stock-clause-steps : goal.returns-in-Some-read_stock-clause-steps
returns-in-Some-read_stock-clause-steps c =
    let old = draft_of c.args.self.now in
    let line = c.args.line.now in
    let stock = c.in-Some-read_stock.stock in
    steps-same (λ before after. Stocks before stock after) (λ before after. Adds (Some before) line after) c.args.self.now c.say_stock.new.self c.say_stock.result
    (stock_adds old line stock c.requires.short c.in-Some-read_stock.ensures) (stock_alone old line stock c.in-Some-read_stock.ensures) c.say_stock.ensures.steps

pub returns-in-Some-read_level-clause-steps : goal.returns-in-Some-read_level-clause-steps
returns-in-Some-read_level-clause-steps c =
    let old = draft_of c.args.self.now in
    let line = c.args.line.now in
    let level = c.in-Some-read_level.level in
    steps-same (λ before after. Raises before level after) (λ before after. Adds (Some before) line after) c.args.self.now c.say_level.new.self c.say_level.result
    (level_adds old line level c.requires.short c.in-Some-read_level.ensures) (level_alone old line level c.in-Some-read_level.ensures) c.say_level.ensures.steps

pub returns-in-Some-read_technology-clause-steps : goal.returns-in-Some-read_technology-clause-steps
returns-in-Some-read_technology-clause-steps c =
    let old = draft_of c.args.self.now in
    let line = c.args.line.now in
    let technology = c.in-Some-read_technology.technology in
    steps-same (λ before after. Teaches before technology after) (λ before after. Adds (Some before) line after) c.args.self.now c.say_technology.new.self c.say_technology.result
    (technology_adds old line technology c.requires.short c.in-Some-read_technology.ensures) (technology_alone old line technology c.in-Some-read_technology.ensures) c.say_technology.ensures.steps

pub returns-in-Some-read_units-clause-steps : goal.returns-in-Some-read_units-clause-steps
returns-in-Some-read_units-clause-steps c =
    let old = draft_of c.args.self.now in
    let line = c.args.line.now in
    let units = c.in-Some-read_units.units in
    steps-same (λ before after. Mans before units after) (λ before after. Adds (Some before) line after) c.args.self.now c.say_units.new.self c.say_units.result
    (units_adds old line units c.requires.short c.in-Some-read_units.ensures) (units_alone old line units c.in-Some-read_units.ensures) c.say_units.ensures.steps
