use Rattle.std.proofs.Common.{◌∙◌, sym, subst, map, List}
use Rattle.account_cell.specs.Account.{research_item}
use Rattle.account_cell.specs.declared.research_item.ResearchItem.{ResearchItem}
use Rattle.tick_model.specs.Researches.{starts_first_research}
use Rattle.happenings.specs.Researching.{HaveOwns, PayersGain}
use Rattle.happenings.proofs.researching.finish_research.Goals as goal

pub returns-clause-done : goal.returns-clause-done
returns-clause-done c =
    let rules = c.args.rules.now in
    let second = c.args.second in
    let done = c.finish_research.new.self in
    let new = c.start_first.new.account in
    let later = done.research.items in
    let gained = c.gain_payers.new.planets in
    let player = sym c.start_first.ensures.keeps.player in
    let fields = sym c.start_first.ensures.fields in
    record {
      item = c.finish_research.result;
      later = later;
      items = c.finish_research.ensures.item;
      between = gained;
      gains = subst (λ (xs : List ResearchItem). PayersGain rules second xs c.args.planets.now gained) c.as_slice.ensures.value c.gain_payers.ensures.gains;
      fields = c.start_first.ensures.fields ∙ c.finish_research.ensures.fields;
      research = λ own are. c.start_first.ensures.research own are
          ∙ (λ i. (starts_first_research rules.speed second (fields i) own (map (research_item (player i)) later)).queue);
      planets = λ own are. subst (λ o. HaveOwns later o gained c.start_first.new.planets)
          (λ i. (starts_first_research rules.speed second (fields i) own (map (research_item (player i)) later)).own)
          (c.start_first.ensures.planets own are);
    }
