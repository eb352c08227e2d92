use Rattle.spoils.proofs.StepLaws.{loading_is, loading_once, scraping_is, scraping_once}
use Rattle.spoils.proofs.laws.steps_are_shares.Goals as goal

pub returns-clause-loading : goal.returns-clause-loading
returns-clause-loading c = loading_is

pub returns-clause-one_loading : goal.returns-clause-one_loading
returns-clause-one_loading c = loading_once

pub returns-clause-scraping : goal.returns-clause-scraping
returns-clause-scraping c = scraping_is

pub returns-clause-one_scraping : goal.returns-clause-one_scraping
returns-clause-one_scraping c = scraping_once
