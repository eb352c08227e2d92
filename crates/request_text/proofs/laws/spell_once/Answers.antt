use Rattle.request_text.proofs.Spellings.{one_call, one_line, one_request, one_text, text_spells}
use Rattle.request_text.proofs.laws.spell_once.Goals as goal

pub returns-clause-one_call : goal.returns-clause-one_call
returns-clause-one_call c = one_call

pub returns-clause-one_line : goal.returns-clause-one_line
returns-clause-one_line c = one_line

pub returns-clause-text_spells : goal.returns-clause-text_spells
returns-clause-text_spells c = text_spells

pub returns-clause-one_text : goal.returns-clause-one_text
returns-clause-one_text c = one_text

pub returns-clause-one_request : goal.returns-clause-one_request
returns-clause-one_request c = one_request
