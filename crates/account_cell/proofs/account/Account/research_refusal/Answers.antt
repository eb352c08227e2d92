use Rattle.std.proofs.Common.{sym, ◌∙◌}
use Rattle.account_cell.proofs.Reasons.{can_order, granted, refused_capped, refused_full, refused_poor, refused_unmet}
use Rattle.account_cell.specs.Account.{account_fields, research_of}
use Rattle.account_cell.proofs.account.Account.research_refusal.Goals as goal

pub returns-then-is_full-clause-refusal : goal.returns-then-is_full-clause-refusal
returns-then-is_full-clause-refusal c = λ speed planet met pays.
    refused_full speed (account_fields c.args.self.now) planet (research_of c.args.self.now) c.args.technology.kind (sym c.if-is_full.true ∙ c.is_full.ensures)

pub returns-then-is_capped-clause-refusal : goal.returns-then-is_capped-clause-refusal
returns-then-is_capped-clause-refusal c = λ speed planet met pays.
    refused_capped speed (account_fields c.args.self.now) planet (research_of c.args.self.now) c.args.technology.kind (sym c.if-is_full.false ∙ c.is_full.ensures) (sym c.if-is_capped.true ∙ c.is_capped.ensures)

pub returns-then-not-is_met-clause-refusal : goal.returns-then-not-is_met-clause-refusal
returns-then-not-is_met-clause-refusal c = λ speed planet met pays.
    refused_unmet speed (account_fields c.args.self.now) planet (research_of c.args.self.now) c.args.technology.kind (sym c.if-is_full.false ∙ c.is_full.ensures) (sym c.if-is_capped.false ∙ c.is_capped.ensures)
    (sym c.if-not-is_met.true ∙ met)

pub returns-then-is_poor-clause-refusal : goal.returns-then-is_poor-clause-refusal
returns-then-is_poor-clause-refusal c = λ speed planet met pays.
    refused_poor speed (account_fields c.args.self.now) planet (research_of c.args.self.now) c.args.technology.kind c.args.pays (sym c.if-is_full.false ∙ c.is_full.ensures) (sym c.if-is_capped.false ∙ c.is_capped.ensures)
    (sym c.if-not-is_met.false ∙ met) pays (sym c.if-is_poor.true ∙ c.is_poor.ensures)

pub returns-clause-refusal : goal.returns-clause-refusal
returns-clause-refusal c = λ speed planet met pays.
    granted speed (account_fields c.args.self.now) planet (research_of c.args.self.now) c.args.technology.kind c.args.pays (sym c.if-is_full.false ∙ c.is_full.ensures) (sym c.if-is_capped.false ∙ c.is_capped.ensures)
    (sym c.if-not-is_met.false ∙ met) pays (sym c.if-is_poor.false ∙ c.is_poor.ensures)

pub returns-clause-order : goal.returns-clause-order
returns-clause-order c = λ granted. can_order (account_fields c.args.self.now) (research_of c.args.self.now) c.args.technology.kind (sym c.if-is_full.false ∙ c.is_full.ensures) (sym c.if-is_capped.false ∙ c.is_capped.ensures)
