use Rattle.std.proofs.Common.{ap, subst}
use Rattle.std.proofs.lemmas.List.{get_or_read}
use Rattle.account_cell.specs.Account.{research_of}
use Rattle.base_bytes.specs.Counting.{Meets}
use Rattle.base_bytes.proofs.Meeting.{meets-all, meets-more, meets-no}
use Rattle.base_bytes.proofs.distinct.Met.meet_accounts.Goals as goal

pub returns-then-not-branch : goal.returns-then-not-branch
returns-then-not-branch c =
    meets-no research_of c.args.accounts.now c.accounts.account-index (research_of c.account-item.result) c.args.self.now c.accounts.self c.meet_research.new.self c.accounts-test.true
    (λ d. ap research_of (get_or_read c.args.accounts.now c.accounts.account-index c.account-item.result c.accounts-test.true c.account-item.is d)) c.accounts.invariant
    (subst (Meets (research_of c.account-item.result) c.accounts.self c.meet_research.new.self) c.if-not-branch.true c.in_ok-meet_research.ensures)

pub accounts-preserved : goal.accounts-preserved
accounts-preserved c =
    meets-more research_of c.args.accounts.now c.accounts.account-index (research_of c.account-item.result) c.args.self.now c.accounts.self c.meet_research.new.self c.accounts-test.true
    (λ d. ap research_of (get_or_read c.args.accounts.now c.accounts.account-index c.account-item.result c.accounts-test.true c.account-item.is d)) c.accounts.invariant
    (subst (Meets (research_of c.account-item.result) c.accounts.self c.meet_research.new.self) c.if-not-branch.false c.in_ok-meet_research.ensures)

pub returns : goal.returns
returns c = meets-all research_of c.args.accounts.now c.accounts.account-index c.args.self.now c.accounts.self c.accounts-test.false c.accounts.invariant
