use Rattle.std.proofs.Common.{Option, IfSome, IsSomeAnd, ◌∙◌, subst, sym}
use Rattle.std.proofs.lemmas.Bool.{true≢false}
use Rattle.base_bytes.specs.Rules.{Spells}
use Rattle.base_bytes.specs.Told.{IsTold}
use Rattle.base_bytes.specs.declared.base.Base.{Base}
use Rattle.recovery.proofs.Restored.{agree, damaged, ends-early, intact, spells-none}
use Rattle.recovery.proofs.restoring.restore.Goals as goal

pub returns-then-not-is_same-clause-restores : goal.returns-then-not-is_same-clause-restores
returns-then-not-is_same-clause-restores c = λ content is there. damaged content c.args.head.now is c.args.bytes.now there c.digest-computed.result c.digest-computed.ensures
    (λ same. true≢false (sym (c.is_same.ensures.1 same) ∙ c.if-not-is_same.true))

pub returns-then-bytes-head-clause-restores : goal.returns-then-bytes-head-clause-restores
returns-then-bytes-head-clause-restores c = λ content is there.
    ends-early content c.args.head.now is c.args.bytes.now there (agree content c.args.head.now is c.args.bytes.now there c.digest-computed.result c.digest-computed.ensures (c.is_same.ensures.0 c.if-not-is_same.false)) c.if-bytes-head.true

pub returns-in-Some-clause-restores : goal.returns-in-Some-clause-restores
returns-in-Some-clause-restores c = λ content is there.
    intact content c.args.head.now is c.args.bytes.now there c.digest-computed.result c.digest-computed.ensures (c.is_same.ensures.0 c.if-not-is_same.false) c.if-bytes-head.false c.in-Some.base
    (subst (λ (o : Option Base). IfSome o (Spells c.args.bytes.now)) c.in-Some.is c.in_ok-base.ensures.spelt)

pub returns-in-None-clause-restores : goal.returns-in-None-clause-restores
returns-in-None-clause-restores c = λ content is there.
    spells-none content c.args.head.now is c.args.bytes.now there (agree content c.args.head.now is c.args.bytes.now there c.digest-computed.result c.digest-computed.ensures (c.is_same.ensures.0 c.if-not-is_same.false))
    (λ base spells. subst (λ (o : Option Base). IsSomeAnd o (IsTold base)) c.in-None.is (c.in_ok-base.ensures.each base spells))
