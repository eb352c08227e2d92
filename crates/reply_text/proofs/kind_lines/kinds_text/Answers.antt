use Rattle.std.proofs.Common.{◌++◌, ◌∙◌, ap, get_or, sym, take, arith}
use Rattle.catalog.specs.declared.kind.Kind.TheVariants.{MetalMine}
use Rattle.reply_text.proofs.Joining.{kinds_more, written_more}
use Rattle.reply_text.specs.Numbers.{numbers_of}
use Rattle.reply_text.specs.Words.{kind_line, kind_lines}
use Rattle.reply_text.proofs.kind_lines.kinds_text.Goals as goal

pub kinds-init : goal.kinds-init
unfolding kind_lines
kinds-init c = c.new-text.ensures.bytes

pub kinds-preserved : goal.kinds-preserved
kinds-preserved c =
    let label = c.args.label.now in
    let usual = c.args.usual in
    let kinds = c.args.kinds.now in
    let i = c.kinds.i in
    written_more _ _ _ _ _ c.in_ok-push_kind.ensures c.kinds.invariant
    (kinds_more label usual kinds (numbers_of c.args.numbers) i MetalMine (omega arith) (omega arith)
    ∙ ap (λ number. kind_lines label usual (take i kinds) (take i (numbers_of c.args.numbers)) ++ kind_line label usual (get_or kinds i MetalMine) number) (sym c.number_at.ensures))
