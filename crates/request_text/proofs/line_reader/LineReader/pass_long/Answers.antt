use Rattle.std.proofs.Common.{◌≡◌, ◌<◌, ◌⊎◌, true, inl, inr, length, refl, ap, ◌∙◌, arith, drop}
use Rattle.std.proofs.lemmas.List.{drop_all}
use Rattle.request_text.specs.LineReading.{kept}
use Rattle.request_text.specs.Windows.{items}
use Rattle.request_text.specs.declared.line_reader.TheConstants.{MOST_BEFORE_FEED}
use Rattle.request_text.proofs.LineSeeing.{stays-long}
use Rattle.request_text.proofs.line_reader.LineReader.pass_long.Goals as goal
use Rattle.request_text.proofs.line_reader.LineReader.pass_long.Goals.{then-self-via-then-self, then-self-via-else-self+then-count-gt-MOST_BEFORE_FEED}

pub returns-then-self-clause-stays : goal.returns-then-self-clause-stays
returns-then-self-clause-stays c =
    let old = c.args.self.now in
    let whole = ap length c.kept-count.ensures in
    let fresh = c.requires.reads.unanswered in
    let same : kept old ≡ items old.window = ap (λ n. drop n (items old.window)) fresh in
    let h : (old.long ≡ true) ⊎ (MOST_BEFORE_FEED < length (kept old)) = elim c.then-self.branch [ then-self-via-then-self w ↦ inl w.if-self.true | then-self-via-else-self+then-count-gt-MOST_BEFORE_FEED w ↦ inr (omega (arith, whole, w.if-count-gt-MOST_BEFORE_FEED.true)) ] in
    let gone = c.pass.ensures ∙ drop_all (length c.kept-count.result.now) (items old.window) (omega (arith, whole, ap length same)) in
    stays-long old _ c.requires.unbroken h refl (ap (λ n. drop n (items c.pass.new.self)) fresh ∙ gone) refl
