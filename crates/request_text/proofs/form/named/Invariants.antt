-- The word is of none of the forms passed so far.
use Rattle.std.proofs.Common.{◌≡◌, ℕ, ◌<◌, get_or}
use Rattle.request_text.specs.Forms.{form_word}
use Rattle.request_text.specs.declared.form.Form.{Form}
use Rattle.request_text.proofs.form.named.Given as goal

abbrev pub invariant-forms : goal.invariant-forms
invariant-forms l = (k : ℕ) (d : Form) → k < l.form-index → l.word ≡ form_word (get_or l.forms k d) → ⊥
