-- The lines of the kinds passed so far have been written.
use Rattle.std.proofs.Common.{◌≡◌, string_bytes, take}
use Rattle.reply_text.specs.Numbers.{numbers_of}
use Rattle.reply_text.specs.Words.{kind_lines}
use Rattle.reply_text.proofs.kind_lines.kinds_text.Given as goal

abbrev pub invariant-kinds : goal.invariant-kinds
invariant-kinds l = string_bytes l.text ≡ kind_lines l.label l.usual (take l.i l.kinds) (take l.i (numbers_of l.numbers))
