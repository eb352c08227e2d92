-- The first line of a reply, its whole text, and the line of a refusal. Rule: docs/PROTOCOL.md, "Answers".
use Rattle.std.specs.Prelude.{ℕ, ◌==◌, List, [], ◌∷◌, ◌++◌, codes, if◌then◌else◌}
use Rattle.std.specs.Fmt.{decimal}
use Rattle.reply_text.specs.Words.{line}
use Rattle.reply_text.specs.declared.reply.Refused.{Refused}
use Rattle.reply_text.specs.declared.reply.Refused.TheVariants.{Full, DeviceFault, Memory}
use Rattle.reply_text.specs.declared.reply.Reply.{Reply}

-- `ok` with number and moment; or `no` with number, moment and code
abbrev pub head_text : Reply → List ℕ
head_text reply =
    if reply.code == 0
    then line (codes "ok" ∷ decimal reply.number ∷ decimal reply.moment ∷ [])
    else line (codes "no" ∷ decimal reply.number ∷ decimal reply.moment ∷ decimal reply.code ∷ [])

-- what ends a reply: with code 0 the line `.`
abbrev pub end_text : Reply → List ℕ
end_text reply = if reply.code == 0 then line (codes "." ∷ []) else []

-- the text of a reply: its head, its body and its end
unfoldable pub text : Reply → List ℕ
text reply = head_text reply ++ reply.body ++ end_text reply

-- the line that answers a request that has no reply
abbrev pub refused_text : Refused → List ℕ
refused_text (Full count) = line (codes "full" ∷ decimal count ∷ [])
refused_text (DeviceFault number) = line (codes "fault" ∷ decimal number ∷ [])
refused_text Memory = line (codes "memory" ∷ [])
