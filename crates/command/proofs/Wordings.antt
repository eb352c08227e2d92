-- Words that are those of one command only.
use Rattle.std.proofs.Common.{◌≡◌, List, ℕ, [], ◌∷◌, ◌++◌, get_or, length, refl, sym, ap, ◌∙◌, append_assoc}
use Rattle.std.specs.Prelude.{codes}
use Rattle.reply_text.specs.Words.{line}
use Rattle.command.specs.Found.{IsFound}
use Rattle.command.specs.Trial.{IsTrial}
use Rattle.command.specs.TrialDump.{IsTrialDump}
use Rattle.command.proofs.Numbering.{other}

pub found_no_trial : (words : List (List ℕ)) → IsFound words → IsTrial words → ⊥
found_no_trial words found trial = other 102 116 refl (ap (λ (texts : List (List ℕ)). get_or (get_or texts 0 []) 0 0) (sym found ∙ trial))

pub found_no_dump : (words : List (List ℕ)) → IsFound words → IsTrialDump words → ⊥
found_no_dump words found dump = other 1 2 refl (ap length (sym found ∙ dump))

pub ruleset one_command = (found_no_trial, found_no_dump)

-- the line of two counts, as it is printed
pub printed_counts : (players planets : List ℕ) → codes "founded " ++ (players ++ (codes " " ++ (planets ++ codes "\n"))) ≡ line (codes "founded" ∷ players ∷ planets ∷ [])
unfolding line
printed_counts players planets = ap (λ (bytes : List ℕ). codes "founded " ++ bytes) (sym (append_assoc players (32 ∷ planets) (10 ∷ [])))
