-- A disk that tells nothing.
use Rattle.std.specs.Prelude.{[]}
use Rattle.disk_port.specs.Story.{Story, Lawful}

abbrev pub silent : {D : Type 0} → Story D
silent = record { tells = λ disk. ⊥; seen = λ disk. []; leaves = λ disk c. ⊥; moment = λ disk. 0; left_since = λ disk t c. ⊥ }

pub silent_is_lawful : {D : Type 0} → Lawful {D = D} silent
silent_is_lawful = record { reads = λ disk told. absurd told; now = λ disk t c told le left. absurd told; only_now = λ disk c told left. absurd told }
