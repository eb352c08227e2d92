use Rattle.std.proofs.Common.{◌≡◌, ℕ, true, false, Bool, List, [], ◌∷◌, ◌++◌, codes, if◌then◌else◌, refl, sym, ◌∙◌, subst, arith}
use Rattle.disk_port.specs.Memory.{memory_story, IsFresh}
use Rattle.disk_port.specs.declared.memory.MemoryDisk.{MemoryDisk}
use Rattle.journal_store.specs.Gates.{AtGate}
use Rattle.journal_store.specs.Ledger.{IsNew}
use Rattle.journal_store.specs.Standing.{CanFlush}
use Rattle.journal_store.specs.declared.gate.Gate.{Gate}
use Rattle.journal_store.specs.declared.gate.Gate.TheVariants.{Missing, Closed}
use Rattle.journal_store.specs.declared.journal.Journal.{Journal}
use Rattle.journal_store.specs.declared.start.Start.{Start}
use Rattle.journal_store.proofs.Going.{stands-started}
use Rattle.journal_store.proofs.tests.open.Goals as goal

at_first : (short : Bool) → AtGate (if short then Missing else Closed) [] (codes "base") (if short then codes "base" else codes "base" ++ 0 ∷ [])
at_first true = record { rest = []; is = refl }
at_first false = record { gate = 0; shut = omega arith; rest = []; is = refl }

opened : (start : Start) (journal : Journal) (disk : MemoryDisk) (content : List ℕ) → IsNew start journal → start.end ≡ 4 → IsFresh disk content → content ≡ (if start.short then codes "base" else codes "base" ++ 0 ∷ []) → CanFlush memory_story journal disk
opened start journal disk content is_new end_is fresh content_is = record {
  front = codes "base";
  drawn = [];
  stands = stands-started memory_story start (codes "base") journal disk is_new (sym end_is)
      (λ c left.
      subst (λ (g : Gate). AtGate g [] (codes "base") c) (sym is_new.gate)
      (subst (λ (l : List ℕ). AtGate (if start.short then Missing else Closed) [] (codes "base") l) (sym (fresh.durable c left ∙ content_is)) (at_first start.short)));
}

pub returns : goal.returns
returns c = opened c.args.start c.in_ok-journal.journal c.in_ok-disk.disk c.content-content.result.now c.in_ok-journal.ensures c.requires.end c.in_ok-disk.ensures.fresh c.content-content.ensures
