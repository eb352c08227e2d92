use Rattle.journal_store.proofs.Going.{stands-started, stands-reserved, stands-appended, holds-on}
use Rattle.journal_store.proofs.Leading.{images-hold}
use Rattle.journal_store.proofs.laws.journals_stand.Goals as goal

pub returns : goal.returns
returns g c =
    let story = g.D.Disk.story in
    record { started = stands-started story; reserved = stands-reserved story; appended = stands-appended story; holds = images-hold story; goes_on = holds-on story }
