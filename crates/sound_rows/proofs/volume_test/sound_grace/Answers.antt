-- `volume_test::sound_grace` meets its contract: each status has its own count. Assumes nothing.
use Rattle.lists.specs.AnswerLaws.{refused, passed}
use Rattle.sound_rows.proofs.Told.{by_status}
use Rattle.sound_rows.proofs.volume_test.sound_grace.Goals as goal

pub returns-then-grace-lt1 : goal.returns-then-grace-lt1
returns-then-grace-lt1 c = search (by_status, refused)

pub returns-in-Active : goal.returns-in-Active
returns-in-Active c = search (by_status, passed)

pub returns-else-grace-lt1 : goal.returns-else-grace-lt1
returns-else-grace-lt1 c = search (by_status, passed)

pub returns-in-Deleted : goal.returns-in-Deleted
returns-in-Deleted c = search (by_status, passed)
