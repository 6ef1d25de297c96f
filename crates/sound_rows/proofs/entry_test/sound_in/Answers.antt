use Rattle.lists.specs.AnswerLaws.{in_table}
use Rattle.sound_rows.proofs.Told.{placed_none, placed_at}
use Rattle.sound_rows.proofs.entry_test.sound_in.Goals as goal

pub returns-in_default : goal.returns-in_default
returns-in_default c t e f g = search placed_none

pub offset_bounds-widths-i : goal.offset_bounds-widths-i
offset_bounds-widths-i c = search in_table

pub bounds-widths-i : goal.bounds-widths-i
bounds-widths-i c = search in_table

pub returns : goal.returns
returns c t e f g = search placed_at
