use Rattle.rows.specs.Blank.{blank_entry}
use Rattle.rows.specs.EntryLaws.{not_entry}
use Rattle.entries.specs.MarkLaws.{row_marked, row_unmarked}
use borrow.Author.Rules.{rules}
use Rattle.entries.proofs.marks.mark_path.Goals.{else-entries-i, then-entries-i}
use Rattle.entries.proofs.marks.mark_path.Goals as goal

pub loop-i-preserved : goal.loop-i-preserved
loop-i-preserved c = elim c.if-entries-i.branch [ then-entries-i w ↦ search (row_marked blank_entry, rules) | else-entries-i w ↦ search (row_unmarked blank_entry, not_entry, rules) ]
