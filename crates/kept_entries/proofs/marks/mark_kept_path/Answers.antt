use Rattle.kept_entries.proofs.RowLaws.{kept_marked, kept_unmarked, kept_other}
use borrow.Author.Rules.{rules}
use Rattle.kept_entries.proofs.marks.mark_kept_path.Goals.{else-rows-i, then-rows-i}
use Rattle.kept_entries.proofs.marks.mark_kept_path.Goals as goal

pub loop-i-preserved : goal.loop-i-preserved
loop-i-preserved c = elim c.if-rows-i.branch [ then-rows-i w ↦ search (kept_marked, rules) | else-rows-i w ↦ search (kept_unmarked, kept_other, rules) ]
