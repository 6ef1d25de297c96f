use Rattle.kept_entries.proofs.MappedLaws.{mapped-finds}
use Rattle.kept_entries.proofs.RowLaws.{kept_here, kept_on, kept_past, kept_other}
use borrow.Author.Rules.{rules}
use Rattle.kept_entries.proofs.paths.find_kept_entry.Goals.{else-rows-i, then-rows-i+else-is_kept_entry}
use Rattle.kept_entries.proofs.paths.find_kept_entry.Goals as goal

pub returns-then-is_kept_entry : goal.returns-then-is_kept_entry
returns-then-is_kept_entry c = search (kept_here, rules)

pub loop-i-preserved : goal.loop-i-preserved
loop-i-preserved c = elim c.if-rows-i.branch [ then-rows-i+else-is_kept_entry w ↦ search (kept_on, rules) | else-rows-i w ↦ search (kept_past, kept_other, rules) ]

pub returns : goal.returns
returns c = search mapped-finds
