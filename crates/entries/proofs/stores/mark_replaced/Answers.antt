use Rattle.rows.specs.Blank.{blank_entry}
use Rattle.entries.specs.MarkLaws.{row_marked, row_unmarked, not_replaced}
use Rattle.entries.proofs.PutKeyLaws.{not_keyed}
use borrow.Author.Rules.{rules}
use Rattle.entries.proofs.stores.mark_replaced.Goals.{else-entries-i, then-entries-i+else-has_key, then-entries-i+then-has_key}
use Rattle.entries.proofs.stores.mark_replaced.Goals as goal

pub loop-i-preserved : goal.loop-i-preserved
loop-i-preserved c = elim c.if-entries-i.branch [ then-entries-i+then-has_key w ↦ search (row_marked blank_entry, rules) | then-entries-i+else-has_key w ↦ search (row_unmarked blank_entry, not_keyed, rules) | else-entries-i w ↦ search (row_unmarked blank_entry, not_replaced, rules) ]
