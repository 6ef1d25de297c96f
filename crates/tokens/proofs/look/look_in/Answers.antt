use Rattle.lists.specs.LoopLaws.{finds}
use Rattle.rows.specs.EntryLaws.{entry_past}
use Rattle.tokens.proofs.LookLaws.{look_here, look_past}
use borrow.Author.Rules.{rules}
use Rattle.tokens.proofs.look.look_in.Goals.{else-entries-i, then-entries-i+else-is_entry}
use Rattle.tokens.proofs.look.look_in.Goals as goal

-- at the row
pub returns-then-is_entry : goal.returns-then-is_entry
returns-then-is_entry c t e f = search (look_here, rules)

pub loop-i-preserved : goal.loop-i-preserved
loop-i-preserved c = elim c.if-entries-i.branch [ then-entries-i+else-is_entry w ↦ search finds | else-entries-i w ↦ search (entry_past, rules) ]

-- no such row
pub returns : goal.returns
returns c t e f = search (look_past, rules)
