use Rattle.entries.proofs.UnmarkedLaws.{unmarked_set, unmarked_kept}
use Rattle.entries.proofs.StoreLaws.{stores, turns, row_start, store_put, store_none, takes_row}
use borrow.Author.Rules.{rules}
use Rattle.entries.proofs.stores.store_all.Goals.{else-to-lt64, then-to-lt64}
use Rattle.entries.proofs.stores.store_all.Goals as goal

pub loop-j-init : goal.loop-j-init
loop-j-init c = search (row_start, rules)

pub loop-j-preserved-then-is_entry : goal.loop-j-preserved-then-is_entry
loop-j-preserved-then-is_entry c = search turns

pub loop-j-preserved-else-is_entry : goal.loop-j-preserved-else-is_entry
loop-j-preserved-else-is_entry c = search turns

pub loop-j-preserved : goal.loop-j-preserved
loop-j-preserved c = search turns

pub loop-i-preserved : goal.loop-i-preserved
loop-i-preserved c = elim c.if-to-lt64.branch [ then-to-lt64 w ↦ record { left = search (store_put, takes_row); unmarked = search unmarked_set } | else-to-lt64 w ↦ record { left = search (store_none, takes_row); unmarked = search unmarked_kept } ]

pub returns : goal.returns
returns c = search stores
