use Rattle.kept_entries.proofs.UnmarkedLaws.{unmarked_set, unmarked_kept}
use Rattle.kept_entries.proofs.StoreLaws.{stores, turns, row_start, store_put, store_none, takes_row}
use borrow.Author.Rules.{rules}
use Rattle.kept_entries.proofs.stores.store_kept.Goals.{else-to-lt64, then-to-lt64}
use Rattle.kept_entries.proofs.stores.store_kept.Goals as goal

pub loop-i-init : goal.loop-i-init
loop-i-init c = search stores

pub loop-k-init : goal.loop-k-init
loop-k-init c = search (row_start, rules)

pub loop-k-preserved-then-has_path : goal.loop-k-preserved-then-has_path
loop-k-preserved-then-has_path c = search turns

pub loop-k-preserved-else-has_path : goal.loop-k-preserved-else-has_path
loop-k-preserved-else-has_path c = search turns

pub loop-k-preserved : goal.loop-k-preserved
loop-k-preserved c = search turns

pub loop-i-preserved : goal.loop-i-preserved
loop-i-preserved c = elim c.if-to-lt64.branch [ then-to-lt64 w ↦ record { left = search (store_put, takes_row); unmarked = search unmarked_set } | else-to-lt64 w ↦ record { left = search (store_none, takes_row); unmarked = search unmarked_kept } ]

pub returns : goal.returns
returns c = search stores
