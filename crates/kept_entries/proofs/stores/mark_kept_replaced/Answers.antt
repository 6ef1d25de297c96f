-- `mark_kept_replaced` marks row after row: a mark is whether some put has the row's path, and an entry of another volume has none.
use borrow.Author.Rules.{rules}
use Rattle.kept_entries.proofs.MappedLaws.{mapped-fills}
use Rattle.kept_entries.proofs.RowLaws.{kept_marked, kept_unmarked}
use Rattle.kept_entries.proofs.FlagLaws.{flags, put_passed, put_failed, replaced_told, replaced_other}
use Rattle.kept_entries.proofs.stores.mark_kept_replaced.Goals as goal
use Rattle.kept_entries.proofs.stores.mark_kept_replaced.Goals.{then-same_paths, else-same_paths, then-is_number+else-loop-k-test, else-is_number}

pub loop-i-init : goal.loop-i-init
loop-i-init c = search mapped-fills

pub bounds-entries-i : goal.bounds-entries-i
bounds-entries-i c = search mapped-fills

pub bounds-entries-i-then-is_number : goal.bounds-entries-i-then-is_number
bounds-entries-i-then-is_number c = search mapped-fills

pub bounds-entries-i-then-is_number-2 : goal.bounds-entries-i-then-is_number-2
bounds-entries-i-then-is_number-2 c = search mapped-fills

pub loop-k-init : goal.loop-k-init
loop-k-init c = search flags

pub loop-k-preserved : goal.loop-k-preserved
loop-k-preserved c =
    elim c.if-same_paths.branch [ then-same_paths w ↦ search (put_passed, rules) | else-same_paths w ↦ search (put_failed, rules) ]

pub bounds-marks-i : goal.bounds-marks-i
bounds-marks-i c = search mapped-fills

pub loop-i-preserved : goal.loop-i-preserved
loop-i-preserved c =
    elim c.if-is_number.branch [ then-is_number+else-loop-k-test w ↦ search (kept_marked, replaced_told, rules) | else-is_number w ↦ search (kept_unmarked, replaced_other, rules) ]

pub returns : goal.returns
returns c = search mapped-fills
