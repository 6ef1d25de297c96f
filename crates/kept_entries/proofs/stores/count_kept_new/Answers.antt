use Rattle.kept_entries.proofs.CountLaws.{counts, seek_start, seek_found, seek_past, seek_unread, new_counted, known_skipped}
use borrow.Author.Rules.{rules}
use Rattle.kept_entries.proofs.stores.count_kept_new.Goals.{else-marks-k, else-not-there, then-marks-k+else-has_path, then-marks-k+then-has_path, then-not-there}
use Rattle.kept_entries.proofs.stores.count_kept_new.Goals as goal

pub loop-i-init : goal.loop-i-init
loop-i-init c = search counts

pub loop-k-init : goal.loop-k-init
loop-k-init c = search (seek_start, rules)

pub loop-k-preserved : goal.loop-k-preserved
loop-k-preserved c = elim c.if-marks-k.branch [ then-marks-k+then-has_path w ↦ search (seek_found, rules) | then-marks-k+else-has_path w ↦ search (seek_past, rules) | else-marks-k w ↦ search (seek_unread, rules) ]

pub loop-i-preserved : goal.loop-i-preserved
loop-i-preserved c = elim c.if-not-there.branch [ then-not-there w ↦ search (new_counted, rules) | else-not-there w ↦ search (known_skipped, rules) ]

pub returns : goal.returns
returns c = search counts
