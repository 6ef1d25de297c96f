use Rattle.entries.proofs.CountLaws.{counts-part}
use Rattle.entries.proofs.FlagLaws.{seek_start, new_counted, known_skipped}
use borrow.Author.Rules.{rules}
use Rattle.entries.proofs.stores.count_new.Goals.{else-not-there, then-not-there}
use Rattle.entries.proofs.stores.count_new.Goals as goal

pub loop-j-init : goal.loop-j-init
loop-j-init c = search (seek_start, rules)

pub loop-i-preserved : goal.loop-i-preserved
loop-i-preserved c = elim c.if-not-there.branch [ then-not-there w ↦ search (new_counted, rules) | else-not-there w ↦ search (known_skipped, rules) ]

pub returns : goal.returns
returns c = search counts-part
