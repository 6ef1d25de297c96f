use Rattle.lists.specs.LoopLaws.{anys, clashes}
use Rattle.sound_rows.proofs.KeyLaws.{path_again, path_once, no_path, key_differs}
use Rattle.sound_rows.proofs.entry_test.paths_differ.Goals.{else-key-ne0, else-keys-j, then-key-ne0+else-loop-j-test, then-keys-j+else-same_entry}
use Rattle.sound_rows.proofs.entry_test.paths_differ.Goals as goal

pub returns-then-same_entry : goal.returns-then-same_entry
returns-then-same_entry c = search path_again

pub loop-j-preserved : goal.loop-j-preserved
loop-j-preserved c = elim c.if-keys-j.branch [ then-keys-j+else-same_entry w ↦ search anys | else-keys-j w ↦ search key_differs ]

pub loop-i-preserved : goal.loop-i-preserved
loop-i-preserved c = elim c.if-key-ne0.branch [ then-key-ne0+else-loop-j-test w ↦ search path_once | else-key-ne0 w ↦ search no_path ]

pub returns : goal.returns
returns c = search clashes
