use Rattle.lists.specs.LoopLaws.{clashes-part}
use Rattle.sound_rows.proofs.PutKeyLaws.{put_again, put_once, put_differs, put_other}
use Rattle.sound_rows.proofs.session_test.paths_differ.Goals.{else-keys-j, then-keys-j+else-same_path}
use Rattle.sound_rows.proofs.session_test.paths_differ.Goals as goal

pub returns-then-same_path : goal.returns-then-same_path
returns-then-same_path c = search put_again

pub loop-j-preserved : goal.loop-j-preserved
loop-j-preserved c = elim c.if-keys-j.branch [ then-keys-j+else-same_path w ↦ search put_differs | else-keys-j w ↦ search put_other ]

pub loop-i-preserved : goal.loop-i-preserved
loop-i-preserved c = search put_once

pub returns : goal.returns
returns c = search clashes-part
