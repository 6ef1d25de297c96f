use Rattle.lists.specs.LoopLaws.{finds-part}
use Rattle.kept_sessions.proofs.stage.find_kept_put.Goals as goal

pub returns-then-is_kept_put : goal.returns-then-is_kept_put
returns-then-is_kept_put c = search finds-part

pub loop-i-preserved : goal.loop-i-preserved
loop-i-preserved c = search finds-part

pub returns : goal.returns
returns c = search finds-part
