-- `remove::take_out` meets its contract: the marked entries go, and the volume has its new version. Assumes nothing.
use Rattle.removes.proofs.RemoveLaws.{removes}
use Rattle.removes.proofs.remove.take_out.Goals as goal

pub returns : goal.returns
returns c = search removes
