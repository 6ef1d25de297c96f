-- `volume_call` meets its contract: the call reads only the volumes. Assumes nothing.
use Rattle.replay_calls.proofs.DoneLaws.{volumes_done}
use Rattle.replay_calls.proofs.volume_calls.volume_call.Goals as goal

pub returns : goal.returns
returns c = search volumes_done
