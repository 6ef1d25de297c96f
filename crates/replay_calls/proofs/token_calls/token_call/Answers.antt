-- `token_call` meets its contract: by the call. Assumes nothing.
use Rattle.replay_calls.proofs.DoneLaws.{grants, attenuates, revokes}
use Rattle.replay_calls.proofs.token_calls.token_call.Goals as goal

pub returns-in-Grant : goal.returns-in-Grant
returns-in-Grant c = search grants

pub returns-in-Attenuate : goal.returns-in-Attenuate
returns-in-Attenuate c = search attenuates

pub returns-in-Revoke : goal.returns-in-Revoke
returns-in-Revoke c = search revokes
