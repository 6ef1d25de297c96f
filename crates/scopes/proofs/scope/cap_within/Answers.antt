-- `scope::cap_within` meets its contract: by cases on both caps. Assumes nothing.
use Rattle.scopes.proofs.scope.cap_within.Goals as goal

pub returns-in-Bytes-parent-2 : goal.returns-in-Bytes-parent-2
returns-in-Bytes-parent-2 c = cc
