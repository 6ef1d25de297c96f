-- `family::passes_cap` meets its contract: by cases on the cap. Assumes nothing.
use Rattle.commits.proofs.family.passes_cap.Goals as goal

pub returns-in-Bytes : goal.returns-in-Bytes
returns-in-Bytes c = cc
