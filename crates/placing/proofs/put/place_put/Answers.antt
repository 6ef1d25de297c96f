-- `put::place_put` meets its contract: the checks in their order, then the relays that are chosen take their shards. Assumes nothing.
use Rattle.placing.proofs.PutLaws.{places-put}
use Rattle.placing.proofs.put.place_put.Goals as goal

pub returns-then-wanted-gt24 : goal.returns-then-wanted-gt24
returns-then-wanted-gt24 c = search places-put

pub returns-then-too_few : goal.returns-then-too_few
returns-then-too_few c = search places-put

pub returns : goal.returns
returns c = search places-put
