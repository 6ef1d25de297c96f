-- `loading::load` meets its contract: after i turns the first i relays have taken their shards. Assumes nothing.
use Rattle.placing.proofs.LoadLaws.{LoadLoop}
use Rattle.placing.proofs.loading.load.Given as goal

abbrev pub invariant-loop-i : goal.invariant-loop-i
invariant-loop-i l = LoadLoop l.bytes l.place l.numbers l.rows 32 l.i l.out
