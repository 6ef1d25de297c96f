-- The number of a table's row, and what the test of the desk reads of a volume beside it. Assumes nothing.
use Rattle.std.specs.Prelude.{ℕ, ◌+◌}
use Rattle.rules.specs.declared.Volume.{Volume}
use Rattle.rules.specs.declared.Relay.{Relay}

abbrev pub volume_number : Volume → ℕ
volume_number v = v.no.0

-- K+M, the number of an entry's shards
abbrev pub volume_width : Volume → ℕ
volume_width v = v.k + v.m

abbrev pub volume_k : Volume → ℕ
volume_k v = v.k

abbrev pub relay_number : Relay → ℕ
relay_number x = x.no.0
