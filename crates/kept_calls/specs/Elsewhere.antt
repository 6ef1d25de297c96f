-- Tables that differ only elsewhere than create, deposit and undelete read. Assumes nothing.
use Rattle.std.specs.Prelude.{◌≡◌}
use Rattle.rules.specs.declared.Tables.{Tables}

-- u has the clock, the volumes, their last number and the deposits of t
pub record SameVolumes (t u : Tables) : Type 0 where
  pub clock : u.clock ≡ t.clock
  pub volumes : u.volumes ≡ t.volumes
  pub last : u.last_volume ≡ t.last_volume
  pub deposits : u.deposits ≡ t.deposits
