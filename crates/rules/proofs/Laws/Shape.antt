-- The tables have the rows that document 01 gives them. Assumes nothing.
use Rattle.std.specs.Prelude.{◌≡◌, length}
use Rattle.rules.specs.declared.Tables.{Tables}
use Rattle.rules.specs.Limits.{volume_rows, entry_rows, token_rows, relay_rows}

pub record Shape (t : Tables) : Type 0 where
  pub volume_rows_lem : length t.volumes ≡ volume_rows
  pub entry_rows_lem : length t.entries ≡ entry_rows
  pub token_rows_lem : length t.tokens ≡ token_rows
  pub relay_rows_lem : length t.relays ≡ relay_rows
