-- The rows that a call leaves: a refusal leaves them, and success sets the one row. Assumes nothing.
use Rattle.std.specs.Prelude.{◌≡◌, List, ℕ, set, get_or, Result, Ok, Err}
use Rattle.std.proofs.Common.{refl, sym, ◌∙◌}
use Rattle.lists.specs.ModifyLaws.{row_set}
use Rattle.rules.specs.declared.refusals.Refusal.{Refusal}
use Rattle.rules.specs.declared.Relay.{Relay}
use Rattle.rows.specs.Blank.{blank_relay}
use Rattle.lent_relays.specs.Lent.{rows_after}

module _ (change : Relay → Relay) (rows : List Relay) (a : Result ℕ Refusal) where
  pub refused_rows : (why : Refusal) → a ≡ Err why → rows ≡ rows_after change a rows
  unfolding rows_after
  refused_rows why e = rw e refl

  pub accepted_rows : (i : ℕ) (after : List Relay) → a ≡ Ok i → after ≡ set rows i (change (get_or rows i blank_relay)) → after ≡ rows_after change a rows
  unfolding rows_after
  accepted_rows i after e f = rw (e, f) (row_set change rows i blank_relay)
