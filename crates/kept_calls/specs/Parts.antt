-- What delete, over kept tokens, leaves of the whole tables. Assumes nothing.
use Rattle.std.specs.Prelude.{List, ℕ}
use Rattle.rules.specs.declared.Tables.{Tables}
use Rattle.rules.specs.declared.TablesOutcome.{TablesOutcome}
use Rattle.rules.specs.declared.Volume.{Volume}
use Rattle.rules.specs.Outcome.{refusal}
use Rattle.rules.specs.Tables.{with_volumes, with_tokens}
use Rattle.kept.specs.declared.KeptToken.{KeptToken}
use Rattle.kept_tokens.specs.KeptTokens.{tokens_in}
use Rattle.kept_calls.specs.declared.KeptDelete.{KeptDelete}

-- the tables with what delete left
abbrev pub on_kept_delete : List ℕ → Tables → KeptDelete → TablesOutcome
on_kept_delete j t o = record { answer = o.answer; tables = with_tokens (with_volumes t o.volumes) (tokens_in j o.tokens) }

-- a refusal, which leaves both tables as they are
abbrev pub not_deleted : List Volume → List KeptToken → ℕ → KeptDelete
not_deleted volumes tokens n = record { answer = refusal n; volumes = volumes; tokens = tokens }
