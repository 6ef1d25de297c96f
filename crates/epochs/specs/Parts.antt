-- What the parts of the tables that an advance, its first part and a collection leave make of the whole. Assumes nothing.
use Rattle.std.specs.Prelude.{Bool, true, false, List, ℕ}
use Rattle.rules.specs.declared.Volume.{Volume}
use Rattle.rules.specs.declared.Relay.{Relay}
use Rattle.rules.specs.declared.Tables.{Tables}
use Rattle.rules.specs.declared.TablesOutcome.{TablesOutcome}
use Rattle.rules.specs.Tables.{with_clock, with_volumes, with_entries, with_tokens, with_relays}
use Rattle.rules.specs.Outcome.{refusal}
use Rattle.rules.specs.Advance.{is_due, collect}
use Rattle.epochs.specs.declared.AdvanceOutcome.{AdvanceOutcome}
use Rattle.epochs.specs.declared.PassOutcome.{PassOutcome}
use Rattle.epochs.specs.declared.CollectOutcome.{CollectOutcome}

-- the tables with what an advance left
abbrev pub on_advance : Tables → AdvanceOutcome → TablesOutcome
on_advance t o = record {
  answer = o.answer;
  tables = with_volumes (with_tokens (with_relays (with_entries (with_clock t o.clock) o.entries) o.relays) o.tokens) o.volumes;
}

-- the tables with what an advance left before volumes are collected
abbrev pub on_pass : Tables → PassOutcome → TablesOutcome
on_pass t o = record { answer = o.answer; tables = with_volumes (with_relays (with_clock t o.clock) o.relays) o.volumes }

-- a refusal before that: the clock, the volumes and the relays are as they came
abbrev pub pass_refused : ℕ → List Volume → List Relay → ℕ → PassOutcome
pass_refused clock volumes relays n = record { answer = refusal n; clock = clock; volumes = volumes; relays = relays; due = false }

-- the tables with what a collection left
abbrev pub on_collect : Tables → CollectOutcome → Tables
on_collect t o = with_volumes (with_tokens (with_relays (with_entries t o.entries) o.relays) o.tokens) o.volumes

-- an outcome after the collection where the first argument is true, and else as it is
unfoldable pub collected : Bool → ℕ → TablesOutcome → TablesOutcome
collected true block o = record { answer = o.answer; tables = collect (is_due block) o.tables }
collected false block o = o
