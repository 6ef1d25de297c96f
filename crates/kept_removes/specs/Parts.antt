-- What the kept tables that a remove leaves make of the whole, and the rules of its parts. j is the bytes of the journal. Assumes nothing.
use Rattle.std.specs.Prelude.{◌≡◌, List, ℕ, ◌+◌}
use Rattle.lists.specs.Lists.{hit}
use Rattle.rules.specs.declared.Account.{Account}
use Rattle.rules.specs.declared.Volume.{Volume}
use Rattle.rules.specs.declared.Relay.{Relay}
use Rattle.rules.specs.declared.Tables.{Tables}
use Rattle.rules.specs.declared.TablesOutcome.{TablesOutcome}
use Rattle.rules.specs.Tables.{entry_of, with_volumes, with_entries, with_relays}
use Rattle.rules.specs.Outcome.{refusal, accepted}
use Rattle.rules.specs.VolumeCalls.{removed, remove_entry, remove_in}
use Rattle.kept.specs.declared.KeptEntry.{KeptEntry}
use Rattle.kept_entries.specs.KeptEntries.{entries_in}
use Rattle.kept_removes.specs.declared.KeptRemove.{KeptRemove}

-- the tables with what a remove left
abbrev pub on_kept_remove : List ℕ → Tables → KeptRemove → TablesOutcome
on_kept_remove j t o =
    record { answer = o.answer; tables = with_volumes (with_relays (with_entries t (entries_in j o.entries)) o.relays) o.volumes }

-- a refusal: the tables are as they came
abbrev pub kept_refused : List Volume → List KeptEntry → List Relay → ℕ → KeptRemove
kept_refused vs es rs n = record { answer = refusal n; volumes = vs; entries = es; relays = rs }

-- r is what the rule leaves of tables that these stand for
pub record Leaves (j : List ℕ) (vs : List Volume) (es : List KeptEntry) (rs : List Relay) (r : KeptRemove) (rule : Tables → TablesOutcome) : Type 0 where
  pub told : (t : Tables) → t.volumes ≡ vs → t.entries ≡ entries_in j es → t.relays ≡ rs → on_kept_remove j t r ≡ rule t

-- the rules from the volume v in row i on: where its entry goes, from the entry on, and from the volume on
unfoldable pub out_rule : List ℕ → ℕ → Volume → Tables → TablesOutcome
out_rule path i v t = accepted (v.version + 1) (removed t path i v)

unfoldable pub entry_rule : List ℕ → ℕ → Volume → Tables → TablesOutcome
entry_rule path i v t = remove_entry t path i v (entry_of v.no path t)

unfoldable pub in_rule : Account → List ℕ → ℕ → Volume → Tables → TablesOutcome
in_rule a path i v t = remove_in t a path (hit i v)
