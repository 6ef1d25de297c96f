-- The tables and the slots that a replay holds: t has all but the tokens, the entries and the relays. j is the bytes of the journal. Assumes nothing.
use Rattle.std.specs.Prelude.{◌≡◌, List, map, ℕ, get_or, replicate}
use Rattle.rules.specs.declared.Volume.{Volume}
use Rattle.rules.specs.Outcome.{refusal}
use Rattle.rules.specs.declared.Relay.{Relay}
use Rattle.rules.specs.declared.Session.{Session}
use Rattle.rules.specs.declared.Tables.{Tables}
use Rattle.rules.specs.Fresh.{fresh_session}
use Rattle.rules.specs.Tables.{with_entries, with_tokens, with_relays}
use Rattle.rules.specs.Calls.{work_rule}
use Rattle.rules.specs.declared.Answer.{Answer}
use Rattle.volumes.specs.declared.VolumesOutcome.{VolumesOutcome}
use Rattle.volumes.specs.Parts.{on_volumes}
use Rattle.tokens.specs.Parts.{unchanged}
use Rattle.epochs.specs.declared.PassOutcome.{PassOutcome}
use Rattle.epochs.specs.Parts.{on_pass}
use Rattle.epochs.specs.Within.{pass_within, due_within}
use Rattle.kept.specs.declared.KeptToken.{KeptToken}
use Rattle.kept.specs.declared.KeptSession.{KeptSession}
use Rattle.commits.specs.Parts.{on_commit}
use Rattle.kept_commits.specs.declared.KeptCommit.{KeptCommit}
use Rattle.kept_commits.specs.Early.{commit_early}
use Rattle.kept_commits.specs.KeptStored.{as_commit}
use Rattle.rules.specs.Rent.{size_of}
use Rattle.rents.specs.Within.{entry_volume}
use Rattle.kept.specs.declared.KeptEntry.{KeptEntry}
use Rattle.kept.specs.Kept.{slots_in, fresh_kept_token, fresh_kept_entry}
use Rattle.rules.specs.Limits.{token_rows, entry_rows}
use Rattle.kept_calls.specs.declared.KeptDelete.{KeptDelete}
use Rattle.kept_calls.specs.Parts.{on_kept_delete}
use Rattle.rules.specs.Advance.{is_due, collect}
use Rattle.kept_epochs.specs.declared.KeptCollect.{KeptCollect}
use Rattle.kept_epochs.specs.Parts.{on_kept_collect}
use Rattle.kept_removes.specs.declared.KeptRemove.{KeptRemove}
use Rattle.kept_removes.specs.Parts.{on_kept_remove}
use Rattle.kept_tokens.specs.declared.KeptTokens.{KeptTokens}
use Rattle.kept_tokens.specs.KeptTokens.{tokens_in}
use Rattle.kept_tokens.specs.Calls.{on_kept_tokens}
use Rattle.kept_entries.specs.KeptEntries.{entries_in}
use Rattle.kept_sessions.specs.declared.KeptOutcome.{KeptOutcome}
use Rattle.kept_sessions.specs.Parts.{on_kept_session}
use Rattle.journal.specs.declared.Record.{Record}
use Rattle.journal_calls.specs.declared.VolumeCall.{VolumeCall}
use Rattle.journal_calls.specs.declared.TokenCall.{TokenCall}
use Rattle.journal_calls.specs.declared.SlotCall.{SlotCall}
use Rattle.journal_calls.specs.Groups.{volume_ask, token_ask, look_ask, delete_ask, remove_ask, slot_work}
use Rattle.journal_calls.specs.Parts.{Asked}
use Rattle.replay_calls.specs.declared.EntryLists.{EntryLists}
use Rattle.replay_calls.specs.declared.Held.{Held}

abbrev pub held_tables : List ℕ → Tables → Held → List Relay → Tables
held_tables j t h relays = with_entries (with_tokens (with_relays t relays) (tokens_in j h.tokens)) (entries_in j h.entries)

-- those of a fresh desk
abbrev pub fresh_held : Held
fresh_held = record { tokens = replicate token_rows fresh_kept_token; entries = replicate entry_rows fresh_kept_entry }

-- o is what a call on the tokens gives, whatever the relays are; l is the bytes of its record
pub record TokensDone (j : List ℕ) (t : Tables) (h : Held) (w : TokenCall) (r : Record) (l : List ℕ) (o : KeptTokens) : Type 0 where
  pub told : (relays : List Relay) → Asked (on_kept_tokens j (held_tables j t h relays) o) (token_ask w r l) (held_tables j t h relays)

-- a call on the volumes, whatever the other tables are
pub record VolumesDone (j : List ℕ) (t : Tables) (w : VolumeCall) (r : Record) (l : List ℕ) (o : VolumesOutcome) : Type 0 where
  pub told : (h : Held) (relays : List Relay) → Asked (on_volumes (held_tables j t h relays) o) (volume_ask w r l) (held_tables j t h relays)

pub record DeleteDone (j : List ℕ) (t : Tables) (h : Held) (r : Record) (l : List ℕ) (o : KeptDelete) : Type 0 where
  pub told : (relays : List Relay) → Asked (on_kept_delete j (held_tables j t h relays) o) (delete_ask r l) (held_tables j t h relays)

-- a look, which leaves the tables as they are
pub record LookDone (j : List ℕ) (t : Tables) (h : Held) (r : Record) (l : List ℕ) (a : Answer) : Type 0 where
  pub told : (relays : List Relay) → Asked (unchanged (held_tables j t h relays) a) (look_ask r l) (held_tables j t h relays)

pub record RemoveDone (j : List ℕ) (t : Tables) (h : Held) (relays : List Relay) (r : Record) (l : List ℕ) (o : KeptRemove) : Type 0 where
  pub told : Asked (on_kept_remove j (held_tables j t h relays) o) (remove_ask r l) (held_tables j t h relays)

-- the volumes and the sizes of the entries
pub record ListsOf (rows : List KeptEntry) (x : EntryLists) : Type 0 where
  pub owners : (j : List ℕ) → x.owners ≡ map entry_volume (entries_in j rows)
  pub sizes : (j : List ℕ) → x.sizes ≡ map size_of (entries_in j rows)

-- an advance before its collection
pub record PassDone (t : Tables) (h : Held) (relays : List Relay) (block : ℕ) (o : PassOutcome) : Type 0 where
  pub told : (j : List ℕ) → on_pass (held_tables j t h relays) o ≡ pass_within block (held_tables j t h relays)
  pub due : (j : List ℕ) → o.due ≡ due_within block (held_tables j t h relays)

pub record CollectDone (t : Tables) (h : Held) (relays : List Relay) (block : ℕ) (o : KeptCollect) : Type 0 where
  pub told : (j : List ℕ) → on_kept_collect j (held_tables j t h relays) o ≡ collect (is_due block) (held_tables j t h relays)

-- a call on a slot
abbrev pub slot_at : List ℕ → List KeptSession → Record → Session
slot_at j slots r = get_or (slots_in j slots) r.slot fresh_session

pub record SlotDone (j : List ℕ) (t : Tables) (h : Held) (slots : List KeptSession) (w : SlotCall) (r : Record) (l : List ℕ) (o : KeptOutcome) : Type 0 where
  pub told : (relays : List Relay) → on_kept_session j (held_tables j t h relays) o ≡ work_rule (slot_work w r l) (held_tables j t h relays) (slot_at j slots r)

-- a commit
abbrev pub kept_refusal : List Volume → List KeptEntry → List KeptToken → List Relay → KeptSession → ℕ → KeptCommit
kept_refusal volumes entries tokens relays s n =
    record { answer = refusal n; volumes = volumes; entries = entries; tokens = tokens; relays = relays; session = s }

pub record CommitDone (j : List ℕ) (t : Tables) (h : Held) (slots : List KeptSession) (relays : List Relay) (r : Record) (o : KeptCommit) : Type 0 where
  pub told : on_commit (held_tables j t h relays) (as_commit j o) ≡ commit_early (held_tables j t h relays) (slot_at j slots r)
