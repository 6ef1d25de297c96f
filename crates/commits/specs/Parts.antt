-- What the part of the tables that a commit leaves, with its session, makes of the outcome. Assumes nothing.
use Rattle.rules.specs.declared.Tables.{Tables}
use Rattle.rules.specs.declared.SlotOutcome.{SlotOutcome}
use Rattle.rules.specs.Tables.{with_volumes, with_entries, with_tokens, with_relays}
use Rattle.commits.specs.declared.CommitOutcome.{CommitOutcome}

-- the tables with what a commit left, and the session that it left
abbrev pub on_commit : Tables → CommitOutcome → SlotOutcome
on_commit t o = record {
  answer = o.answer;
  tables = with_relays (with_tokens (with_entries (with_volumes t o.volumes) o.entries) o.tokens) o.relays;
  session = o.session;
}
