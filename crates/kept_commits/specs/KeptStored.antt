-- What a commit over kept tables leaves, as the tables that its rows stand for. j is the bytes of the journal. Assumes nothing.
use Rattle.std.specs.Prelude.{List, ℕ}
use Rattle.commits.specs.declared.CommitOutcome.{CommitOutcome}
use Rattle.kept.specs.Kept.{session_in}
use Rattle.kept_entries.specs.KeptEntries.{entries_in}
use Rattle.kept_tokens.specs.KeptTokens.{tokens_in}
use Rattle.kept_commits.specs.declared.KeptCommit.{KeptCommit}

abbrev pub as_commit : List ℕ → KeptCommit → CommitOutcome
as_commit j o = record {
  answer = o.answer;
  volumes = o.volumes;
  entries = entries_in j o.entries;
  tokens = tokens_in j o.tokens;
  relays = o.relays;
  session = session_in j o.session;
}
