-- The calls of records on held tables are the rules of their calls: the arm names the call, and its fields are what the record and its bytes hold.
-- j is the bytes of the journal. Assumes nothing.
use Rattle.std.specs.Prelude.{Result, Ok, Err}
use mathlib.Core.Path.{◌≡◌, refl, sym, ◌∙◌, ap}
use mathlib.Core.Bool.{Bool, cond}
use mathlib.Core.List.{List, map}
use Prim.Native.Nat.{ℕ}
use lib.ListN.{get_or, replicate, get_or-map}
use Rattle.lists.specs.Lists.{hit, miss, find}
use Rattle.rules.specs.Numbers.{refusal_number}
use Rattle.rules.specs.declared.refusals.Refusal.{Refusal}
use Rattle.rules.specs.declared.Account.{Account}
use Rattle.rules.specs.declared.Hash.{Hash}
use Rattle.rules.specs.declared.Relay.{Relay}
use Rattle.rules.specs.declared.Token.{Token}
use Rattle.rules.specs.declared.TokenNo.{TokenNo}
use Rattle.rules.specs.declared.Tables.{Tables}
use Rattle.rules.specs.Tables.{is_token, token_of}
use Rattle.rules.specs.SessionCalls.{open_rule, stage_rule, abandon_rule}
use Rattle.rules.specs.declared.Answer.{Answer}
use Rattle.rules.specs.TokenCalls.{grant_rule, attenuate_rule, revoke_rule, look_rule}
use Rattle.rules.specs.VolumeCalls.{delete_rule, remove_rule}
use Rattle.rules.specs.Advance.{is_due, collect}
use Rattle.rules.specs.Rent.{size_of}
use Rattle.rents.specs.Within.{entry_volume}
use Rattle.volumes.specs.declared.VolumesOutcome.{VolumesOutcome}
use Rattle.volumes.specs.Parts.{on_volumes}
use Rattle.tokens.specs.Parts.{unchanged}
use Rattle.epochs.specs.declared.PassOutcome.{PassOutcome}
use Rattle.epochs.specs.Parts.{on_pass}
use Rattle.epochs.specs.Within.{pass_within, due_within}
use Rattle.rules.specs.Calls.{ask_rule, work_rule}
use Rattle.rows.specs.Links.{row_if}
use Rattle.scopes.specs.Arguments.{scope_arg}
use Rattle.sessions.specs.Rows.{open_found, stage_found}
use Rattle.sessions.specs.RowLaws.{open_by_row, stage_by_row}
use Rattle.kept.specs.declared.KeptSession.{KeptSession}
use Rattle.kept.specs.Kept.{bytes_in, session_in, fresh_kept_token, fresh_kept_entry, fresh_kept_session}
use Rattle.rules.specs.Limits.{token_rows, entry_rows}
use Rattle.kept_tokens.specs.declared.KeptTokens.{KeptTokens}
use Rattle.kept_tokens.specs.KeptTokens.{tokens_in}
use Rattle.kept_tokens.specs.Calls.{on_kept_tokens}
use Rattle.kept_entries.specs.KeptEntries.{entries_in}
use Rattle.kept_calls.specs.declared.KeptDelete.{KeptDelete}
use Rattle.kept_calls.specs.Parts.{on_kept_delete}
use Rattle.kept_calls.specs.Elsewhere.{SameVolumes}
use Rattle.kept_calls.specs.ElsewhereLaws.{create_elsewhere, deposit_elsewhere, undelete_elsewhere}
use Rattle.kept_removes.specs.declared.KeptRemove.{KeptRemove}
use Rattle.kept_removes.specs.Parts.{on_kept_remove}
use Rattle.kept_epochs.specs.declared.KeptCollect.{KeptCollect}
use Rattle.kept_epochs.specs.Parts.{on_kept_collect}
use Rattle.commits.specs.declared.Plan.{Plan}
use Rattle.commits.specs.Stored.{StoredBy}
use Rattle.commits.specs.Verdicts.{Judged}
use Rattle.kept_commits.specs.declared.KeptCommit.{KeptCommit}
use Rattle.kept_commits.specs.Early.{commit_early}
use Rattle.kept_commits.specs.KeptStored.{as_commit}
use Rattle.kept_sessions.specs.declared.KeptOutcome.{KeptOutcome}
use Rattle.kept_sessions.specs.Parts.{on_kept_session}
use Rattle.journal.specs.declared.Record.{Record}
use Rattle.journal.specs.Places.{account_at, text_at, hash_at}
use Rattle.journal_calls.specs.declared.VolumeCall.{VolumeCall}
use Rattle.journal_calls.specs.declared.VolumeCall.TheVariants as volume
use Rattle.journal_calls.specs.declared.TokenCall.{TokenCall}
use Rattle.journal_calls.specs.declared.TokenCall.TheVariants as token
use Rattle.journal_calls.specs.declared.SlotCall.{SlotCall}
use Rattle.journal_calls.specs.declared.SlotCall.TheVariants as slot
use Rattle.journal_calls.specs.NextLaws.{body_at}
use Rattle.journal_calls.specs.Groups.{volume_ask, BodyAt}
use Rattle.journal_calls.specs.Parts.{Asked}
use Rattle.kept.specs.declared.KeptToken.{KeptToken}
use Rattle.kept.specs.declared.KeptEntry.{KeptEntry}
use Rattle.replay_calls.specs.declared.EntryLists.{EntryLists}
use Rattle.replay_calls.specs.declared.Held.{Held}
use Rattle.replay_calls.specs.Held.{held_tables, fresh_held, TokensDone, VolumesDone, DeleteDone, LookDone, RemoveDone, ListsOf, PassDone, CollectDone, slot_at, SlotDone, kept_refusal, CommitDone}

-- ---- the volumes: b is the record's bytes

module _ (j : List ℕ) (t : Tables) (r : Record) (p after : ℕ) where
  abbrev l₀ : List ℕ
  l₀ = body_at p after j

  volumes_at : (w : VolumeCall) (o : VolumesOutcome) → Asked (on_volumes t o) (volume_ask w r l₀) t → (u : Tables) → SameVolumes t u
      → Asked (on_volumes u o) (volume_ask w r l₀) u
  unfolding ask_rule
  volumes_at volume.Create o f u s =
      record { same = create_elsewhere t u s o (record { 0 = account_at r l₀ }) (text_at r l₀) r.k r.m r.cap f.same }
  volumes_at volume.Deposit o f u s = record { same = deposit_elsewhere t u s o (record { 0 = r.no }) r.amount f.same }
  volumes_at volume.Undelete o f u s = record { same = undelete_elsewhere t u s o (record { 0 = account_at r l₀ }) (record { 0 = r.no }) f.same }

  pub volumes_done : (b : List ℕ) → BodyAt j p after b → (w : VolumeCall) (o : VolumesOutcome) → Asked (on_volumes t o) (volume_ask w r b) t → VolumesDone j t w r l₀ o
  volumes_done b eb w o f =
      record {
        told =
            λ g relays. volumes_at w o (rw eb.same at f) (held_tables j t g relays) (record { clock = refl; volumes = refl; last = refl; deposits = refl });
      }

-- ---- the row k of the token n, if it is there

module _ (j : List ℕ) (t : Tables) (h : Held) (s : KeptSession) (o : KeptOutcome) where
  module _ (n : TokenNo) (there : Bool) (i : ℕ) (k : Token) (ek : find (is_token n) (tokens_in j h.tokens) ≡ cond there (hit i k) miss) where
    row_of : (relays : List Relay) → token_of n (held_tables j t h relays) ≡ cond there (hit i k) miss
    unfolding token_of
    row_of relays = ek

    pub opens_held : ((j' : List ℕ) (u : Tables) → u.clock ≡ t.clock → u.volumes ≡ t.volumes → on_kept_session j' u o ≡ open_found u (session_in j' s) (row_if there k))
        → (relays : List Relay) → on_kept_session j (held_tables j t h relays) o ≡ open_rule n (held_tables j t h relays) (session_in j s)
    opens_held f relays = f j (held_tables j t h relays) refl refl ∙ open_by_row (held_tables j t h relays) (session_in j s) n there i k (row_of relays)

module _ (j : List ℕ) (t : Tables) (h : Held) (r : Record) (p after : ℕ) where
  abbrev l : List ℕ
  l = body_at p after j

  -- ---- the tokens: the record's text stands at `at`, and its account a was taken from its bytes b
  module _ (w : TokenCall) (o : KeptTokens) (b : List ℕ) (eb : BodyAt j p after b) (a : Account) (ea : a.0 ≡ account_at r b) where
    account : a.0 ≡ account_at r l
    account = ea ∙ ap (account_at r) eb.same

    pub revokes : w ≡ token.Revoke
        → ((u : Tables) → u.volumes ≡ t.volumes → u.tokens ≡ tokens_in j h.tokens → u.last_token ≡ t.last_token
        → on_kept_tokens j u o ≡ revoke_rule a (record { 0 = r.no }) u)
        → TokensDone j t h w r l o
    unfolding ask_rule
    revokes e f = record { told = λ relays. record { same = rw (e, ← account) (f (held_tables j t h relays) refl refl refl) } }

    module _ (at n : ℕ) (ep : bytes_in j at n ≡ text_at r l) where
      pub grants : w ≡ token.Grant
          → ((u : Tables) → u.volumes ≡ t.volumes → u.tokens ≡ tokens_in j h.tokens → u.last_token ≡ t.last_token
          → on_kept_tokens j u o ≡ grant_rule a (record { 0 = r.no }) (scope_arg (bytes_in j at n) r.mode r.cap r.«from» r.until) u)
          → TokensDone j t h w r l o
      unfolding ask_rule
      grants e f = record { told = λ relays. record { same = rw (e, ← account, ← ep) (f (held_tables j t h relays) refl refl refl) } }

      pub attenuates : w ≡ token.Attenuate
          → ((u : Tables) → u.tokens ≡ tokens_in j h.tokens → u.last_token ≡ t.last_token
          → on_kept_tokens j u o ≡ attenuate_rule (record { 0 = r.no }) (scope_arg (bytes_in j at n) r.mode r.cap r.«from» r.until) u)
          → TokensDone j t h w r l o
      unfolding ask_rule
      attenuates e f = record { told = λ relays. record { same = rw (e, ← ep) (f (held_tables j t h relays) refl refl) } }

  -- ---- the entries, and delete: b is the record's bytes
  module _ (b : List ℕ) (eb : BodyAt j p after b) where
    pub looks : (path : List ℕ) (a : Answer) → path ≡ text_at r b
        → ((u : Tables) → u.clock ≡ t.clock → u.tokens ≡ tokens_in j h.tokens → u.entries ≡ entries_in j h.entries
        → unchanged u a ≡ look_rule (record { 0 = r.no }) path u)
        → LookDone j t h r l a
    unfolding ask_rule
    looks path a e f =
        let same : path ≡ text_at r l = e ∙ ap (text_at r) eb.same in
        record { told = λ relays. record { same = rw (← same) (f (held_tables j t h relays) refl refl refl) } }

    module _ (a : Account) (ea : a.0 ≡ account_at r b) where
      its_account : a.0 ≡ account_at r l
      its_account = ea ∙ ap (account_at r) eb.same

      pub deletes : (o : KeptDelete)
          → ((j' : List ℕ) (u : Tables) → u.clock ≡ t.clock → u.volumes ≡ t.volumes → u.tokens ≡ tokens_in j' h.tokens
          → on_kept_delete j' u o ≡ delete_rule a (record { 0 = r.no }) u)
          → DeleteDone j t h r l o
      unfolding ask_rule
      deletes o f = record { told = λ relays. record { same = rw (← its_account) (f j (held_tables j t h relays) refl refl refl) } }

      pub removes : (path : List ℕ) (relays : List Relay) (o : KeptRemove) → path ≡ text_at r b
          → ((u : Tables) → u.volumes ≡ t.volumes → u.entries ≡ entries_in j h.entries → u.relays ≡ relays
          → on_kept_remove j u o ≡ remove_rule a (record { 0 = r.no }) path u)
          → RemoveDone j t h relays r l o
      unfolding ask_rule
      removes path relays o e f =
          let same : path ≡ text_at r l = e ∙ ap (text_at r) eb.same in
          record { told = record { same = rw (← its_account, ← same) (f (held_tables j t h relays) refl refl refl) } }

  -- ---- the slots: k is the row of the token n, if it is there
  module _ (s : KeptSession) (o : KeptOutcome) where
    module _ (there : Bool) (i : ℕ) (k : Token) (ek : find (is_token s.token) (tokens_in j h.tokens) ≡ cond there (hit i k) miss) where
      pub stages_held : (at n : ℕ) (b : List ℕ) (x : Hash) → bytes_in j at n ≡ text_at r l → BodyAt j p after b → x.0 ≡ hash_at r b
          → ((u : Tables) → on_kept_session j u o ≡ stage_found (bytes_in j at n) r.amount x u (session_in j s) (row_if there k))
          → (relays : List Relay)
          → on_kept_session j (held_tables j t h relays) o ≡ stage_rule (text_at r l) r.amount (record { 0 = hash_at r l }) (held_tables j t h relays) (session_in j s)
      stages_held at n b x ep eb ex f relays =
          let same : x.0 ≡ hash_at r l = ex ∙ ap (hash_at r) eb.same in
          rw (← same, ← ep)
          (f (held_tables j t h relays)
          ∙ stage_by_row (held_tables j t h relays) (session_in j s) (bytes_in j at n) r.amount x there i k (row_of j t h s o s.token there i k ek relays))

    -- s is the session of the record's slot
    module _ (w : SlotCall) (slots : List KeptSession) (es : s ≡ get_or slots r.slot fresh_kept_session) where
      its : session_in j s ≡ slot_at j slots r
      its = ap (session_in j) es ∙ sym (get_or-map (session_in j) slots r.slot fresh_kept_session)

      pub opening : w ≡ slot.Open
          → ((relays : List Relay) → on_kept_session j (held_tables j t h relays) o ≡ open_rule (record { 0 = r.no }) (held_tables j t h relays) (session_in j s))
          → SlotDone j t h slots w r l o
      unfolding work_rule
      opening e f = record { told = λ relays. rw (e, ← its) (f relays) }

      pub staging : w ≡ slot.Stage
          → ((relays : List Relay)
          → on_kept_session j (held_tables j t h relays) o ≡ stage_rule (text_at r l) r.amount (record { 0 = hash_at r l }) (held_tables j t h relays) (session_in j s))
          → SlotDone j t h slots w r l o
      unfolding work_rule
      staging e f = record { told = λ relays. rw (e, ← its) (f relays) }

      pub abandoning : w ≡ slot.Abandon → ((j' : List ℕ) (u : Tables) → on_kept_session j' u o ≡ abandon_rule u (session_in j' s)) → SlotDone j t h slots w r l o
      unfolding work_rule
      abandoning e f = record { told = λ relays. rw (e, ← its) (f j (held_tables j t h relays)) }

-- ---- an advance

pub lists_made : (rows : List KeptEntry) (owners sizes : List ℕ) → ((j : List ℕ) → owners ≡ map entry_volume (entries_in j rows))
    → ((j : List ℕ) → sizes ≡ map size_of (entries_in j rows)) → ListsOf rows (record { owners = owners; sizes = sizes })
lists_made rows owners sizes e f = record { owners = e; sizes = f }

module _ (t : Tables) (h : Held) (relays : List Relay) (block : ℕ) where
  pub passes_on : (x : EntryLists) (o : PassOutcome) → ListsOf h.entries x
      → ((u : Tables) → u.clock ≡ t.clock → u.rate ≡ t.rate → u.volumes ≡ t.volumes → u.relays ≡ relays → x.owners ≡ map entry_volume u.entries
      → x.sizes ≡ map size_of u.entries → (on_pass u o ≡ pass_within block u) × (o.due ≡ due_within block u))
      → PassDone t h relays block o
  passes_on x o e f =
      record {
        told = λ j. (f (held_tables j t h relays) refl refl refl refl (e.owners j) (e.sizes j)).0;
        due = λ j. (f (held_tables j t h relays) refl refl refl refl (e.owners j) (e.sizes j)).1;
      }

  pub collects : (o : KeptCollect)
      → ((j : List ℕ) (u : Tables) → u.volumes ≡ t.volumes → u.entries ≡ entries_in j h.entries → u.tokens ≡ tokens_in j h.tokens → u.relays ≡ relays
      → on_kept_collect j u o ≡ collect (is_due block) u)
      → CollectDone t h relays block o
  collects o f = record { told = λ j. f j (held_tables j t h relays) refl refl refl refl }

-- ---- a commit: s is the session of the record's slot, and x the verdict on it

module _ (j : List ℕ) (t : Tables) (h : Held) (slots : List KeptSession) (relays : List Relay) (r : Record) (o : KeptCommit) (s : KeptSession)
    (es : s ≡ get_or slots r.slot fresh_kept_session) (x : Result Plan Refusal)
    (f : (u : Tables) → u.clock ≡ t.clock → u.rate ≡ t.rate → u.volumes ≡ t.volumes → u.entries ≡ entries_in j h.entries → u.tokens ≡ tokens_in j h.tokens
    → u.relays ≡ relays → Judged u (session_in j s) (commit_early u (session_in j s)) x) where
  its_slot : session_in j s ≡ slot_at j slots r
  its_slot = ap (session_in j) es ∙ sym (get_or-map (session_in j) slots r.slot fresh_kept_session)

  verdict : Judged (held_tables j t h relays) (session_in j s) (commit_early (held_tables j t h relays) (session_in j s)) x
  verdict = f (held_tables j t h relays) refl refl refl refl refl refl

  pub commit_refused : (why : Refusal) → x ≡ Err why → o ≡ kept_refusal t.volumes h.entries h.tokens relays s (refusal_number why) → CommitDone j t h slots relays r o
  commit_refused why z e = record { told = rw (← its_slot, e) (sym (verdict.refused why z)) }

  pub commit_stored : (plan : Plan) → x ≡ Ok plan
      → ((u : Tables) → u.volumes ≡ t.volumes → u.entries ≡ entries_in j h.entries → u.tokens ≡ tokens_in j h.tokens → u.relays ≡ relays
      → StoredBy u (session_in j s) plan (as_commit j o))
      → CommitDone j t h slots relays r o
  commit_stored plan z g =
      record { told = rw (← its_slot) ((verdict.passed plan z).stored (as_commit j o) (g (held_tables j t h relays) refl refl refl refl)) }

-- ---- a fresh desk

pub held_made : (k : KeptToken) (e : KeptEntry) → k ≡ fresh_kept_token → e ≡ fresh_kept_entry
    → ◌≡◌ {A = Held} (record { tokens = replicate token_rows k; entries = replicate entry_rows e }) fresh_held
held_made k e f g = rw (f, g)
