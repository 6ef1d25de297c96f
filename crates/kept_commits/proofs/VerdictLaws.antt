-- The verdict on a commit, by what was read of the kept tables. Assumes nothing.
use Rattle.std.specs.Prelude.{Result, Ok, Err, ⊤}
use mathlib.Core.Path.{◌≡◌, refl, sym, ◌∙◌}
use mathlib.Core.Bool.{Bool, true, false, not, cond}
use mathlib.Core.List.{List, []}
use Prim.Native.Nat.{ℕ, ◌<◌, ◌≤◌}
use borrow.Author.Tests.{not-true, not-false}
use lib.ListN.{take}
use Rattle.lists.specs.Lists.{Hit, hit, miss, find, all_of}
use Rattle.lists.specs.AnswerLaws.{NoRow, AtRow, no_row, at_row}
use Rattle.rules.specs.declared.VolumeNo.{VolumeNo}
use Rattle.rules.specs.declared.Volume.{Volume}
use Rattle.rules.specs.declared.Entry.{Entry}
use Rattle.rules.specs.declared.Token.{Token}
use Rattle.rules.specs.declared.Relay.{Relay}
use Rattle.rules.specs.declared.Session.{Session}
use Rattle.rules.specs.declared.Tables.{Tables}
use Rattle.rules.specs.Numbers.{NO_TOKEN, answer_number}
use Rattle.rules.specs.declared.refusals.Refusal.{Refusal}
use Rattle.rules.specs.Tables.{is_volume, is_token}
use Rattle.rules.specs.Scope.{family}
use Rattle.rows.specs.Blank.{blank_volume}
use Rattle.rows.specs.Links.{row_if}
use Rattle.surveys.specs.RowLimits.{token_within}
use Rattle.surveys.specs.Survey.{Surveyed}
use Rattle.first_checks.specs.Early.{token_fault, early_token, early_volume, early_number}
use Rattle.commits.specs.declared.Plan.{Plan}
use Rattle.commits.specs.Within.{commit_within}
use Rattle.commits.specs.Verdicts.{Judged, JudgedIn, refusal_given, judged_refusal}
use Rattle.kept.specs.declared.KeptEntry.{KeptEntry}
use Rattle.kept.specs.declared.KeptSession.{KeptSession}
use Rattle.kept.specs.declared.KeptToken.{KeptToken}
use Rattle.kept.specs.Kept.{session_in}
use Rattle.kept_entries.specs.KeptEntries.{entries_in, puts_in}
use Rattle.kept_tokens.specs.KeptTokens.{tokens_in}
use Rattle.kept_commits.specs.KeptLimits.{within_kept}
use Rattle.kept_commits.specs.Early.{commit_early, early_at, early_row}
use Rattle.kept_commits.proofs.TokenLaws.{within_in}

-- ---- the first checks: no volume, or at its row; then the token's row, which is there or not

module _ (clock : ℕ) (s : Session) where
  pub volume_none : (h : Hit Token) (n : VolumeNo) (volumes : List Volume) → NoRow (early_at clock s h) (is_volume n) volumes
  volume_none h n volumes = no_row (early_at clock s h) _ _

  pub volume_at : (h : Hit Token) (n : VolumeNo) (volumes : List Volume) → AtRow (early_at clock s h) (is_volume n) volumes blank_volume
  volume_at h n volumes = at_row (early_at clock s h) _ _ _

  module _ (v : Volume) (there : Bool) (k : Token) (x : ℕ) where
    pub token_none : not there ≡ true → x ≡ NO_TOKEN → x ≡ early_token clock s v (row_if there k)
    unfolding early_token
    token_none g q = q ∙ rw (not-true there g)

    pub token_at_lem : not there ≡ false → x ≡ token_fault clock v s.version k → x ≡ early_token clock s v (row_if there k)
    unfolding early_token
    token_at_lem g q = q ∙ rw (not-false there g)

-- they read no path: the number is that of any journal
module _ (clock : ℕ) (volumes : List Volume) (s : KeptSession) (there : Bool) (k : Token) (i : ℕ) (j : List ℕ) where
  token_same : (v : Volume) (b : Bool) → early_token clock (session_in [] s) v (row_if b k) ≡ early_token clock (session_in j s) v (cond b (hit i k) miss)
  unfolding early_token
  token_same v true = refl
  token_same v false = refl

  at_same : (h : Hit Volume) (ts : List Token) → find (is_token s.token) ts ≡ cond there (hit i k) miss
      → early_at clock (session_in [] s) (row_if there k) h ≡ early_volume clock ts (session_in j s) h
  unfolding early_at early_volume
  at_same miss ts f = refl
  at_same (hit m v) ts f = token_same v there ∙ sym (rw f)

  row_same : (ts : List Token) → find (is_token s.token) ts ≡ cond there (hit i k) miss
      → early_row clock volumes (session_in [] s) (row_if there k) ≡ early_number clock volumes ts (session_in j s)
  unfolding early_row early_number
  row_same ts f = rw (at_same (find (is_volume s.volume) volumes) ts f)

-- ---- the verdict x, where n is what the first checks say

module _ (j : List ℕ) (t : Tables) (clock : ℕ) (volumes : List Volume) (tokens : List KeptToken) (s : KeptSession) (ec : t.clock ≡ clock) (ev : t.volumes ≡ volumes)
    (et : t.tokens ≡ tokens_in j tokens) (there : Bool) (i : ℕ) (k : Token) (n : Result ⊤ Refusal) (x : Result Plan Refusal)
    (f : find (is_token s.token) (tokens_in j tokens) ≡ cond there (hit i k) miss)
    (e : answer_number n ≡ early_row clock volumes (session_in [] s) (row_if there k)) where
  early_number_lem : answer_number n ≡ early_number t.clock t.volumes t.tokens (session_in j s)
  early_number_lem = rw (ec, ev, et) (e ∙ row_same clock volumes s there k i j (tokens_in j tokens) f)

  pub refuses_early : (why : Refusal) → n ≡ Err why → x ≡ Err why → Judged t (session_in j s) (commit_early t (session_in j s)) x
  unfolding commit_early
  refuses_early why z q =
      judged_refusal t (session_in j s) (commit_early t (session_in j s)) x why q (rw (← early_number_lem, z, refusal_given why))

  pub judges : (u : ⊤) → n ≡ Ok u → (rate : ℕ) (entries : List KeptEntry) (relays : List Relay) → t.rate ≡ rate → t.entries ≡ entries_in j entries → t.relays ≡ relays
      → JudgedIn clock rate volumes (entries_in j entries) (tokens_in j tokens) relays (session_in j s) x
      → Judged t (session_in j s) (commit_early t (session_in j s)) x
  unfolding commit_early
  judges u z rate entries relays er ee el m =
      let same : commit_within t (session_in j s) ≡ commit_early t (session_in j s) = rw (← early_number_lem, z) in
      rw same at (m.judged t ec er ev ee et el)

-- x was given by what was read of the kept tables: ms, within, kept and rows of the entries, r of the tokens, ks the family of the token
pub given_kept : (j : List ℕ) (clock rate : ℕ) (volumes : List Volume) (entries : List KeptEntry) (tokens : List KeptToken) (relays : List Relay)
    (s : KeptSession) (x : Result Plan Refusal) (d : Session) (ms : List Bool) (within : Bool) (kept rows : ℕ) (r there : Bool) (i : ℕ) (k : Token) (ks : List Token) (l : ℕ)
    → ((es : List Entry) (ts : List Token) → Surveyed d.volume (take d.count d.puts) es ms within kept rows → r ≡ all_of token_within ts
    → find (is_token d.token) ts ≡ cond there (hit i k) miss → i < 32 → ks ≡ family ts k → l ≤ 8 → JudgedIn clock rate volumes es ts relays d x)
    → d ≡ session_in j s → Surveyed s.volume (take s.count (puts_in j s.puts)) (entries_in j entries) ms within kept rows → r ≡ all_of within_kept tokens
    → find (is_token s.token) (tokens_in j tokens) ≡ cond there (hit i k) miss → i < 32 → ks ≡ family (tokens_in j tokens) k → l ≤ 8
    → JudgedIn clock rate volumes (entries_in j entries) (tokens_in j tokens) relays (session_in j s) x
given_kept j clock rate volumes entries tokens relays s x d ms within kept rows r there i k ks l g q w u f h a b =
    let o = g (entries_in j entries) (tokens_in j tokens) (rw q w) (within_in j tokens r u) (rw q f) h a b in
    rw q at o
