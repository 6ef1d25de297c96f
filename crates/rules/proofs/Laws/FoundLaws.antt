-- Laws of open, stage and commit: what an accepted one found in the tables, and that this decides what it does. Assumes nothing.
use Rattle.std.specs.Prelude.{◌≡◌, refl, Bool, true, false, cond, ◌&&◌, List, ℕ, eqb, leb}
use Rattle.std.proofs.Common.{sym, ◌∙◌, eqb-true}
use Rattle.std.proofs.lemmas.Bool.{false≢true, not-false}
use Rattle.lists.specs.Lists.{Hit, miss, hit, find}
use Rattle.lists.specs.BoolLaws.{not_both}
use Rattle.text.specs.Text.{is_path, covers, text_bytes}
use Rattle.rules.specs.declared.TokenNo.{TokenNo}
use Rattle.rules.specs.declared.Hash.{Hash}
use Rattle.rules.specs.declared.Volume.{Volume}
use Rattle.rules.specs.declared.Token.{Token}
use Rattle.rules.specs.declared.Put.{Put}
use Rattle.rules.specs.declared.Session.{Session}
use Rattle.rules.specs.declared.Answer.{Answer}
use Rattle.rules.specs.declared.Tables.{Tables}
use Rattle.rules.specs.declared.SlotOutcome.{SlotOutcome}
use Rattle.rules.specs.Limits.{put_rows, size_limit}
use Rattle.rules.specs.Tables.{busy, staged, is_put, volume_of, token_of}
use Rattle.rules.specs.Scope.{in_window, can_write}
use Rattle.rules.specs.Outcome.{is_accepted, slot_refused, slot_accepted}
use Rattle.rules.specs.VolumeCalls.{is_active}
use Rattle.rules.specs.SessionCalls.{opened, open_volume, open_token, open_rule, new_put, stage_put, stage_token, stage_rule}
use Rattle.rules.specs.Commit.{commit_rule}
use Rattle.rules.specs.Calls.{opens, stages, commits, work_rule}
use Rattle.rules.proofs.Laws.WorkCases.{WorkEffect, opening, restaging, staging, committing, WorkDoes, refuses, takes, work_cases}
use Rattle.rules.proofs.Laws.BranchLaws.{cond_case}
use Rattle.rules.proofs.Laws.Later.{ReadyFor, Ready}

-- An accepted call passed each of its checks.
pub passed : (t : Tables) (s : Session) (b : Bool) (n : ℕ) (o : SlotOutcome) → eqb n 0 ≡ false → is_accepted (cond b (slot_refused t s n) o).answer ≡ true
    → (b ≡ false) × (is_accepted o.answer ≡ true)
passed t s true n o e a = absurd (false≢true (sym e ∙ a))
passed t s false n o e a = (refl, a)

-- What an accepted open found.
pub record Opens (n : TokenNo) (t : Tables) (s : Session) : Type 0 where
  pub idle : busy s ≡ false
  pub token_row : ℕ
  pub token : Token
  pub token_found : token_of n t ≡ hit token_row token
  pub window : in_window t.clock token.scope ≡ true
  pub write : can_write token.scope.mode ≡ true
  pub volume_row : ℕ
  pub volume : Volume
  pub volume_found : volume_of token.volume t ≡ hit volume_row volume
  pub active : is_active volume.status ≡ true

-- what it leaves in the slot
abbrev pub opened_by : {n : TokenNo} {t : Tables} {s : Session} → Opens n t s → Session
opened_by o = opened o.token.no o.volume.no o.volume.version

open_effect : (t : Tables) (s : Session) {n : TokenNo} {x : Answer} {u : Tables} {r : Session} → WorkEffect t s (opens n) x u r → Opens n t s
open_effect t s (opening n i k j v b e p q f r) = record {
  idle = b;
  token_row = i;
  token = k;
  token_found = e;
  window = not-false (in_window t.clock k.scope) p;
  write = not-false (can_write k.scope.mode) q;
  volume_row = j;
  volume = v;
  volume_found = f;
  active = not-false (is_active v.status) r;
}

open_does : (t : Tables) (s : Session) (n : TokenNo) {o : SlotOutcome} → WorkDoes t s (opens n) o → is_accepted o.answer ≡ true → Opens n t s
open_does t s n (refuses m e) a = absurd (not_both a e)
open_does t s n (takes x u r y e) a = open_effect t s e

pub open_found_lem : (n : TokenNo) (t : Tables) (s : Session) → is_accepted (open_rule n t s).answer ≡ true → Opens n t s
unfolding work_rule
open_found_lem n t s a = open_does t s n (work_cases t s (opens n)) a

-- and what it finds decides
pub open_so : (n : TokenNo) (t : Tables) (s : Session) (o : Opens n t s) → open_rule n t s ≡ slot_accepted 0 t (opened_by o)
unfolding open_rule open_token open_volume
open_so n t s o = rw (o.idle, o.token_found, o.window, o.write, o.volume_found, o.active)

-- What an accepted stage found; what it then does is the same on all tables.
pub record Stages (path : List ℕ) (size : ℕ) (t : Tables) (s : Session) : Type 0 where
  pub good : (is_path path && leb size size_limit) ≡ true
  pub running : busy s ≡ true
  pub token_row : ℕ
  pub token : Token
  pub token_found : token_of s.token t ≡ hit token_row token
  pub covered : covers (text_bytes token.scope.prefix) path ≡ true

stage_effect : (t : Tables) (s : Session) {path : List ℕ} {size : ℕ} {h : Hash} {x : Answer} {u : Tables} {r : Session}
    → WorkEffect t s (stages path size h) x u r → Stages path size t s
stage_effect t s (restaging path size x i k j old p q e r f) = record {
  good = not-false (is_path path && leb size size_limit) p;
  running = not-false (busy s) q;
  token_row = i;
  token = k;
  token_found = e;
  covered = not-false (covers (text_bytes k.scope.prefix) path) r;
}
stage_effect t s (staging path size x i k p q e r f z) = record {
  good = not-false (is_path path && leb size size_limit) p;
  running = not-false (busy s) q;
  token_row = i;
  token = k;
  token_found = e;
  covered = not-false (covers (text_bytes k.scope.prefix) path) r;
}

stage_does : (t : Tables) (s : Session) (path : List ℕ) (size : ℕ) (h : Hash) {o : SlotOutcome} → WorkDoes t s (stages path size h) o
    → is_accepted o.answer ≡ true → Stages path size t s
stage_does t s path size h (refuses m e) a = absurd (not_both a e)
stage_does t s path size h (takes x u r y e) a = stage_effect t s e

pub stage_found_lem : (path : List ℕ) (size : ℕ) (x : Hash) (t : Tables) (s : Session) → is_accepted (stage_rule path size x t s).answer ≡ true → Stages path size t s
unfolding work_rule
stage_found_lem path size x t s a = stage_does t s path size x (work_cases t s (stages path size x)) a

pub stage_so : (path : List ℕ) (size : ℕ) (x : Hash) (t : Tables) (s : Session) → Stages path size t s
    → stage_rule path size x t s ≡ stage_put t s (new_put path size x) (find (is_put path) (staged s))
unfolding stage_rule stage_token
stage_so path size x t s o = rw (o.good, o.running, o.token_found, o.covered)

room_same : (t t' u u' : Tables) (s : Session) (b : Bool) (n : ℕ) (s' : Session) → let o = cond b (slot_refused t s n) (slot_accepted 0 u s') in let o' = cond b (slot_refused t' s n) (slot_accepted 0 u' s') in
    (o'.answer ≡ o.answer) × (o'.session ≡ o.session)
room_same t t' u u' s true n s' = (refl, refl)
room_same t t' u u' s false n s' = (refl, refl)

pub stage_put_same : (t t' : Tables) (s : Session) (p : Put) (h : Hit Put) → ((stage_put t' s p h).answer ≡ (stage_put t s p h).answer) × ((stage_put t' s p h).session ≡ (stage_put t s p h).session)
unfolding stage_put
stage_put_same t t' s p (hit j old) = (refl, refl)
stage_put_same t t' s p miss = room_same t t' _ _ s (leb put_rows s.count) _ _

-- a stage changes nothing of the session but its puts
record SameSession (s s' : Session) : Type 0 where
  token : s'.token ≡ s.token
  volume : s'.volume ≡ s.volume
  version : s'.version ≡ s.version

stage_put_keeps : (t : Tables) (s : Session) (p : Put) (h : Hit Put) → SameSession s (stage_put t s p h).session
unfolding stage_put
stage_put_keeps t s p (hit j old) = record { token = refl; volume = refl; version = refl }
stage_put_keeps t s p miss =
    cond_case {A = SlotOutcome} (λ o. SameSession s o.session) (leb put_rows s.count) _ _ (λ b. record { token = refl; volume = refl; version = refl })
    (λ b. record { token = refl; volume = refl; version = refl })

-- so tables that are ready for what it leaves are ready for what it found
ready_same : (t : Tables) (s s' : Session) → SameSession s s' → Ready t s' → Ready t s
ready_same t s s' e r b =
    let q = r (rw e.token b) in
    record {
      volume_row = q.volume_row;
      volume = q.volume;
      volume_found = rw (← e.volume) q.volume_found;
      active = q.active;
      version = q.version ∙ e.version;
      token_row = q.token_row;
      token = q.token;
      token_found = rw (← e.token) q.token_found;
      window = q.window;
    }

pub stage_before : (path : List ℕ) (size : ℕ) (x : Hash) (t : Tables) (s : Session) → is_accepted (stage_rule path size x t s).answer ≡ true
    → (t' : Tables) → Ready t' (stage_rule path size x t s).session → Ready t' s
stage_before path size x t s a t' ready =
    let so = stage_so path size x t s (stage_found_lem path size x t s a) in
    ready_same t' s _ (stage_put_keeps t s (new_put path size x) (find (is_put path) (staged s))) (rw so at ready)

-- an open found its slot idle, for which any tables are ready
pub open_before : (n : TokenNo) (t : Tables) (s : Session) → is_accepted (open_rule n t s).answer ≡ true → (t' : Tables) → Ready t' s
open_before n t s a t' b = absurd (not_both b (open_found_lem n t s a).idle)

-- An accepted commit found the tables ready.
commit_effect : (t : Tables) (s : Session) {x : Answer} {u : Tables} {r : Session} → WorkEffect t s commits x u r → ReadyFor t s
commit_effect t s (committing a) = record {
  volume_row = a.volume_row_lem;
  volume = a.volume;
  volume_found = a.volume_found_lem;
  active = not-false (is_active a.volume.status) a.active;
  version = eqb-true a.volume.version s.version (not-false (eqb a.volume.version s.version) a.version);
  token_row = a.token_row_lem;
  token = a.token;
  token_found = a.token_found_lem;
  window = not-false (in_window t.clock a.token.scope) a.window;
}

commit_does : (t : Tables) (s : Session) {o : SlotOutcome} → WorkDoes t s commits o → is_accepted o.answer ≡ true → ReadyFor t s
commit_does t s (refuses m e) a = absurd (not_both a e)
commit_does t s (takes x u r y e) a = commit_effect t s e

pub commit_ready : (t : Tables) (s : Session) → is_accepted (commit_rule t s).answer ≡ true → Ready t s
unfolding work_rule
commit_ready t s a b = commit_does t s (work_cases t s commits) a
