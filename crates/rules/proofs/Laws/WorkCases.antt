-- What a call on a slot answers and leaves: a refusal that leaves all as it was, or the effect that follows every check, with what the checks
-- found. Assumes nothing.
use Rattle.std.specs.Prelude.{◌≡◌, Bool, true, false, ◌&&◌, cond, not, List, ℕ, ◌+◌, eqb, leb}
use Rattle.std.proofs.Math.Path.{refl}
use Rattle.lists.specs.Lists.{Hit, miss, hit, find}
use Rattle.text.specs.Text.{is_path, covers, text_bytes}
use Rattle.rules.specs.declared.TokenNo.{TokenNo}
use Rattle.rules.specs.declared.Hash.{Hash}
use Rattle.rules.specs.declared.Volume.{Volume}
use Rattle.rules.specs.declared.Token.{Token}
use Rattle.rules.specs.declared.Put.{Put}
use Rattle.rules.specs.declared.Answer.{Answer}
use Rattle.rules.specs.declared.Session.{Session}
use Rattle.rules.specs.declared.Tables.{Tables}
use Rattle.rules.specs.declared.SlotOutcome.{SlotOutcome}
use Rattle.rules.specs.Limits.{put_rows, size_limit}
use Rattle.rules.specs.Numbers.{NO_TOKEN, STATE, ROOM}
use Rattle.rules.specs.Fresh.{fresh_session}
use Rattle.rules.specs.Tables.{busy, staged, is_put, volume_of, token_of}
use Rattle.rules.specs.Scope.{in_window, can_write}
use Rattle.rules.specs.Outcome.{success, is_accepted, slot_refused}
use Rattle.rules.specs.VolumeCalls.{is_active}
use Rattle.rules.specs.SessionCalls.{opened, open_volume, open_token, open_rule, new_put, restaged, staged_next, stage_put, stage_token, stage_rule, abandon_rule}
use Rattle.rules.specs.Calls.{Work, opens, stages, commits, abandons, work_rule}
use Rattle.rules.proofs.Laws.CommitCases.{Accepted, tables_of, commit_case}

-- what an accepted call found, what it answers, and the tables and the session that it leaves
pub data WorkEffect (t : Tables) (s : Session) : Work → Answer → Tables → Session → Type 0 where
  opening : (n : TokenNo) (i : ℕ) (k : Token) (j : ℕ) (v : Volume) → busy s ≡ false → token_of n t ≡ hit i k
      → not (in_window t.clock k.scope) ≡ false → not (can_write k.scope.mode) ≡ false → volume_of k.volume t ≡ hit j v
      → not (is_active v.status) ≡ false → WorkEffect t s (opens n) (success 0) t (opened k.no v.no v.version)
  restaging : (path : List ℕ) (size : ℕ) (x : Hash) (i : ℕ) (k : Token) (j : ℕ) (old : Put) → not (is_path path && leb size size_limit) ≡ false
      → not (busy s) ≡ false → token_of s.token t ≡ hit i k → not (covers (text_bytes k.scope.prefix) path) ≡ false
      → find (is_put path) (staged s) ≡ hit j old
      → WorkEffect t s (stages path size x) (success 0) t (restaged s j (new_put path size x))
  staging : (path : List ℕ) (size : ℕ) (x : Hash) (i : ℕ) (k : Token) → not (is_path path && leb size size_limit) ≡ false
      → not (busy s) ≡ false → token_of s.token t ≡ hit i k → not (covers (text_bytes k.scope.prefix) path) ≡ false
      → find (is_put path) (staged s) ≡ miss → leb put_rows s.count ≡ false
      → WorkEffect t s (stages path size x) (success 0) t (staged_next s (new_put path size x))
  committing : (a : Accepted t s) → WorkEffect t s commits (success (a.volume.version + 1)) (tables_of t s a) fresh_session
  abandoning : not (busy s) ≡ false → WorkEffect t s abandons (success 0) t fresh_session

-- what any call does
pub data WorkDoes (t : Tables) (s : Session) (w : Work) : SlotOutcome → Type 0 where
  refuses : (n : ℕ) → eqb n 0 ≡ false → WorkDoes t s w (slot_refused t s n)
  takes : (x : Answer) (u : Tables) (r : Session) → is_accepted x ≡ true → WorkEffect t s w x u r
      → WorkDoes t s w (record { answer = x; tables = u; session = r })

-- a check: what stands after it is asked only where it passes
check : (t : Tables) (s : Session) (w : Work) (b : Bool) (n : ℕ) (o : SlotOutcome) → eqb n 0 ≡ false → (b ≡ false → WorkDoes t s w o)
    → WorkDoes t s w (cond b (slot_refused t s n) o)
check t s w true n o e f = refuses n e
check t s w false n o e f = f refl

module _ (t : Tables) (s : Session) where
  opening_volume : (n : TokenNo) (i : ℕ) (k : Token) (h : Hit Volume) → busy s ≡ false → token_of n t ≡ hit i k
      → not (in_window t.clock k.scope) ≡ false → not (can_write k.scope.mode) ≡ false → volume_of k.volume t ≡ h
      → WorkDoes t s (opens n) (open_volume t s k.no h)
  unfolding open_volume
  opening_volume n i k miss p e q r f = refuses STATE refl
  opening_volume n i k (hit j v) p e q r f = search (check, takes, opening)

  opening_token : (n : TokenNo) (h : Hit Token) → busy s ≡ false → token_of n t ≡ h → WorkDoes t s (opens n) (open_token t s h)
  unfolding open_token
  opening_token n miss p e = refuses NO_TOKEN refl
  opening_token n (hit i k) p e = search (check, opening_volume)

  staging_put : (path : List ℕ) (size : ℕ) (x : Hash) (i : ℕ) (k : Token) (h : Hit Put) → not (is_path path && leb size size_limit) ≡ false
      → not (busy s) ≡ false → token_of s.token t ≡ hit i k → not (covers (text_bytes k.scope.prefix) path) ≡ false
      → find (is_put path) (staged s) ≡ h → WorkDoes t s (stages path size x) (stage_put t s (new_put path size x) h)
  unfolding stage_put
  staging_put path size x i k (hit j old) p q e r f = takes _ _ _ refl (restaging path size x i k j old p q e r f)
  staging_put path size x i k miss p q e r f =
      check t s (stages path size x) (leb put_rows s.count) ROOM _ refl (λ z. takes _ _ _ refl (staging path size x i k p q e r f z))

  staging_token : (path : List ℕ) (size : ℕ) (x : Hash) (h : Hit Token) → not (is_path path && leb size size_limit) ≡ false
      → not (busy s) ≡ false → token_of s.token t ≡ h → WorkDoes t s (stages path size x) (stage_token t s path size x h)
  unfolding stage_token
  staging_token path size x miss p q e = refuses NO_TOKEN refl
  staging_token path size x (hit i k) p q e = search (check, staging_put)

  pub work_cases : (w : Work) → WorkDoes t s w (work_rule w t s)
  unfolding work_rule open_rule stage_rule abandon_rule
  work_cases (opens n) = search (check, opening_token)
  work_cases (stages path size x) = search (check, staging_token)
  work_cases commits = commit_case (WorkDoes t s commits) t s refuses (λ a. takes _ _ _ refl (committing a))
  work_cases abandons = search (check, takes, abandoning)

-- only a commit changes the tables: what holds of them before a call and after an accepted commit holds after any call
pub work_tables : (P : Tables → Type 0) (w : Work) (t : Tables) (s : Session) → P t → ((a : Accepted t s) → P (tables_of t s a)) → P (work_rule w t s).tables
work_tables P w t s p f = go (work_cases t s w)
  where
    effect : {w₁ : Work} {x : Answer} {u : Tables} {r : Session} → WorkEffect t s w₁ x u r → P u
    effect (opening n i k j v b e q r g z) = p
    effect (restaging path size x i k j old b q e r g) = p
    effect (staging path size x i k b q e r g z) = p
    effect (committing a) = f a
    effect (abandoning b) = p

    go : {o : SlotOutcome} → WorkDoes t s w o → P o.tables
    go (refuses n e) = p
    go (takes x u r y e) = effect e
