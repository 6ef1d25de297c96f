-- What a call on the tables answers and leaves: a refusal that leaves all as it was, or the effect that follows every check, with what the checks
-- found. Laws of the calls go by these cases, so that each walks the effects and none the checks. Assumes nothing.
use Rattle.std.specs.Prelude.{◌≡◌, Bool, true, ◌&&◌, cond, not, List, ℕ, ◌+◌, eqb, ltb}
use Rattle.std.proofs.Math.Path.{refl}
use Rattle.std.proofs.Math.Bool.{false}
use Rattle.std.proofs.lemmas.Bool.{false≢true}
use Rattle.std.proofs.Math.Dec.{leb}
use Rattle.amount.specs.declared.Cap.{Cap}
use Rattle.lists.specs.Lists.{Hit, miss, hit, find, any_of}
use Rattle.lists.specs.BoolLaws.{not_both}
use Rattle.text.specs.Text.{is_name, is_path, covers, text_bytes}
use Rattle.rules.specs.declared.VolumeNo.{VolumeNo}
use Rattle.rules.specs.declared.TokenNo.{TokenNo}
use Rattle.rules.specs.declared.RelayNo.{RelayNo}
use Rattle.rules.specs.declared.Account.{Account}
use Rattle.rules.specs.declared.Volume.{Volume}
use Rattle.rules.specs.declared.Entry.{Entry}
use Rattle.rules.specs.declared.Token.{Token}
use Rattle.rules.specs.declared.Relay.{Relay}
use Rattle.rules.specs.declared.Answer.{Answer}
use Rattle.rules.specs.declared.Tables.{Tables}
use Rattle.rules.specs.declared.Desk.{Desk}
use Rattle.rules.specs.declared.TablesOutcome.{TablesOutcome}
use Rattle.rules.specs.Limits.{capacity_limit, last_number, last_version, deepest}
use Rattle.rules.specs.Numbers.{BAD, ROOM, SPENT, NO_VOLUME, NO_TOKEN, NOT_OWNER, NO_ENTRY, NO_RELAY}
use Rattle.rules.specs.Fresh.{no_token}
use Rattle.rules.specs.Tables.{free_volume, free_token, free_relay, owned_by, volume_of, token_of, relay_of, entry_of}
use Rattle.rules.specs.Scope.{ScopeArg, scope_fits, to_scope, cap_fits, narrows, depth, in_window, can_read}
use Rattle.rules.specs.Relays.{health}
use Rattle.rules.specs.Sound.{shards_fit, sound}
use Rattle.rules.specs.Outcome.{success, success_with, is_accepted, refused, desk_refused, on_tables}
use Rattle.rules.specs.VolumeCalls.{is_open, is_deleted, has_name, next_volume, created, create_in, create_rule, too_much, deposited, deposit_in, deposit_rule, deleted, delete_in, delete_rule, undeleted, undelete_in, undelete_rule, removed, remove_entry, remove_in, remove_rule}
use Rattle.rules.specs.TokenCalls.{granted, token_in, next_token, revoked, new_token, grant_in, grant_rule, attenuate_in, attenuate_rule, revoke_owner, revoke_in, revoke_rule, look_entry, look_in, look_rule}
use Rattle.rules.specs.RelayCalls.{next_relay, registered, register_in, heartbeat_at, register_rule, heartbeat_in, heartbeat_rule}
use Rattle.rules.specs.Advance.{advanced, bad_block, advance_rule}
use Rattle.rules.specs.Calls.{Ask, advance, create, deposit, delete, undelete, grant, attenuate, revoke, remove, look, register, heartbeat, ask_rule, ask, rule, step}

-- what an accepted call found, what it answers and the tables that it leaves
pub data Effect (t : Tables) : Ask → Answer → Tables → Type 0 where
  advances : (block : ℕ) → bad_block t.clock block ≡ false → Effect t (advance block) (success block) (advanced t block)
  creates : (a : Account) (name : List ℕ) (k m : ℕ) (cap : Cap) (i : ℕ) (old : Volume) → not (is_name name && shards_fit k m && cap_fits cap) ≡ false
      → any_of (has_name a name) t.volumes ≡ false → leb last_number t.last_volume ≡ false → find free_volume t.volumes ≡ hit i old
      → Effect t (create a name k m cap) (success (next_volume t a name k m cap).no.0) (created t i (next_volume t a name k m cap))
  deposits : (n : VolumeNo) (coins i : ℕ) (v : Volume) → volume_of n t ≡ hit i v → not (is_open v.status) ≡ false → too_much t v coins ≡ false
      → Effect t (deposit n coins) (success 0) (deposited t coins i v)
  deletes : (a : Account) (n : VolumeNo) (i : ℕ) (v : Volume) → volume_of n t ≡ hit i v → not (owned_by a v) ≡ false → not (is_open v.status) ≡ false
      → Effect t (delete a n) (success 0) (deleted t i v)
  undeletes : (a : Account) (n : VolumeNo) (i : ℕ) (v : Volume) → volume_of n t ≡ hit i v → not (owned_by a v) ≡ false
      → not (is_deleted v.status) ≡ false → Effect t (undelete a n) (success 0) (undeleted t i v)
  grants : (a : Account) (n : VolumeNo) (s : ScopeArg) (i : ℕ) (v : Volume) (j : ℕ) (old : Token) → not (scope_fits s) ≡ false
      → volume_of n t ≡ hit i v → not (owned_by a v) ≡ false → not (is_open v.status) ≡ false → leb last_number t.last_token ≡ false
      → find free_token t.tokens ≡ hit j old
      → Effect t (grant a n s) (success (next_token t v.no no_token (to_scope s)).no.0) (granted t j (next_token t v.no no_token (to_scope s)))
  attenuates : (n : TokenNo) (s : ScopeArg) (i : ℕ) (k : Token) (j : ℕ) (old : Token) → not (scope_fits s) ≡ false → token_of n t ≡ hit i k
      → not (narrows s k.scope) ≡ false → leb deepest (depth t.tokens k) ≡ false → leb last_number t.last_token ≡ false
      → find free_token t.tokens ≡ hit j old
      → Effect t (attenuate n s) (success (next_token t k.volume k.no (to_scope s)).no.0) (granted t j (next_token t k.volume k.no (to_scope s)))
  revokes : (a : Account) (n : TokenNo) (i : ℕ) (k : Token) (j : ℕ) (v : Volume) → token_of n t ≡ hit i k → volume_of k.volume t ≡ hit j v
      → not (owned_by a v) ≡ false → Effect t (revoke a n) (success 0) (revoked t k)
  removes : (a : Account) (n : VolumeNo) (path : List ℕ) (i : ℕ) (v : Volume) (j : ℕ) (e : Entry) → not (is_path path) ≡ false
      → volume_of n t ≡ hit i v → not (owned_by a v) ≡ false → not (is_open v.status) ≡ false → entry_of v.no path t ≡ hit j e
      → leb last_version v.version ≡ false → Effect t (remove a n path) (success (v.version + 1)) (removed t path i v)
  looks : (n : TokenNo) (path : List ℕ) (i : ℕ) (k : Token) (j : ℕ) (e : Entry) → not (is_path path) ≡ false → token_of n t ≡ hit i k
      → not (in_window t.clock k.scope) ≡ false → not (can_read k.scope.mode) ≡ false → not (covers (text_bytes k.scope.prefix) path) ≡ false
      → entry_of k.volume path t ≡ hit j e → Effect t (look n path) (success_with e.size e.hash) t
  registers : (capacity i : ℕ) (old : Relay) → ltb capacity_limit capacity ≡ false → leb last_number t.last_relay ≡ false
      → find free_relay t.relays ≡ hit i old
      → Effect t (register capacity) (success (next_relay t capacity).no.0) (registered t i (next_relay t capacity))
  beats : (n : RelayNo) (i : ℕ) (r : Relay) → relay_of n t ≡ hit i r → eqb (health t.clock r) 0 ≡ false
      → Effect t (heartbeat n) (success 0) (heartbeat_at t i r)

-- what any call does
pub data Does (t : Tables) (a : Ask) : TablesOutcome → Type 0 where
  refuses : (n : ℕ) → eqb n 0 ≡ false → Does t a (refused t n)
  takes : (x : Answer) (u : Tables) → is_accepted x ≡ true → Effect t a x u → Does t a (record { answer = x; tables = u })

-- a check: what stands after it is asked only where it passes
check : (t : Tables) (a : Ask) (b : Bool) (n : ℕ) (o : TablesOutcome) → eqb n 0 ≡ false → (b ≡ false → Does t a o) → Does t a (cond b (refused t n) o)
check t a true n o e f = refuses n e
check t a false n o e f = f refl

module _ (t : Tables) where
  creates_in : (a : Account) (name : List ℕ) (k m : ℕ) (cap : Cap) → not (is_name name && shards_fit k m && cap_fits cap) ≡ false
      → any_of (has_name a name) t.volumes ≡ false → leb last_number t.last_volume ≡ false → (h : Hit Volume) → find free_volume t.volumes ≡ h
      → Does t (create a name k m cap) (create_in t (next_volume t a name k m cap) h)
  unfolding create_in
  creates_in a name k m cap p q r miss e = refuses ROOM refl
  creates_in a name k m cap p q r (hit i old) e = takes _ _ refl (creates a name k m cap i old p q r e)

  deposits_in : (n : VolumeNo) (coins : ℕ) (h : Hit Volume) → volume_of n t ≡ h → Does t (deposit n coins) (deposit_in t coins h)
  unfolding deposit_in
  deposits_in n coins miss e = refuses NO_VOLUME refl
  deposits_in n coins (hit i v) e = search (check, takes, deposits)

  deletes_in : (a : Account) (n : VolumeNo) (h : Hit Volume) → volume_of n t ≡ h → Does t (delete a n) (delete_in t a h)
  unfolding delete_in
  deletes_in a n miss e = refuses NO_VOLUME refl
  deletes_in a n (hit i v) e = search (check, takes, deletes)

  undeletes_in : (a : Account) (n : VolumeNo) (h : Hit Volume) → volume_of n t ≡ h → Does t (undelete a n) (undelete_in t a h)
  unfolding undelete_in
  undeletes_in a n miss e = refuses NO_VOLUME refl
  undeletes_in a n (hit i v) e = search (check, takes, undeletes)

  -- a new token, under any call
  tokens_in_lem : (a : Ask) (v : VolumeNo) (parent : TokenNo) (s : ScopeArg)
      → ((j : ℕ) (old : Token) → leb last_number t.last_token ≡ false → find free_token t.tokens ≡ hit j old
      → Effect t a (success (next_token t v parent (to_scope s)).no.0) (granted t j (next_token t v parent (to_scope s))))
      → Does t a (new_token t v parent (to_scope s))
  unfolding new_token token_in
  tokens_in_lem a v parent s f =
      check t a (leb last_number t.last_token) SPENT _ refl (λ p. in_row (find free_token t.tokens) refl p)
    where
      in_row : (h : Hit Token) → find free_token t.tokens ≡ h → leb last_number t.last_token ≡ false
          → Does t a (token_in t (next_token t v parent (to_scope s)) h)
      in_row miss e p = refuses ROOM refl
      in_row (hit j old) e p = takes _ _ refl (f j old p e)

  grants_in : (a : Account) (n : VolumeNo) (s : ScopeArg) (h : Hit Volume) → not (scope_fits s) ≡ false → volume_of n t ≡ h
      → Does t (grant a n s) (grant_in t a s h)
  unfolding grant_in
  grants_in a n s miss p e = refuses NO_VOLUME refl
  grants_in a n s (hit i v) p e = search (check, tokens_in_lem, grants)

  attenuates_in : (n : TokenNo) (s : ScopeArg) (h : Hit Token) → not (scope_fits s) ≡ false → token_of n t ≡ h → Does t (attenuate n s) (attenuate_in t s h)
  unfolding attenuate_in
  attenuates_in n s miss p e = refuses NO_TOKEN refl
  attenuates_in n s (hit i k) p e = search (check, tokens_in_lem, attenuates)

  revokes_owner : (a : Account) (n : TokenNo) (i : ℕ) (k : Token) (h : Hit Volume) → token_of n t ≡ hit i k → volume_of k.volume t ≡ h
      → Does t (revoke a n) (revoke_owner t a k h)
  unfolding revoke_owner
  revokes_owner a n i k miss e f = refuses NOT_OWNER refl
  revokes_owner a n i k (hit j v) e f = search (check, takes, revokes)

  revokes_in : (a : Account) (n : TokenNo) (h : Hit Token) → token_of n t ≡ h → Does t (revoke a n) (revoke_in t a h)
  unfolding revoke_in
  revokes_in a n miss e = refuses NO_TOKEN refl
  revokes_in a n (hit i k) e = revokes_owner a n i k (volume_of k.volume t) e refl

  removes_entry : (a : Account) (n : VolumeNo) (path : List ℕ) (i : ℕ) (v : Volume) (h : Hit Entry) → not (is_path path) ≡ false
      → volume_of n t ≡ hit i v → not (owned_by a v) ≡ false → not (is_open v.status) ≡ false → entry_of v.no path t ≡ h
      → Does t (remove a n path) (remove_entry t path i v h)
  unfolding remove_entry
  removes_entry a n path i v miss p e q r f = refuses NO_ENTRY refl
  removes_entry a n path i v (hit j x) p e q r f = search (check, takes, removes)

  removes_in : (a : Account) (n : VolumeNo) (path : List ℕ) (h : Hit Volume) → not (is_path path) ≡ false → volume_of n t ≡ h
      → Does t (remove a n path) (remove_in t a path h)
  unfolding remove_in
  removes_in a n path miss p e = refuses NO_VOLUME refl
  removes_in a n path (hit i v) p e = search (check, removes_entry)

  looks_entry : (n : TokenNo) (path : List ℕ) (i : ℕ) (k : Token) (h : Hit Entry) → not (is_path path) ≡ false → token_of n t ≡ hit i k
      → not (in_window t.clock k.scope) ≡ false → not (can_read k.scope.mode) ≡ false → not (covers (text_bytes k.scope.prefix) path) ≡ false
      → entry_of k.volume path t ≡ h → Does t (look n path) (look_entry t h)
  unfolding look_entry
  looks_entry n path i k miss p e q r u f = refuses NO_ENTRY refl
  looks_entry n path i k (hit j x) p e q r u f = takes _ _ refl (looks n path i k j x p e q r u f)

  looks_in : (n : TokenNo) (path : List ℕ) (h : Hit Token) → not (is_path path) ≡ false → token_of n t ≡ h → Does t (look n path) (look_in t path h)
  unfolding look_in
  looks_in n path miss p e = refuses NO_TOKEN refl
  looks_in n path (hit i k) p e = search (check, looks_entry)

  registers_in : (capacity : ℕ) (h : Hit Relay) → ltb capacity_limit capacity ≡ false → leb last_number t.last_relay ≡ false
      → find free_relay t.relays ≡ h → Does t (register capacity) (register_in t (next_relay t capacity) h)
  unfolding register_in
  registers_in capacity miss p q e = refuses ROOM refl
  registers_in capacity (hit i old) p q e = takes _ _ refl (registers capacity i old p q e)

  beats_in : (n : RelayNo) (h : Hit Relay) → relay_of n t ≡ h → Does t (heartbeat n) (heartbeat_in t h)
  unfolding heartbeat_in
  beats_in n miss e = refuses NO_RELAY refl
  beats_in n (hit i r) e = search (check, takes, beats)

  pub ask_cases : (a : Ask) → Does t a (ask_rule a t)
  unfolding ask_rule advance_rule create_rule deposit_rule delete_rule undelete_rule grant_rule attenuate_rule revoke_rule remove_rule look_rule register_rule heartbeat_rule
  ask_cases (advance block) = search (check, takes, advances)
  ask_cases (create a name k m cap) = search (check, creates_in)
  ask_cases (deposit n coins) = deposits_in n coins (volume_of n t) refl
  ask_cases (delete a n) = deletes_in a n (volume_of n t) refl
  ask_cases (undelete a n) = undeletes_in a n (volume_of n t) refl
  ask_cases (grant a n s) = search (check, grants_in)
  ask_cases (attenuate n s) = search (check, attenuates_in)
  ask_cases (revoke a n) = revokes_in a n (token_of n t) refl
  ask_cases (remove a n path) = search (check, removes_in)
  ask_cases (look n path) = search (check, looks_in)
  ask_cases (register capacity) = search (check, registers_in)
  ask_cases (heartbeat n) = beats_in n (relay_of n t) refl

-- what holds of the tables before a call and of those that an accepted one leaves holds after any
pub ask_tables : (P : Tables → Type 0) (a : Ask) (t : Tables) → P t → ((x : Answer) (u : Tables) → Effect t a x u → P u) → P (ask_rule a t).tables
ask_tables P a t p f = go (ask_cases t a)
  where
    go : {o : TablesOutcome} → Does t a o → P o.tables
    go (refuses n e) = p
    go (takes x u y e) = f x u e

-- of an accepted call on a desk: the desk passed its test, and the effect is one of those
does_effect : (t : Tables) {a : Ask} {o : TablesOutcome} → Does t a o → is_accepted o.answer ≡ true → Effect t a o.answer o.tables
does_effect t (refuses n e) y = absurd (not_both y e)
does_effect t (takes x u y e) z = e

pub step_effect : (a : Ask) (d : Desk) → is_accepted (step (ask a) d).answer ≡ true
    → (sound d ≡ true) × Effect d.tables a (step (ask a) d).answer (step (ask a) d).desk.tables
unfolding step rule
step_effect a d = go (sound d) refl
  where
    go : (b : Bool) → sound d ≡ b → let o = cond b (on_tables d (ask_rule a d.tables)) (desk_refused d BAD) in
        is_accepted o.answer ≡ true → (sound d ≡ true) × Effect d.tables a o.answer o.desk.tables
    go true e y = (e, does_effect d.tables (ask_cases d.tables a) y)
    go false e y = absurd (false≢true y)
