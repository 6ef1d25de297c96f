-- Document 01: "Volume, token and relay numbers are three kinds that can't be mixed. Each kind counts from 1, is never given twice, and ends at
-- 65,535". Which calls give a number of each kind, and the last one that was given. Assumes nothing.
use Rattle.std.specs.Prelude.{◌≡◌, Bool, true, cond, List, [], ◌∷◌, ℕ, ◌+◌}
use Rattle.std.proofs.Math.Option.{Option, none, some}
use Rattle.lists.specs.Lists.{any_of}
use Rattle.rules.specs.declared.Tables.{Tables}
use Rattle.rules.specs.declared.Desk.{Desk}
use Rattle.rules.specs.Tables.{is_volume, is_token, is_relay}
use Rattle.rules.specs.Outcome.{is_accepted}
use Rattle.rules.specs.Calls.{Ask, advance, create, deposit, delete, undelete, grant, attenuate, revoke, remove, look, register, heartbeat, Call, ask, on_slot, step}

-- "three kinds"
pub data NumberKind : Type 0 where
  volumes : NumberKind
  tokens : NumberKind
  relays : NumberKind

-- the calls whose value is a number: 02 create, 06 grant, 07 attenuate, 0F register
abbrev pub given_by : Ask → Option NumberKind
given_by (advance block) = none
given_by (create a name k m cap) = some volumes
given_by (deposit n coins) = none
given_by (delete a n) = none
given_by (undelete a n) = none
given_by (grant a n s) = some tokens
given_by (attenuate n s) = some tokens
given_by (revoke a n) = none
given_by (remove a n path) = none
given_by (look n path) = none
given_by (register capacity) = some relays
given_by (heartbeat n) = none

-- "the last numbers given"
abbrev pub last_of : NumberKind → Tables → ℕ
last_of volumes t = t.last_volume
last_of tokens t = t.last_token
last_of relays t = t.last_relay

-- the number is in its table
abbrev pub in_table : NumberKind → ℕ → Tables → Bool
in_table volumes n t = any_of (is_volume (record { 0 = n })) t.volumes
in_table tokens n t = any_of (is_token (record { 0 = n })) t.tokens
in_table relays n t = any_of (is_relay (record { 0 = n })) t.relays

-- a call on the tables t answers n and leaves u: n is the number after the last, then it is the last, and it is in its table
pub record NextNumber (k : NumberKind) (t : Tables) (n : ℕ) (u : Tables) : Type 0 where
  pub next : n ≡ last_of k t + 1
  pub last : last_of k u ≡ n
  pub there : in_table k n u ≡ true

-- how many numbers of a kind a call gives, where it is accepted: 1 or 0
abbrev pub same_kind : NumberKind → NumberKind → ℕ
same_kind volumes volumes = 1
same_kind volumes tokens = 0
same_kind volumes relays = 0
same_kind tokens volumes = 0
same_kind tokens tokens = 1
same_kind tokens relays = 0
same_kind relays volumes = 0
same_kind relays tokens = 0
same_kind relays relays = 1

abbrev pub of_kind : NumberKind → Option NumberKind → ℕ
of_kind k none = 0
of_kind k (some j) = same_kind k j

abbrev pub call_gives : NumberKind → Call → ℕ
call_gives k (ask a) = of_kind k (given_by a)
call_gives k (on_slot slot w) = 0

-- over the accepted calls of a list
unfoldable pub list_gives : NumberKind → List Call → Desk → ℕ
list_gives k [] d = 0
list_gives k (c ∷ cs) d = cond (is_accepted (step c d).answer) (call_gives k c) 0 + list_gives k cs (step c d).desk
