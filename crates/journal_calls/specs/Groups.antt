-- The kinds of calls by the part of the desk that they change, the call that a record of each stands for, and what stands at a place of a
-- journal. Assumes nothing.
use Rattle.std.specs.Prelude.{◌≡◌, Bool, true, false, cond, List, ℕ, ◌+◌, ◌-◌, leb, take, drop, Option, Some, None, Result, Ok, Err}
use Rattle.rules.specs.declared.Account.{Account}
use Rattle.rules.specs.Limits.{slot_rows}
use Rattle.rules.specs.Scope.{ScopeArg}
use Rattle.rules.specs.Calls.{Ask, advance, create, deposit, delete, undelete, grant, attenuate, revoke, remove, look, register, heartbeat, Work, opens, stages, commits, abandons, Call, ask, on_slot}
use Rattle.journal.specs.declared.Kind.{Kind}
use Rattle.journal.specs.declared.Kind.TheVariants as kind
use Rattle.journal.specs.declared.Record.{Record}
use Rattle.journal.specs.declared.Version.{Version}
use Rattle.journal.specs.Records.{v01}
use Rattle.journal.specs.declared.errors.JournalError.{JournalError}
use Rattle.journal.specs.Journal.{next_in}
use Rattle.journal.specs.Places.{blank, account_at, text_at, hash_at, call_at}
use Rattle.journal_calls.specs.declared.RelayCall.{RelayCall}
use Rattle.journal_calls.specs.declared.RelayCall.TheVariants as relay
use Rattle.journal_calls.specs.declared.VolumeCall.{VolumeCall}
use Rattle.journal_calls.specs.declared.VolumeCall.TheVariants as volume
use Rattle.journal_calls.specs.declared.TokenCall.{TokenCall}
use Rattle.journal_calls.specs.declared.TokenCall.TheVariants as token
use Rattle.journal_calls.specs.declared.SlotCall.{SlotCall}
use Rattle.journal_calls.specs.declared.SlotCall.TheVariants as slot
use Rattle.journal_calls.specs.declared.Group.{Group}
use Rattle.journal_calls.specs.declared.Group.TheVariants as group
use Rattle.journal_calls.specs.declared.Item.{Item}

-- the group of a call on a slot: there are slots 0 to 3
abbrev pub on_slot_there : ℕ → Group → Group
on_slot_there j g = cond (leb slot_rows j) group.NoSlot g

-- the group of a record of the kind, with its slot
abbrev pub group_of : Kind → ℕ → Group
group_of kind.Advance j = group.Advance
group_of kind.Create j = group.Volumes volume.Create
group_of kind.Deposit j = group.Volumes volume.Deposit
group_of kind.Delete j = group.Delete
group_of kind.Undelete j = group.Volumes volume.Undelete
group_of kind.Grant j = group.Tokens token.Grant
group_of kind.Attenuate j = group.Tokens token.Attenuate
group_of kind.Revoke j = group.Tokens token.Revoke
group_of kind.Open j = on_slot_there j (group.Slot slot.Open)
group_of kind.Stage j = on_slot_there j (group.Slot slot.Stage)
group_of kind.Commit j = on_slot_there j group.Commit
group_of kind.Abandon j = on_slot_there j (group.Slot slot.Abandon)
group_of kind.Remove j = group.Remove
group_of kind.Look j = group.Look
group_of kind.Register j = group.Relays relay.Register
group_of kind.Heartbeat j = group.Relays relay.Heartbeat

-- the account and the scope of a record, out of the bytes that it was read from
abbrev pub account_in : Record → List ℕ → Account
account_in r l = record { 0 = account_at r l }

abbrev pub scope_in : Record → List ℕ → ScopeArg
scope_in r l = record { prefix = text_at r l; mode = r.mode; cap = r.cap; «from» = r.«from»; until = r.until }

-- the calls on the tables
abbrev pub relay_ask : RelayCall → Record → Ask
relay_ask relay.Register r = register r.amount
relay_ask relay.Heartbeat r = heartbeat (record { 0 = r.no })

abbrev pub volume_ask : VolumeCall → Record → List ℕ → Ask
volume_ask volume.Create r l = create (account_in r l) (text_at r l) r.k r.m r.cap
volume_ask volume.Deposit r l = deposit (record { 0 = r.no }) r.amount
volume_ask volume.Undelete r l = undelete (account_in r l) (record { 0 = r.no })

abbrev pub token_ask : TokenCall → Record → List ℕ → Ask
token_ask token.Grant r l = grant (account_in r l) (record { 0 = r.no }) (scope_in r l)
token_ask token.Attenuate r l = attenuate (record { 0 = r.no }) (scope_in r l)
token_ask token.Revoke r l = revoke (account_in r l) (record { 0 = r.no })

abbrev pub look_ask : Record → List ℕ → Ask
look_ask r l = look (record { 0 = r.no }) (text_at r l)

abbrev pub delete_ask : Record → List ℕ → Ask
delete_ask r l = delete (account_in r l) (record { 0 = r.no })

abbrev pub remove_ask : Record → List ℕ → Ask
remove_ask r l = remove (account_in r l) (record { 0 = r.no }) (text_at r l)

-- the calls on a slot, but for commit
abbrev pub slot_work : SlotCall → Record → List ℕ → Work
slot_work slot.Open r l = opens (record { 0 = r.no })
slot_work slot.Stage r l = stages (text_at r l) r.amount (record { 0 = hash_at r l })
slot_work slot.Abandon r l = abandons

-- the call of a record of the group, whatever version it was read in (`call_alike` in the journal's laws); at the end and at a fault it stands for nothing,
-- and is not made
abbrev pub call_in : Group → Record → List ℕ → Call
call_in group.End r l = call_at v01 r l
call_in (group.Stop e) r l = call_at v01 r l
call_in (group.Relays w) r l = ask (relay_ask w r)
call_in (group.Volumes w) r l = ask (volume_ask w r l)
call_in (group.Tokens w) r l = ask (token_ask w r l)
call_in (group.Slot w) r l = on_slot r.slot (slot_work w r l)
call_in group.NoSlot r l = call_at v01 r l
call_in group.Look r l = ask (look_ask r l)
call_in group.Advance r l = ask (advance r.amount)
call_in group.Delete r l = ask (delete_ask r l)
call_in group.Commit r l = on_slot r.slot commits
call_in group.Remove r l = ask (remove_ask r l)

-- a record stands there
abbrev pub is_record : Group → Bool
is_record group.End = false
is_record (group.Stop e) = false
is_record (group.Relays w) = true
is_record (group.Volumes w) = true
is_record (group.Tokens w) = true
is_record (group.Slot w) = true
is_record group.NoSlot = true
is_record group.Look = true
is_record group.Advance = true
is_record group.Delete = true
is_record group.Commit = true
is_record group.Remove = true

-- ---- what stands at a place

-- by what stands next there
abbrev pub item_of : ℕ → Result (Option (Record × ℕ)) JournalError → Item
item_of p (Ok None) = record { group = group.End; fields = blank kind.Advance; after = p }
item_of p (Err e) = record { group = group.Stop e; fields = blank kind.Advance; after = p }
item_of p (Ok (Some (r, n))) = record { group = group_of r.kind r.slot; fields = r; after = p + n }

-- x is what stands at the place p of the records l, which are of the version v
pub record StandsAt (v : Version) (l : List ℕ) (p : ℕ) (x : Item) : Type 0 where
  pub same : x ≡ item_of p (next_in v (drop p l))

-- b has the bytes of the record there, which ends before `after`: those after its length
pub record BodyAt (l : List ℕ) (p after : ℕ) (b : List ℕ) : Type 0 where
  pub same : b ≡ take (after - (p + 2)) (drop (p + 2) l)
