-- What stands at a place of a journal, as the code is told it: what the journal holds from there on, and the group of a record. Assumes nothing.
use Rattle.std.specs.Prelude.{◌≡◌, Bool, cond, List, ℕ, ◌+◌, ◌<◌, ◌≤◌, length, drop, Option, Some, None, Result, Ok, Err}
use Rattle.std.proofs.Math.Path.{refl}
use Rattle.std.proofs.Common.{sym, ◌∙◌, ap, arith, leb-false, length-drop}
use Rattle.std.proofs.Math.Bool.{true, false}
use Rattle.std.proofs.lemmas.Bool.{false≢true}
use Rattle.std.proofs.Math.Dec.{leb}
use Rattle.std.proofs.Math.Pow.{are_bytes}
use Rattle.rules.specs.declared.Desk.{Desk}
use Rattle.rules.specs.Limits.{slot_rows}
use Rattle.rules.specs.Numbers.{BAD}
use Rattle.rules.specs.Outcome.{desk_refused}
use Rattle.rules.specs.Calls.{Work, commits, abandons, on_slot, rule}
use Rattle.journal.specs.declared.Kind.{Kind}
use Rattle.journal.specs.declared.Kind.TheVariants as kind
use Rattle.journal.specs.declared.Record.{Record}
use Rattle.journal.specs.declared.errors.JournalError.{JournalError}
use Rattle.journal.specs.declared.Version.{Version}
use Rattle.journal.specs.Records.{v01}
use Rattle.journal.specs.Places.{call_at}
use Rattle.journal.proofs.PlaceLaws.{call_alike}
use Rattle.journal.specs.Journal.{error_number, stopped, ended, after, records, next_in}
use Rattle.journal_calls.specs.declared.SlotCall.TheVariants as slot
use Rattle.journal_calls.specs.declared.Group.{Group}
use Rattle.journal_calls.specs.declared.Group.TheVariants as group
use Rattle.journal_calls.specs.declared.Item.{Item}
use Rattle.journal_calls.specs.NextLaws.{body_at, left_at_end, left_at_stop, left_at_record, record_sized}
use Rattle.journal_calls.specs.Groups.{on_slot_there, group_of, slot_work, call_in, is_record, item_of}

-- ---- the group of a record

-- a call on a slot, by whether there is such a slot
by_slot : (g : Group) (r : Record) (l : List ℕ) → call_at v01 r l ≡ call_in g r l → (none : Bool) → call_at v01 r l ≡ call_in (cond none group.NoSlot g) r l
by_slot g r l e true = refl
by_slot g r l e false = e

-- the call of a record's group is the call that the record stands for
by_kind : (r : Record) (l : List ℕ) (k : Kind) → r.kind ≡ k → call_at v01 r l ≡ call_in (group_of k r.slot) r l
by_kind r l kind.Advance e = rw e
by_kind r l kind.Create e = rw e
by_kind r l kind.Deposit e = rw e
by_kind r l kind.Delete e = rw e
by_kind r l kind.Undelete e = rw e
by_kind r l kind.Grant e = rw e
by_kind r l kind.Attenuate e = rw e
by_kind r l kind.Revoke e = rw e
by_kind r l kind.Open e = by_slot _ r l (rw e) (leb slot_rows r.slot)
by_kind r l kind.Stage e = by_slot _ r l (rw e) (leb slot_rows r.slot)
by_kind r l kind.Commit e = by_slot _ r l (rw e) (leb slot_rows r.slot)
by_kind r l kind.Abandon e = by_slot _ r l (rw e) (leb slot_rows r.slot)
by_kind r l kind.Remove e = rw e
by_kind r l kind.Look e = rw e
by_kind r l kind.Register e = rw e
by_kind r l kind.Heartbeat e = rw e

pub call_in_group : (r : Record) (l : List ℕ) → call_at v01 r l ≡ call_in (group_of r.kind r.slot) r l
call_in_group r l = by_kind r l r.kind refl

-- the groups of calls on a slot that is there, and the one of those where there is none
abbrev pub has_slot : Group → Bool
has_slot group.End = false
has_slot (group.Stop fault) = false
has_slot (group.Relays w) = false
has_slot (group.Volumes w) = false
has_slot (group.Tokens w) = false
has_slot (group.Slot w) = true
has_slot group.NoSlot = false
has_slot group.Look = false
has_slot group.Advance = false
has_slot group.Delete = false
has_slot group.Commit = true
has_slot group.Remove = false

abbrev pub lacks_slot : Group → Bool
lacks_slot group.End = false
lacks_slot (group.Stop fault) = false
lacks_slot (group.Relays w) = false
lacks_slot (group.Volumes w) = false
lacks_slot (group.Tokens w) = false
lacks_slot (group.Slot w) = false
lacks_slot group.NoSlot = true
lacks_slot group.Look = false
lacks_slot group.Advance = false
lacks_slot group.Delete = false
lacks_slot group.Commit = false
lacks_slot group.Remove = false

in_slot : (j : ℕ) (g : Group) → has_slot (on_slot_there j g) ≡ true → j < slot_rows
in_slot j g = by (leb slot_rows j) refl
  where
    by : (none : Bool) → leb slot_rows j ≡ none → has_slot (cond none group.NoSlot g) ≡ true → j < slot_rows
    by true f e = absurd (false≢true e)
    by false f e = leb-false slot_rows j f

pub slot_there : (k : Kind) (j : ℕ) → has_slot (group_of k j) ≡ true → j < slot_rows
slot_there kind.Advance j e = absurd (false≢true e)
slot_there kind.Create j e = absurd (false≢true e)
slot_there kind.Deposit j e = absurd (false≢true e)
slot_there kind.Delete j e = absurd (false≢true e)
slot_there kind.Undelete j e = absurd (false≢true e)
slot_there kind.Grant j e = absurd (false≢true e)
slot_there kind.Attenuate j e = absurd (false≢true e)
slot_there kind.Revoke j e = absurd (false≢true e)
slot_there kind.Open j e = in_slot j _ e
slot_there kind.Stage j e = in_slot j _ e
slot_there kind.Commit j e = in_slot j _ e
slot_there kind.Abandon j e = in_slot j _ e
slot_there kind.Remove j e = absurd (false≢true e)
slot_there kind.Look j e = absurd (false≢true e)
slot_there kind.Register j e = absurd (false≢true e)
slot_there kind.Heartbeat j e = absurd (false≢true e)

-- a call on a slot that is not there is refused
module _ (r : Record) (l : List ℕ) (d : Desk) where
  none_there : (w : Work) (g : Group) → lacks_slot g ≡ false → call_at v01 r l ≡ on_slot r.slot w → lacks_slot (on_slot_there r.slot g) ≡ true
      → rule (call_at v01 r l) d ≡ desk_refused d BAD
  unfolding rule
  none_there w g n e = by (leb slot_rows r.slot) refl
    where
      by : (none : Bool) → leb slot_rows r.slot ≡ none → lacks_slot (cond none group.NoSlot g) ≡ true → rule (call_at v01 r l) d ≡ desk_refused d BAD
      by true f q = rw (e, f)
      by false f q = absurd (false≢true (sym n ∙ q))

  refused_by : (k : Kind) → r.kind ≡ k → lacks_slot (group_of k r.slot) ≡ true → rule (call_at v01 r l) d ≡ desk_refused d BAD
  refused_by kind.Advance e q = absurd (false≢true q)
  refused_by kind.Create e q = absurd (false≢true q)
  refused_by kind.Deposit e q = absurd (false≢true q)
  refused_by kind.Delete e q = absurd (false≢true q)
  refused_by kind.Undelete e q = absurd (false≢true q)
  refused_by kind.Grant e q = absurd (false≢true q)
  refused_by kind.Attenuate e q = absurd (false≢true q)
  refused_by kind.Revoke e q = absurd (false≢true q)
  refused_by kind.Open e q = none_there (slot_work slot.Open r l) (group.Slot slot.Open) refl (rw e) q
  refused_by kind.Stage e q = none_there (slot_work slot.Stage r l) (group.Slot slot.Stage) refl (rw e) q
  refused_by kind.Commit e q = none_there commits group.Commit refl (rw e) q
  refused_by kind.Abandon e q = none_there abandons (group.Slot slot.Abandon) refl (rw e) q
  refused_by kind.Remove e q = absurd (false≢true q)
  refused_by kind.Look e q = absurd (false≢true q)
  refused_by kind.Register e q = absurd (false≢true q)
  refused_by kind.Heartbeat e q = absurd (false≢true q)

  pub no_slot_refused : lacks_slot (group_of r.kind r.slot) ≡ true → rule (call_at v01 r l) d ≡ desk_refused d BAD
  no_slot_refused = refused_by r.kind refl

-- a record's group is neither the end nor a fault
slot_record : (g : Group) → is_record g ≡ true → (none : Bool) → is_record (cond none group.NoSlot g) ≡ true
slot_record g e true = refl
slot_record g e false = e

group_record : (k : Kind) (j : ℕ) → is_record (group_of k j) ≡ true
group_record kind.Advance j = refl
group_record kind.Create j = refl
group_record kind.Deposit j = refl
group_record kind.Delete j = refl
group_record kind.Undelete j = refl
group_record kind.Grant j = refl
group_record kind.Attenuate j = refl
group_record kind.Revoke j = refl
group_record kind.Open j = slot_record _ refl (leb slot_rows j)
group_record kind.Stage j = slot_record _ refl (leb slot_rows j)
group_record kind.Commit j = slot_record _ refl (leb slot_rows j)
group_record kind.Abandon j = slot_record _ refl (leb slot_rows j)
group_record kind.Remove j = refl
group_record kind.Look j = refl
group_record kind.Register j = refl
group_record kind.Heartbeat j = refl

-- ---- what stands at a place: x stands at p of l

-- x is a record: it has 3 bytes or more with its length, they are there, and the journal goes on after it
pub record RecordAt (v : Version) (l : List ℕ) (p : ℕ) (x : Item) : Type 0 where
  pub least : p + 3 ≤ x.after
  pub most : x.after ≤ length l
  pub left : records v (drop p l) ≡ after (call_at v01 x.fields (body_at p x.after l)) (records v (drop x.after l))

-- it ends in the journal, whatever it is
pub record Within (l : List ℕ) (p end : ℕ) : Type 0 where
  pub least : p ≤ end
  pub most : end ≤ length l

module _ (v : Version) (l : List ℕ) (h : are_bytes l ≡ true) (p : ℕ) where
  whole_most : p ≤ length l → (r : Record) (n : ℕ) → next_in v (drop p l) ≡ Ok (Some (r, n)) → p + n ≤ length l
  whole_most k r n f = omega (arith, (record_sized v l h p r n f).there, length-drop p l)

  within_by : p ≤ length l → (next : Result (Option (Record × ℕ)) JournalError) → next_in v (drop p l) ≡ next → Within l p (item_of p next).after
  within_by k (Ok None) f = record { least = omega arith; most = k }
  within_by k (Err fault) f = record { least = omega arith; most = k }
  within_by k (Ok (Some (r, n))) f = record { least = omega arith; most = whole_most k r n f }

  end_by : (next : Result (Option (Record × ℕ)) JournalError) → next_in v (drop p l) ≡ next → (item_of p next).group ≡ group.End → records v (drop p l) ≡ ended
  end_by (Ok None) f g = left_at_end v l h p f
  end_by (Err fault) f g = absurd (let z : ◌≡◌ {A = ℕ} 0 1 = cc in omega arith)
  end_by (Ok (Some (r, k))) f g = absurd (false≢true (rw g at (group_record r.kind r.slot)))

  stop_by : (fault : JournalError) (next : Result (Option (Record × ℕ)) JournalError) → next_in v (drop p l) ≡ next → (item_of p next).group ≡ group.Stop fault → records v (drop p l) ≡ stopped (error_number fault)
  stop_by fault (Ok None) f g = absurd (let z : ◌≡◌ {A = ℕ} 0 1 = cc in omega arith)
  stop_by fault (Err m) f g = let e : m ≡ fault = cc in left_at_stop v l h p fault (f ∙ ap Err e)
  stop_by fault (Ok (Some (r, k))) f g = absurd (false≢true (rw g at (group_record r.kind r.slot)))

  record_by : p ≤ length l → (next : Result (Option (Record × ℕ)) JournalError) → next_in v (drop p l) ≡ next → is_record (item_of p next).group ≡ true → RecordAt v l p (item_of p next)
  record_by k (Ok None) f g = absurd (false≢true g)
  record_by k (Err fault) f g = absurd (false≢true g)
  record_by k (Ok (Some (r, n))) f g =
      record { least = omega (arith, (record_sized v l h p r n f).least); most = whole_most k r n f; left = rw (call_alike v r (body_at p (p + n) l)) at (left_at_record v l h p r n f) }

  module _ (x : Item) (e : x ≡ item_of p (next_in v (drop p l))) where
    pub item_within : p ≤ length l → Within l p x.after
    item_within k = rw e (within_by k (next_in v (drop p l)) refl)

    pub item_end : x.group ≡ group.End → records v (drop p l) ≡ ended
    item_end g = end_by (next_in v (drop p l)) refl (rw e at g)

    pub item_stop : (fault : JournalError) → x.group ≡ group.Stop fault → records v (drop p l) ≡ stopped (error_number fault)
    item_stop fault g = stop_by fault (next_in v (drop p l)) refl (rw e at g)

    pub item_record : p ≤ length l → is_record x.group ≡ true → RecordAt v l p x
    item_record k g = rw e (record_by k (next_in v (drop p l)) refl (rw e at g))

-- the group of a record is that of its fields
named_by : (p : ℕ) (next : Result (Option (Record × ℕ)) JournalError) → is_record (item_of p next).group ≡ true → (item_of p next).group ≡ group_of (item_of p next).fields.kind (item_of p next).fields.slot
named_by p (Ok None) g = absurd (false≢true g)
named_by p (Err fault) g = absurd (false≢true g)
named_by p (Ok (Some (r, n))) g = refl

pub item_named : (v : Version) (l : List ℕ) (p : ℕ) (x : Item) → x ≡ item_of p (next_in v (drop p l)) → is_record x.group ≡ true
    → x.group ≡ group_of x.fields.kind x.fields.slot
item_named v l p x e g = rw e (named_by p (next_in v (drop p l)) (rw e at g))
