-- The work of a record is the rule of its call: the arm names the call, and its fields are what the record and its bytes hold. Assumes nothing.
use mathlib.Core.Path.{◌≡◌}
use mathlib.Core.List.{List}
use Prim.Native.Nat.{ℕ}
use lib.ListN.{length}
use Rattle.rules.specs.declared.Account.{Account}
use Rattle.rules.specs.declared.Relay.{Relay}
use Rattle.rules.specs.declared.Tables.{Tables}
use Rattle.rules.specs.declared.TablesOutcome.{TablesOutcome}
use Rattle.rules.specs.VolumeCalls.{create_rule, deposit_rule, undelete_rule}
use Rattle.rules.specs.Calls.{ask_rule}
use Rattle.relays.specs.declared.RelayChange.{RelayChange}
use Rattle.relays.specs.Rows.{register_row, heartbeat_row}
use Rattle.relays.specs.RowLaws.{register_by_row, register_below, heartbeat_by_row, heartbeat_below}
use Rattle.journal.specs.declared.Record.{Record}
use Rattle.journal.specs.Places.{account_at, text_at}
use Rattle.journal_calls.specs.declared.RelayCall.{RelayCall}
use Rattle.journal_calls.specs.declared.RelayCall.TheVariants as relay
use Rattle.journal_calls.specs.declared.VolumeCall.{VolumeCall}
use Rattle.journal_calls.specs.declared.VolumeCall.TheVariants as volume
use Rattle.journal_calls.specs.Groups.{volume_ask}
use Rattle.journal_calls.specs.Parts.{Asked, RelayDone}

-- the calls on the relays, over the clock, the relays and the last number given
module _ (clock : ℕ) (rows : List Relay) (last : ℕ) (r : Record) (o : RelayChange) (few : length rows ≡ 32) where
  pub registers : (w : RelayCall) → w ≡ relay.Register → o ≡ register_row clock rows last r.amount → RelayDone clock rows last w r o
  unfolding ask_rule
  registers w e f =
      record {
        same = rw e f;
        told = λ t ec er el. rw (e, f, ← ec, ← er, ← el) (register_by_row t r.amount);
        below = rw f (register_below clock rows last r.amount few);
      }

  pub beats : (w : RelayCall) → w ≡ relay.Heartbeat → o ≡ heartbeat_row clock rows last (record { 0 = r.no }) → RelayDone clock rows last w r o
  unfolding ask_rule
  beats w e f =
      record {
        same = rw e f;
        told = λ t ec er el. rw (e, f, ← ec, ← er, ← el) (heartbeat_by_row t (record { 0 = r.no }));
        below = rw f (heartbeat_below clock rows last (record { 0 = r.no }) few);
      }

module _ (t : Tables) (x : TablesOutcome) (r : Record) where
  -- a is the account and name the text that were taken from the record's bytes l
  module _ (l : List ℕ) where
    pub deposits : (w : VolumeCall) → w ≡ volume.Deposit → x ≡ deposit_rule (record { 0 = r.no }) r.amount t → Asked x (volume_ask w r l) t
    unfolding ask_rule
    deposits w e f = record { same = rw e f }

    module _ (a : Account) (ea : a.0 ≡ account_at r l) where
      pub undeletes : (w : VolumeCall) → w ≡ volume.Undelete → x ≡ undelete_rule a (record { 0 = r.no }) t → Asked x (volume_ask w r l) t
      unfolding ask_rule
      undeletes w e f = record { same = rw (e, ← ea) f }

      module _ (name : List ℕ) (en : name ≡ text_at r l) where
        pub creates : (w : VolumeCall) → w ≡ volume.Create → x ≡ create_rule a name r.k r.m r.cap t → Asked x (volume_ask w r l) t
        unfolding ask_rule
        creates w e f = record { same = rw (e, ← ea, ← en) f }
