-- The calls that move no coins: every call but advance and deposit leaves the live balances and the sum of deposits as they were. Assumes
-- nothing.
use Rattle.std.specs.Prelude.{◌≡◌, refl, ℕ, ◌+◌, set}
use Rattle.std.proofs.Common.{arith}
use Rattle.lists.specs.Lists.{hit, find}
use Rattle.lists.specs.SearchLaws.{row_passes}
use Rattle.rules.specs.declared.VolumeNo.{VolumeNo}
use Rattle.rules.specs.declared.Volume.{Volume}
use Rattle.rules.specs.declared.Session.{Session}
use Rattle.rules.specs.declared.Tables.{Tables}
use Rattle.rules.specs.Tables.{free_volume, is_volume, volume_of, with_version}
use Rattle.rules.specs.Commit.{committed}
use Rattle.rules.specs.Coins.{live_balances}
use Rattle.rules.specs.VolumeCalls.{created}
use Rattle.rules.specs.Calls.{Work, work_rule}
use Rattle.rules.proofs.Laws.CommitCases.{Accepted, tables_of}
use Rattle.rules.proofs.Laws.WorkCases.{work_tables}
use Rattle.rules.proofs.Laws.LiveLaws.{live_in, free_live, none_live, live_set}

pub record Unmoved (t u : Tables) : Type 0 where
  pub live : live_balances u ≡ live_balances t
  pub deposits : u.deposits ≡ t.deposits

pub unmoved_self : (t : Tables) → Unmoved t t
unmoved_self t = record { live = refl; deposits = refl }

-- the volumes stay as they are, or one row that was found changes and keeps its number and balance
pub same_volumes : (t u : Tables) → u.volumes ≡ t.volumes → u.deposits ≡ t.deposits → Unmoved t u
unfolding live_balances
same_volumes t u e f = record { live = rw e; deposits = f }

pub same_balance : (t : Tables) (n : VolumeNo) (i : ℕ) (v w : Volume) → find (is_volume n) t.volumes ≡ hit i v → live_in w ≡ live_in v
    → (u : Tables) → u.volumes ≡ set t.volumes i w → u.deposits ≡ t.deposits → Unmoved t u
unfolding live_balances
same_balance t n i v w e q u r f = record { live = rw r (omega (arith, live_set (is_volume n) t.volumes i v w e, q)); deposits = f }

-- create: the new volume has no balance, and the row that it takes was free
pub new_volume_lem : (t : Tables) (i : ℕ) (old v : Volume) → find free_volume t.volumes ≡ hit i old → v.balance ≡ 0 → Unmoved t (created t i v)
unfolding live_balances
new_volume_lem t i old v e z = record {
  live =
      omega (
        arith,
        live_set free_volume t.volumes i old v e,
        free_live old (row_passes free_volume t.volumes 0 i old e),
        none_live v z,
      );
  deposits = refl;
}

-- a commit changes a volume's version alone
commit_coins : (t : Tables) (s : Session) (a : Accepted t s) → Unmoved t (tables_of t s a)
unfolding committed volume_of
commit_coins t s a =
    let v = a.volume in
    same_balance t s.volume a.volume_row_lem v (with_version v (v.version + 1)) a.volume_found_lem refl (tables_of t s a) refl refl

pub work_coins : (w : Work) (t : Tables) (s : Session) → Unmoved t (work_rule w t s).tables
work_coins w t s = work_tables (Unmoved t) w t s (unmoved_self t) (commit_coins t s)
