-- What create, deposit and undelete leave does not depend on the other parts of the tables: what one of them gave on t it gives on any u with the
-- volumes of t. Assumes nothing.
use Rattle.std.specs.Prelude.{◌≡◌, Bool, true, false, not, ◌&&◌, cond, List, ℕ, leb}
use Rattle.std.proofs.Math.Path.{refl, ap}
use Rattle.std.proofs.Common.{◌∙◌}
use Rattle.amount.specs.declared.Cap.{Cap}
use Rattle.lists.specs.Lists.{Hit, hit, miss, find, any_of}
use Rattle.text.specs.Text.{is_name}
use Rattle.rules.specs.declared.Account.{Account}
use Rattle.rules.specs.declared.Tables.{Tables}
use Rattle.rules.specs.declared.TablesOutcome.{TablesOutcome}
use Rattle.rules.specs.declared.Volume.{Volume}
use Rattle.rules.specs.declared.VolumeNo.{VolumeNo}
use Rattle.rules.specs.Limits.{last_number}
use Rattle.rules.specs.Numbers.{BAD, NO_VOLUME, NOT_OWNER, STATE, ROOM, TOO_MUCH, SPENT, NAME_TAKEN}
use Rattle.rules.specs.Outcome.{refused, accepted}
use Rattle.rules.specs.Scope.{cap_fits}
use Rattle.rules.specs.Sound.{shards_fit}
use Rattle.rules.specs.Tables.{free_volume, owned_by, volume_of, with_volumes, with_last_volume, with_deposits}
use Rattle.rules.specs.VolumeCalls.{is_deleted, is_open, has_name, too_much, next_volume, created, create_in, create_rule, deposited, deposit_in, deposit_rule, undeleted, undelete_in, undelete_rule}
use Rattle.volumes.specs.declared.VolumesOutcome.{VolumesOutcome}
use Rattle.volumes.specs.Parts.{on_volumes}
use Rattle.kept_calls.specs.Elsewhere.{SameVolumes}

-- u with the volumes of t
abbrev over : Tables → Tables → Tables
over t u = with_deposits (with_last_volume (with_volumes u t.volumes) t.last_volume) t.deposits

over_same : (t u : Tables) → SameVolumes t u → over t u ≡ u
over_same t u s = rw (← s.volumes, ← s.last, ← s.deposits)

-- an outcome with its volumes put into u
unfoldable moved : Tables → TablesOutcome → TablesOutcome
moved u x = record { answer = x.answer; tables = over x.tables u }

-- a check that refuses is the same on both
check : (t u : Tables) (b : Bool) (n : ℕ) (x y : TablesOutcome) → moved u x ≡ y → moved u (cond b (refused t n) x) ≡ cond b (refused (over t u) n) y
unfolding moved
check t u true n x y e = refl
check t u false n x y e = e

-- each effect is the same on both
stays : (t u : Tables) (n : ℕ) → moved u (refused t n) ≡ refused (over t u) n
unfolding moved
stays t u n = refl

module _ (t u : Tables) (i : ℕ) (v : Volume) where
  creates : moved u (accepted v.no.0 (created t i v)) ≡ accepted v.no.0 (created (over t u) i v)
  unfolding moved
  creates = refl

  deposits : (coins : ℕ) → moved u (accepted 0 (deposited t coins i v)) ≡ accepted 0 (deposited (over t u) coins i v)
  unfolding moved
  deposits coins = refl

  undeletes : moved u (accepted 0 (undeleted t i v)) ≡ accepted 0 (undeleted (over t u) i v)
  unfolding moved
  undeletes = refl

-- each rule on t, put into u, is the rule on u with the volumes of t
module _ (t u : Tables) where
  create_in_lem : (v : Volume) (h : Hit Volume) → moved u (create_in t v h) ≡ create_in (over t u) v h
  unfolding create_in
  create_in_lem v miss = stays t u ROOM
  create_in_lem v (hit i old) = creates t u i v

  create_moved : (a : Account) (name : List ℕ) (k m : ℕ) (cap : Cap) → moved u (create_rule a name k m cap t) ≡ create_rule a name k m cap (over t u)
  unfolding create_rule
  create_moved a name k m cap =
      check t u (not (is_name name && shards_fit k m && cap_fits cap)) BAD _ _
      (check t u (any_of (has_name a name) t.volumes) NAME_TAKEN _ _
      (check t u (leb last_number t.last_volume) SPENT _ _
      (create_in_lem (next_volume t a name k m cap) (find free_volume t.volumes))))

  deposit_in_lem : (coins : ℕ) (h : Hit Volume) → moved u (deposit_in t coins h) ≡ deposit_in (over t u) coins h
  unfolding deposit_in
  deposit_in_lem coins miss = stays t u NO_VOLUME
  deposit_in_lem coins (hit i v) =
      check t u (not (is_open v.status)) STATE _ _
      (check t u (too_much t v coins) TOO_MUCH _ _
      (deposits t u i v coins))

  deposit_moved : (n : VolumeNo) (coins : ℕ) → moved u (deposit_rule n coins t) ≡ deposit_rule n coins (over t u)
  unfolding deposit_rule volume_of
  deposit_moved n coins = deposit_in_lem coins (volume_of n t)

  undelete_in_lem : (a : Account) (h : Hit Volume) → moved u (undelete_in t a h) ≡ undelete_in (over t u) a h
  unfolding undelete_in
  undelete_in_lem a miss = stays t u NO_VOLUME
  undelete_in_lem a (hit i v) =
      check t u (not (owned_by a v)) NOT_OWNER _ _
      (check t u (not (is_deleted v.status)) STATE _ _
      (undeletes t u i v))

  undelete_moved : (a : Account) (n : VolumeNo) → moved u (undelete_rule a n t) ≡ undelete_rule a n (over t u)
  unfolding undelete_rule volume_of
  undelete_moved a n = undelete_in_lem a (volume_of n t)

-- o is what the call on t left
module _ (t u : Tables) (s : SameVolumes t u) (o : VolumesOutcome) where
  pub create_elsewhere : (a : Account) (name : List ℕ) (k m : ℕ) (cap : Cap) → on_volumes t o ≡ create_rule a name k m cap t
      → on_volumes u o ≡ create_rule a name k m cap u
  unfolding moved
  create_elsewhere a name k m cap e = ap (moved u) e ∙ create_moved t u a name k m cap ∙ ap (create_rule a name k m cap) (over_same t u s)

  pub deposit_elsewhere : (n : VolumeNo) (coins : ℕ) → on_volumes t o ≡ deposit_rule n coins t → on_volumes u o ≡ deposit_rule n coins u
  unfolding moved
  deposit_elsewhere n coins e = ap (moved u) e ∙ deposit_moved t u n coins ∙ ap (deposit_rule n coins) (over_same t u s)

  pub undelete_elsewhere : (a : Account) (n : VolumeNo) → on_volumes t o ≡ undelete_rule a n t → on_volumes u o ≡ undelete_rule a n u
  unfolding moved
  undelete_elsewhere a n e = ap (moved u) e ∙ undelete_moved t u a n ∙ ap (undelete_rule a n) (over_same t u s)
