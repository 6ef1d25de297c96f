-- Laws of the live balances: a free row has none, and a row that is changed changes them by its own. Assumes nothing.
use Rattle.std.specs.Prelude.{◌≡◌, refl, Bool, true, false, cond, List, ℕ, ◌+◌, set}
use Rattle.std.proofs.Common.{eqb-true}
use Rattle.lists.specs.Lists.{hit, find, keep, sum_of}
use Rattle.lists.specs.SearchLaws.{found_below, found_at}
use Rattle.lists.specs.SumLaws.{sum_keep}
use Rattle.lists.specs.ModifyLaws.{row_store, sum_modify}
use Rattle.rules.specs.declared.Volume.{Volume}
use Rattle.rules.specs.Fresh.{fresh_volume}
use Rattle.rules.specs.Tables.{used_volume, free_volume}
use Rattle.rules.specs.Coins.{balance_of}

-- a row's live balance
abbrev pub live_in : Volume → ℕ
live_in v = cond (used_volume v) v.balance 0

pub live_sum : (vs : List Volume) → sum_of balance_of (keep used_volume vs) ≡ sum_of live_in vs
live_sum vs = sum_keep balance_of live_in used_volume vs (λ v. refl)

-- a free row has none, nor has one with no balance
pub free_live : (v : Volume) → free_volume v ≡ true → live_in v ≡ 0
free_live v e = rw (eqb-true v.no.0 0 e)

pub cond_zero : (b : Bool) → ◌≡◌ {A = ℕ} (cond b 0 0) 0
cond_zero true = refl
cond_zero false = refl

pub none_live : (v : Volume) → v.balance ≡ 0 → live_in v ≡ 0
none_live v e = rw e (cond_zero (used_volume v))

-- a row that was found is changed
pub live_set : (p : Volume → Bool) (vs : List Volume) (i : ℕ) (v w : Volume) → find p vs ≡ hit i v
    → sum_of balance_of (keep used_volume (set vs i w)) + live_in v ≡ sum_of balance_of (keep used_volume vs) + live_in w
live_set p vs i v w e =
    rw (live_sum (set vs i w), live_sum vs, row_store (λ x. w) vs i fresh_volume refl, ← (found_at p vs i v e fresh_volume))
    (sum_modify live_in (λ x. w) i vs fresh_volume (found_below p vs i v e))
