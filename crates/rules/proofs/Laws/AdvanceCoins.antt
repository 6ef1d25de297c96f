-- The coins of an advance: what the volumes had is what they have, what they paid in rents and what was sent back. Assumes nothing.
use Rattle.std.specs.Prelude.{◌≡◌, Bool, cond, ℕ, ◌+◌, ◌≤◌}
use Rattle.std.proofs.Math.Path.{refl, ap}
use Rattle.std.proofs.Common.{sym, ◌∙◌, ⊎_elim, leb-true}
use Rattle.std.proofs.Math.Bool.{true, false}
use mathlib.Core.List.{List, map}
use native.Mathlib.Omega.{arith}
use Rattle.std.proofs.Math.Dec.{leb}
use Rattle.lists.specs.Lists.{keep, sum_of}
use Rattle.lists.specs.BoolLaws.{and_left, pass_or_fail}
use Rattle.lists.specs.SumLaws.{sum_keep, sum_plus}
use Rattle.rules.specs.declared.Status.{Status}
use Rattle.rules.specs.declared.Status.TheVariants.{Active, Grace, Deleted}
use Rattle.rules.specs.declared.Volume.{Volume}
use Rattle.rules.specs.declared.Tables.{Tables}
use Rattle.rules.specs.Fresh.{fresh_volume}
use Rattle.rules.specs.Tables.{given, used_volume, with_clock}
use Rattle.rules.specs.Rent.{rent_now, epoch_ends}
use Rattle.rules.specs.VolumeCalls.{drop_entries}
use Rattle.rules.specs.Advance.{paid_of, after_rent, settled, settle, at_epoch, relays_leave, is_due, collect, advanced}
use Rattle.rules.specs.Coins.{balance_of, live_balances, rent_paid, rents_paid, after_rents, sent_back}
use Rattle.rules.proofs.Laws.LiveLaws.{live_in, live_sum}
use Rattle.rules.proofs.Laws.MappedLaws.{sum_mapped}
use Rattle.rules.proofs.Laws.ClearedLaws.{sum_cleared}
use Rattle.rules.proofs.Laws.LastingLaws.{Lasting}
use Rattle.rules.proofs.Laws.SettleSound.{settled_used, settled_free, settled_lasting}

-- a row's rent
abbrev rent_in : Tables → Volume → ℕ
rent_in t v = cond (used_volume v) (rent_paid t v) 0

-- no volume pays more than it has
pays_all : (b : Bool) (rent balance : ℕ) → leb rent balance ≡ b → cond b rent 0 ≤ balance
pays_all true rent balance e = leb-true rent balance e
pays_all false rent balance e = omega arith

paid_le : (s : Status) (rent balance : ℕ) → paid_of s rent balance ≤ balance
paid_le Active rent balance = pays_all (leb rent balance) rent balance refl
paid_le Grace rent balance = pays_all (leb rent balance) rent balance refl
paid_le Deleted rent balance = omega arith

module _ (t : Tables) where
  -- a volume's balance is what it keeps at an epoch end and what it pays
  settled_balance : (v : Volume) → used_volume v ≡ true → v.balance ≡ (settled t v).balance + rent_paid t v
  unfolding after_rent rent_paid
  settled_balance v w =
      rw (settled_used t v w) (omega (arith, paid_le v.status (rent_now t v) v.balance))

  settled_live : (v : Volume) → live_in v ≡ live_in (settled t v) + rent_in t v
  settled_live v = ⊎_elim used free (pass_or_fail (used_volume v))
    where
      used : used_volume v ≡ true → live_in v ≡ live_in (settled t v) + rent_in t v
      used w =
          let u : used_volume (settled t v) ≡ true = ap (λ (x : Lasting). given x.no.0) (settled_lasting t v) ∙ w in
          rw (u, w) (settled_balance v w)

      free : used_volume v ≡ false → live_in v ≡ live_in (settled t v) + rent_in t v
      free w = rw (settled_free t v w, w) (omega arith)

  kept_in : Volume → ℕ
  kept_in v = live_in (settled t v)

  settle_pays : sum_of live_in t.volumes ≡ sum_of live_in (map (settled t) t.volumes) + sum_of (rent_paid t) (keep used_volume t.volumes)
  unfolding kept_in
  settle_pays =
      rw (sum_mapped (settled t) live_in kept_in t.volumes (λ v. refl), sum_keep (rent_paid t) (rent_in t) used_volume t.volumes (λ v. refl))
      (sum_plus kept_in (rent_in t) live_in t.volumes settled_live)

  -- the volumes after the rents have what they had but for the rents paid
  rents_live : (end : Bool)
      → sum_of live_in t.volumes ≡ sum_of live_in (at_epoch end t).volumes + cond end (sum_of (rent_paid t) (keep used_volume t.volumes)) 0
  unfolding at_epoch settle
  rents_live true = settle_pays
  rents_live false = omega arith

-- a volume that is collected is in use
is_used : (block : ℕ) (v : Volume) → is_due block v ≡ true → used_volume v ≡ true
unfolding is_due
is_used block v e = and_left (used_volume v) _ e

due_used : (block : ℕ) (v : Volume) → cond (is_due block v) v.balance 0 ≡ cond (is_due block v) (live_in v) 0
due_used block v = ⊎_elim due (λ e. rw e) (pass_or_fail (is_due block v))
  where
    due : is_due block v ≡ true → cond (is_due block v) v.balance 0 ≡ cond (is_due block v) (live_in v) 0
    due e = rw (e, is_used block v e)

due_live : (block : ℕ) (vs : List Volume) → sum_of balance_of (keep (is_due block) vs) ≡ sum_of live_in (keep (is_due block) vs)
due_live block vs =
    sum_keep balance_of (λ v. cond (is_due block v) (live_in v) 0) (is_due block) vs (λ v. sym (due_used block v))
    ∙ sym (sum_keep live_in (λ v. cond (is_due block v) (live_in v) 0) (is_due block) vs (λ v. refl))

-- a collection takes the balances of the volumes that it collects, and leaves the others
collected_live : (p : Volume → Bool) (t : Tables) → sum_of live_in t.volumes ≡ sum_of live_in (collect p t).volumes + sum_of live_in (keep p t.volumes)
unfolding collect drop_entries
collected_live p t = sym (sum_cleared p fresh_volume live_in t.volumes refl)

module _ (t : Tables) (block : ℕ) where
  -- no relay and no clock is read where rents are paid
  same_rents : (end : Bool) → (at_epoch end (relays_leave (with_clock t block))).volumes ≡ (at_epoch end t).volumes
  unfolding at_epoch settle settled rent_now relays_leave
  same_rents true = refl
  same_rents false = refl

  collected_deposits : (end : Bool) → (collect (is_due block) (at_epoch end (relays_leave (with_clock t block)))).deposits ≡ t.deposits
  unfolding at_epoch settle relays_leave collect drop_entries
  collected_deposits true = refl
  collected_deposits false = refl

  pub advanced_deposits : (advanced t block).deposits ≡ t.deposits
  unfolding advanced
  advanced_deposits = collected_deposits (leb 1 (epoch_ends t.clock block))

  -- an advance pays rents and sends back balances
  pub advanced_coins : live_balances t ≡ live_balances (advanced t block) + rents_paid t block + sent_back t block
  unfolding advanced live_balances rents_paid sent_back after_rents
  advanced_coins =
      let end = leb 1 (epoch_ends t.clock block) in
      let paid = at_epoch end (relays_leave (with_clock t block)) in
      omega (
        arith,
        live_sum t.volumes,
        live_sum (collect (is_due block) paid).volumes,
        rents_live t end,
        collected_live (is_due block) paid,
        ap (sum_of live_in) (same_rents end),
        ap (λ (l : List Volume). sum_of live_in (keep (is_due block) l)) (same_rents end),
        due_live block (at_epoch end t).volumes,
      )
