-- Deposit, delete and undelete leave sound tables sound. Assumes nothing.
use Rattle.std.specs.Prelude.{◌≡◌, refl, true, false, ℕ, ◌+◌, ◌≤◌, leb, ltb, get_or, set}
use Rattle.std.proofs.Math.Path.{ap}
use Rattle.std.proofs.Common.{sym, ◌∙◌, arith, leb-true, le-leb, ltb-false, eqb-true, length-set}
use Rattle.std.proofs.Math.Seq.{map-set_same}
use Rattle.lists.specs.Lists.{hit}
use Rattle.lists.specs.BoolLaws.{and_left, and_right, and_both, or_left, or_right, not_pass, not_both}
use Rattle.lists.specs.SearchLaws.{found_at, row_passes}
use Rattle.rules.specs.declared.VolumeNo.{VolumeNo}
use Rattle.rules.specs.declared.Status.{Status}
use Rattle.rules.specs.declared.Status.TheVariants.{Active, Grace, Deleted}
use Rattle.rules.specs.declared.Volume.{Volume}
use Rattle.rules.specs.declared.Tables.{Tables}
use Rattle.rules.specs.Limits.{balance_limit, deposits_limit}
use Rattle.rules.specs.Fresh.{fresh_volume, fresh_token}
use Rattle.rules.specs.Tables.{used_token, is_volume, volume_of, with_volumes, with_deposits, with_balance, with_status}
use Rattle.rules.specs.Sound.{sound_grace, sound_status, sound_volume}
use Rattle.rules.specs.VolumeCalls.{too_much, is_token_of, deposited, deleted, undeleted}
use Rattle.rules.proofs.Laws.RestParts.{rest_of}
use Rattle.rules.proofs.Laws.LastingLaws.{lasting, lasting_change}
use Rattle.rules.proofs.Laws.SetLaws.{all_set}
use Rattle.rules.proofs.Laws.NumberLaws.{numbered_used, found_passes}
use Rattle.rules.proofs.Laws.RowFacts.{VolumeFacts, volume_facts, facts_volume, count_facts, facts_counts}
use Rattle.rules.proofs.Laws.Invariant.{Whole, Keeps, keeps_on, counts_grow}
use Rattle.rules.proofs.Laws.Family.{FamilyInOneVolume}
use Rattle.rules.proofs.Laws.VolumesChange.{volumes_keep}
use Rattle.rules.proofs.Laws.TokensGo.{ParentsStay}
use Rattle.rules.proofs.Laws.TokensChange.{tokens_leave}

-- a grace count is at most 2
grace_small : (s : Status) (grace : ℕ) → sound_grace s grace ≡ true → grace ≤ 2
grace_small Active grace e = omega (arith, eqb-true grace 0 e)
grace_small Grace grace e = leb-true grace 2 (and_right (leb 1 grace) (leb grace 2) e)
grace_small Deleted grace e = leb-true grace 2 e

-- a volume that a search found changes in what does not last
module _ (t : Tables) (inv : Whole t) (n : VolumeNo) (i : ℕ) (v : Volume) (found : volume_of n t ≡ hit i v) where
  found_facts : VolumeFacts t v
  unfolding volume_of
  found_facts =
      volume_facts t v (numbered_used n.0 v.no.0 (row_passes (is_volume n) t.volumes 0 i v found))
      (found_passes (is_volume n) (sound_volume t) t.volumes i v inv.parts.volumes found)

  row_changes : (w : Volume) → lasting w ≡ lasting v → sound_volume t w ≡ true → Keeps t (with_volumes t (set t.volumes i w))
  unfolding volume_of
  row_changes w e s =
      volumes_keep t (set t.volumes i w) inv (length-set t.volumes i w)
      (all_set (sound_volume t) t.volumes i w inv.parts.volumes s)
      (lasting_change t (set t.volumes i w)
      (map-set_same lasting t.volumes i w fresh_volume (e ∙ ap lasting (sym (found_at (is_volume n) t.volumes i v found fresh_volume))))
      (rest_of inv.parts))

  -- deposit
  pub deposit_keeps : (coins : ℕ) → too_much t v coins ≡ false → Keeps t (deposited t coins i v)
  deposit_keeps coins b =
      let w = with_balance v (v.balance + coins) in
      let f = found_facts in
      let l = or_left (ltb balance_limit (v.balance + coins)) (ltb deposits_limit (t.deposits + coins)) b in
      let r = or_right (ltb balance_limit (v.balance + coins)) (ltb deposits_limit (t.deposits + coins)) b in
      let first =
      row_changes w refl
      (facts_volume t w
      (record {
        numbered = f.numbered;
        name = f.name;
        shards = f.shards;
        cap = f.cap;
        balance = le-leb (v.balance + coins) balance_limit (ltb-false balance_limit (v.balance + coins) l);
        status = f.status;
      })) in
      let u = with_volumes t (set t.volumes i w) in
      let c = count_facts t inv.parts.counts in
      keeps_on first
      (counts_grow u t.clock t.last_volume t.last_token t.last_relay (t.deposits + coins) first.whole (omega arith)
      (facts_counts (with_deposits u (t.deposits + coins))
      (record {
        clock = c.clock;
        deposits = le-leb (t.deposits + coins) deposits_limit (ltb-false deposits_limit (t.deposits + coins) r);
        volumes = c.volumes;
        tokens = c.tokens;
        relays = c.relays;
      })))

  -- another status
  status_changes : (s : Status) (grace deleted : ℕ) → sound_status t.clock s grace deleted ≡ true
      → Keeps t (with_volumes t (set t.volumes i (with_status v s grace deleted)))
  status_changes s grace deleted e =
      let f = found_facts in
      row_changes (with_status v s grace deleted) refl
      (facts_volume t (with_status v s grace deleted)
      (record { numbered = f.numbered; name = f.name; shards = f.shards; cap = f.cap; balance = f.balance; status = e }))

  -- delete: the volume's tokens go, and no other token has one of them for its parent
  parents_stay : FamilyInOneVolume t → ParentsStay (is_token_of v.no) t.tokens
  parents_stay kin j b w g i k e =
      let row = get_or t.tokens j fresh_token in
      not_pass (is_token_of v.no k)
      (λ h.
      let q : k.volume.0 ≡ row.volume.0 = kin j b w i k e in
      not_both (and_both w (rw q at (and_right (used_token k) _ h))) g)

  pub delete_keeps : FamilyInOneVolume t → Keeps t (deleted t i v)
  delete_keeps kin =
      let small = grace_small v.status v.grace (and_left (sound_grace v.status v.grace) (leb v.deleted t.clock) found_facts.status) in
      let first =
      status_changes Deleted v.grace t.clock
      (and_both (le-leb v.grace 2 small) (le-leb t.clock t.clock (omega arith))) in
      keeps_on first
      (tokens_leave (with_volumes t (set t.volumes i (with_status v Deleted v.grace t.clock))) (is_token_of v.no) (parents_stay kin) first.whole)

  pub undelete_keeps : Keeps t (undeleted t i v)
  undelete_keeps = status_changes Active 0 0 (le-leb 0 t.clock (omega arith))
