-- Laws of advance_within: on sound tables every volume can be settled in the machine's numbers, so that an advance is the rule's. Assumes nothing.
use Rattle.std.specs.Prelude.{◌≡◌, false, not, ℕ, ◌≤◌, leb, length, get_or}
use Rattle.std.proofs.Math.Bool.{true}
use Rattle.std.proofs.Math.Logic.{⊎_elim}
use Rattle.std.proofs.Common.{arith, eqb-true, leb-true, lt-ltb}
use Rattle.lists.specs.BoolLaws.{and_left, and_right, pass_or_fail}
use Rattle.lists.specs.TestLaws.{all_at, at_all}
use Rattle.rules.specs.declared.Status.{Status}
use Rattle.rules.specs.declared.Status.TheVariants.{Active, Grace, Deleted}
use Rattle.rules.specs.declared.Volume.{Volume}
use Rattle.rules.specs.declared.Tables.{Tables}
use Rattle.rules.specs.Limits.{entry_rows}
use Rattle.rules.specs.Fresh.{fresh_volume}
use Rattle.rules.specs.Tables.{used_volume}
use Rattle.rules.specs.Rent.{epoch_ends}
use Rattle.rules.specs.Sound.{sound_grace, sound_volume, sound_tables}
use Rattle.rules.specs.Advance.{advance_rule}
use Rattle.rules.proofs.Laws.RowFacts.{volume_facts, or_last}
use Rattle.rules.proofs.Laws.SoundParts.{parts_of}
use Rattle.rents.specs.WithinLaws.{rent_sound}
use Rattle.epochs.specs.Within.{most_grace, can_settle, can_settle_all, can_advance, advance_within}

-- a sound grace count has room
few_grace : (s : Status) (grace : ℕ) → sound_grace s grace ≡ true → grace ≤ 2
few_grace Active grace e = omega (arith, eqb-true grace 0 e)
few_grace Grace grace e = leb-true grace 2 (and_right (leb 1 grace) (leb grace 2) e)
few_grace Deleted grace e = leb-true grace 2 e

module _ (t : Tables) (rows : length t.entries ≡ entry_rows) (s : sound_tables t ≡ true) where
  pub can_settle_lem : (v : Volume) → sound_volume t v ≡ true → can_settle t v ≡ true
  unfolding can_settle
  can_settle_lem v h = ⊎_elim used free (pass_or_fail (used_volume v))
    where
      used : used_volume v ≡ true → can_settle t v ≡ true
      used u =
          let f = volume_facts t v u h in
          let g = few_grace v.status v.grace (and_left (sound_grace v.status v.grace) (leb v.deleted t.clock) f.status) in
          rw (u, rent_sound t v rows s h u) (lt-ltb v.grace most_grace (omega (arith, g)))

      free : used_volume v ≡ false → can_settle t v ≡ true
      free u = rw u

  pub can_settle_all_lem : can_settle_all t ≡ true
  unfolding can_settle_all
  can_settle_all_lem =
      at_all (can_settle t) t.volumes fresh_volume
      (λ j h. can_settle_lem (get_or t.volumes j fresh_volume) (all_at (sound_volume t) t.volumes (parts_of t s).volumes j h fresh_volume))

  pub advance_sound : (block : ℕ) → advance_within block t ≡ advance_rule block t
  unfolding advance_within advance_rule can_advance
  advance_sound block = rw (or_last (not (leb 1 (epoch_ends t.clock block))) (can_settle_all t) can_settle_all_lem)
