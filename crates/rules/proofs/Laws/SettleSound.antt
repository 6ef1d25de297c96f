-- Rents are settled: a volume keeps what lasts, its balance does not rise, and each that is not due for collection after it is sound.
-- Assumes nothing.
use Rattle.std.specs.Prelude.{◌≡◌, Bool, false, ◌||◌, map, ℕ, ◌+◌, ◌<◌, leb, get_or}
use Rattle.std.proofs.Math.Path.{refl, ap}
use Rattle.std.proofs.Common.{◌∙◌, ⊎_elim, arith}
use Rattle.std.proofs.Math.Bool.{true}
use borrow.Author.Tests.{leb-true, leb-false, le-leb}
use Rattle.std.proofs.Math.ListN.{length, length-map}
use Rattle.lists.specs.BoolLaws.{and_both, or_left, pass_or_fail, and_right}
use Rattle.lists.specs.TestLaws.{all_at}
use Rattle.lists.specs.RowLaws.{map_after}
use Rattle.text.specs.Text.{holds_name}
use Rattle.rules.specs.declared.Status.{Status}
use Rattle.rules.specs.declared.Status.TheVariants.{Active, Grace, Deleted}
use Rattle.rules.specs.declared.Volume.{Volume}
use Rattle.rules.specs.declared.Tables.{Tables}
use Rattle.rules.specs.Limits.{balance_limit}
use Rattle.rules.specs.Fresh.{fresh_volume}
use Rattle.rules.specs.Tables.{given, used_volume}
use Rattle.rules.specs.Scope.{cap_fits}
use Rattle.rules.specs.Rent.{rent_now}
use Rattle.rules.specs.Advance.{standing, after_rent, settled, settle, grace_spent, is_overdue, is_due}
use Rattle.rules.specs.Sound.{is_given, sound_grace, sound_status, shards_fit, sound_volume}
use Rattle.rules.proofs.Laws.SoundParts.{Parts}
use Rattle.rules.proofs.Laws.Shape.{Shape}
use Rattle.rules.proofs.Laws.RowFacts.{VolumeFacts, volume_facts, facts_volume}
use Rattle.rules.proofs.Laws.RestParts.{Rest}
use Rattle.rules.proofs.Laws.MappedLaws.{mapped_at}
use Rattle.rules.proofs.Laws.LastingLaws.{Lasting, lasting, lasting_change}

-- what lasts of a volume
standing_lasting : (s : Status) (paid : Bool) (v : Volume) → lasting (standing s paid v) ≡ lasting v
standing_lasting Active true v = refl
standing_lasting Active false v = refl
standing_lasting Grace true v = refl
standing_lasting Grace false v = refl
standing_lasting Deleted paid v = refl

after_lasting : (rent : ℕ) (v : Volume) → lasting (after_rent rent v) ≡ lasting v
unfolding after_rent
after_lasting rent v = standing_lasting v.status (leb rent v.balance) v

pub settled_lasting : (t : Tables) (v : Volume) → lasting (settled t v) ≡ lasting v
unfolding settled
settled_lasting t v = ⊎_elim (λ w. rw w (after_lasting (rent_now t v) v)) (λ w. rw w) (pass_or_fail (used_volume v))

-- a volume that has another's number, name, K, M and cap
facts_lasting : (t : Tables) (v w : Volume) → lasting w ≡ lasting v → VolumeFacts t v → leb w.balance balance_limit ≡ true
    → sound_status t.clock w.status w.grace w.deleted ≡ true → VolumeFacts t w
facts_lasting t v w e f b s = record {
  numbered = ap (λ (x : Lasting). is_given t.last_volume x.no.0) e ∙ f.numbered;
  name = ap (λ (x : Lasting). holds_name x.name) e ∙ f.name;
  shards = ap (λ (x : Lasting). shards_fit x.k x.m) e ∙ f.shards;
  cap = ap (λ (x : Lasting). cap_fits x.cap) e ∙ f.cap;
  balance = b;
  status = s;
}

-- its status, where it is not collected
standing_status : (c : ℕ) (s : Status) (paid : Bool) (v : Volume) → v.status ≡ s → sound_status c s v.grace v.deleted ≡ true
    → grace_spent (standing s paid v).status (standing s paid v).grace ≡ false
    → sound_status c (standing s paid v).status (standing s paid v).grace (standing s paid v).deleted ≡ true
standing_status c Active true v e h g = rw e h
standing_status c Active false v e h g = and_right (sound_grace Active v.grace) (leb v.deleted c) h
standing_status c Grace true v e h g = and_right (sound_grace Grace v.grace) (leb v.deleted c) h
standing_status c Grace false v e h g =
    and_both
    (and_both (le-leb 1 (v.grace + 1) (omega arith)) (le-leb (v.grace + 1) 2 (omega (arith, leb-false 3 (v.grace + 1) g))))
    (and_right (sound_grace Grace v.grace) (leb v.deleted c) h)
standing_status c Deleted paid v e h g = rw e h

-- a volume in use that is not due has grace left
not_due : (c : ℕ) (v : Volume) → used_volume v ≡ true → is_due c v ≡ false → grace_spent v.status v.grace ≡ false
unfolding is_due
not_due c v w d =
    let s : (grace_spent v.status v.grace || is_overdue c v.status v.deleted) ≡ false = rw w at d in
    or_left (grace_spent v.status v.grace) (is_overdue c v.status v.deleted) s

module _ (t : Tables) where
  -- a volume in use pays rent, and a free row stays
  pub settled_used : (v : Volume) → used_volume v ≡ true → settled t v ≡ after_rent (rent_now t v) v
  unfolding settled
  settled_used v w = rw w

  pub settled_free : (v : Volume) → used_volume v ≡ false → settled t v ≡ v
  unfolding settled
  settled_free v w = rw w

  after_sound : (rent : ℕ) (v : Volume) → used_volume v ≡ true → sound_volume t v ≡ true → is_due t.clock (after_rent rent v) ≡ false
      → sound_volume t (after_rent rent v) ≡ true
  unfolding after_rent
  after_sound rent v w h d =
      let f = volume_facts t v w h in
      let u : used_volume (after_rent rent v) ≡ true = ap (λ (x : Lasting). given x.no.0) (after_lasting rent v) ∙ w in
      facts_volume t (after_rent rent v)
      (facts_lasting t v (after_rent rent v) (after_lasting rent v) f
      (le-leb (after_rent rent v).balance balance_limit (omega (arith, leb-true v.balance balance_limit f.balance)))
      (standing_status t.clock v.status (leb rent v.balance) v refl f.status (not_due t.clock (after_rent rent v) u d)))

  -- a volume at an epoch end is sound where it is not collected
  settled_sound : (v : Volume) → sound_volume t v ≡ true → is_due t.clock (settled t v) ≡ false → sound_volume t (settled t v) ≡ true
  settled_sound v h d = ⊎_elim used free (pass_or_fail (used_volume v))
    where
      used : used_volume v ≡ true → sound_volume t (settled t v) ≡ true
      used w = rw (settled_used v w) (after_sound (rent_now t v) v w h (rw (settled_used v w) at d))

      free : used_volume v ≡ false → sound_volume t (settled t v) ≡ true
      free w = rw (settled_free v w) h

  pub settle_sound : Parts t → (j : ℕ) → j < length (settle t).volumes → is_due t.clock (get_or (settle t).volumes j fresh_volume) ≡ false
      → sound_volume (settle t) (get_or (settle t).volumes j fresh_volume) ≡ true
  unfolding settle sound_volume
  settle_sound p j b d =
      let c : j < length t.volumes = rw (length-map t.volumes (settled t)) at b in
      let q = mapped_at (settled t) t.volumes j fresh_volume fresh_volume c in
      rw q (settled_sound (get_or t.volumes j fresh_volume) (all_at (sound_volume t) t.volumes p.volumes j c fresh_volume) (rw q at d))

  pub settle_rest : Rest t → Rest (settle t)
  unfolding settle
  settle_rest s = lasting_change t (map (settled t) t.volumes) (map_after lasting (settled t) lasting t.volumes (settled_lasting t)) s

  pub settle_shape : Shape t → Shape (settle t)
  unfolding settle
  settle_shape s = record {
    volume_rows_lem = length-map t.volumes (settled t) ∙ s.volume_rows_lem;
    entry_rows_lem = s.entry_rows_lem;
    token_rows_lem = s.token_rows_lem;
    relay_rows_lem = s.relay_rows_lem;
  }
