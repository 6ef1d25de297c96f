-- A number is "never given twice": what the tables of volumes and of relays hold after any call, against what they held before. Tokens: Later.
-- Assumes nothing.
use Rattle.std.specs.Prelude.{◌≡◌, refl, Bool, true, false, List, [], ◌∷◌, map, ℕ, ◌+◌, ◌≤◌, leb, set}
use Rattle.std.proofs.Common.{sym, ◌∙◌, ap, arith}
use Rattle.std.proofs.Math.Seq.{map-set_same}
use Rattle.lists.specs.Lists.{hit, find, keep}
use Rattle.lists.specs.SearchLaws.{found_at}
use Rattle.lists.specs.RowLaws.{map_after}
use Rattle.rules.specs.declared.VolumeNo.{VolumeNo}
use Rattle.rules.specs.declared.RelayNo.{RelayNo}
use Rattle.rules.specs.declared.Volume.{Volume}
use Rattle.rules.specs.declared.Entry.{Entry}
use Rattle.rules.specs.declared.Relay.{Relay}
use Rattle.rules.specs.declared.Put.{Put}
use Rattle.rules.specs.declared.Placement.{Placement}
use Rattle.rules.specs.declared.Session.{Session}
use Rattle.rules.specs.declared.Answer.{Answer}
use Rattle.rules.specs.declared.Tables.{Tables}
use Rattle.rules.specs.Fresh.{fresh_volume, fresh_relay}
use Rattle.rules.specs.Tables.{given, is_volume, is_relay, volume_of, relay_of, cleared, staged, with_clock, with_version, with_beat}
use Rattle.rules.specs.Relays.{is_dead, lightened, shard_size, too_few, taken, placement_of, loaded}
use Rattle.rules.specs.Rent.{epoch_ends}
use Rattle.rules.specs.VolumeCalls.{drop_entries}
use Rattle.rules.specs.Advance.{relays_leave, settled, settle, at_epoch, is_due, entry_of_one, collect, advanced}
use Rattle.rules.specs.Commit.{Placed, no_place, placed, and_placed, place_all, committed}
use Rattle.rules.specs.Calls.{Ask, ask_rule, Work, work_rule}
use Rattle.rules.proofs.Laws.BranchLaws.{cond_case}
use Rattle.rules.proofs.Laws.AskCases.{Effect, advances, creates, deposits, deletes, undeletes, grants, attenuates, revokes, removes, looks, registers, beats, ask_tables}
use Rattle.rules.proofs.Laws.LastingLaws.{Lasting}
use Rattle.rules.proofs.Laws.SettleSound.{settled_lasting}
use Rattle.rules.proofs.Laws.LoadLaws.{loaded_number}
use Rattle.rules.proofs.Laws.CommitCases.{Accepted, tables_of}
use Rattle.rules.proofs.Laws.WorkCases.{work_tables}
use Rattle.rules.proofs.Laws.OnceRows.{Once, once_on, once_numbers, once_cleared, once_new}

-- one table, with its last number, before and after
pub record OnceIn {A : Type 0} (no : A → ℕ) (z : A) (rows : Tables → List A) (last : Tables → ℕ) (t u : Tables) : Type 0 where
  pub grown : last t ≤ last u
  pub once : Once no z (last t) (rows t) (rows u)

module _ {A : Type 0} (no : A → ℕ) (z : A) (rows : Tables → List A) (last : Tables → ℕ) where
  abbrev Kept : Tables → Tables → Type 0
  Kept = OnceIn no z rows last

  kept_numbers : (t u : Tables) → map no (rows u) ≡ map no (rows t) → last u ≡ last t → Kept t u
  kept_numbers t u e f = record { grown = omega arith; once = once_numbers no z (last t) (rows t) (rows u) e }

  kept_on : (t u w : Tables) → Kept t u → Kept u w → Kept t w
  kept_on t u w p q = record {
    grown = omega arith;
    once = once_on no z (last t) (last u) (rows t) (rows u) (rows w) p.grown p.once q.once;
  }

  kept_cleared : (p : A → Bool) (t u : Tables) → given (no z) ≡ false → rows u ≡ cleared p z (rows t) → last u ≡ last t → Kept t u
  kept_cleared p t u s e f = record { grown = omega arith; once = rw e (once_cleared no z (last t) p (rows t) s) }

  kept_new : (i : ℕ) (x : A) (t u : Tables) → no x ≡ last t + 1 → rows u ≡ set (rows t) i x → last u ≡ no x → Kept t u
  kept_new i x t u s e f = record { grown = omega arith; once = rw e (once_new no z (last t) x (rows t) i s) }

-- a row that was found keeps its number
module _ {A : Type 0} (no : A → ℕ) (z : A) where
  found_numbers : (p : A → Bool) (i : ℕ) (x y : A) (l : List A) → find p l ≡ hit i x → no y ≡ no x → map no (set l i y) ≡ map no l
  found_numbers p i x y l f s = map-set_same no l i y z (s ∙ sym (ap no (found_at p l i x f z)))

-- the two tables
abbrev volume_number : Volume → ℕ
volume_number v = v.no.0

abbrev relay_number : Relay → ℕ
relay_number r = r.no.0

abbrev VolumesOnce : Tables → Tables → Type 0
VolumesOnce = OnceIn volume_number fresh_volume (λ t. t.volumes) (λ t. t.last_volume)

abbrev RelaysOnce : Tables → Tables → Type 0
RelaysOnce = OnceIn relay_number fresh_relay (λ t. t.relays) (λ t. t.last_relay)

volumes_kept : (t u : Tables) → map volume_number u.volumes ≡ map volume_number t.volumes → u.last_volume ≡ t.last_volume → VolumesOnce t u
volumes_kept = kept_numbers volume_number fresh_volume (λ t. t.volumes) (λ t. t.last_volume)

relays_kept : (t u : Tables) → map relay_number u.relays ≡ map relay_number t.relays → u.last_relay ≡ t.last_relay → RelaysOnce t u
relays_kept = kept_numbers relay_number fresh_relay (λ t. t.relays) (λ t. t.last_relay)

pub record NumbersOnce (t u : Tables) : Type 0 where
  pub volumes : VolumesOnce t u
  pub relays : RelaysOnce t u

-- neither table is touched, but for what a row holds beside its number
numbers_kept : (t u : Tables) → map volume_number u.volumes ≡ map volume_number t.volumes → u.last_volume ≡ t.last_volume
    → map relay_number u.relays ≡ map relay_number t.relays → u.last_relay ≡ t.last_relay → NumbersOnce t u
numbers_kept t u e f g h = record {
  volumes = volumes_kept t u e f;
  relays = relays_kept t u g h;
}

pub numbers_refl : (t : Tables) → NumbersOnce t t
numbers_refl t = numbers_kept t t refl refl refl refl

pub numbers_on : (t u w : Tables) → NumbersOnce t u → NumbersOnce u w → NumbersOnce t w
numbers_on t u w p q = record {
  volumes = kept_on volume_number fresh_volume (λ x. x.volumes) (λ x. x.last_volume) t u w p.volumes q.volumes;
  relays = kept_on relay_number fresh_relay (λ x. x.relays) (λ x. x.last_relay) t u w p.relays q.relays;
}

-- a volume that was found changes
volume_numbers : (n : VolumeNo) (t : Tables) (i : ℕ) (v w : Volume) → volume_of n t ≡ hit i v → w.no ≡ v.no
    → map volume_number (set t.volumes i w) ≡ map volume_number t.volumes
unfolding volume_of
volume_numbers n t i v w f e =
    found_numbers volume_number fresh_volume (is_volume n) i v w t.volumes f (ap (λ (m : VolumeNo). m.0) e)

lightened_numbers : (vs : List Volume) (gone : List Entry) (rs : List Relay) → map relay_number (map (lightened vs gone) rs) ≡ map relay_number rs
unfolding lightened
lightened_numbers vs gone rs = map_after relay_number (lightened vs gone) relay_number rs (λ r. refl)

-- The calls on the tables.

leave_once : (block : ℕ) (t : Tables) → NumbersOnce t (relays_leave (with_clock t block))
unfolding relays_leave
leave_once block t = record {
  volumes = volumes_kept t _ refl refl;
  relays = kept_cleared relay_number fresh_relay (λ x. x.relays) (λ x. x.last_relay) (is_dead block) t _ refl refl refl;
}

epoch_once : (b : Bool) (t : Tables) → NumbersOnce t (at_epoch b t)
unfolding at_epoch settle
epoch_once true t =
    numbers_kept t _ (map_after volume_number (settled t) volume_number t.volumes (λ v. ap (λ (x : Lasting). x.no.0) (settled_lasting t v))) refl refl refl
epoch_once false t = numbers_refl t

collect_once : (p : Volume → Bool) (t : Tables) → NumbersOnce t (collect p t)
unfolding collect drop_entries
collect_once p t = record {
  volumes = kept_cleared volume_number fresh_volume (λ x. x.volumes) (λ x. x.last_volume) p t _ refl refl refl;
  relays =
      relays_kept t _
      (lightened_numbers t.volumes (keep (entry_of_one (keep p t.volumes)) t.entries) t.relays) refl;
}

advance_once : (block : ℕ) (t : Tables) → NumbersOnce t (advanced t block)
unfolding advanced
advance_once block t =
    let left = relays_leave (with_clock t block) in
    let paid = at_epoch (leb 1 (epoch_ends t.clock block)) left in
    numbers_on t left (collect (is_due block) paid) (leave_once block t)
    (numbers_on left paid (collect (is_due block) paid) (epoch_once (leb 1 (epoch_ends t.clock block)) left) (collect_once (is_due block) paid))

effect_once : (t : Tables) {a : Ask} {x : Answer} {u : Tables} → Effect t a x u → NumbersOnce t u
unfolding drop_entries relay_of
effect_once t (advances block b) = advance_once block t
effect_once t (creates a name k m cap i old p q r e) = record {
  volumes = kept_new volume_number fresh_volume (λ x. x.volumes) (λ x. x.last_volume) i _ t _ refl refl refl;
  relays = relays_kept t _ refl refl;
}
effect_once t (deposits n coins i v e p q) = numbers_kept t _ (volume_numbers n t i v _ e refl) refl refl refl
effect_once t (deletes a n i v e p q) = numbers_kept t _ (volume_numbers n t i v _ e refl) refl refl refl
effect_once t (undeletes a n i v e p q) = numbers_kept t _ (volume_numbers n t i v _ e refl) refl refl refl
effect_once t (grants a n s i v j old p e q r z f) = numbers_kept t _ refl refl refl refl
effect_once t (attenuates n s i k j old p e q r z f) = numbers_kept t _ refl refl refl refl
effect_once t (revokes a n i k j v e f p) = numbers_kept t _ refl refl refl refl
effect_once t (removes a n path i v j e p f q r g z) =
    numbers_kept t _ (volume_numbers n t i v _ f refl) refl (lightened_numbers t.volumes _ t.relays) refl
effect_once t (looks n path i k j e p f q r z g) = numbers_refl t
effect_once t (registers capacity i old p q e) = record {
  volumes = volumes_kept t _ refl refl;
  relays = kept_new relay_number fresh_relay (λ x. x.relays) (λ x. x.last_relay) i _ t _ refl refl refl;
}
effect_once t (beats n i r e p) =
    numbers_kept t _ refl refl (found_numbers relay_number fresh_relay (is_relay n) i r (with_beat r t.clock) t.relays e refl) refl

pub ask_once : (a : Ask) (t : Tables) → NumbersOnce t (ask_rule a t).tables
ask_once a t = ask_tables (NumbersOnce t) a t (numbers_refl t) (λ x u. effect_once t)

-- A commit.

-- relays that took shards have the numbers that they had
abbrev NumbersAre : List ℕ → Placed → Type 0
NumbersAre ns no_place = ns ≡ ns
NumbersAre ns (placed places rs) = map relay_number rs ≡ ns

and_numbers : (ns : List ℕ) (place : Placement) (p : Placed) → NumbersAre ns p → NumbersAre ns (and_placed place p)
and_numbers ns place no_place e = e
and_numbers ns place (placed places rs) e = e

place_numbers_lem : (clock k m : ℕ) (ps : List Put) (rs : List Relay) → NumbersAre (map relay_number rs) (place_all clock k m ps rs)
unfolding place_all
place_numbers_lem clock k m [] rs = refl
place_numbers_lem clock k m (p ∷ ps) rs =
    let bytes = shard_size p.size k in
    let place = placement_of (taken clock bytes (k + m) rs) in
    let same = map_after relay_number (loaded bytes place) relay_number rs (λ r. ap (λ (n : RelayNo). n.0) (loaded_number bytes place r)) in
    cond_case (NumbersAre (map relay_number rs)) (too_few clock bytes (k + m) rs) no_place _ (λ b. refl)
    (λ b.
    let rest = place_all clock k m ps (map (loaded bytes place) rs) in
    and_numbers (map relay_number rs) place rest (rw same at (place_numbers_lem clock k m ps (map (loaded bytes place) rs))))

committed_once : (t : Tables) (s : Session) (a : Accepted t s) → NumbersOnce t (tables_of t s a)
unfolding committed
committed_once t s a =
    let v = a.volume in
    let after = place_numbers_lem t.clock v.k v.m (staged s) t.relays in
    numbers_kept t _ (volume_numbers s.volume t a.volume_row_lem v (with_version v (v.version + 1)) a.volume_found_lem refl) refl
    (lightened_numbers t.volumes _ a.relays ∙ rw a.placing at after) refl

-- every call on a slot
pub work_once : (w : Work) (t : Tables) (s : Session) → NumbersOnce t (work_rule w t s).tables
work_once w t s = work_tables (NumbersOnce t) w t s (numbers_refl t) (committed_once t s)
