-- Create leaves sound tables sound: a new volume, in the lowest free row and with the next number. Assumes nothing.
use Rattle.std.specs.Prelude.{◌≡◌, refl, false, ◌&&◌, List, ℕ, ◌+◌, ◌≤◌, ◌<◌, get_or, set}
use Rattle.std.proofs.Common.{ap, sym, ◌∙◌, ⊎_elim, arith, le-leb, ltb-false, eqb-true, length-set}
use Rattle.std.proofs.Math.Bool.{true}
use Rattle.std.proofs.lemmas.Bool.{false≢true}
use Rattle.amount.specs.declared.Cap.{Cap}
use Rattle.lists.specs.Lists.{Hit, miss, hit, find, any_of}
use Rattle.lists.specs.Bytes.{same_bytes}
use Rattle.lists.specs.ByteLaws.{same_symmetric}
use Rattle.lists.specs.BoolLaws.{and_left, and_right, and_both, pass_or_fail, not_pass, not_both}
use Rattle.lists.specs.TestLaws.{all_at, any_at, none_at}
use Rattle.lists.specs.SearchLaws.{found_at, row_passes}
use Rattle.text.specs.Text.{is_name, name_bytes, to_name}
use Rattle.rules.specs.declared.VolumeNo.{VolumeNo}
use Rattle.rules.specs.declared.Account.{Account}
use Rattle.rules.specs.declared.Placement.{Placement}
use Rattle.rules.specs.declared.Volume.{Volume}
use Rattle.rules.specs.declared.Entry.{Entry}
use Rattle.rules.specs.declared.Token.{Token}
use Rattle.rules.specs.declared.Tables.{Tables}
use Rattle.rules.specs.Limits.{last_number}
use Rattle.rules.specs.Fresh.{fresh_volume, fresh_entry, fresh_token}
use Rattle.rules.specs.Tables.{used_volume, used_entry, used_token, free_volume, is_volume, owned_by, with_last_volume}
use Rattle.rules.specs.Scope.{cap_fits}
use Rattle.rules.specs.Sound.{shards_fit, sound_volume, sound_entry, sound_token, sound_in, volume_there, same_name}
use Rattle.rules.specs.VolumeCalls.{has_name, new_volume, created}
use Rattle.rules.proofs.Laws.RestParts.{rest_of}
use Rattle.rules.proofs.Laws.MappedLaws.{map_hit}
use Rattle.rules.proofs.Laws.LastingLaws.{lasting, lasting_of, ReadSame, volumes_change}
use Rattle.rules.proofs.Laws.RoomLaws.{no_zero}
use Rattle.rules.proofs.Laws.SetLaws.{all_set, clash_set, find_set}
use Rattle.rules.proofs.Laws.NumberLaws.{numbered_eq, numbered_other, found_some, new_number}
use Rattle.rules.proofs.Laws.RowFacts.{facts_volume, entry_facts, token_facts, count_facts, facts_counts}
use Rattle.rules.proofs.Laws.RowsKept.{le_given}
use Rattle.rules.proofs.Laws.Invariant.{Whole, Keeps, keeps_on, counts_grow}
use Rattle.rules.proofs.Laws.VolumesChange.{volumes_keep, volume_le}
use Rattle.rules.proofs.Laws.HeldText.{name_held}
use Rattle.text.specs.TextLaws.{name_bytes_lem}

-- an entry's volume is in the table
in_any : (t : Tables) (p : Placement) (n : VolumeNo) → sound_in t p (find (is_volume n) t.volumes) ≡ true → any_of (is_volume n) t.volumes ≡ true
unfolding sound_in
in_any t p n h = go (find (is_volume n) t.volumes) refl
  where
    go : (r : Hit Volume) → find (is_volume n) t.volumes ≡ r → any_of (is_volume n) t.volumes ≡ true
    go miss e = absurd (false≢true (ap (sound_in t p) (sym e) ∙ h))
    go (hit i v) e = found_some (is_volume n) t.volumes i v e

-- a new volume
module _ (t : Tables) (inv : Whole t) where
  -- every volume that is named has a number that was given
  there_le : (n : VolumeNo) → any_of (is_volume n) t.volumes ≡ true → n.0 ≤ t.last_volume
  there_le n e =
      let f = any_at (is_volume n) t.volumes fresh_volume e in
      omega (arith, volume_le t (get_or t.volumes f.0 fresh_volume) (all_at (sound_volume t) t.volumes inv.parts.volumes f.0 f.1 fresh_volume), numbered_eq n.0 (get_or t.volumes f.0 fresh_volume).no.0 f.2)

  entry_le : (e : Entry) → sound_entry t e ≡ true → e.volume.0 ≤ t.last_volume
  entry_le e h =
      ⊎_elim (λ w. there_le e.volume (in_any t e.placement e.volume (entry_facts t e w h).place))
      (λ w. omega (arith, ltb-false 0 e.volume.0 w))
      (pass_or_fail (used_entry e))

  token_le : (x : Token) → used_token x ≡ true → sound_token t x ≡ true → x.volume.0 ≤ t.last_volume
  unfolding volume_there
  token_le x w h = there_le x.volume (token_facts t x w h).volume

  module _ (a : Account) (name : List ℕ) (k m : ℕ) (cap : Cap) (fits : (is_name name && shards_fit k m && cap_fits cap) ≡ true)
      (free : any_of (has_name a name) t.volumes ≡ false) (room : t.last_volume < last_number)
      (i : ℕ) (old : Volume) (found : find free_volume t.volumes ≡ hit i old) where
    abbrev n : ℕ
    n = t.last_volume + 1

    abbrev v : Volume
    v = new_volume n a name k m cap

    -- the number is given first
    abbrev u : Tables
    u = with_last_volume t n

    abbrev ws : List Volume
    ws = set t.volumes i v

    given_first : Keeps t u
    given_first =
        let f = count_facts t inv.parts.counts in
        counts_grow t t.clock n t.last_token t.last_relay t.deposits inv (omega arith)
        (facts_counts u
        (record { clock = f.clock; deposits = f.deposits; volumes = le-leb n last_number (omega arith); tokens = f.tokens; relays = f.relays }))

    new_sound : sound_volume u v ≡ true
    new_sound =
        facts_volume u v
        (record {
          numbered = le_given n n (omega arith) (omega arith);
          name = name_held name (search (and_left, and_right));
          shards = search (and_left, and_right);
          cap = search (and_left, and_right);
          balance = refl;
          status = le-leb 0 t.clock (omega arith);
        })

    -- other volumes are found as before
    found_same : (x : VolumeNo) → x.0 ≤ t.last_volume → lasting_of ws x ≡ lasting_of t.volumes x
    found_same x h =
        let z : (get_or t.volumes i fresh_volume).no.0 ≡ 0 =
        rw (found_at free_volume t.volumes i old found fresh_volume) (eqb-true old.no.0 0 (row_passes free_volume t.volumes 0 i old found)) in
        ap (map_hit lasting)
        (find_set (is_volume x) t.volumes 0 i v fresh_volume (rw z (no_zero x.0)) (numbered_other x.0 n (λ e. omega arith)))

    -- its owner has no other of its name
    name_before : (x : Volume) → has_name a name x ≡ false → same_name x v ≡ false
    unfolding same_name has_name owned_by
    name_before x h =
        not_pass (same_name x v)
        (λ e.
        let used : used_volume x ≡ true = search (and_left, and_right) in
        let owner : same_bytes x.owner.0 a.0 ≡ true = search (and_left, and_right) in
        let bytes : same_bytes (name_bytes x.name) (name_bytes (to_name name)) ≡ true = search (and_left, and_right) in
        not_both (and_both (and_both used owner) (rw (name_bytes_lem name) at bytes)) h)

    name_after : (x : Volume) → has_name a name x ≡ false → same_name v x ≡ false
    unfolding same_name has_name owned_by
    name_after x h =
        not_pass (same_name v x)
        (λ e.
        let used : used_volume x ≡ true = search (and_left, and_right) in
        let owner : same_bytes a.0 x.owner.0 ≡ true = search (and_left, and_right) in
        let bytes : same_bytes (name_bytes (to_name name)) (name_bytes x.name) ≡ true = search (and_left, and_right) in
        not_both
        (and_both (and_both used (same_symmetric x.owner.0 a.0 ∙ owner))
        (same_symmetric (name_bytes x.name) name ∙ rw (name_bytes_lem name) at bytes))
        h)

    others_read : ReadSame u ws
    others_read = record {
      numbers =
          new_number (λ x. x.no.0) t.volumes i v inv.parts.volume_numbers
          (λ j h. omega (arith, volume_le t (get_or t.volumes j v) (all_at (sound_volume t) t.volumes inv.parts.volumes j h v)));
      names =
          clash_set same_name t.volumes i v inv.parts.volume_names
          (λ j h. name_before (get_or t.volumes j v) (none_at (has_name a name) t.volumes free j h v))
          (λ j h. name_after (get_or t.volumes j v) (none_at (has_name a name) t.volumes free j h v));
      entries = λ j h. found_same (get_or t.entries j fresh_entry).volume (entry_le (get_or t.entries j fresh_entry) (all_at (sound_entry t) t.entries inv.parts.entries j h fresh_entry));
      tokens = λ j h w. found_same (get_or t.tokens j fresh_token).volume (token_le (get_or t.tokens j fresh_token) w (all_at (sound_token t) t.tokens inv.parts.tokens j h fresh_token));
    }

    pub create_keeps : Keeps t (created t i v)
    create_keeps =
        keeps_on given_first
        (volumes_keep u ws given_first.whole (length-set t.volumes i v)
        (all_set (sound_volume u) t.volumes i v given_first.whole.parts.volumes new_sound)
        (volumes_change u ws others_read (rest_of given_first.whole.parts)))
