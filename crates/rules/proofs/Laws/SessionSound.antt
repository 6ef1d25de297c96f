-- Open and stage leave the slot sound. Assumes nothing.
use Rattle.std.specs.Prelude.{◌≡◌, refl, true, ◌&&◌, List, [], ◌∷◌, ◌++◌, ℕ, ◌+◌, ◌<◌, leb, set}
use Rattle.std.proofs.Math.Path.{ap, sym}
use Rattle.std.proofs.Common.{◌∙◌, add-one, arith, length-take, take-suc-set}
use borrow.Author.Tests.{le-leb}
use Rattle.std.proofs.Math.ListN.{length-set}
use Rattle.std.proofs.Math.Seq.{take-set-lt, map-set_same}
use Rattle.lists.specs.Lists.{miss, hit, find, no_clash}
use Rattle.lists.specs.Bytes.{same_bytes}
use Rattle.lists.specs.ByteLaws.{same_eq}
use Rattle.lists.specs.BoolLaws.{and_left, and_right, and_both}
use Rattle.lists.specs.TestLaws.{all_append}
use Rattle.lists.specs.SearchLaws.{found_at, found_below, row_passes, miss_none}
use Rattle.lists.specs.RowLaws.{clash_map}
use Rattle.text.specs.Text.{is_path, text_bytes}
use Rattle.rules.specs.declared.VolumeNo.{VolumeNo}
use Rattle.rules.specs.declared.TokenNo.{TokenNo}
use Rattle.rules.specs.declared.Hash.{Hash}
use Rattle.rules.specs.declared.Volume.{Volume}
use Rattle.rules.specs.declared.Token.{Token}
use Rattle.rules.specs.declared.Put.{Put}
use Rattle.rules.specs.declared.Session.{Session}
use Rattle.rules.specs.declared.Tables.{Tables}
use Rattle.rules.specs.Limits.{put_rows, size_limit}
use Rattle.rules.specs.Fresh.{fresh_put}
use Rattle.rules.specs.Tables.{busy, staged, is_put, is_token, is_volume, volume_of, token_of}
use Rattle.rules.specs.Sound.{sound_volume, sound_token, sound_put, same_path}
use Rattle.rules.proofs.Laws.SoundParts.{Parts}
use Rattle.rules.specs.SessionCalls.{opened, new_put, restaged, staged_next}
use Rattle.rules.proofs.Laws.SetLaws.{all_set, clash_last}
use Rattle.rules.proofs.Laws.NumberLaws.{numbered_used, found_passes}
use Rattle.rules.proofs.Laws.RowFacts.{volume_facts, token_facts, SessionFacts, session_facts, facts_session}
use Rattle.rules.proofs.Laws.Invariant.{SlotSound}
use Rattle.rules.proofs.Laws.HeldText.{path_held}
use Rattle.text.specs.TextLaws.{text_bytes_lem}

abbrev path_of : Put → List ℕ
path_of q = text_bytes q.path

-- open
module _ (t : Tables) (parts : Parts t) where
  pub opened_sound : (m : TokenNo) (i : ℕ) (k : Token) → token_of m t ≡ hit i k → (x : VolumeNo) (j : ℕ) (v : Volume) → volume_of x t ≡ hit j v
      → SlotSound t (opened k.no v.no v.version)
  unfolding token_of volume_of no_clash
  opened_sound m i k e x j v f = record {
    places = refl;
    session =
        facts_session t (opened k.no v.no v.version)
        (record {
          token =
              (token_facts t k (numbered_used m.0 k.no.0 (row_passes (is_token m) t.tokens 0 i k e))
              (found_passes (is_token m) (sound_token t) t.tokens i k parts.tokens e)).numbered;
          volume =
              (volume_facts t v (numbered_used x.0 v.no.0 (row_passes (is_volume x) t.volumes 0 j v f))
              (found_passes (is_volume x) (sound_volume t) t.volumes j v parts.volumes f)).numbered;
          count = refl;
          puts = refl;
          paths = refl;
        });
  }

-- stage
module _ (t : Tables) (s : Session) (h : SlotSound t s) (b : busy s ≡ true) (path : List ℕ) (size : ℕ) (hash : Hash)
    (fits : (is_path path && leb size size_limit) ≡ true) where
  abbrev p : Put
  p = new_put path size hash

  facts : SessionFacts t s
  facts = session_facts t s b h.session

  put_sound : sound_put p ≡ true
  unfolding sound_put
  put_sound = and_both (path_held path (and_left (is_path path) (leb size size_limit) fits)) (and_right (is_path path) (leb size size_limit) fits)

  -- in the place of the put of this path
  module _ (j : ℕ) (old : Put) (e : find (is_put path) (staged s) ≡ hit j old) where
    abbrev next : Session
    next = restaged s j p

    staged_next_lem : staged next ≡ set (staged s) j p
    staged_next_lem =
        take-set-lt s.count s.puts j p
        (omega (arith, found_below (is_put path) (staged s) j old e, length-take s.count s.puts))

    paths_same : no_clash same_path (set (staged s) j p) ≡ no_clash same_path (staged s)
    unfolding same_path is_put
    paths_same =
        let bytes : text_bytes p.path ≡ text_bytes old.path =
        text_bytes_lem path ∙ sym (same_eq (text_bytes old.path) path (row_passes (is_put path) (staged s) 0 j old e)) in
        let f = map-set_same path_of (staged s) j p fresh_put (bytes ∙ ap path_of (sym (found_at (is_put path) (staged s) j old e fresh_put))) in
        clash_map same_path same_bytes path_of (set (staged s) j p) (λ x y. refl)
        ∙ ap (no_clash same_bytes) f
        ∙ sym (clash_map same_path same_bytes path_of (staged s) (λ x y. refl))

    pub replaced : SlotSound t next
    replaced = record {
      places = length-set s.puts j p ∙ h.places;
      session =
          facts_session t next
          (record {
            token = facts.token;
            volume = facts.volume;
            count = facts.count;
            puts = rw staged_next_lem (all_set sound_put (staged s) j p facts.puts put_sound);
            paths = rw staged_next_lem (paths_same ∙ facts.paths);
          });
    }

  -- in the next place
  module _ (e : find (is_put path) (staged s) ≡ miss) (room : s.count < put_rows) where
    abbrev added : Session
    added = staged_next s p

    staged_added : staged added ≡ staged s ++ (p ∷ [])
    staged_added = rw add-one (take-suc-set s.puts s.count p (omega (arith, h.places)))

    path_new : (x : Put) → same_path x p ≡ is_put path x
    unfolding same_path is_put
    path_new x = rw (text_bytes_lem path)

    pub appended : SlotSound t added
    appended = record {
      places = length-set s.puts s.count p ∙ h.places;
      session =
          facts_session t added
          (record {
            token = facts.token;
            volume = facts.volume;
            count = le-leb (s.count + 1) put_rows (omega arith);
            puts = rw (staged_added, all_append sound_put (staged s) (p ∷ [])) (and_both facts.puts (and_both put_sound refl));
            paths = rw staged_added (clash_last same_path (is_put path) (staged s) p path_new (miss_none (is_put path) (staged s) 0 e) facts.paths);
          });
    }
