-- Laws of store_all: the puts of a commit are stored as their entries. Assumes nothing.
use Rattle.std.specs.Prelude.{◌≡◌, ◌&&◌, ℕ, ◌+◌, ◌≤◌, length}
use Rattle.std.proofs.Math.Path.{refl, ap, sym, fun_ext}
use Rattle.std.proofs.Common.{◌∙◌, eq-eqb}
use Rattle.std.proofs.Math.Bool.{Bool, true}
use mathlib.Core.List.{List, [], ◌∷◌, map}
use Rattle.std.proofs.Math.ListN.{get_or-map}
use Rattle.lists.specs.Lists.{find, all_of, count_if, no_clash}
use Rattle.lists.specs.Bytes.{same_bytes}
use Rattle.lists.specs.BoolLaws.{and_both}
use Rattle.lists.specs.TestLaws.{at_all}
use Rattle.lists.specs.RowLaws.{map_after, count_same, clash_map}
use Rattle.lists.specs.ByteLaws.{same_symmetric}
use Rattle.text.specs.Text.{text_bytes}
use Rattle.text.specs.TextLaws.{text_bytes_lem}
use Rattle.rules.specs.declared.VolumeNo.{VolumeNo}
use Rattle.rules.specs.declared.Entry.{Entry}
use Rattle.rules.specs.Fresh.{fresh_put, fresh_placement}
use Rattle.rules.specs.Tables.{given, numbered, used_entry, in_volume, is_entry, is_put}
use Rattle.rules.specs.Commit.{is_replaced, is_new_path, store_at, store_all}
use Rattle.rules.specs.Sound.{same_entry, same_path}
use Rattle.rules.proofs.Laws.TakeLaws.{any_map, any_and}
use Rattle.rules.proofs.Laws.LoadLaws.{Staged, put_in, place_in, entry_in}
use Rattle.rules.proofs.Laws.StoreLaws.{store_one, stored, replaced_by, is_new, Ready}

-- the puts of a commit are stored as their entries
module _ (n : VolumeNo) where
  path_test : (z : Staged) → is_entry n (text_bytes z.0.path) ≡ same_entry (entry_in n z)
  unfolding is_entry same_entry
  path_test z =
      let path = text_bytes z.0.path in
      fun_ext
      (λ x. ap (λ (b : Bool). numbered n.0 x.volume.0 && b) (same_symmetric (text_bytes x.path) path ∙ ap (λ (l : List ℕ). same_bytes l (text_bytes x.path)) (sym (text_bytes_lem path))))

  pub store_all_lem : (zs : List Staged) (es : List Entry) → store_all n (map put_in zs) (map place_in zs) es ≡ stored (map (entry_in n) zs) es
  unfolding store_all stored store_one
  store_all_lem [] es = refl
  store_all_lem (z ∷ zs) es =
      rw (path_test z) (store_all_lem zs (store_at es (entry_in n z) (find (same_entry (entry_in n z)) es)))

  replaced_row : (zs : List Staged) (x : Entry) → is_replaced n (map put_in zs) x ≡ replaced_by (map (entry_in n) zs) x
  unfolding is_replaced replaced_by is_put same_entry
  replaced_row zs x =
      let path = text_bytes x.path in
      let p : Staged → Bool = λ z. same_bytes (text_bytes z.0.path) path in
      ap (λ (b : Bool). in_volume n x && b) (any_map put_in (is_put path) p zs (λ z. refl))
      ∙ sym (any_and (in_volume n x) p zs)
      ∙ sym (any_map (entry_in n) (λ e. same_entry e x) (λ z. in_volume n x && p z) zs (λ z. rw (text_bytes_lem (text_bytes z.0.path))))

  pub replaced_same : (zs : List Staged) → is_replaced n (map put_in zs) ≡ replaced_by (map (entry_in n) zs)
  replaced_same zs = fun_ext (replaced_row zs)

  new_count : (zs : List Staged) (es : List Entry) → count_if (is_new_path n es) (map put_in zs) ≡ count_if (is_new es) (map (entry_in n) zs)
  unfolding is_new_path is_new
  new_count zs es =
      let q : Staged → Bool = λ z. is_new es (entry_in n z) in
      count_same (is_new_path n es) (is_new es) (map put_in zs) (map (entry_in n) zs)
      (map_after (is_new_path n es) put_in q zs (λ z. rw (path_test z)) ∙ sym (map_after (is_new es) (entry_in n) q zs (λ z. refl)))

  module _ (g : given n.0 ≡ true) (zs : List Staged) (es : List Entry) where
    new_apart : no_clash same_path (map put_in zs) ≡ true → no_clash same_entry (map (entry_in n) zs) ≡ true
    unfolding same_path same_entry
    new_apart e =
        let c : Staged → Staged → Bool = λ x y. same_path x.0 y.0 in
        let one : numbered n.0 n.0 ≡ true = and_both g (eq-eqb n.0 n.0 refl) in
        sym (clash_map c same_entry (entry_in n) zs (λ x y. rw (text_bytes_lem (text_bytes x.0.path), text_bytes_lem (text_bytes y.0.path)) (ap (λ (b : Bool). b && c x y) (sym one)))) ∙ clash_map c same_path put_in zs (λ x y. refl) ∙ e

    new_used : all_of used_entry (map (entry_in n) zs) ≡ true
    new_used = at_all used_entry (map (entry_in n) zs) (entry_in n (fresh_put, fresh_placement)) (λ j h. rw (get_or-map (entry_in n) zs j (fresh_put, fresh_placement)) g)

    -- a session's puts can be stored where the rows suffice
    pub puts_ready : no_clash same_entry es ≡ true → no_clash same_path (map put_in zs) ≡ true
        → count_if used_entry es + count_if (is_new_path n es) (map put_in zs) ≤ length es → Ready (map (entry_in n) zs) es
    puts_ready apart paths room =
        record {
          apart = apart;
          new_apart = new_apart paths;
          new_used = new_used;
          room = rw (new_count zs es) at room;
        }
