-- What kept entries give back: an entry's path is not read, so that what it gives back is what the entry of the empty journal gives. Assumes nothing.
use mathlib.Core.Path.{◌≡◌, refl, sym, ◌∙◌}
use mathlib.Core.Bool.{Bool, true, false}
use mathlib.Core.List.{List, [], ◌∷◌, map}
use Prim.Native.Nat.{ℕ, ◌+◌, ◌<◌, ◌≤◌}
use native.Mathlib.Omega.{arith}
use borrow.Author.Rules.{rules}
use lib.ListN.{length, take, get_or, length-map, drop_of_length-le}
use lib.Seq.{take-nil}
use Rattle.lists.specs.Lists.{Hit, miss, hit, find, sum_of}
use Rattle.lists.specs.RowLaws.{rows_length, map_row, sum_map}
use Rattle.text.specs.Text.{Text}
use Rattle.text.specs.Text.{path_limit, to_text}
use Rattle.rules.specs.declared.Volume.{Volume}
use Rattle.rules.specs.declared.Entry.{Entry}
use Rattle.rules.specs.declared.Relay.{Relay}
use Rattle.rules.specs.declared.RelayNo.{RelayNo}
use Rattle.rules.specs.Tables.{is_volume}
use Rattle.rules.specs.Relays.{shard_bytes, bytes_on, shards_on, lightened}
use Rattle.rows.specs.Blank.{blank_entry}
use Rattle.rows.specs.ShardBytes.{shard_none, shard_some}
use Rattle.placing.specs.GiveLaws.{map_agrees}
use Rattle.entries.specs.Marks.{marked}
use Rattle.entries.specs.MarkLaws.{GiveLoop, give_start, give_end, give_marked, give_kept}
use Rattle.kept.specs.declared.KeptEntry.{KeptEntry}
use Rattle.kept.specs.Kept.{bytes_in, entry_in}
use Rattle.kept_entries.specs.KeptEntries.{entries_in}
use Rattle.kept_entries.proofs.RowLaws.{blank_kept}

-- the entry without its path
no_bytes : (at n : ℕ) → [] ≡ take path_limit (bytes_in [] at n)
no_bytes at n = sym (rw (drop_of_length-le {A = ℕ} [] {i = at} (omega arith), take-nil {A = ℕ} n, take-nil {A = ℕ} path_limit))

pub bare_made : (k : KeptEntry) (x : Text) → x ≡ to_text []
    → record { volume = k.volume; path = x; size = k.size; hash = k.hash; placement = k.placement } ≡ entry_in [] k
bare_made k x e = rw (e, ← no_bytes k.at k.len)

-- what an entry has on a relay is not by its path
module _ (j : List ℕ) (vs : List Volume) where
  same_shards : (x : KeptEntry) → shard_bytes vs (entry_in [] x) ≡ shard_bytes vs (entry_in j x)
  same_shards x = go (find (is_volume x.volume) vs) refl
    where
      go : (h : Hit Volume) → find (is_volume x.volume) vs ≡ h → shard_bytes vs (entry_in [] x) ≡ shard_bytes vs (entry_in j x)
      go miss q = shard_none vs (entry_in [] x) q ∙ sym (shard_none vs (entry_in j x) q)
      go (hit i v) q = shard_some vs (entry_in [] x) i v q ∙ sym (shard_some vs (entry_in j x) i v q)

  same_bytes_lem : (n : RelayNo) (x : KeptEntry) → bytes_on vs n (entry_in [] x) ≡ bytes_on vs n (entry_in j x)
  unfolding bytes_on
  same_bytes_lem n x = rw (same_shards x)

  same_held : (n : RelayNo) (x : KeptEntry) → shards_on n (entry_in [] x) ≡ shards_on n (entry_in j x)
  unfolding shards_on
  same_held n x = refl

  lightened_same : (l : List KeptEntry) (r : Relay) → lightened vs (map (entry_in []) l) r ≡ lightened vs (map (entry_in j) l) r
  unfolding lightened
  lightened_same l r =
      let a : sum_of (bytes_on vs r.no) (map (entry_in []) l) ≡ sum_of (bytes_on vs r.no) (map (entry_in j) l) =
      sum_map (entry_in []) l (bytes_on vs r.no) (λ x. bytes_on vs r.no (entry_in j x)) (same_bytes_lem r.no) ∙ sym (sum_map (entry_in j) l (bytes_on vs r.no) (λ x. bytes_on vs r.no (entry_in j x)) (λ x. refl)) in
      let b : sum_of (shards_on r.no) (map (entry_in []) l) ≡ sum_of (shards_on r.no) (map (entry_in j) l) =
      sum_map (entry_in []) l (shards_on r.no) (λ x. shards_on r.no (entry_in j x)) (same_held r.no) ∙ sym (sum_map (entry_in j) l (shards_on r.no) (λ x. shards_on r.no (entry_in j x)) (λ x. refl)) in
      rw (a, b)

-- the marked rows of a table that was mapped
marked_map : {A B : Type 0} (g : A → B) (ms : List Bool) (l : List A) → marked ms (map g l) ≡ map g (marked ms l)
unfolding marked
marked_map g [] l = refl
marked_map g (b ∷ bs) [] = refl
marked_map g (true ∷ bs) (x ∷ xs) = rw (marked_map g bs xs)
marked_map g (false ∷ bs) (x ∷ xs) = marked_map g bs xs

-- the loop over the kept entries
module _ (vs : List Volume) (rows : List KeptEntry) (ms : List Bool) (rs₀ : List Relay) where
  pub kept_start : length rows ≡ 64 → length ms ≡ 64 → GiveLoop vs (entries_in [] rows) ms rs₀ rs₀ 0
  kept_start e f = give_start vs (entries_in [] rows) ms rs₀ (length-map rows (entry_in []) ∙ e) f

  module _ (rs : List Relay) (i : ℕ) (h : GiveLoop vs (entries_in [] rows) ms rs₀ rs i) where
    pub kept_end : 64 ≤ i → (j : List ℕ) → rs ≡ map (lightened vs (marked ms (entries_in j rows))) rs₀
    kept_end k j =
        give_end vs (entries_in [] rows) ms rs₀ rs i h k
        ∙ map_agrees (lightened vs (marked ms (entries_in [] rows))) (lightened vs (marked ms (entries_in j rows))) rs₀
        (λ r. rw (marked_map (entry_in []) ms rows, marked_map (entry_in j) ms rows) (lightened_same j vs (marked ms rows) r))

    module _ (k : i < 64) (b : Bool) (e : b ≡ get_or ms i false) where
      -- x is the entry without its path, got what the code was given for it, and next the relays after it
      pub kept_gave : (next got : List Relay) (x : Entry) → b ≡ true → next ≡ got → got ≡ map (lightened vs (x ∷ [])) rs → x ≡ entry_in [] (get_or rows i blank_kept)
          → GiveLoop vs (entries_in [] rows) ms rs₀ next (i + 1)
      kept_gave next got x t g f q =
          let there : x ≡ get_or (entries_in [] rows) i blank_entry =
          q ∙ sym (map_row (entry_in []) rows i blank_kept blank_entry (omega (arith, h.size, length-map rows (entry_in [])))) in
          give_marked vs (entries_in [] rows) ms rs₀ rs i h k b e next got t g (rw there at f)

      pub kept_stays : (next : List Relay) → b ≡ false → next ≡ rs → GiveLoop vs (entries_in [] rows) ms rs₀ next (i + 1)
      kept_stays next t f = give_kept vs (entries_in [] rows) ms rs₀ rs i h k b e next t f

pub ruleset kept_Gives = (kept_gave, kept_stays, kept_end, kept_start, rows_length, rules)
