-- The numbers of the puts' paths: the loop that makes them, and the loop that looks for a number. Assumes nothing.
use mathlib.Core.Path.{◌≡◌, refl, sym, ◌∙◌}
use mathlib.Core.Bool.{Bool, true, false}
use mathlib.Core.List.{List, map}
use Prim.Native.Nat.{ℕ, ◌+◌, ◌<◌, ◌≤◌, min}
use native.Mathlib.Nat.{zero-add}
use native.Mathlib.Omega.{arith}
use borrow.Author.Tests.{eq-eqb, ne_eqb}
use borrow.Author.Rules.{rules}
use lib.ListN.{length, get_or, set, take, replicate, length-map, length-take}
use lib.Seq.{get_or-take, take_all}
use Rattle.lists.specs.LoopLaws.{part_length, sizes}
use Rattle.lists.specs.ByteLoopLaws.{FillLoop, fill_start, fill_step_of, fill_end, fill_size}
use Rattle.text.specs.Text.{text_bytes}
use Rattle.rules.specs.declared.VolumeNo.{VolumeNo}
use Rattle.rules.specs.declared.Put.{Put}
use Rattle.rows.specs.Blank.{blank_put}
use Rattle.rows.specs.PathKeys.{key_of}
use Rattle.entries.specs.Keys.{put_key, put_keys, is_key}
use Rattle.entries.proofs.FlagLaws.{FlagLoop, flag_start, flag_end, flag_passed, flag_failed}

-- the loop that makes the numbers of the first k puts, m of them
module _ (n : VolumeNo) (puts : List Put) (k m : ℕ) where
  pub keys_start : m ≡ min k 8 → length puts ≡ 8 → FillLoop (replicate 8 0) 0 (map (put_key n) (take k puts)) m 0 (replicate 8 0)
  keys_start e q =
      fill_start (replicate 8 0) 0 (map (put_key n) (take k puts)) m (omega arith) (omega (arith, length-map (take k puts) (put_key n), part_length puts k 8 m e q))

  module _ (i : ℕ) (out : List ℕ) (h : FillLoop (replicate 8 0) 0 (map (put_key n) (take k puts)) m i out) where
    -- x is the number of put i, and next the numbers with it
    pub keys_step : (x : ℕ) (next : List ℕ) → x ≡ key_of n.0 (text_bytes (get_or puts i blank_put).path) → next ≡ set out i x → i < m
        → FillLoop (replicate 8 0) 0 (map (put_key n) (take k puts)) m (i + 1) next
    keys_step x next e g w =
        let there : get_or (take k puts) i blank_put ≡ get_or puts i blank_put =
        get_or-take k puts i blank_put (omega (arith, length-map (take k puts) (put_key n), length-take k puts, h.source)) in
        rw g (fill_step_of (put_key n) blank_put (replicate 8 0) (take k puts) m i out x h w (rw there e))

    pub keys_end : m ≡ min k 8 → length puts ≡ 8 → m ≤ i → out ≡ put_keys n (take k puts)
    keys_end e q w =
        let l : length (take k puts) ≡ m = part_length puts k 8 m e q in
        let whole = take_all m (map (put_key n) (take k puts)) (omega (arith, length-map (take k puts) (put_key n))) in
        fill_end (replicate 8 0) 0 (map (put_key n) (take k puts)) m i out h w ∙ rw (zero-add m, whole, l)

pub ruleset put-keys = (keys_step, keys_end, fill_size, keys_start, sizes)

-- the loop that looks for a number: next says whether it was found up to place i
module _ (key : ℕ) (keys : List ℕ) (i : ℕ) (b next : Bool) where
  pub key_found : next ≡ true → get_or keys i 0 ≡ key → i < 8 → FlagLoop (is_key key) keys 8 i b → FlagLoop (is_key key) keys 8 (i + 1) next
  key_found g e k h = flag_passed 0 (is_key key) keys 8 i b next true (sym (eq-eqb (get_or keys i 0) key e)) k h g refl

  pub key_past : next ≡ b → (get_or keys i 0 ≡ key → ⊥) → i < 8 → FlagLoop (is_key key) keys 8 i b → FlagLoop (is_key key) keys 8 (i + 1) next
  key_past g e k h = flag_failed 0 (is_key key) keys 8 i b next false (sym (ne_eqb (get_or keys i 0) key e)) k h g refl

pub ruleset has-keys = (key_found, key_past, flag_end, flag_start, rules)
