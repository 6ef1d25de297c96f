-- The loop that stores the keys of the first n puts, and the loops that compare the puts of the same key. Assumes nothing.
use mathlib.Core.Path.{◌≡◌, refl, sym, ◌∙◌, ap}
use mathlib.Core.Bool.{Bool, true, false}
use mathlib.Core.List.{List, map}
use Prim.Native.Nat.{ℕ, ◌+◌, ◌<◌, ◌≤◌}
use native.Mathlib.Nat.{zero-add}
use native.Mathlib.Omega.{arith}
use borrow.Author.Rules.{rules}
use lib.ListN.{length, take, get_or, set, replicate, length-map, length-take, length-replicate}
use lib.Seq.{get_or-take, paste, take-paste}
use Rattle.lists.specs.Lists.{no_clash}
use Rattle.lists.specs.BoolLaws.{not_pass}
use Rattle.lists.specs.ByteLaws.{same_eq}
use Rattle.lists.specs.RowLaws.{map_row, rows_length}
use Rattle.lists.specs.LoopLaws.{AnyLoop, any_found_part, any_none, any_step_part, ClashLoop, clash_found_part, clash_step_part}
use Rattle.lists.specs.ByteLoopLaws.{FillLoop, fill_start, fill_step_of, fill_end}
use Rattle.text.specs.Text.{text_bytes}
use Rattle.rules.specs.declared.Put.{Put}
use Rattle.rules.specs.Sound.{same_path}
use Rattle.rows.specs.Blank.{blank_put}
use Rattle.sound_rows.specs.PathKeys.{put_key}

-- the keys of the first i puts are stored
abbrev pub PutLoop : List Put → ℕ → ℕ → List ℕ → Type 0
PutLoop l n i out = FillLoop (replicate 8 0) 0 (map put_key l) n i out

module _ (l : List Put) (n : ℕ) where
  pub puts_start : n ≤ 8 → length l ≡ 8 → PutLoop l n 0 (replicate 8 0)
  puts_start h e =
      fill_start (replicate 8 0) 0 (map put_key l) n (omega (arith, length-replicate {A = ℕ} 8 0)) (omega (arith, length-map l put_key))

  module _ (i : ℕ) (out : List ℕ) (h : PutLoop l n i out) where
    pub puts_stored : (x : ℕ) → i < n → x ≡ put_key (get_or l i blank_put) → PutLoop l n (i + 1) (set out i x)
    puts_stored x k e = fill_step_of put_key blank_put (replicate 8 0) l n i out x h k e

    pub puts_end : n ≤ i → take n out ≡ take n (map put_key l)
    puts_end k =
        ap (take n) (fill_end (replicate 8 0) 0 (map put_key l) n i out h k)
        ∙ ap (λ (x : ℕ). take x (paste (replicate 8 0) 0 (map put_key l) n)) (sym (zero-add n))
        ∙ take-paste (replicate 8 0) 0 (map put_key l) n (omega arith) h.source

    pub puts_size : length out ≡ 8
    puts_size = h.size ∙ length-replicate {A = ℕ} 8 0

pub ruleset puts = (puts_stored, puts_end, puts_size, puts_start, rows_length, rules)

-- puts of the same path have the same key
same_put : (a b : Put) → same_path a b ≡ true → put_key b ≡ put_key a
unfolding same_path
same_put a b h = rw (same_eq (text_bytes a.path) (text_bytes b.path) h)

-- the loops over the first c puts, n of them, at the put i and at the later put j
module _ (l : List Put) (c n i : ℕ) where
  module _ (h : ClashLoop same_path (take c l) n i) (k : i < n) (j : ℕ) (m : AnyLoop (same_path (get_or l i blank_put)) (take c l) (i + 1) n j) where
    pub put_again : (b : Bool) → b ≡ true → j < n → b ≡ same_path (get_or l i blank_put) (get_or l j blank_put) → false ≡ no_clash same_path (take c l)
    put_again b t w e =
        clash_found_part blank_put same_path l c n i true h k (any_found_part blank_put (same_path (get_or l i blank_put)) l c (i + 1) n j b m w e t) refl

    pub put_once : n ≤ j → ClashLoop same_path (take c l) n (i + 1)
    put_once w = clash_step_part blank_put same_path l c n i false h k (any_none (same_path (get_or l i blank_put)) (take c l) (i + 1) n j m w) refl

  module _ (k : i < n) (j : ℕ) (m : AnyLoop (same_path (get_or l i blank_put)) (take c l) (i + 1) n j) (w : j < n) where
    -- they are compared, and differ
    pub put_differs : (b : Bool) → b ≡ false → b ≡ same_path (get_or l i blank_put) (get_or l j blank_put)
        → AnyLoop (same_path (get_or l i blank_put)) (take c l) (i + 1) n (j + 1)
    put_differs b t e = any_step_part blank_put (same_path (get_or l i blank_put)) l c (i + 1) n j b m w e t

    -- they are of other keys
    pub put_other : (ks : List ℕ) → (get_or ks j 0 ≡ get_or ks i 0 → ⊥) → take n ks ≡ take n (map put_key l)
        → AnyLoop (same_path (get_or l i blank_put)) (take c l) (i + 1) n (j + 1)
    put_other ks d e = put_differs false refl (sym (not_pass (same_path (get_or l i blank_put) (get_or l j blank_put)) (λ t. d (same t))))
      where
        key : (x : ℕ) → x < n → get_or ks x 0 ≡ put_key (get_or l x blank_put)
        key x q =
            sym (get_or-take n ks x 0 q) ∙ ap (λ (y : List ℕ). get_or y x 0) e ∙ get_or-take n (map put_key l) x 0 q
            ∙ map_row put_key l x blank_put 0 (omega (arith, m.size, length-take c l))

        same : same_path (get_or l i blank_put) (get_or l j blank_put) ≡ true → get_or ks j 0 ≡ get_or ks i 0
        same t = key j w ∙ same_put (get_or l i blank_put) (get_or l j blank_put) t ∙ sym (key i k)
