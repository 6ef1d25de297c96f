-- The loops over the rows of a table that stand for those of another: g is the row that a row stands for, p the test of such a row, b what the
-- code's test said of row i, and d stands for a row past the end. Assumes nothing.
use Rattle.std.specs.Prelude.{Some}
use mathlib.Core.Path.{◌≡◌, refl, sym, ◌∙◌, ap}
use mathlib.Core.Bool.{Bool, true, false, cond}
use mathlib.Core.List.{List, [], ◌∷◌, map}
use Prim.Native.Nat.{ℕ, ◌+◌, ◌<◌}
use lib.ListN.{get_or, set, replicate, get_or-map}
use Rattle.lists.specs.Lists.{first_at}
use Rattle.lists.specs.LoopLaws.{FindLoop, find_here, find_on, find_end, find_start, sizes}
use Rattle.lists.specs.ByteLoopLaws.{FillLoop, length_mapped, Fills-of}
use Rattle.entries.specs.Marks.{cleared_by}
use Rattle.entries.specs.MarkLaws.{row_marked, row_unmarked}

module _ {A B : Type 0} (d : A) (g : A → B) (p : B → Bool) (l : List A) (i : ℕ) where
  said : (b : Bool) → b ≡ p (g (get_or l i d)) → b ≡ p (get_or (map g l) i (g d))
  said b e = e ∙ ap p (sym (get_or-map g l i d))

  module _ (n : ℕ) where
    pub mapped_here : (b : Bool) → b ≡ true → b ≡ p (g (get_or l i d)) → i < n → FindLoop p (map g l) n i → Some i ≡ first_at p 0 (map g l)
    mapped_here b t e k h = find_here (g d) p (map g l) n i b h k (said b e) t

    pub mapped_on : (b : Bool) → b ≡ false → b ≡ p (g (get_or l i d)) → i < n → FindLoop p (map g l) n i → FindLoop p (map g l) n (i + 1)
    mapped_on b t e k h = find_on (g d) p (map g l) n i b h k (said b e) t

    pub mapped_past : p (g (get_or l i d)) ≡ false → i < n → FindLoop p (map g l) n i → FindLoop p (map g l) n (i + 1)
    mapped_past e = mapped_on false refl (sym e)

    module _ (out next : List Bool) where
      pub mapped_marked : (b : Bool) → next ≡ set out i b → b ≡ p (g (get_or l i d)) → i < n → FillLoop (replicate n false) 0 (map p (map g l)) n i out
          → FillLoop (replicate n false) 0 (map p (map g l)) n (i + 1) next
      mapped_marked b q e k h = row_marked (g d) p (map g l) n i out next b q (said b e) k h

      pub mapped_unmarked : next ≡ out → p (g (get_or l i d)) ≡ false → i < n → FillLoop (replicate n false) 0 (map p (map g l)) n i out
          → FillLoop (replicate n false) 0 (map p (map g l)) n (i + 1) next
      mapped_unmarked q e k h = row_unmarked (g d) p (map g l) n i out next q (sym (said false (sym e))) k h

pub ruleset mapped-finds = (find_end, find_start, length_mapped, sizes)

pub ruleset mapped-fills = (length_mapped, Fills-of)

-- the rows that the rows of a cleared table stand for
map_cond : {A B : Type 0} (g : A → B) (b : Bool) (x y : A) → g (cond b x y) ≡ cond b (g x) (g y)
map_cond g true x y = refl
map_cond g false x y = refl

pub map_cleared : {A B : Type 0} (g : A → B) (ms : List Bool) (z : A) (l : List A) → map g (cleared_by ms z l) ≡ cleared_by ms (g z) (map g l)
unfolding cleared_by
map_cleared g [] z l = refl
map_cleared g (b ∷ bs) z [] = refl
map_cleared g (b ∷ bs) z (x ∷ xs) = rw (map_cond g b z x, map_cleared g bs z xs)
