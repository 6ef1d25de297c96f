-- A turn of a loop that stores what f gives of each row, in a table that is all zeros at first. Assumes nothing.
use Rattle.std.specs.Prelude.{◌≡◌, List, map, ℕ, ◌+◌, ◌<◌, get_or, set, replicate}
use Rattle.std.proofs.Common.{sym, ◌∙◌, arith}
use Rattle.std.proofs.lemmas.List.{length-map, get_or-replicate}
use Rattle.lists.specs.RowLaws.{map_row}
use Rattle.lists.specs.ByteLoopLaws.{FillLoop, fill_same, fill_step_of}

module _ {A : Type 0} (f : A → ℕ) (d : A) (l : List A) (n i : ℕ) (out next : List ℕ) (h : FillLoop (replicate n 0) 0 (map f l) n i out) (k : i < n) where
  -- 0 is there already
  pub fill_zero : f (get_or l i d) ≡ 0 → next ≡ out → FillLoop (replicate n 0) 0 (map f l) n (i + 1) next
  fill_zero e q =
      rw q
      (fill_same (replicate n 0) (map f l) n i out 0 h k
      (map_row f l i d 0 (omega (arith, h.source, length-map l f)) ∙ e ∙ sym (get_or-replicate n i 0 0 k)))

  pub fill_stored : (x : ℕ) → x ≡ f (get_or l i d) → next ≡ set out i x → FillLoop (replicate n 0) 0 (map f l) n (i + 1) next
  fill_stored x e q = rw q (fill_step_of f d (replicate n 0) l n i out x h k e)
