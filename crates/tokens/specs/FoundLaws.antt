-- What a search said, as the row that it found, and the place of that row. Assumes nothing.
use Rattle.std.specs.Prelude.{◌≡◌, Bool, true, cond, List, ℕ, ◌*◌, ◌^◌, ◌<◌, ltb, length, get_or, Option, Some, None}
use Rattle.std.proofs.Common.{sym, mul-le-mul_right, arith, Fits, ltb-true}
use Rattle.std.specs.Int.{w64}
use Rattle.lists.specs.Lists.{first_at, find, hit, miss}
use Rattle.lists.specs.SearchLaws.{first_row_lem, first_miss, first_below}
use Rattle.tokens.specs.Parts.{is_found, place_of}

module _ {A : Type 0} (p : A → Bool) (l : List A) where
  pub found_row : (d : A) (f : Option ℕ) → f ≡ first_at p 0 l → find p l ≡ cond (is_found f) (hit (place_of f) (get_or l (place_of f) d)) miss
  found_row d (Some i) e = first_row_lem p l i (sym e) d
  found_row d None e = first_miss p l (sym e)

  -- the place lies in a table of n rows
  place_below : (n : ℕ) → 0 < n → length l ≡ n → (f : Option ℕ) → f ≡ first_at p 0 l → place_of f < n
  place_below n h k (Some i) e = omega (arith, k, first_below p l 0 i (sym e))
  place_below n h k None e = h

  module _ (f : Option ℕ) (i n : ℕ) (e : f ≡ first_at p 0 l) (q : i ≡ place_of f) (k : length l ≡ n) where
    pub place_in : ltb 0 n ≡ true → i < n
    place_in h = rw q (place_below n (ltb-true 0 n h) k f e)

    pub place_fits : (m : ℕ) → ltb 0 n ≡ true → ltb (n * m) (2 ^ 64) ≡ true → Fits w64 (i * m)
    place_fits m h w =
        let j : i < n = place_in h in
        record { fits = omega (arith, mul-le-mul_right m j, ltb-true (n * m) (2 ^ 64) w) }
