-- Tests of the first rows of a table, of a table that was mapped, and of one thing beside each row. Assumes nothing.
use Rattle.std.specs.Prelude.{◌≡◌, refl, Bool, true, false, ◌&&◌, ◌||◌, List, [], ◌∷◌, map, ℕ, ◌<◌, min, length, take, drop}
use Rattle.std.proofs.Common.{ap, sym, ◌∙◌, arith, length-take, take-append-drop, get_or-take}
use Rattle.lists.specs.Lists.{all_of, any_of, no_clash}
use Rattle.lists.specs.BoolLaws.{and_left}
use Rattle.lists.specs.TestLaws.{all_append, clash_at, at_clash}
use Rattle.lists.specs.RowLaws.{map_after, all_same, any_same}

module _ {A : Type 0} (n : ℕ) (l : List A) where
  -- every row passes, so each of the first n does
  pub all_take : (p : A → Bool) → all_of p l ≡ true → all_of p (take n l) ≡ true
  all_take p e =
      and_left (all_of p (take n l)) (all_of p (drop n l)) (sym (all_append p (take n l) (drop n l)) ∙ ap (all_of p) (take-append-drop n l) ∙ e)

  -- no row clashes, so none of the first n does
  pub clash_take : (clash : A → A → Bool) (d : A) → no_clash clash l ≡ true → no_clash clash (take n l) ≡ true
  clash_take clash d e =
      at_clash clash (take n l) d
      (λ i j h k.
      let m : j < min n (length l) = rw (length-take n l) at k in
      rw (get_or-take n l i d (omega arith), get_or-take n l j d (omega arith)) (clash_at clash l e i j h (omega arith) d))

-- a table that was mapped: what a test says of its rows
module _ {A B : Type 0} (f : A → B) (p : B → Bool) (q : A → Bool) (l : List A) (e : (x : A) → p (f x) ≡ q x) where
  pub all_map : all_of p (map f l) ≡ all_of q l
  all_map = all_same p q (map f l) l (map_after p f q l e)

  pub any_map : any_of p (map f l) ≡ any_of q l
  any_map = any_same p q (map f l) l (map_after p f q l e)

-- a test that all rows share
pub any_and : {A : Type 0} (b : Bool) (p : A → Bool) (l : List A) → any_of (λ x. b && p x) l ≡ (b && any_of p l)
any_and true p [] = refl
any_and false p [] = refl
any_and true p (x ∷ xs) = ap (λ (c : Bool). p x || c) (any_and true p xs)
any_and false p (x ∷ xs) = any_and false p xs
