-- Searches, tests, counts and sums are those of the library, so that a chain of iterators meets a clause that cites them. Assumes nothing.
use Rattle.std.specs.Prelude.{◌≡◌, Bool, true, ◌&&◌, List, [], ◌∷◌, ℕ, suc, refl, fold, position}
use Rattle.std.specs.List.{position_from}
use Rattle.std.proofs.Common.{add-one, sym, ◌∙◌}
use Rattle.std.proofs.Math.Bool.{and-true, and_assoc}
use Rattle.std.proofs.lemmas.Iterator.Adapters.{position_from-zero}
use Rattle.lists.specs.Lists.{first_at, all_of}

pub position_found : {A : Type 0} (p : A → Bool) (i : ℕ) (l : List A) → position_from p i l ≡ first_at p i l
unfolding first_at
position_found p i [] = refl
position_found p i (x ∷ xs) = rw (add-one, position_found p (suc i) xs)

pub position_first : {A : Type 0} (p : A → Bool) (l : List A) → position p l ≡ first_at p 0 l
position_first p l = position_from-zero p l ∙ position_found p 0 l

-- a fold that goes on past an element that fails
pub fold_all_from : {A : Type 0} (p : A → Bool) (b : Bool) (l : List A) → fold (λ all x. all && p x) b l ≡ (b && all_of p l)
fold_all_from p b [] = sym (and-true b)
fold_all_from p b (x ∷ xs) = fold_all_from p (b && p x) xs ∙ and_assoc b (p x) (all_of p xs)

pub fold_all : {A : Type 0} (p : A → Bool) (l : List A) → fold (λ all x. all && p x) true l ≡ all_of p l
fold_all p l = fold_all_from p true l
