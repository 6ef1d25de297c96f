-- A test over the list of one field says the same of the rows; and a test of two parts, where one fails. Assumes nothing.
use Rattle.std.specs.Prelude.{◌≡◌, Bool, true, false, ◌&&◌, ℕ}
use Rattle.std.proofs.Math.Path.{refl}
use Rattle.std.proofs.Common.{sym}
use mathlib.Core.List.{List, [], ◌∷◌, map}
use Rattle.lists.specs.Lists.{any_of, no_clash}

module _ {A : Type 0} (f : A → ℕ) where
  any_mapped : (p : ℕ → Bool) (l : List A) → any_of p (map f l) ≡ any_of (λ x. p (f x)) l
  any_mapped p [] = refl
  any_mapped p (x ∷ xs) = rw (any_mapped p xs)

  pub clash_mapped : (clash : ℕ → ℕ → Bool) (l : List A) → no_clash clash (map f l) ≡ no_clash (λ x y. clash (f x) (f y)) l
  unfolding no_clash
  clash_mapped clash [] = refl
  clash_mapped clash (x ∷ xs) = rw (any_mapped (clash (f x)) xs, clash_mapped clash xs)

-- two parts of a test
pub first_fails : (a b : Bool) → a ≡ false → false ≡ (a && b)
first_fails a b e = sym (rw e)

pub next_fails : (a b : Bool) → b ≡ false → false ≡ (a && b)
next_fails true b e = sym e
next_fails false b e = refl
