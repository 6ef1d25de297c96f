-- Laws of same_bytes and starts_with: what they say of the lists. Assumes nothing.
use Rattle.std.specs.Prelude.{◌≡◌, refl, true, false, List, [], ◌∷◌, ◌++◌, ℕ, ◌<◌, ◌≤◌, eqb, length, drop, take}
use Rattle.std.proofs.Common.{ap, ap₂, sym, ◌∙◌, arith, take-append-drop, take-take}
use Rattle.std.proofs.lemmas.Bool.{false≢true}
use borrow.Author.Tests.{eq-eqb, eqb-true}
use Rattle.std.proofs.Math.Seq.{take-length}
use Rattle.lists.specs.Bytes.{same_bytes, starts_with}
use Rattle.lists.specs.BoolLaws.{and_left, and_right, and_both, same_test, not_pass}

-- the same lists, and back
pub same_eq : (a b : List ℕ) → same_bytes a b ≡ true → a ≡ b
same_eq [] [] e = refl
same_eq [] (y ∷ ys) e = absurd (false≢true e)
same_eq (x ∷ xs) [] e = absurd (false≢true e)
same_eq (x ∷ xs) (y ∷ ys) e =
    ap₂ ◌∷◌ (eqb-true x y (and_left (eqb x y) (same_bytes xs ys) e)) (same_eq xs ys (and_right (eqb x y) (same_bytes xs ys) e))

pub same_self : (a : List ℕ) → same_bytes a a ≡ true
same_self [] = refl
same_self (x ∷ xs) = and_both (eq-eqb x x refl) (same_self xs)

pub same_symmetric : (a b : List ℕ) → same_bytes a b ≡ same_bytes b a
same_symmetric a b =
    same_test (same_bytes a b) (same_bytes b a) (λ e. rw (same_eq a b e) (same_self b)) (λ e. rw (same_eq b a e) (same_self a))

pub same_other : (a b : List ℕ) → (length a ≡ length b → ⊥) → same_bytes a b ≡ false
same_other a b n = not_pass (same_bytes a b) (λ e. n (ap length (same_eq a b e)))

-- the second list begins with the first: what it says of the lists, and back
pub starts_take : (a b : List ℕ) → starts_with a b ≡ true → take (length a) b ≡ a
starts_take [] b e = refl
starts_take (x ∷ xs) [] e = absurd (false≢true e)
starts_take (x ∷ xs) (y ∷ ys) e =
    ap₂ ◌∷◌ (sym (eqb-true x y (and_left (eqb x y) (starts_with xs ys) e))) (starts_take xs ys (and_right (eqb x y) (starts_with xs ys) e))

pub starts_append : (a b : List ℕ) → starts_with a (a ++ b) ≡ true
starts_append [] b = refl
starts_append (x ∷ xs) b = and_both (eq-eqb x x refl) (starts_append xs b)

pub take_starts : (a b : List ℕ) → take (length a) b ≡ a → starts_with a b ≡ true
take_starts a b e =
    let q : a ++ drop (length a) b ≡ b = ap (λ l. l ++ drop (length a) b) (sym e) ∙ take-append-drop (length a) b in
    rw q at (starts_append a (drop (length a) b))

pub starts_self : (a : List ℕ) → starts_with a a ≡ true
starts_self a = take_starts a a (take-length a)

pub starts_length : (a b : List ℕ) → starts_with a b ≡ true → length a ≤ length b
starts_length [] b e = omega arith
starts_length (x ∷ xs) [] e = absurd (false≢true e)
starts_length (x ∷ xs) (y ∷ ys) e = omega (arith, starts_length xs ys (and_right (eqb x y) (starts_with xs ys) e))

pub starts_through : (a b c : List ℕ) → starts_with a b ≡ true → starts_with b c ≡ true → starts_with a c ≡ true
starts_through a b c e f =
    take_starts a c
    (sym (take-take (length a) (length b) c (starts_length a b e)) ∙ rw (starts_take b c f) (starts_take a b e))

pub starts_short : (a b : List ℕ) → length b < length a → starts_with a b ≡ false
starts_short a b h = not_pass (starts_with a b) (λ e. omega (arith, starts_length a b e))

-- of lists of one length, to be the same is to begin with the other
pub same_starts : (a b : List ℕ) → length a ≡ length b → starts_with a b ≡ same_bytes a b
same_starts [] [] e = refl
same_starts [] (y ∷ ys) e = absurd (omega arith)
same_starts (x ∷ xs) [] e = absurd (omega arith)
same_starts (x ∷ xs) (y ∷ ys) e = rw (same_starts xs ys (omega arith))
