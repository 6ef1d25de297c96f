-- A number is "never given twice": the rows of a table before and after a change, of any kind of row. Assumes nothing.
use Rattle.std.specs.Prelude.{◌≡◌, Bool, false, get_or, set}
use Rattle.std.proofs.Math.Path.{refl}
use Rattle.std.proofs.Common.{sym, ◌∙◌, ap, arith}
use Rattle.std.proofs.Math.Bool.{true}
use mathlib.Core.List.{List, [], ◌∷◌, map}
use Prim.Native.Nat.{ℕ, zero, suc, ◌+◌, ◌≤◌}
use Rattle.std.proofs.Math.ListN.{get_or-map}
use Rattle.lists.specs.Lists.{any_of}
use Rattle.lists.specs.BoolLaws.{or_left, or_right, not_pass, not_both}
use Rattle.lists.specs.TestLaws.{at_none}
use Rattle.rules.specs.Tables.{given, numbered, cleared}
use Rattle.rules.proofs.Laws.BranchLaws.{cond_case}
use Rattle.rules.proofs.Laws.NumberLaws.{numbered_used, numbered_eq}

module _ {A : Type 0} (no : A → ℕ) (z : A) where
  -- a row that holds a number up to the last one given before held it before
  abbrev pub Once : ℕ → List A → List A → Type 0
  Once last l m = (j : ℕ) → given (no (get_or m j z)) ≡ true → no (get_or m j z) ≤ last → no (get_or m j z) ≡ no (get_or l j z)

  pub once_on : (last next : ℕ) (l m n : List A) → last ≤ next → Once last l m → Once next m n → Once last l n
  once_on last next l m n le p q j g h =
      let e = q j g (omega arith) in
      e ∙ p j (rw e at g) (rw e at h)

  -- the rows have the numbers that they had
  pub once_numbers : (last : ℕ) (l m : List A) → map no m ≡ map no l → Once last l m
  once_numbers last l m e j g h = sym (get_or-map no m j z) ∙ ap (λ (ns : List ℕ). get_or ns j (no z)) e ∙ get_or-map no l j z

  -- rows are cleared
  pub once_cleared : (last : ℕ) (p : A → Bool) (l : List A) → given (no z) ≡ false → Once last l (cleared p z l)
  unfolding cleared
  once_cleared last p [] f j g h = refl
  once_cleared last p (x ∷ xs) f zero g h =
      cond_case (λ (y : A). given (no y) ≡ true → no y ≡ no x) (p x) z x (λ b u. absurd (not_both u f)) (λ b u. refl) g
  once_cleared last p (x ∷ xs) f (suc j) g h = once_cleared last p xs f j g h

  -- a row takes the next number
  pub once_new : (last : ℕ) (x : A) (l : List A) (i : ℕ) → no x ≡ last + 1 → Once last l (set l i x)
  once_new last x [] i e j g h = refl
  once_new last x (y ∷ ys) zero e zero g h = absurd (omega arith)
  once_new last x (y ∷ ys) zero e (suc j) g h = refl
  once_new last x (y ∷ ys) (suc i) e zero g h = refl
  once_new last x (y ∷ ys) (suc i) e (suc j) g h = once_new last x ys i e j g h

  -- no row has a number that none had, if it had been given
  none_row : (p : A → Bool) (l : List A) (j : ℕ) → any_of p l ≡ false → p z ≡ false → p (get_or l j z) ≡ false
  none_row p [] j e f = f
  none_row p (x ∷ xs) zero e f = or_left (p x) (any_of p xs) e
  none_row p (x ∷ xs) (suc j) e f = none_row p xs j (or_right (p x) (any_of p xs) e) f

  pub none_back : (n last : ℕ) (l m : List A) → given (no z) ≡ false → n ≤ last → Once last l m → any_of (λ x. numbered n (no x)) l ≡ false
      → any_of (λ x. numbered n (no x)) m ≡ false
  none_back n last l m f le k e =
      at_none (λ x. numbered n (no x)) m z
      (λ j b.
      not_pass (numbered n (no (get_or m j z)))
      (λ p.
      let q = numbered_eq n (no (get_or m j z)) p in
      let before = k j (numbered_used n (no (get_or m j z)) p) (omega arith) in
      let fresh = not_pass (numbered n (no z)) (λ u. not_both (numbered_used n (no z) u) f) in
      not_both (rw before at p) (none_row (λ x. numbered n (no x)) l j e fresh)))
