-- Laws of first_at and first_row: one step of a search and its end, and what a search finds. Assumes nothing.
use Rattle.std.specs.Prelude.{◌≡◌, Bool, true, false, ◌||◌, cond, ◌⊎◌, length, drop, get_or, Option, Some, None}
use Rattle.std.proofs.Math.Path.{refl}
use Rattle.std.proofs.Common.{ap, sym, ◌∙◌, inl, inr, add-one, arith, drop_of_length-le}
use Rattle.std.proofs.Math.Logic.{⊎_elim}
use mathlib.Core.List.{List, [], ◌∷◌}
use Prim.Native.Nat.{ℕ, zero, suc, ◌+◌, ◌<◌, ◌≤◌}
use Rattle.std.proofs.Math.Seq.{drop-cons}
use Rattle.lists.specs.Lists.{Hit, miss, hit, first_at, first_row, any_of}
use Rattle.lists.specs.BoolLaws.{not_both, or_left, or_right}

-- one step of a search, and its end: b is what the test's function returned
module _ {A : Type 0} (p : A → Bool) (l : List A) where
  pub first_here : {b : Bool} (d : A) (i : ℕ) → i < length l → b ≡ p (get_or l i d) → b ≡ true → first_at p i (drop i l) ≡ Some i
  unfolding first_at
  first_here {b} d i h e t = rw (drop-cons l i d, ← e, t)

  pub first_on : {b : Bool} (d : A) (i : ℕ) → i < length l → b ≡ p (get_or l i d) → b ≡ false
      → first_at p i (drop i l) ≡ first_at p (i + 1) (drop (i + 1) l)
  unfolding first_at
  first_on {b} d i h e t = rw (add-one, drop-cons l i d, ← e, t)

  pub first_end : (i : ℕ) → length l ≤ i → first_at p i (drop i l) ≡ None
  unfolding first_at
  first_end i h = rw (drop_of_length-le l h)

-- the index of what is found
abbrev pub index_of : {A : Type 0} → Hit A → Option ℕ
index_of miss = None
index_of (hit i x) = Some i

-- first_at and first_row find the same row
index_cond : {A : Type 0} (b : Bool) (i : ℕ) (x : A) (rest : Hit A) → index_of (cond b (hit i x) rest) ≡ cond b (Some i) (index_of rest)
index_cond true i x rest = refl
index_cond false i x rest = refl

pub first_index : {A : Type 0} (p : A → Bool) (k : ℕ) (l : List A) → first_at p k l ≡ index_of (first_row p k l)
unfolding first_at first_row
first_index p k [] = refl
first_index p k (x ∷ xs) = rw (first_index p (suc k) xs) (sym (index_cond (p x) k x (first_row p (suc k) xs)))

-- a search does not both miss and hit
pub miss_hit : {A : Type 0} {h : Hit A} {i : ℕ} {x : A} → h ≡ miss → h ≡ hit i x → ⊥
miss_hit {h = h} e f = let z : ◌≡◌ {A = ℕ} 0 1 = cc in omega arith

-- the row that is found is this one or a later one
found_cases : {A : Type 0} (b : Bool) (k i : ℕ) (y x : A) (rest : Hit A) → cond b (hit k y) rest ≡ hit i x
    → ((b ≡ true) × (k ≡ i) × (y ≡ x)) ⊎ ((b ≡ false) × (rest ≡ hit i x))
found_cases true k i y x rest e = inl (refl, (cc), (cc))
found_cases false k i y x rest e = inr (refl, e)

-- of the row that is found: where it is, and that it passes
module _ {A : Type 0} (p : A → Bool) where
  pub row_from : (l : List A) (k i : ℕ) (x : A) → first_row p k l ≡ hit i x → k ≤ i
  unfolding first_row
  row_from [] k i x e = absurd (miss_hit refl e)
  row_from (y ∷ ys) k i x e =
      ⊎_elim (λ w. omega arith) (λ w. omega (arith, row_from ys (suc k) i x w.1))
      (found_cases (p y) k i y x (first_row p (suc k) ys) e)

  pub row_below : (l : List A) (k i : ℕ) (x : A) → first_row p k l ≡ hit i x → i < k + length l
  unfolding first_row
  row_below [] k i x e = absurd (miss_hit refl e)
  row_below (y ∷ ys) k i x e =
      ⊎_elim (λ w. omega arith) (λ w. omega (arith, row_below ys (suc k) i x w.1))
      (found_cases (p y) k i y x (first_row p (suc k) ys) e)

  pub row_passes : (l : List A) (k i : ℕ) (x : A) → first_row p k l ≡ hit i x → p x ≡ true
  unfolding first_row
  row_passes [] k i x e = absurd (miss_hit refl e)
  row_passes (y ∷ ys) k i x e =
      ⊎_elim (λ w. rw w.2 at w.0) (λ w. row_passes ys (suc k) i x w.1)
      (found_cases (p y) k i y x (first_row p (suc k) ys) e)

  -- with the places counted from k
  pub row_at : (l : List A) (k i j : ℕ) (x d : A) → i ≡ k + j → first_row p k l ≡ hit i x → get_or l j d ≡ x
  unfolding first_row
  row_at [] k i j x d q e = absurd (miss_hit refl e)
  row_at (y ∷ ys) k i zero x d q e =
      ⊎_elim (λ w. w.2) (λ w. absurd (omega (arith, row_from ys (suc k) i x w.1)))
      (found_cases (p y) k i y x (first_row p (suc k) ys) e)
  row_at (y ∷ ys) k i (suc j) x d q e =
      ⊎_elim (λ w. absurd (omega arith)) (λ w. row_at ys (suc k) i j x d (omega arith) w.1)
      (found_cases (p y) k i y x (first_row p (suc k) ys) e)

  -- no row before it passes
  pub row_first : (l : List A) (k i j : ℕ) (x d : A) → first_row p k l ≡ hit i x → k + j < i → p (get_or l j d) ≡ false
  unfolding first_row
  row_first [] k i j x d e h = absurd (miss_hit refl e)
  row_first (y ∷ ys) k i zero x d e h =
      ⊎_elim (λ w. absurd (omega arith)) (λ w. w.0)
      (found_cases (p y) k i y x (first_row p (suc k) ys) e)
  row_first (y ∷ ys) k i (suc j) x d e h =
      ⊎_elim (λ w. absurd (omega arith)) (λ w. row_first ys (suc k) i j x d w.1 (omega arith))
      (found_cases (p y) k i y x (first_row p (suc k) ys) e)

-- a search finds nothing where no row passes, and only there
miss_step : {A : Type 0} (b r : Bool) (k : ℕ) (y : A) (rest : Hit A) → cond b (hit k y) rest ≡ miss → (rest ≡ miss → r ≡ false)
    → (b || r) ≡ false
miss_step true r k y rest e f = absurd (miss_hit e refl)
miss_step false r k y rest e f = f e

pub miss_none : {A : Type 0} (p : A → Bool) (l : List A) (k : ℕ) → first_row p k l ≡ miss → any_of p l ≡ false
unfolding first_row
miss_none p [] k e = refl
miss_none p (x ∷ xs) k e = miss_step (p x) (any_of p xs) k x (first_row p (suc k) xs) e (miss_none p xs (suc k))

pub none_miss : {A : Type 0} (p : A → Bool) (l : List A) (k : ℕ) → any_of p l ≡ false → first_row p k l ≡ miss
unfolding first_row
none_miss p [] k e = refl
none_miss p (x ∷ xs) k e = rw (or_left (p x) (any_of p xs) e) (none_miss p xs (suc k) (or_right (p x) (any_of p xs) e))

-- a search that finds something, and what it finds
pub data FoundRow {A : Type 0} (h : Hit A) : Type 0 where
  found_row : (i : ℕ) (x : A) → h ≡ hit i x → FoundRow h

found_or : {A : Type 0} (h : Hit A) → (h ≡ miss → ⊥) → FoundRow h
found_or miss n = absurd (n refl)
found_or (hit i x) n = found_row i x refl

pub some_found : {A : Type 0} (p : A → Bool) (l : List A) (k : ℕ) → any_of p l ≡ true → FoundRow (first_row p k l)
some_found p l k e = found_or (first_row p k l) (λ m. not_both e (miss_none p l k m))

-- what first_at finds is what first_row finds
index_found : {A : Type 0} (h : Hit A) (i : ℕ) → index_of h ≡ Some i → (x : A) × (h ≡ hit i x)
index_found miss i e = absurd (let z : ◌≡◌ {A = ℕ} 0 1 = cc in omega arith)
index_found (hit j x) i e = let q : j ≡ i = cc in (x, rw q)

index_miss : {A : Type 0} (h : Hit A) → index_of h ≡ None → h ≡ miss
index_miss miss e = refl
index_miss (hit j x) e = absurd (let z : ◌≡◌ {A = ℕ} 0 1 = cc in omega arith)

module _ {A : Type 0} (p : A → Bool) (l : List A) where
  first_found : (k i : ℕ) → first_at p k l ≡ Some i → (x : A) × (first_row p k l ≡ hit i x)
  first_found k i e = index_found (first_row p k l) i (sym (first_index p k l) ∙ e)

  pub first_below : (k i : ℕ) → first_at p k l ≡ Some i → i < k + length l
  first_below k i e = let f = first_found k i e in row_below p l k i f.0 f.1

  -- of a whole list
  pub first_row_lem : (i : ℕ) → first_at p 0 l ≡ Some i → (d : A) → first_row p 0 l ≡ hit i (get_or l i d)
  first_row_lem i e d = let f = first_found 0 i e in f.1 ∙ ap (hit i) (sym (row_at p l 0 i i f.0 d (omega arith) f.1))

  pub first_miss : first_at p 0 l ≡ None → first_row p 0 l ≡ miss
  first_miss e = index_miss (first_row p 0 l) (sym (first_index p 0 l) ∙ e)

  -- what first_row finds, of a whole list
  pub found_below : (i : ℕ) (x : A) → first_row p 0 l ≡ hit i x → i < length l
  found_below i x e = omega (arith, row_below p l 0 i x e)

  pub found_at : (i : ℕ) (x : A) → first_row p 0 l ≡ hit i x → (d : A) → get_or l i d ≡ x
  found_at i x e d = row_at p l 0 i i x d (omega arith) e
