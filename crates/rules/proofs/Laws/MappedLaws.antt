-- Laws of a table with every row changed by one function: what tests, searches and sums say after it. Assumes nothing.
use Rattle.std.specs.Prelude.{◌≡◌, Bool, true, false, ◌||◌, cond, not, ℕ, zero, suc, ◌<◌, length, get_or}
use Rattle.std.proofs.Math.Path.{refl}
use Rattle.std.proofs.Common.{ap, sym, ◌∙◌, le_of_suc-le-suc, not-suc-le-zero, arith}
use mathlib.Core.List.{List, [], ◌∷◌, map}
use borrow.Author.Tests.{not-true}
use Rattle.lists.specs.Lists.{Hit, miss, hit, first_row, find, all_of, any_of, sum_of, no_clash}
use Rattle.lists.specs.BoolLaws.{and_left, and_right, and_both, or_left, or_right, or_none}
use Rattle.lists.specs.RowLaws.{map_agree, map_after, sum_same, all_same}

-- what is found, with the row changed
abbrev pub map_hit : {A B : Type 0} → (A → B) → Hit A → Hit B
map_hit f miss = miss
map_hit f (hit i x) = hit i (f x)

-- two functions that agree on every row
pub all_agree : {A : Type 0} (p q : A → Bool) (l : List A) (d : A) → ((j : ℕ) → j < length l → p (get_or l j d) ≡ q (get_or l j d))
    → all_of p l ≡ all_of q l
all_agree p q l d e = all_same p q l l (map_agree p q l d e)

pub sum_agree : {A : Type 0} (f g : A → ℕ) (l : List A) (d : A) → ((j : ℕ) → j < length l → f (get_or l j d) ≡ g (get_or l j d))
    → sum_of f l ≡ sum_of g l
sum_agree f g l d e = sum_same f g l l (map_agree f g l d e)

-- some row passes where a search finds one
abbrev is_hit : {A : Type 0} → Hit A → Bool
is_hit miss = false
is_hit (hit i x) = true

any_cond : {A : Type 0} (b : Bool) (k : ℕ) (x : A) (h : Hit A) → (b || is_hit h) ≡ is_hit (cond b (hit k x) h)
any_cond true k x h = refl
any_cond false k x h = refl

any_hit : {A : Type 0} (p : A → Bool) (k : ℕ) (l : List A) → any_of p l ≡ is_hit (first_row p k l)
unfolding first_row
any_hit p k [] = refl
any_hit p k (x ∷ xs) = rw (any_hit p (suc k) xs) (any_cond (p x) k x (first_row p (suc k) xs))

hit_mapped : {A B : Type 0} (f : A → B) (h : Hit A) → is_hit (map_hit f h) ≡ is_hit h
hit_mapped f miss = refl
hit_mapped f (hit i x) = refl

-- two searches that find the same, and the same as f shows it
pub same_any : {A : Type 0} (p : A → Bool) (l m : List A) → find p l ≡ find p m → any_of p l ≡ any_of p m
same_any p l m e = any_hit p 0 l ∙ ap is_hit e ∙ sym (any_hit p 0 m)

pub found_any : {A B : Type 0} (f : A → B) (p : A → Bool) (l m : List A) → map_hit f (find p l) ≡ map_hit f (find p m) → any_of p l ≡ any_of p m
found_any f p l m e =
    any_hit p 0 l ∙ sym (hit_mapped f (find p l)) ∙ ap is_hit e ∙ hit_mapped f (find p m) ∙ sym (any_hit p 0 m)

module _ {A B : Type 0} (f : A → B) where
  -- the row at an index
  pub mapped_at : (l : List A) (j : ℕ) (d : A) (e : B) → j < length l → get_or (map f l) j e ≡ f (get_or l j d)
  mapped_at [] j d e h = absurd (not-suc-le-zero h)
  mapped_at (x ∷ xs) zero d e h = refl
  mapped_at (x ∷ xs) (suc j) d e h = mapped_at xs j d e (le_of_suc-le-suc h)

  -- every row passes
  pub all_mapped : (p : A → Bool) (q : B → Bool) (l : List A) (d : A)
      → ((j : ℕ) → j < length l → p (get_or l j d) ≡ true → q (f (get_or l j d)) ≡ true) → all_of p l ≡ true → all_of q (map f l) ≡ true
  all_mapped p q [] d h e = refl
  all_mapped p q (x ∷ xs) d h e =
      and_both (h 0 (omega arith) (and_left (p x) (all_of p xs) e))
      (all_mapped p q xs d (λ j k. h (suc j) (omega arith)) (and_right (p x) (all_of p xs) e))

  -- no row passes
  pub none_mapped : (p : A → Bool) (q : B → Bool) (l : List A) → ((x : A) → p x ≡ false → q (f x) ≡ false) → any_of p l ≡ false
      → any_of q (map f l) ≡ false
  none_mapped p q [] h e = refl
  none_mapped p q (x ∷ xs) h e = or_none (h x (or_left (p x) (any_of p xs) e)) (none_mapped p q xs h (or_right (p x) (any_of p xs) e))

  -- no row clashes with a later one
  pub clash_mapped : (c : A → A → Bool) (c' : B → B → Bool) (l : List A) → ((x y : A) → c x y ≡ false → c' (f x) (f y) ≡ false)
      → no_clash c l ≡ true → no_clash c' (map f l) ≡ true
  unfolding no_clash
  clash_mapped c c' [] h e = refl
  clash_mapped c c' (x ∷ xs) h e =
      let n = not-true (any_of (c x) xs) (and_left (not (any_of (c x) xs)) (no_clash c xs) e) in
      rw (none_mapped (c x) (c' (f x)) xs (h x) n) (clash_mapped c c' xs h (and_right (not (any_of (c x) xs)) (no_clash c xs) e))

  -- a search whose test reads what the change keeps finds the changed row
  hit_cond : (b : Bool) (k : ℕ) (x : A) (h : Hit A) → cond b (hit k (f x)) (map_hit f h) ≡ map_hit f (cond b (hit k x) h)
  hit_cond true k x h = refl
  hit_cond false k x h = refl

  pub find_mapped : (p : A → Bool) (q : B → Bool) (k : ℕ) (l : List A) → ((x : A) → q (f x) ≡ p x)
      → first_row q k (map f l) ≡ map_hit f (first_row p k l)
  unfolding first_row
  find_mapped p q k [] e = refl
  find_mapped p q k (x ∷ xs) e = rw (e x, find_mapped p q (suc k) xs e) (hit_cond (p x) k x (first_row p (suc k) xs))

  -- a sum
  pub sum_mapped : (g : B → ℕ) (h : A → ℕ) (l : List A) → ((x : A) → g (f x) ≡ h x) → sum_of g (map f l) ≡ sum_of h l
  sum_mapped g h l e = sum_same g h (map f l) l (map_after g f h l e)
