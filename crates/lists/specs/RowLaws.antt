-- Two tables whose rows agree in what a search, a test, a count or a sum reads have the same result. That they agree is one equation,
-- `map f l ≡ map g m`: of two functions that agree on the rows, of a table that was mapped, of a table with one row changed in what f does
-- not read (map_modify of ModifyLaws). Assumes nothing.
use Rattle.std.specs.Prelude.{◌≡◌, refl, Bool, ℕ, zero, suc, ◌<◌, length, get_or}
use Rattle.std.proofs.Common.{ap, ap₂, sym, ◌∙◌, le_of_suc-le-suc, not-suc-le-zero, arith}
use mathlib.Core.List.{List, [], ◌∷◌, ◌++◌, map, head-eq_of_cons-eq, tail-eq_of_cons-eq}
use Rattle.std.proofs.lemmas.List.{length-map}
use Rattle.lists.specs.Lists.{first_at, first_row, all_of, any_of, count_if, keep, sum_of, total, no_clash, bit_set}

-- what owning a struct tells of a field that is an array of structs: handed to `search` beside `needs`
pub rows_length : (X Y : Type 0) (f : X → Y) (l : List X) (n : ℕ) → length (map f l) ≡ n → length l ≡ n
rows_length X Y f l n e = sym (length-map l f) ∙ e

-- two functions that agree on every row
pub map_agree : {A B : Type 0} (f g : A → B) (l : List A) (d : A) → ((j : ℕ) → j < length l → f (get_or l j d) ≡ g (get_or l j d))
    → map f l ≡ map g l
map_agree f g [] d e = refl
map_agree f g (x ∷ xs) d e = ap₂ ◌∷◌ (e 0 (omega arith)) (map_agree f g xs d (λ j h. e (suc j) (omega arith)))

-- a table that was mapped
pub map_after : {A B C : Type 0} (f : B → C) (g : A → B) (h : A → C) (l : List A) → ((x : A) → f (g x) ≡ h x) → map f (map g l) ≡ map h l
map_after f g h [] e = refl
map_after f g h (x ∷ xs) e = ap₂ ◌∷◌ (e x) (map_after f g h xs e)

-- a row is the same, whatever would stand for a row past the end
pub same_row : {A : Type 0} (l : List A) (i : ℕ) (a b : A) → i < length l → get_or l i a ≡ get_or l i b
same_row [] i a b h = absurd (not-suc-le-zero h)
same_row (x ∷ xs) zero a b h = refl
same_row (x ∷ xs) (suc i) a b h = same_row xs i a b (le_of_suc-le-suc h)

-- a row of a table that was mapped
pub map_row : {A B : Type 0} (f : A → B) (l : List A) (i : ℕ) (d : A) (z : B) → i < length l → get_or (map f l) i z ≡ f (get_or l i d)
map_row f [] i d z h = absurd (not-suc-le-zero h)
map_row f (x ∷ xs) zero d z h = refl
map_row f (x ∷ xs) (suc i) d z h = map_row f xs i d z (le_of_suc-le-suc h)

pub map_append : {A B : Type 0} (f : A → B) (l m : List A) → map f (l ++ m) ≡ map f l ++ map f m
map_append f [] m = refl
map_append f (x ∷ xs) m = ap (λ ys. f x ∷ ys) (map_append f xs m)

-- a table of results stands for the table
abbrev itself : Bool → Bool
itself b = b

results_all : {A : Type 0} (p : A → Bool) (l : List A) → all_of p l ≡ all_of itself (map p l)
results_all p [] = refl
results_all p (x ∷ xs) = rw (results_all p xs)

results_any : {A : Type 0} (p : A → Bool) (l : List A) → any_of p l ≡ any_of itself (map p l)
results_any p [] = refl
results_any p (x ∷ xs) = rw (results_any p xs)

results_count : {A : Type 0} (p : A → Bool) (l : List A) → count_if p l ≡ count_if itself (map p l)
unfolding count_if
results_count p [] = refl
results_count p (x ∷ xs) = rw (results_count p xs)

results_set : {A : Type 0} (p : A → Bool) (l : List A) → bit_set p l ≡ bit_set itself (map p l)
unfolding bit_set
results_set p [] = refl
results_set p (x ∷ xs) = rw (results_set p xs)

results_first : {A : Type 0} (p : A → Bool) (k : ℕ) (l : List A) → first_at p k l ≡ first_at itself k (map p l)
unfolding first_at
results_first p k [] = refl
results_first p k (x ∷ xs) = rw (results_first p (suc k) xs)

-- the sum over a table is the total of what is summed
pub sum_total : {A : Type 0} (f : A → ℕ) (l : List A) → sum_of f l ≡ total (map f l)
unfolding sum_of total
sum_total f [] = refl
sum_total f (x ∷ xs) = rw (sum_total f xs)

module _ {A B : Type 0} (f : A → ℕ) (g : B → ℕ) (l : List A) (m : List B) (e : map f l ≡ map g m) where
  pub sum_same : sum_of f l ≡ sum_of g m
  sum_same = sum_total f l ∙ ap total e ∙ sym (sum_total g m)

module _ {A B : Type 0} (p : A → Bool) (q : B → Bool) (l : List A) (m : List B) (e : map p l ≡ map q m) where
  pub all_same : all_of p l ≡ all_of q m
  all_same = results_all p l ∙ ap (all_of itself) e ∙ sym (results_all q m)

  pub any_same : any_of p l ≡ any_of q m
  any_same = results_any p l ∙ ap (any_of itself) e ∙ sym (results_any q m)

  pub count_same : count_if p l ≡ count_if q m
  count_same = results_count p l ∙ ap (count_if itself) e ∙ sym (results_count q m)

  pub set_same : bit_set p l ≡ bit_set q m
  set_same = results_set p l ∙ ap (bit_set itself) e ∙ sym (results_set q m)

  pub first_same : (k : ℕ) → first_at p k l ≡ first_at q k m
  first_same k = results_first p k l ∙ ap (first_at itself k) e ∙ sym (results_first q k m)

-- of a table that was mapped, where f of a mapped row is h of the row
module _ {A B : Type 0} (g : A → B) (l : List A) where
  pub sum_map : (f : B → ℕ) (h : A → ℕ) → ((x : A) → f (g x) ≡ h x) → sum_of f (map g l) ≡ sum_of h l
  sum_map f h e = sum_same f h (map g l) l (map_after f g h l e)

  pub all_map : (p : B → Bool) (q : A → Bool) → ((x : A) → p (g x) ≡ q x) → all_of p (map g l) ≡ all_of q l
  all_map p q e = all_same p q (map g l) l (map_after p g q l e)

  pub any_map : (p : B → Bool) (q : A → Bool) → ((x : A) → p (g x) ≡ q x) → any_of p (map g l) ≡ any_of q l
  any_map p q e = any_same p q (map g l) l (map_after p g q l e)

  pub count_map : (p : B → Bool) (q : A → Bool) → ((x : A) → p (g x) ≡ q x) → count_if p (map g l) ≡ count_if q l
  count_map p q e = count_same p q (map g l) l (map_after p g q l e)

  pub first_map : (p : B → Bool) (q : A → Bool) → ((x : A) → p (g x) ≡ q x) → (k : ℕ) → first_at p k (map g l) ≡ first_at q k l
  first_map p q e = first_same p q (map g l) l (map_after p g q l e)

-- two tests that agree on the rows of one table find and keep the same rows
pub row_same : {A : Type 0} (p q : A → Bool) (k : ℕ) (l : List A) → map p l ≡ map q l → first_row p k l ≡ first_row q k l
unfolding first_row
row_same p q k [] e = refl
row_same p q k (x ∷ xs) e = rw (head-eq_of_cons-eq e, row_same p q (suc k) xs (tail-eq_of_cons-eq e))

pub keep_same : {A : Type 0} (p q : A → Bool) (l : List A) → map p l ≡ map q l → keep p l ≡ keep q l
keep_same p q [] e = refl
keep_same p q (x ∷ xs) e = rw (head-eq_of_cons-eq e, keep_same p q xs (tail-eq_of_cons-eq e))

-- what a clash reads of two rows decides
pub clash_map : {A B : Type 0} (c : A → A → Bool) (c' : B → B → Bool) (f : A → B) (l : List A) → ((x y : A) → c x y ≡ c' (f x) (f y))
    → no_clash c l ≡ no_clash c' (map f l)
unfolding no_clash
clash_map c c' f [] e = refl
clash_map c c' f (x ∷ xs) e =
    rw (clash_map c c' f xs e, any_same (c x) (c' (f x)) xs (map f xs) (sym (map_after (c' (f x)) f (c x) xs (λ y. sym (e x y)))))
