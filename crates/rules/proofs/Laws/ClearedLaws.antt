-- Laws of cleared: the rows that pass a test are as fresh ones, and the others stay. Assumes nothing.
use Rattle.std.specs.Prelude.{◌≡◌, Bool, cond, length, get_or}
use Rattle.std.proofs.Math.Path.{refl, ap₂}
use Rattle.std.proofs.Common.{ap, ◌∙◌, le_of_suc-le-suc, not-suc-le-zero, arith}
use Rattle.std.proofs.Math.Bool.{true, false}
use Rattle.std.proofs.lemmas.Bool.{false≢true}
use mathlib.Core.List.{List, [], ◌∷◌, map}
use Prim.Native.Nat.{ℕ, zero, suc, ◌+◌, ◌<◌}
use Rattle.std.proofs.lemmas.List.{length-map}
use Rattle.lists.specs.Lists.{bit, Hit, miss, hit, first_row, all_of, any_of, count_if, keep, sum_of, no_clash}
use Rattle.lists.specs.BoolLaws.{and_both, or_left, or_right, or_none, not_both}
use Rattle.lists.specs.TestLaws.{miss_at}
use Rattle.rules.specs.Tables.{cleared}
use Rattle.rules.proofs.Laws.MappedLaws.{clash_mapped, same_any}

-- a row, or a fresh one where the row passes the test
abbrev pub or_fresh : {A : Type 0} → (A → Bool) → A → A → A
or_fresh p z x = cond (p x) z x

-- what went is among the rows that were kept of it
module _ {A : Type 0} (p : A → Bool) where
  keep_cond : (q : A → Bool) (b : Bool) (x : A) (l : List A) → any_of q (cond b (x ∷ l) l) ≡ false → (b ≡ true → q x ≡ false) × (any_of q l ≡ false)
  keep_cond q true x l e = (λ t. or_left (q x) (any_of q l) e, or_right (q x) (any_of q l) e)
  keep_cond q false x l e = (λ t. absurd (false≢true t), e)

  pub none_kept : (q : A → Bool) (l : List A) (j : ℕ) (d : A) → any_of q (keep p l) ≡ false → j < length l → p (get_or l j d) ≡ true
      → q (get_or l j d) ≡ false
  none_kept q [] j d e h t = absurd (not-suc-le-zero h)
  none_kept q (x ∷ xs) zero d e h t = (keep_cond q (p x) x (keep p xs) e).0 t
  none_kept q (x ∷ xs) (suc j) d e h t = none_kept q xs j d (keep_cond q (p x) x (keep p xs) e).1 (le_of_suc-le-suc h) t

module _ {A : Type 0} (p : A → Bool) (z : A) where
  -- every row is changed by one function
  pub cleared_map : (l : List A) → cleared p z l ≡ map (or_fresh p z) l
  unfolding cleared
  cleared_map [] = refl
  cleared_map (x ∷ xs) = ap₂ ◌∷◌ refl (cleared_map xs)

  pub length_cleared : (l : List A) → length (cleared p z l) ≡ length l
  length_cleared l = rw (cleared_map l) (length-map l (or_fresh p z))

  -- the row at an index
  pub cleared_at : (l : List A) (j : ℕ) (d : A) → j < length l → get_or (cleared p z l) j d ≡ or_fresh p z (get_or l j d)
  unfolding cleared
  cleared_at [] j d h = absurd (not-suc-le-zero h)
  cleared_at (x ∷ xs) zero d h = refl
  cleared_at (x ∷ xs) (suc j) d h = cleared_at xs j d (le_of_suc-le-suc h)

  -- no row passes the test of those that went
  none_or_fresh : (b : Bool) (x : A) → p x ≡ b → p z ≡ false → p (cond b z x) ≡ false
  none_or_fresh true x e f = f
  none_or_fresh false x e f = e

  pub none_cleared : (l : List A) → p z ≡ false → any_of p (cleared p z l) ≡ false
  unfolding cleared
  none_cleared [] f = refl
  none_cleared (x ∷ xs) f = or_none (none_or_fresh (p x) x refl f) (none_cleared xs f)

  -- every row passes where a fresh one does and each that stays does
  all_or_fresh : (q : A → Bool) (b : Bool) (x : A) → q z ≡ true → (b ≡ false → q x ≡ true) → q (cond b z x) ≡ true
  all_or_fresh q true x e h = e
  all_or_fresh q false x e h = h refl

  pub all_cleared : (q : A → Bool) (l : List A) (d : A) → q z ≡ true → ((j : ℕ) → j < length l → p (get_or l j d) ≡ false → q (get_or l j d) ≡ true)
      → all_of q (cleared p z l) ≡ true
  unfolding cleared
  all_cleared q [] d e h = refl
  all_cleared q (x ∷ xs) d e h =
      and_both (all_or_fresh q (p x) x e (h 0 (omega arith))) (all_cleared q xs d e (λ j k. h (suc j) (omega arith)))

  -- no row clashes where a fresh one clashes with none
  clash_or_fresh : (c : A → A → Bool) (a b : Bool) (x y : A) → ((y : A) → c z y ≡ false) → ((x : A) → c x z ≡ false) → c x y ≡ false
      → c (cond a z x) (cond b z y) ≡ false
  clash_or_fresh c true b x y f g e = f (cond b z y)
  clash_or_fresh c false true x y f g e = g x
  clash_or_fresh c false false x y f g e = e

  pub clash_cleared : (c : A → A → Bool) (l : List A) → ((y : A) → c z y ≡ false) → ((x : A) → c x z ≡ false) → no_clash c l ≡ true
      → no_clash c (cleared p z l) ≡ true
  clash_cleared c l f g e =
      rw (cleared_map l) (clash_mapped (or_fresh p z) c c l (λ x y k. clash_or_fresh c (p x) (p y) x y f g k) e)

  -- a search that finds no fresh row and none that went finds what it found
  find_or_fresh : (q : A → Bool) (b : Bool) (k : ℕ) (x : A) (h : Hit A) → q z ≡ false → (b ≡ true → q x ≡ false)
      → cond (q (cond b z x)) (hit k (cond b z x)) h ≡ cond (q x) (hit k x) h
  find_or_fresh q true k x h f n = rw (f, n refl)
  find_or_fresh q false k x h f n = refl

  pub find_cleared : (q : A → Bool) (k : ℕ) (l : List A) (d : A) → q z ≡ false
      → ((j : ℕ) → j < length l → p (get_or l j d) ≡ true → q (get_or l j d) ≡ false) → first_row q k (cleared p z l) ≡ first_row q k l
  unfolding first_row cleared
  find_cleared q k [] d f n = refl
  find_cleared q k (x ∷ xs) d f n =
      rw (find_cleared q (suc k) xs d f (λ j h. n (suc j) (omega arith)))
      (find_or_fresh q (p x) k x (first_row q (suc k) xs) f (n 0 (omega arith)))

  pub any_cleared : (q : A → Bool) (l : List A) (d : A) → q z ≡ false → ((j : ℕ) → j < length l → p (get_or l j d) ≡ true → q (get_or l j d) ≡ false)
      → any_of q (cleared p z l) ≡ any_of q l
  any_cleared q l d f n = same_any q (cleared p z l) l (find_cleared q 0 l d f n)

  -- a row that it found and that stays is found, and nothing where nothing was
  found_or_fresh : (q : A → Bool) (a b : Bool) (k i : ℕ) (y x : A) (g h : Hit A) → q z ≡ false → q y ≡ a → p y ≡ b → p x ≡ false
      → (h ≡ hit i x → g ≡ hit i x) → cond a (hit k y) h ≡ hit i x → cond (q (cond b z y)) (hit k (cond b z y)) g ≡ hit i x
  found_or_fresh q true true k i y x g h f c e n r s = let w : y ≡ x = cc in absurd (not_both e (ap p w ∙ n))
  found_or_fresh q true false k i y x g h f c e n r s = rw c s
  found_or_fresh q false true k i y x g h f c e n r s = rw f (r s)
  found_or_fresh q false false k i y x g h f c e n r s = rw c (r s)

  pub found_cleared : (q : A → Bool) (k i : ℕ) (l : List A) (x : A) → q z ≡ false → first_row q k l ≡ hit i x → p x ≡ false
      → first_row q k (cleared p z l) ≡ hit i x
  unfolding first_row cleared
  found_cleared q k i [] x f e n = e
  found_cleared q k i (y ∷ ys) x f e n =
      found_or_fresh q (q y) (p y) k i y x (first_row q (suc k) (cleared p z ys)) (first_row q (suc k) ys) f refl refl n
      (λ r. found_cleared q (suc k) i ys x f r n) e

  pub miss_cleared : (q : A → Bool) (k : ℕ) (l : List A) → q z ≡ false → first_row q k l ≡ miss → first_row q k (cleared p z l) ≡ miss
  miss_cleared q k l f e =
      find_cleared q k l z f (λ j h t. miss_at q l k e j h z) ∙ e

  -- a sum: what stays and what went are the whole
  sum_or_fresh : (f : A → ℕ) (b : Bool) (x : A) (l : List A) → f z ≡ 0 → f (cond b z x) + sum_of f (cond b (x ∷ l) l) ≡ f x + sum_of f l
  unfolding sum_of
  sum_or_fresh f true x l e = rw e (omega arith)
  sum_or_fresh f false x l e = refl

  pub sum_cleared : (f : A → ℕ) (l : List A) → f z ≡ 0 → sum_of f (cleared p z l) + sum_of f (keep p l) ≡ sum_of f l
  unfolding sum_of cleared
  sum_cleared f [] e = refl
  sum_cleared f (x ∷ xs) e = omega (arith, sum_or_fresh f (p x) x (keep p xs) e, sum_cleared f xs e)

  -- a count
  count_or_fresh : (q : A → Bool) (b : Bool) (x : A) (l : List A) → q z ≡ false
      → bit (q (cond b z x)) + count_if q (cond b (x ∷ l) l) ≡ bit (q x) + count_if q l
  unfolding count_if
  count_or_fresh q true x l e = rw e (omega arith)
  count_or_fresh q false x l e = refl

  pub count_cleared : (q : A → Bool) (l : List A) → q z ≡ false → count_if q (cleared p z l) + count_if q (keep p l) ≡ count_if q l
  unfolding count_if cleared
  count_cleared q [] e = refl
  count_cleared q (x ∷ xs) e = omega (arith, count_or_fresh q (p x) x (keep p xs) e, count_cleared q xs e)
