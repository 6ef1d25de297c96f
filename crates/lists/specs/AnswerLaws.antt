-- How an answer of the code goes through a rule. A rule is a row of checks, `cond CHECK REFUSAL REST`, and may end in a row of a table that
-- is found or not; a test is a row of parts, `free || (a && b && ..)`. The code asks a function for each, and the rule's answer follows from what was said, check by check. Each law ends in
-- what the code owes, and its premises are what the code knows, so that `search checks` goes through a rule by itself. Assumes nothing.
use Rattle.std.specs.Prelude.{◌≡◌, refl, Bool, true, false, not, cond, ◌&&◌, ◌||◌, List, ℕ, ◌*◌, ◌^◌, ◌<◌, eqb, leb, ltb, length, get_or, take, Option, Some, None}
use Rattle.std.proofs.Common.{sym, ◌∙◌, ap, mul-le-mul_right, arith, Fits, eq-eqb, ne_eqb, lt-ltb, le-ltb, le-leb, ltb-true, rules, length-take}
use Rattle.std.specs.Int.{w64}
use Rattle.std.proofs.lemmas.Bool.{lt-leb, not-true, not-false}
use Rattle.lists.specs.Lists.{Hit, hit, miss, first_at, find}
use Rattle.lists.specs.BoolLaws.{and_left}
use Rattle.lists.specs.RowLaws.{rows_length}
use Rattle.lists.specs.SearchLaws.{first_row_lem, first_miss, first_below}

-- the answer x is the refusal, or that of the rest
module _ {A : Type 0} (check : Bool) (x refusal rest : A) where
  pub stops : check ≡ true → x ≡ refusal → x ≡ cond check refusal rest
  stops e f = f ∙ sym (rw e)

  pub goes_on : check ≡ false → x ≡ rest → x ≡ cond check refusal rest
  goes_on e f = f ∙ sym (rw e)

  pub stops_not : check ≡ false → x ≡ refusal → x ≡ cond (not check) refusal rest
  stops_not e f = f ∙ sym (rw e)

  pub goes_on_not : check ≡ true → x ≡ rest → x ≡ cond (not check) refusal rest
  goes_on_not e f = f ∙ sym (rw e)

-- what a check comes to: r is what a function said of it
module _ (r check : Bool) (e : r ≡ check) where
  pub said : (v : Bool) → r ≡ v → check ≡ v
  said v f = sym e ∙ f

  pub said_yes : not r ≡ false → check ≡ true
  said_yes f = sym e ∙ not-false r f

  pub said_no : not r ≡ true → check ≡ false
  said_no f = sym e ∙ not-true r f

pub both : (a b : Bool) → a ≡ true → b ≡ true → (a && b) ≡ true
both a b e f = rw (e, f)

pub first_fails : (a b : Bool) → a ≡ false → (a && b) ≡ false
first_fails a b e = rw e

pub next_fails : (a b : Bool) → a ≡ true → b ≡ false → (a && b) ≡ false
next_fails a b e f = rw (e, f)

-- the first of two parts, where a function said that both hold
pub said_first : (r a b : Bool) → r ≡ (a && b) → not r ≡ false → a ≡ true
said_first r a b e f = and_left a b (sym e ∙ not-false r f)

-- a test of several parts, as an answer
pub fails : (x a b : Bool) → a ≡ false → x ≡ false → x ≡ (a && b)
fails x a b e f = f ∙ sym (rw e)

pub passes : (x a b : Bool) → a ≡ true → x ≡ b → x ≡ (a && b)
passes x a b e f = f ∙ sym (rw e)

pub none_given : (n : ℕ) → n ≡ 0 → ltb 0 n ≡ false
none_given n e = le-ltb 0 n (omega arith)

pub some_given : (n : ℕ) → (n ≡ 0 → ⊥) → ltb 0 n ≡ true
some_given n e = let h : 0 < n = omega arith in lt-ltb 0 n h

pub ruleset checks =
    (goes_on_not, stops_not, goes_on, stops, said_yes, said_no, both, first_fails, next_fails, passes, fails, none_given, some_given, lt-ltb, le-ltb, le-leb, lt-leb)

-- a rule g of the first row of l that passes p, where f is what the search for its index said: there is none, or it is the row at i
abbrev pub NoRow : {A B : Type 0} → (Hit A → B) → (A → Bool) → List A → Type 0
NoRow g p l = (f : Option ℕ) (x : _) → f ≡ first_at p 0 l → f ≡ None → x ≡ g miss → x ≡ g (find p l)

abbrev pub AtRow : {A B : Type 0} → (Hit A → B) → (A → Bool) → List A → A → Type 0
AtRow g p l d = (f : Option ℕ) (x : _) (i : ℕ) → f ≡ first_at p 0 l → f ≡ Some i → x ≡ g (hit i (get_or l i d)) → x ≡ g (find p l)

pub no_row : {A B : Type 0} (g : Hit A → B) (p : A → Bool) (l : List A) → NoRow g p l
no_row g p l f x e w q = q ∙ sym (rw (first_miss p l (sym e ∙ w)))

pub at_row : {A B : Type 0} (g : Hit A → B) (p : A → Bool) (l : List A) (d : A) → AtRow g p l d
at_row g p l d f x i e w q = q ∙ sym (rw (first_row_lem p l i (sym e ∙ w) d))

-- a row that was found lies in its table of n rows, and its place in memory is a number of the machine
module _ {A : Type 0} (p : A → Bool) (l : List A) (f : Option ℕ) (i n : ℕ) where
  pub row_in : f ≡ first_at p 0 l → f ≡ Some i → length l ≡ n → i < n
  row_in e w h = omega (arith, h, first_below p l 0 i (sym e ∙ w))

  pub row_fits_lem : (k : ℕ) → f ≡ first_at p 0 l → f ≡ Some i → length l ≡ n → ltb (n * k) (2 ^ 64) ≡ true → Fits w64 (i * k)
  row_fits_lem k e w h q =
      let j : i < n = row_in e w h in
      record { fits = omega (arith, mul-le-mul_right k j, ltb-true (n * k) (2 ^ 64) q) }

pub ruleset in_table = (row_in, row_fits_lem, rows_length, rules)

-- and so does one that was found among the first rows of a table
pub row_in_part : {A : Type 0} (p : A → Bool) (l : List A) (f : Option ℕ) (i n k : ℕ) → f ≡ first_at p 0 (take k l) → f ≡ Some i → length l ≡ n → i < n
row_in_part p l f i n k e w h = omega (arith, h, first_below p (take k l) 0 i (sym e ∙ w), length-take k l)

-- A test of many parts, `free || (a && b && ..)`, as an answer of code that stops at the first part that fails. A part that fails is enough, whatever
-- those before it say: so the work of `search refused` grows with the number of parts, and not with its square.
module _ (free rest : Bool) where
  pub is_free : free ≡ true → true ≡ (free || rest)
  is_free e = sym (rw e)

  pub in_use : (x : Bool) → free ≡ false → x ≡ rest → x ≡ (free || rest)
  in_use x e f = f ∙ sym (rw e)

module _ (a b : Bool) where
  pub part_fails : b ≡ false → false ≡ (a && b)
  part_fails e = rw e (go a)
    where
      go : (a : Bool) → false ≡ (a && false)
      go true = refl
      go false = refl

  pub before_fails : false ≡ a → false ≡ (a && b)
  before_fails e = sym (rw (sym e))

-- the same of a test that one part is enough to pass, `a || b || ..`
module _ (a b : Bool) where
  pub part_holds : b ≡ true → true ≡ (a || b)
  part_holds e = rw e (go a)
    where
      go : (a : Bool) → true ≡ (a || true)
      go true = refl
      go false = refl

  pub before_holds : true ≡ a → true ≡ (a || b)
  before_holds e = sym (rw (sym e))

  pub neither : a ≡ false → b ≡ false → (a || b) ≡ false
  neither e f = rw (e, f)

-- the part that holds is the one of which r said yes
pub told_yes : (r a : Bool) → r ≡ true → r ≡ a → a ≡ true
told_yes r a f e = sym e ∙ f

pub told_none : (r a : Bool) → r ≡ false → r ≡ a → a ≡ false
told_none r a f e = sym e ∙ f

pub first_holds : (r a : Bool) → r ≡ true → r ≡ a → true ≡ a
first_holds r a f e = sym (told_yes r a f e)

-- the part that fails is the one of which the last test, r, said no; first_told where it is the first
pub told_no : (r a : Bool) → not r ≡ true → r ≡ a → a ≡ false
told_no r a f e = sym e ∙ not-true r f

pub first_told : (r a : Bool) → not r ≡ true → r ≡ a → false ≡ a
first_told r a f e = sym (told_no r a f e)

-- a limit on a number n that a function counted as r
pub counted_over : (r n m : ℕ) → m < r → r ≡ n → leb n m ≡ false
counted_over r n m h e = rw (← e) (lt-leb r m h)

-- a number that is not the n that a function counted as r
pub counted_other : (r n m : ℕ) → (m ≡ r → ⊥) → r ≡ n → eqb m n ≡ false
counted_other r n m h e = rw (← e) (ne_eqb m r h)

pub counted_same : (r n m : ℕ) → m ≡ r → r ≡ n → eqb m n ≡ true
counted_same r n m h e = eq-eqb m n (h ∙ e)

pub counted_is : (r n m : ℕ) → r ≡ n → eqb m r ≡ eqb m n
counted_is r n m e = ap (eqb m) e

-- a test that the code has the other way round
pub not_some : (a : Bool) → a ≡ true → not a ≡ false
not_some a e = rw e

pub not_none : (a : Bool) → a ≡ false → not a ≡ true
not_none a e = rw e

-- the last return, of a test of five or six parts: those before the last all hold, and x is what the last one says
module _ (x a b c d e : Bool) (p : a ≡ true) (q : b ≡ true) (r : c ≡ true) (s : d ≡ true) where
  pub all_5 : x ≡ e → x ≡ (a && b && c && d && e)
  all_5 w = w ∙ sym (rw (p, q, r, s))

  pub all_6 : e ≡ true → (f : Bool) → x ≡ f → x ≡ (a && b && c && d && e && f)
  all_6 u f w = w ∙ sym (rw (p, q, r, s, u))

-- a return of false, and the last return
pub ruleset failing = (in_use, part_fails, before_fails, ne_eqb)

pub ruleset refused = (failing, lt-leb, told_no, first_told)

pub ruleset passed = (is_free, in_use, passes, both, eq-eqb, ne_eqb, le-leb, said_yes)

-- of a test that one part is enough to pass
pub ruleset either = (part_holds, before_holds, in_use, neither, eq-eqb, ne_eqb, told_yes, told_none, first_holds)

-- with all_5 or all_6
pub ruleset used = (in_use, ne_eqb, eq-eqb, le-leb, said_yes)
