-- The loops over the rows of a table, or over its first k rows, `take k l`: for each shape its invariant at row i of n, and the laws of its
-- start, its return, its step and its end. b is what the code's test said of row i, and d stands for a row past the end. Each law ends in what
-- the code owes, and its premises are what the code knows, so that one list serves each need of such a loop: `search finds`, `search anys`,
-- `search alls`, `search everys`, `search clashes`, `search sums`. Assumes nothing.
use Rattle.std.specs.Prelude.{◌≡◌, refl, Bool, true, false, not, ◌&&◌, List, ℕ, ◌+◌, ◌<◌, ◌≤◌, min, length, drop, get_or, take, Some, None}
use Rattle.std.proofs.Common.{sym, ◌∙◌, arith, rules, length-take, get_or-take}
use Rattle.std.proofs.Math.Bool.{and-true, and-false}
use Rattle.std.proofs.lemmas.Bool.{not-true, not-false}
use Rattle.lists.specs.Lists.{first_at, all_of, any_of, no_clash, sum_of}
use Rattle.lists.specs.SearchLaws.{first_here, first_on, first_end}
use Rattle.lists.specs.TestLaws.{all_fails, all_on, all_end, any_here, any_on, any_end, clash_here, clash_on, clash_end}
use Rattle.lists.specs.RowLaws.{rows_length}
use Rattle.lists.specs.SumLaws.{sum_more, sum_end}

-- the first k rows: their number, and a row of theirs
pub part_length : {A : Type 0} (l : List A) (k m n : ℕ) → n ≡ min k m → length l ≡ m → length (take k l) ≡ n
part_length l k m n e h = omega (arith, length-take k l)

part_row : {A : Type 0} (l : List A) (k n i : ℕ) (d : A) → length (take k l) ≡ n → i < n → get_or (take k l) i d ≡ get_or l i d
part_row l k n i d e h = let w : i < k = omega (arith, length-take k l) in get_or-take k l i d w

pub ruleset sizes = (rows_length, part_length, rules)

-- the first row that passes p: the search of the rows is the search of those from i on
pub record FindLoop {A : Type 0} (p : A → Bool) (l : List A) (n i : ℕ) : Type 0 where
  pub size : length l ≡ n
  pub rest : first_at p 0 l ≡ first_at p i (drop i l)

module _ {A : Type 0} (p : A → Bool) (l : List A) where
  pub find_start : (n : ℕ) → length l ≡ n → FindLoop p l n 0
  find_start n e = record { size = e; rest = refl }

  module _ (n i : ℕ) where
    pub find_end : FindLoop p l n i → n ≤ i → None ≡ first_at p 0 l
    find_end h k = sym (h.rest ∙ first_end p l i (omega arith))

module _ {A : Type 0} (d : A) (p : A → Bool) (l : List A) (n i : ℕ) (b : Bool) where
  pub find_here : FindLoop p l n i → i < n → b ≡ p (get_or l i d) → b ≡ true → Some i ≡ first_at p 0 l
  find_here h k e t = sym (h.rest ∙ first_here p l d i (omega arith) e t)

  pub find_on : FindLoop p l n i → i < n → b ≡ p (get_or l i d) → b ≡ false → FindLoop p l n (i + 1)
  find_on h k e t = record { size = h.size; rest = h.rest ∙ first_on p l d i (omega arith) e t }

module _ {A : Type 0} (d : A) (p : A → Bool) (l : List A) (k n i : ℕ) (b : Bool) where
  pub find_here_part : FindLoop p (take k l) n i → i < n → b ≡ p (get_or l i d) → b ≡ true → Some i ≡ first_at p 0 (take k l)
  find_here_part h w e = find_here d p (take k l) n i b h w (rw (part_row l k n i d h.size w) e)

  pub find_on_part : FindLoop p (take k l) n i → i < n → b ≡ p (get_or l i d) → b ≡ false → FindLoop p (take k l) n (i + 1)
  find_on_part h w e = find_on d p (take k l) n i b h w (rw (part_row l k n i d h.size w) e)

pub ruleset finds = (find_here, find_on, find_end, find_start, sizes)

pub ruleset finds-part = (find_here_part, find_on_part, find_end, find_start, sizes)

-- where the code compares by itself, and calls no function for its test: d is then to be given, `search (find_here_row blank_volume, eq-eqb, finds)`
module _ {A : Type 0} (d : A) (p : A → Bool) (l : List A) (n i : ℕ) where
  pub find_here_row : FindLoop p l n i → i < n → p (get_or l i d) ≡ true → Some i ≡ first_at p 0 l
  find_here_row h w e = find_here d p l n i true h w (sym e) refl

  pub find_on_row : FindLoop p l n i → i < n → p (get_or l i d) ≡ false → FindLoop p l n (i + 1)
  find_on_row h w e = find_on d p l n i false h w (sym e) refl

-- some row from s on passes p: the test of those rows is the test of the rows from i on
pub record AnyLoop {A : Type 0} (p : A → Bool) (l : List A) (s n i : ℕ) : Type 0 where
  pub size : length l ≡ n
  pub rest : any_of p (drop s l) ≡ any_of p (drop i l)

module _ {A : Type 0} (p : A → Bool) (l : List A) where
  pub any_start : (s n : ℕ) → length l ≡ n → AnyLoop p l s n s
  any_start s n e = record { size = e; rest = refl }

  module _ (s n i : ℕ) where
    pub any_none : AnyLoop p l s n i → n ≤ i → false ≡ any_of p (drop s l)
    any_none h k = sym (h.rest ∙ any_end p l i (omega arith))

module _ {A : Type 0} (d : A) (p : A → Bool) (l : List A) (s n i : ℕ) (b : Bool) where
  pub any_found : AnyLoop p l s n i → i < n → b ≡ p (get_or l i d) → b ≡ true → true ≡ any_of p (drop s l)
  any_found h k e t = sym (h.rest ∙ any_here p l d i (omega arith) e t)

  pub any_step : AnyLoop p l s n i → i < n → b ≡ p (get_or l i d) → b ≡ false → AnyLoop p l s n (i + 1)
  any_step h k e t = record { size = h.size; rest = h.rest ∙ any_on p l d i (omega arith) e t }

-- from the first row
pub any_none_all : {A : Type 0} (p : A → Bool) (l : List A) (n i : ℕ) → AnyLoop p l 0 n i → n ≤ i → false ≡ any_of p l
any_none_all p l n i = any_none p l 0 n i

pub any_found_all : {A : Type 0} (d : A) (p : A → Bool) (l : List A) (n i : ℕ) (b : Bool) → AnyLoop p l 0 n i → i < n → b ≡ p (get_or l i d) → b ≡ true
    → true ≡ any_of p l
any_found_all d p l n i b = any_found d p l 0 n i b

module _ {A : Type 0} (d : A) (p : A → Bool) (l : List A) (k s n i : ℕ) (b : Bool) where
  pub any_found_part : AnyLoop p (take k l) s n i → i < n → b ≡ p (get_or l i d) → b ≡ true → true ≡ any_of p (drop s (take k l))
  any_found_part h w e = any_found d p (take k l) s n i b h w (rw (part_row l k n i d h.size w) e)

  pub any_step_part : AnyLoop p (take k l) s n i → i < n → b ≡ p (get_or l i d) → b ≡ false → AnyLoop p (take k l) s n (i + 1)
  any_step_part h w e = any_step d p (take k l) s n i b h w (rw (part_row l k n i d h.size w) e)

module _ {A : Type 0} (d : A) (p : A → Bool) (l : List A) (k s n i : ℕ) where
  pub any_found_row : AnyLoop p (take k l) s n i → i < n → p (get_or l i d) ≡ true → true ≡ any_of p (drop s (take k l))
  any_found_row h w e = any_found_part d p l k s n i true h w (sym e) refl

  pub any_step_row : AnyLoop p (take k l) s n i → i < n → p (get_or l i d) ≡ false → AnyLoop p (take k l) s n (i + 1)
  any_step_row h w e = any_step_part d p l k s n i false h w (sym e) refl

pub ruleset anys = (any_found, any_step, any_none, any_start, sizes)

pub ruleset anys-all = (any_found_all, any_step, any_none_all, any_start, sizes)

pub ruleset anys-part = (any_found_part, any_step_part, any_none, any_start, sizes)

-- every row passes p: the test of the rows is the test of those from i on. The code goes on where its test is not false
pub record AllLoop {A : Type 0} (p : A → Bool) (l : List A) (n i : ℕ) : Type 0 where
  pub size : length l ≡ n
  pub rest : all_of p l ≡ all_of p (drop i l)

module _ {A : Type 0} (p : A → Bool) (l : List A) where
  pub all_start : (n : ℕ) → length l ≡ n → AllLoop p l n 0
  all_start n e = record { size = e; rest = refl }

  module _ (n i : ℕ) where
    pub all_passed : AllLoop p l n i → n ≤ i → true ≡ all_of p l
    all_passed h k = sym (h.rest ∙ all_end p l i (omega arith))

module _ {A : Type 0} (d : A) (p : A → Bool) (l : List A) (n i : ℕ) (b : Bool) where
  pub all_failed : AllLoop p l n i → i < n → b ≡ p (get_or l i d) → not b ≡ true → false ≡ all_of p l
  all_failed h k e t = sym (h.rest ∙ all_fails p l d i (omega arith) e (not-true b t))

  pub all_step : AllLoop p l n i → i < n → b ≡ p (get_or l i d) → not b ≡ false → AllLoop p l n (i + 1)
  all_step h k e t = record { size = h.size; rest = h.rest ∙ all_on p l d i (omega arith) e (not-false b t) }

module _ {A : Type 0} (d : A) (p : A → Bool) (l : List A) (k n i : ℕ) (b : Bool) where
  pub all_failed_part : AllLoop p (take k l) n i → i < n → b ≡ p (get_or l i d) → not b ≡ true → false ≡ all_of p (take k l)
  all_failed_part h w e = all_failed d p (take k l) n i b h w (rw (part_row l k n i d h.size w) e)

  pub all_step_part : AllLoop p (take k l) n i → i < n → b ≡ p (get_or l i d) → not b ≡ false → AllLoop p (take k l) n (i + 1)
  all_step_part h w e = all_step d p (take k l) n i b h w (rw (part_row l k n i d h.size w) e)

pub ruleset alls = (all_failed, all_step, all_passed, all_start, sizes)

pub ruleset alls-part = (all_failed_part, all_step_part, all_passed, all_start, sizes)

-- the same with no return before the end: all says whether the rows before i pass
pub record EveryLoop {A : Type 0} (p : A → Bool) (l : List A) (n i : ℕ) (all : Bool) : Type 0 where
  pub size : length l ≡ n
  pub rest : all_of p l ≡ (all && all_of p (drop i l))

module _ {A : Type 0} (p : A → Bool) (l : List A) where
  pub every_start : (n : ℕ) → length l ≡ n → EveryLoop p l n 0 true
  every_start n e = record { size = e; rest = refl }

  pub every_end : (n i : ℕ) (all : Bool) → EveryLoop p l n i all → n ≤ i → all ≡ all_of p l
  every_end n i all h k = sym (h.rest ∙ rw (all_end p l i (omega (arith, h.size))) (and-true all))

-- all' is what the code says after row i
module _ {A : Type 0} (d : A) (p : A → Bool) (l : List A) (n i : ℕ) (all b all' : Bool) where
  pub every_fails : EveryLoop p l n i all → i < n → b ≡ p (get_or l i d) → not b ≡ true → all' ≡ false → EveryLoop p l n (i + 1) all'
  every_fails h k e t q =
      rw q (record { size = h.size; rest = h.rest ∙ rw (all_fails p l d i (omega (arith, h.size)) e (not-true b t)) (and-false all) })

  pub every_on : EveryLoop p l n i all → i < n → b ≡ p (get_or l i d) → not b ≡ false → all' ≡ all → EveryLoop p l n (i + 1) all'
  every_on h k e t q = rw q (record { size = h.size; rest = h.rest ∙ rw (all_on p l d i (omega (arith, h.size)) e (not-false b t)) })

pub ruleset everys = (every_fails, every_on, every_end, every_start, sizes)

-- no row clashes with a later one: the test of the rows is the test of those from i on. b says whether a row after i clashes with it
pub record ClashLoop {A : Type 0} (clash : A → A → Bool) (l : List A) (n i : ℕ) : Type 0 where
  pub size : length l ≡ n
  pub rest : no_clash clash l ≡ no_clash clash (drop i l)

module _ {A : Type 0} (clash : A → A → Bool) (l : List A) where
  pub clash_start : (n : ℕ) → length l ≡ n → ClashLoop clash l n 0
  clash_start n e = record { size = e; rest = refl }

  module _ (n i : ℕ) where
    pub clash_none : ClashLoop clash l n i → n ≤ i → true ≡ no_clash clash l
    clash_none h k = sym (h.rest ∙ clash_end clash l i (omega arith))

module _ {A : Type 0} (d : A) (clash : A → A → Bool) (l : List A) (n i : ℕ) (b : Bool) where
  pub clash_found : ClashLoop clash l n i → i < n → b ≡ any_of (clash (get_or l i d)) (drop (i + 1) l) → b ≡ true → false ≡ no_clash clash l
  clash_found h k e t = sym (h.rest ∙ clash_here clash l d i (omega arith) e t)

  pub clash_step : ClashLoop clash l n i → i < n → b ≡ any_of (clash (get_or l i d)) (drop (i + 1) l) → b ≡ false → ClashLoop clash l n (i + 1)
  clash_step h k e t = record { size = h.size; rest = h.rest ∙ clash_on clash l d i (omega arith) e t }

module _ {A : Type 0} (d : A) (clash : A → A → Bool) (l : List A) (k n i : ℕ) (b : Bool) where
  pub clash_found_part : ClashLoop clash (take k l) n i → i < n → b ≡ any_of (clash (get_or l i d)) (drop (i + 1) (take k l)) → b ≡ true → false ≡ no_clash clash (take k l)
  clash_found_part h w e = clash_found d clash (take k l) n i b h w (rw (part_row l k n i d h.size w) e)

  pub clash_step_part : ClashLoop clash (take k l) n i → i < n → b ≡ any_of (clash (get_or l i d)) (drop (i + 1) (take k l)) → b ≡ false → ClashLoop clash (take k l) n (i + 1)
  clash_step_part h w e = clash_step d clash (take k l) n i b h w (rw (part_row l k n i d h.size w) e)

pub ruleset clashes = (clash_found, clash_step, clash_none, clash_start, sizes)

pub ruleset clashes-part = (clash_found_part, clash_step_part, clash_none, clash_start, sizes)

-- a sum over the rows: what was added so far, with the sum of the rows from i on, is the whole
pub record SumLoop {A : Type 0} (f : A → ℕ) (l : List A) (n i sum : ℕ) : Type 0 where
  pub size : length l ≡ n
  pub rest : sum + sum_of f (drop i l) ≡ sum_of f l

module _ {A : Type 0} (f : A → ℕ) (l : List A) where
  pub sum_start : (n : ℕ) → length l ≡ n → SumLoop f l n 0 0
  sum_start n e = record { size = e; rest = omega arith }

  module _ (n i sum : ℕ) where
    pub sum_all : SumLoop f l n i sum → n ≤ i → sum ≡ sum_of f l
    sum_all h k = sum_end f l i sum (omega (arith, h.size)) h.rest

-- v is what row i has, and s the sum after it
module _ {A : Type 0} (d : A) (f : A → ℕ) (l : List A) (n i sum : ℕ) where
  pub sum_adds : (v s : ℕ) → SumLoop f l n i sum → i < n → v ≡ f (get_or l i d) → s ≡ sum + v → SumLoop f l n (i + 1) s
  sum_adds v s h k e q = rw q (record { size = h.size; rest = sum_more f l d i sum (omega (arith, h.size)) h.rest e })

  pub sum_skips : SumLoop f l n i sum → i < n → f (get_or l i d) ≡ 0 → SumLoop f l n (i + 1) sum
  sum_skips h k e = let z : sum ≡ sum + 0 = omega arith in sum_adds 0 sum h k (sym e) z

  -- a sum is no more than the whole
  pub sum_within : SumLoop f l n i sum → i < n → sum + f (get_or l i d) ≤ sum_of f l
  sum_within h k =
      let r = sum_more f l d i sum (omega (arith, h.size)) h.rest refl in
      omega (arith, r)

pub ruleset sums = (sum_adds, sum_skips, sum_all, sum_start, sizes)
