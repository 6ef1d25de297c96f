-- The loop that fills a slice: its invariant at element i, and the laws of its start, its step and its end. Each law ends in what the code owes, and
-- its premises are what the code knows, so that one list serves each need of such a loop: `search fills`. Where every element passes a test, AllLoop
-- and EveryLoop of LoopLaws serve. Assumes nothing.
use Rattle.std.specs.Prelude.{◌≡◌, refl, List, map, ℕ, suc, ◌+◌, ◌<◌, ◌≤◌, length, take, drop, get_or, set}
use Rattle.std.proofs.Common.{sym, ◌∙◌, ap, append-nil, zero-add, add-one, arith, rules, length-set, drop_of_length-le, length-take-le, drop-cons}
use Rattle.std.proofs.lemmas.List.{length-map, get_or_at, set-get_or}
use Rattle.std.proofs.Math.ListN.{get_or-map}
use Rattle.std.proofs.Math.Seq.{paste, paste-zero, paste-suc, take-length}
use Rattle.lists.specs.RowLaws.{rows_length}

-- a slice filled: the first i of the n elements of s stand in out from `at` on, and the rest is as it was
pub record FillLoop {A : Type 0} (out₀ : List A) (at : ℕ) (s : List A) (n i : ℕ) (out : List A) : Type 0 where
  pub place : i ≤ n
  pub room : at + n ≤ length out₀
  pub source : n ≤ length s
  pub size : length out ≡ length out₀
  pub filled : out ≡ paste out₀ at s i

module _ {A : Type 0} (out₀ : List A) (at : ℕ) (s : List A) (n : ℕ) where
  pub fill_start : at + n ≤ length out₀ → n ≤ length s → FillLoop out₀ at s n 0 out₀
  fill_start h k = record { place = omega arith; room = h; source = k; size = refl; filled = paste-zero out₀ at s }

module _ {A : Type 0} (out₀ : List A) (at : ℕ) (s : List A) (n i : ℕ) (out : List A) where
  pub fill_step : (d : A) → FillLoop out₀ at s n i out → i < n → FillLoop out₀ at s n (i + 1) (set out (at + i) (get_or s i d))
  fill_step d h k =
      record {
        place = omega arith;
        room = h.room;
        source = h.source;
        size = length-set out (at + i) (get_or s i d) ∙ h.size;
        filled =
            rw (add-one i)
            (ap (λ (m : List A). set m (at + i) (get_or s i d)) h.filled ∙ paste-suc out₀ at s i d (omega arith) (omega arith));
      }

  pub fill_end : FillLoop out₀ at s n i out → n ≤ i → out ≡ paste out₀ at s n
  fill_end h k = let e : i ≡ n = omega arith in h.filled ∙ ap (paste out₀ at s) e

  pub fill_size : FillLoop out₀ at s n i out → length out ≡ length out₀
  fill_size h = h.size

-- from the first place on
pub fill_step_first : {A : Type 0} (out₀ s : List A) (n i : ℕ) (out : List A) (d : A) → FillLoop out₀ 0 s n i out → i < n
    → FillLoop out₀ 0 s n (i + 1) (set out i (get_or s i d))
fill_step_first out₀ s n i out d h k = rw (zero-add i) at (fill_step out₀ 0 s n i out d h k)

-- where what is to be stored stands there already, nothing need be stored
pub fill_same : {A : Type 0} (out₀ s : List A) (n i : ℕ) (out : List A) (d : A) → FillLoop out₀ 0 s n i out → i < n → get_or s i d ≡ get_or out₀ i d
    → FillLoop out₀ 0 s n (i + 1) out
fill_same out₀ s n i out d h k e =
    let l : length (take i s) ≡ i = length-take-le i s (omega (arith, h.source)) in
    let there : get_or out i d ≡ get_or out₀ i d =
    rw (h.filled, zero-add i, drop-cons out₀ i d (omega (arith, h.room))) (get_or_at (take i s) (get_or out₀ i d) (drop (suc i) out₀) d i l) in
    let same : set out i (get_or s i d) ≡ out = rw (e, ← there) (set-get_or out i d) in
    rw same at (fill_step_first out₀ s n i out d h k)

-- with what a function of each row gives: x is what it gave of row i
pub fill_step_of : {A B : Type 0} (f : B → A) (d : B) (out₀ : List A) (l : List B) (n i : ℕ) (out : List A) (x : A) → FillLoop out₀ 0 (map f l) n i out → i < n
    → x ≡ f (get_or l i d) → FillLoop out₀ 0 (map f l) n (i + 1) (set out i x)
fill_step_of f d out₀ l n i out x h k e = rw (e, ← get_or-map f l i d) (fill_step_first out₀ (map f l) n i out (f d) h k)

pub length_mapped : {A B : Type 0} (f : A → B) (l : List A) (n : ℕ) → length l ≡ n → length (map f l) ≡ n
length_mapped f l n e = length-map l f ∙ e

pub least_mapped : {A B : Type 0} (f : A → B) (l : List A) (n : ℕ) → length l ≡ n → n ≤ length (map f l)
least_mapped f l n e = omega (arith, length-map l f)

-- the whole of the slice
pub fill_whole : {A : Type 0} (out₀ s : List A) (n i : ℕ) (out : List A) → FillLoop out₀ 0 s n i out → n ≤ i → length out₀ ≡ n → length s ≡ n → out ≡ s
fill_whole out₀ s n i out h k e f =
    let z : i ≡ n = omega (arith, h.place) in
    h.filled ∙ rw (zero-add i, z, ← f, take-length s) (rw (drop_of_length-le out₀ {i = length s} (omega arith)) (append-nil s))

pub ruleset fills = (fill_step_first, fill_step, fill_end, fill_size, fill_start, rules)

pub ruleset Fills-of = (fill_step_of, fill_whole, fill_size, fill_start, length_mapped, least_mapped, rows_length, rules)
