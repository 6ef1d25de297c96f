-- Bytes written over those of a buffer. Assumes nothing.
use mathlib.Core.Path.{◌≡◌, refl, sym, ◌∙◌, ap}
use mathlib.Core.List.{List, ◌++◌}
use Prim.Native.Nat.{ℕ, suc, ◌+◌, ◌-◌, ◌/◌, ◌%◌, ◌<◌, ◌≤◌}
use native.Mathlib.Omega.{arith}
use borrow.Author.Rules.{rules}
use lib.ListN.{length, set, length-set, length-append}
use Rattle.lists.specs.Bytes.{over}
use Rattle.lists.specs.OverLaws.{over_none, over_last, over_over}
use Rattle.journal.specs.Numbers.{bytes_of}
use Rattle.journal.proofs.NumberLaws.{length_bytes_of}

-- a turn of the loop that writes a number from its last byte
pub number_turn : (at j n : ℕ) (buf : List ℕ) → at + j < length buf → over at (bytes_of j (n / 256)) (set buf (at + j) (n % 256)) ≡ over at (bytes_of (suc j) n) buf
unfolding bytes_of
number_turn at j n buf h =
    let e : length (bytes_of j (n / 256)) ≡ j = length_bytes_of j (n / 256) in
    let k : at + length (bytes_of j (n / 256)) < length buf = rw e h in
    ap (λ (i : ℕ). over at (bytes_of j (n / 256)) (set buf (at + i) (n % 256))) (sym e) ∙ over_last at (bytes_of j (n / 256)) (n % 256) buf k

-- the loop that does so: i bytes of the number's w are written, and those before them are left, of what is left of the number
pub record NumberPutLoop (out₀ : List ℕ) (at w n i rest : ℕ) (out : List ℕ) : Type 0 where
  pub size : length out ≡ length out₀
  pub left : over at (bytes_of (w - i) rest) out ≡ over at (bytes_of w n) out₀

module _ (out₀ : List ℕ) (at w n : ℕ) where
  pub number_start : NumberPutLoop out₀ at w n 0 n out₀
  number_start = let z : w - 0 ≡ w = omega arith in record { size = refl; left = rw z }

  module _ (i rest : ℕ) (out : List ℕ) (h : NumberPutLoop out₀ at w n i rest out) where
    pub number_step : i < w → at + w ≤ length out₀ → NumberPutLoop out₀ at w n (i + 1) (rest / 256) (set out (at + (w - 1 - i)) (rest % 256))
    number_step k room =
        let e : suc (w - 1 - i) ≡ w - i = omega arith in
        let f : w - (i + 1) ≡ w - 1 - i = omega arith in
        let r : at + (w - 1 - i) < length out = omega (arith, h.size) in
        record {
          size = length-set out (at + (w - 1 - i)) (rest % 256) ∙ h.size;
          left = rw f (number_turn at (w - 1 - i) rest out r ∙ ap (λ (j : ℕ). over at (bytes_of j rest) out) e ∙ h.left);
        }

    pub number_end : w ≤ i → out ≡ over at (bytes_of w n) out₀
    unfolding bytes_of
    number_end k =
        let z : w - i ≡ 0 = omega arith in
        sym (over_none at out) ∙ ap (λ (j : ℕ). over at (bytes_of j rest) out) (sym z) ∙ h.left

pub ruleset number_puts = (number_step, number_end, number_start, rules)

-- two pieces, the first of w bytes
pub over_pair : (at w : ℕ) (a b buf : List ℕ) → length a ≡ w → at + w ≤ length buf → over (at + w) b (over at a buf) ≡ over at (a ++ b) buf
over_pair at w a b buf e h = ap (λ (k : ℕ). over (at + k) b (over at a buf)) (sym e) ∙ over_over at a b buf (rw e h)

-- a text: its length, of w bytes, and then its bytes
pub text_over : (at w n : ℕ) (t buf m out : List ℕ) → w ≡ n → at + (n + length t) ≤ length buf → m ≡ over at (bytes_of w (length t)) buf → out ≡ over (at + w) t m
    → out ≡ over at (bytes_of n (length t) ++ t) buf
text_over at w n t buf m out q h e f =
    rw (← q)
    (f ∙ ap (over (at + w) t) e ∙ over_pair at w (bytes_of w (length t)) t buf (length_bytes_of w (length t)) (omega arith))

pub ruleset pieces = (over_pair, text_over, length_bytes_of, length-append)
