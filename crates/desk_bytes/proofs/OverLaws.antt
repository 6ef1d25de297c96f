-- Bytes written over those of a buffer, part after part. Assumes nothing.
use mathlib.Core.Path.{◌≡◌, refl, sym, ◌∙◌, ap}
use mathlib.Core.List.{List, [], ◌++◌}
use Prim.Native.Nat.{ℕ, suc, ◌+◌, ◌-◌, ◌/◌, ◌%◌, ◌<◌, ◌≤◌}
use native.Mathlib.Omega.{arith}
use borrow.Author.Rules.{rules}
use lib.ListN.{length, take, drop, set, length-append, length-set}
use lib.Seq.{take-length}
use Rattle.lists.specs.ByteLoopLaws.{FillLoop, fill_end}
use Rattle.lists.specs.OverLaws.{over_none, over_last, length_over, over_over}
use Rattle.amount.specs.declared.Cap.{Cap}
use Rattle.amount.specs.declared.Cap.TheVariants.{Unlimited, Bytes}
use Rattle.journal.specs.Numbers.{bytes_of}
use Rattle.journal.proofs.NumberLaws.{length_bytes_of}
use Rattle.lists.specs.Bytes.{over}
use Rattle.desk_bytes.specs.Layout.{cap_bytes}
use Rattle.desk_bytes.specs.Written.{Wrote}

-- a part after the parts before it: m is the buffer after those, which end at p
pub two_parts : (at : ℕ) (a b out : List ℕ) (p : ℕ) (m : List ℕ) (r : ℕ) (out' : List ℕ) → Wrote p b m r out' → Wrote at a out p m
    → Wrote at (a ++ b) out r out'
unfolding Wrote
two_parts at a b out p m r out' f w =
    let l : length m ≡ length out = ap length w.2 ∙ length_over at a out w.0 in
    (omega (arith, length-append a b), omega (arith, length-append a b), f.2 ∙ rw (w.1, w.2) (over_over at a b out w.0))

-- three parts, the last first
pub three_parts : (at : ℕ) (a b c out : List ℕ) (p q : ℕ) (m n : List ℕ) (r : ℕ) (out' : List ℕ) → Wrote q c n r out' → Wrote p b m q n → Wrote at a out p m
    → Wrote at (a ++ b ++ c) out r out'
three_parts at a b c out p q m n r out' w₃ w₂ w₁ = two_parts at (a ++ b) c out q n r out' w₃ (two_parts at a b out p m q n w₂ w₁)

-- no part
pub part_none : (at : ℕ) (out : List ℕ) → at ≤ length out → Wrote at [] out at out
unfolding Wrote
part_none at out h = (omega arith, omega arith, sym (over_none at out))

-- a buffer keeps its length
pub wrote_length : (at r : ℕ) (b out out' : List ℕ) → Wrote at b out r out' → length out' ≡ length out
unfolding Wrote
wrote_length at r b out out' w = ap length w.2 ∙ length_over at b out w.0

-- a number that another function gave
pub number_is : (w n k at : ℕ) (out : List ℕ) (r : ℕ) (out' : List ℕ) → Wrote at (bytes_of w n) out r out' → n ≡ k → Wrote at (bytes_of w k) out r out'
number_is w n k at out r out' h e = rw e at h

-- a turn of the loop that writes a number from its last byte
number_turn : (at j n : ℕ) (buf : List ℕ) → at + j < length buf → over at (bytes_of j (n / 256)) (set buf (at + j) (n % 256)) ≡ over at (bytes_of (suc j) n) buf
unfolding bytes_of
number_turn at j n buf h =
    let e : length (bytes_of j (n / 256)) ≡ j = length_bytes_of j (n / 256) in
    let k : at + length (bytes_of j (n / 256)) < length buf = rw e h in
    ap (λ (i : ℕ). over at (bytes_of j (n / 256)) (set buf (at + i) (n % 256))) (sym e) ∙ over_last at (bytes_of j (n / 256)) (n % 256) buf k

-- the loop that does so: i bytes of the number's w are left, of what is left of the number, and the rest is written
pub record NumberLoop (out₀ : List ℕ) (at w n i rest : ℕ) (out : List ℕ) : Type 0 where
  pub place : i ≤ w
  pub room : at + w ≤ length out₀
  pub size : length out ≡ length out₀
  pub left : over at (bytes_of i rest) out ≡ over at (bytes_of w n) out₀

module _ (out₀ : List ℕ) (at w n : ℕ) where
  pub number_start : at + w ≤ length out₀ → NumberLoop out₀ at w n w n out₀
  number_start h = record { place = omega arith; room = h; size = refl; left = refl }

  module _ (i rest : ℕ) (out : List ℕ) (h : NumberLoop out₀ at w n i rest out) where
    pub number_step : 0 < i → NumberLoop out₀ at w n (i - 1) (rest / 256) (set out (at + (i - 1)) (rest % 256))
    number_step k =
        let e : suc (i - 1) ≡ i = omega arith in
        record {
          place = omega arith;
          room = h.room;
          size = length-set out (at + (i - 1)) (rest % 256) ∙ h.size;
          left = number_turn at (i - 1) rest out (omega arith) ∙ ap (λ (j : ℕ). over at (bytes_of j rest) out) e ∙ h.left;
        }

    pub number_end : i ≤ 0 → Wrote at (bytes_of w n) out₀ (at + w) out
    unfolding bytes_of Wrote
    number_end k =
        let z : i ≡ 0 = omega arith in
        let l : length (bytes_of w n) ≡ w = length_bytes_of w n in
        (omega arith, omega arith, sym (over_none at out) ∙ ap (λ (j : ℕ). over at (bytes_of j rest) out) (sym z) ∙ h.left)

pub ruleset numbers = (number_step, number_end, number_start, rules)

-- the end of a loop that copies all of s
pub copied : (at : ℕ) (s buf : List ℕ) (i : ℕ) (out : List ℕ) → FillLoop buf at s (length s) i out → length s ≤ i → Wrote at s buf (at + length s) out
unfolding Wrote
copied at s buf i out h k =
    (h.room, refl, fill_end buf at s (length s) i out h k ∙ ap (λ (m : List ℕ). take at buf ++ m ++ drop (at + length s) buf) (take-length s))

-- a cap, by its arm
module _ (cap : Cap) (at : ℕ) (out : List ℕ) (r : ℕ) (out' : List ℕ) where
  pub unlimited_is : cap ≡ Unlimited → Wrote at (bytes_of 1 0 ++ bytes_of 8 0) out r out' → Wrote at (cap_bytes cap) out r out'
  unfolding cap_bytes
  unlimited_is e h = rw e h

  pub count_is : (n : ℕ) → cap ≡ Bytes n → Wrote at (bytes_of 1 1 ++ bytes_of 8 n) out r out' → Wrote at (cap_bytes cap) out r out'
  unfolding cap_bytes
  count_is n e h = rw e h
