-- Bytes written over those of a buffer, piece after piece. Assumes nothing.
use mathlib.Core.Path.{◌≡◌, refl, ◌∙◌}
use mathlib.Core.List.{List, [], ◌∷◌, ◌++◌}
use Prim.Native.Nat.{ℕ, ◌+◌, ◌-◌, ◌^◌, ◌<◌, ◌≤◌}
use native.Mathlib.Omega.{arith}
use borrow.Author.Rules.{rules}
use borrow.Rule.Slice.PartMut.{mid_of, put_mid}
use lib.Dec.{lit≤}
use mir.Syntax.{w64}
use mir.Val.{Fits}
use lib.ListN.{length, set, length-append}
use Rattle.lists.specs.ByteLoopLaws.{FillLoop}
use Rattle.lists.specs.OverLaws.{length_over, over_over, over_byte, filled_over}
use Rattle.amount.specs.Writing.{at_start}
use Rattle.amount.specs.WriteLaws.{rest_written}
use Rattle.transcripts.specs.Written.{Wrote}

-- the end of a loop that copies all of s
pub filled_wrote : (at : ℕ) (s buf : List ℕ) (i : ℕ) (out : List ℕ) → FillLoop buf at s (length s) i out → length s ≤ i
    → Wrote at s buf (at + length s) out
filled_wrote at s buf i out h k = record { place = refl; buffer = filled_over at s buf i out h k }

-- a text that a writer puts at the start of the lent rest of a buffer: count is what it answers, and part what it leaves of that rest
pub rest_wrote : (at : ℕ) (d out part : List ℕ) (count : ℕ) → count ≡ length d → at + length d ≤ length out → part ≡ at_start d (mid_of at (length out - at) out)
    → Wrote at d out (at + count) (put_mid at (length out - at) out part)
rest_wrote at d out part count e h q = record { place = omega arith; buffer = rest_written at d out part h q }

-- two pieces as the code writes them: m is the buffer after the first, which ends at p
module _ (at : ℕ) (a b out : List ℕ) where
  pub room_first : at + length (a ++ b) ≤ length out → at + length a ≤ length out
  room_first h = omega (arith, length-append a b)

  module _ (p : ℕ) (m : List ℕ) (w : Wrote at a out p m) (h : at + length (a ++ b) ≤ length out) where
    pub room_next : p + length b ≤ length m
    room_next = rw (w.buffer, length_over at a out (room_first h)) (omega (arith, w.place, length-append a b))

    pub wrote_next : (r : ℕ) (out' : List ℕ) → Wrote p b m r out' → Wrote at (a ++ b) out r out'
    wrote_next r out' f =
        record {
          place = omega (arith, w.place, f.place, length-append a b);
          buffer = f.buffer ∙ rw (w.place, w.buffer) (over_over at a b out (room_first h));
        }

    -- where the second is one byte
    pub room_byte : 1 ≤ length b → p < length m
    room_byte k = omega (arith, room_next)

    pub fits_byte : 1 ≤ length b → length out < 2 ^ 64 → Fits w64 (p + 1)
    fits_byte k l = record { fits = omega (arith, w.place, length-append a b) }

pub wrote_byte : (at : ℕ) (a : List ℕ) (x : ℕ) (out : List ℕ) (p : ℕ) (m : List ℕ) → Wrote at a out p m → at + length (a ++ (x ∷ [])) ≤ length out
    → Wrote at (a ++ (x ∷ [])) out (p + 1) (set m p x)
wrote_byte at a x out p m w h =
    wrote_next at a (x ∷ []) out p m w h (p + 1) (set m p x)
    (record { place = refl; buffer = over_byte p x m (room_byte at a (x ∷ []) out p m w h (lit≤ tt)) })

-- three pieces: n is the buffer after the second, which ends at q
module _ (at : ℕ) (a b c out : List ℕ) (h : at + length (a ++ b ++ c) ≤ length out) (p : ℕ) (m : List ℕ) (w : Wrote at a out p m) (q : ℕ) (n : List ℕ)
    (v : Wrote p b m q n) where
  two : Wrote at (a ++ b) out q n
  two = wrote_next at a b out p m w (room_first at (a ++ b) c out h) q n v

  pub room_third : q + length c ≤ length n
  room_third = room_next at (a ++ b) c out q n two h

  pub wrote_third : (r : ℕ) (out' : List ℕ) → Wrote q c n r out' → Wrote at (a ++ b ++ c) out r out'
  wrote_third = wrote_next at (a ++ b) c out q n two h

pub ruleset pieces = (room_first, room_next, wrote_next, room_byte, fits_byte, wrote_byte, rules)

pub ruleset three = (room_third, wrote_third)
