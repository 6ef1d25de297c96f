-- What the writer answers and leaves, by the room that the buffer has. Assumes nothing.
use mathlib.Core.Path.{◌≡◌, ◌∙◌, ap}
use mathlib.Core.List.{List, ◌++◌}
use Prim.Native.Nat.{ℕ, ◌+◌, ◌<◌, ◌≤◌}
use native.Mathlib.Omega.{arith}
use borrow.Author.Tests.{lt-ltb, le-ltb}
use lib.ListN.{length, drop}
use Rattle.rules.specs.declared.Desk.{Desk}
use Rattle.rules.specs.Numbers.{ROOM}
use Rattle.desk_bytes.specs.Layout.{desk_bytes, desk_length}
use Rattle.desk_bytes.specs.Writing.{answer_of, buffer_of}
use Rattle.desk_bytes.specs.Written.{Wrote}

module _ (out : List ℕ) where
  pub short_answer : length out < desk_length → ROOM ≡ answer_of out
  unfolding answer_of
  short_answer h = rw (lt-ltb _ _ h)

  pub whole_answer : desk_length ≤ length out → 0 ≡ answer_of out
  unfolding answer_of
  whole_answer h = rw (le-ltb _ _ h)

  module _ (d : Desk) where
    pub short_buffer : length out < desk_length → out ≡ buffer_of d out
    unfolding buffer_of
    short_buffer h = rw (lt-ltb _ _ h)

    pub whole_buffer : (r : ℕ) (out' : List ℕ) → desk_length ≤ length out → Wrote 0 (desk_bytes d) out r out' → r ≡ 0 + desk_length → out' ≡ buffer_of d out
    unfolding buffer_of Wrote
    whole_buffer r out' h w e =
        let l : 0 + length (desk_bytes d) ≡ desk_length = omega arith in
        rw (le-ltb _ _ h) (w.2 ∙ ap (λ (k : ℕ). desk_bytes d ++ drop k out) l)

pub ruleset writings = (short_answer, whole_answer, short_buffer, whole_buffer)
