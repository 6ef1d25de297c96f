-- What a writer into a lent buffer leaves. Assumes nothing.
use Rattle.std.specs.Prelude.{◌≡◌, List, ℕ, ◌+◌, length}
use Rattle.lists.specs.Bytes.{over}

-- the bytes b stand from `at` on, over those of the buffer, and all others are as they were; r is the place after them
pub record Wrote (at : ℕ) (b buf : List ℕ) (r : ℕ) (left : List ℕ) : Type 0 where
  pub place : r ≡ at + length b
  pub buffer : left ≡ over at b buf
