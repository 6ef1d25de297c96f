-- What a writer into a lent buffer leaves. Assumes nothing.
use Rattle.std.specs.Prelude.{◌≡◌, List, ℕ, ◌+◌, ◌≤◌, length}
use Rattle.lists.specs.Bytes.{over}

-- the bytes b stand from `at` on, over those of the buffer, in which they fit, and all others are as they were; r is the place after them
unfoldable pub Wrote : (at : ℕ) (b buf : List ℕ) (r : ℕ) (left : List ℕ) → Type 0
Wrote at b buf r left = (at + length b ≤ length buf) × (r ≡ at + length b) × (left ≡ over at b buf)
