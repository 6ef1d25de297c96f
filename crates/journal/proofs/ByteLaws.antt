-- What a slice of bytes gives its readers. Assumes nothing.
use Rattle.std.specs.Prelude.{◌≡◌, true, List, ℕ, ◌+◌, ◌-◌, ◌*◌, ◌^◌, ◌<◌, ◌≤◌, None, Some, length, take, drop, get_or}
use Rattle.std.proofs.Common.{arith, ◌∙◌, ap, add-one, length-drop, length-take-le, lit<, le-leb}
use borrow.Author.Tests.{lt-leb}
use Rattle.std.proofs.Math.Nat.{pow-le-pow_right, add-sub_cancel_left}
use Rattle.std.proofs.Math.Seq.{take-suc}
use Rattle.std.proofs.Math.Pow.{are_bytes}
use mir.Syntax.{w8}
use mir.Val.{Fits}
use Rattle.journal.specs.Numbers.{number_of}
use Rattle.journal.proofs.NumberLaws.{number_of_snoc, number_of_lt}
use Rattle.journal.specs.Fields.{decode_number, part, nothing, found}
use Rattle.journal.proofs.FieldLaws.{bytes_take, bytes_known}
use Rattle.journal.specs.Table.{number_at, as_answer}

-- the number of fewer than eight bytes of a list has room for one more byte
pub number_part_fits : (l : List ℕ) (i : ℕ) → ((k : ℕ) → Fits w8 (get_or l k 0)) → i < length l → length l ≤ 8 → number_of (take i l) * 256 + 255 < 2 ^ 64
number_part_fits l i b k m =
    let h : are_bytes l ≡ true = bytes_known l (λ j. (b j).fits) in
    let e : length (take i l) ≡ i = length-take-le i l (omega arith) in
    let i7 : i ≤ 7 = omega arith in
    let p : 256 ^ i ≤ 256 ^ 7 = pow-le-pow_right (lit< tt) i7 in
    let q : number_of (take i l) < 256 ^ i = rw e at (number_of_lt (take i l) (bytes_take i l h)) in
    omega arith

-- one byte more of the number
pub number_more : (l : List ℕ) (i : ℕ) → i < length l → number_of (take (i + 1) l) ≡ number_of (take i l) * 256 + get_or l i 0
number_more l i h = rw (add-one i) (ap number_of (take-suc l i 0 h) ∙ number_of_snoc (take i l) (get_or l i 0))

-- a part of a list that has enough
pub part_there : (w : ℕ) (l : List ℕ) → w ≤ length l → decode_number w l ≡ found (number_of (take w l)) (drop w l)
unfolding decode_number part
part_there w l h = rw (le-leb _ _ h)

-- and of one that has not
pub part_cut : (w : ℕ) (l : List ℕ) → length l < w → decode_number w l ≡ nothing
unfolding decode_number part
part_cut w l h = rw (lt-leb _ _ h)

-- the number of w bytes at a place: too few are left, or it is the number of the part of w bytes
pub number_short : (w at : ℕ) (l : List ℕ) → length l - at < w → number_at w (drop at l) ≡ None
unfolding number_at
number_short w at l h = ap as_answer (part_cut w (drop at l) (omega (arith, length-drop at l)))

pub number_there : (w at : ℕ) (l : List ℕ) → w ≤ length l - at → number_at w (drop at l) ≡ Some (number_of (take w (drop at l)))
unfolding number_at
number_there w at l h = ap as_answer (part_there w (drop at l) (omega (arith, length-drop at l)))

pub ruleset number_parts = (number_short, number_there, add-sub_cancel_left)
