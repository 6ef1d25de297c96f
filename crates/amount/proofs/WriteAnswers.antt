-- The answers of the writer: each law ends in what the code owes, and its premises are what the code knows there.
use Rattle.std.specs.Prelude.{◌≡◌, refl, List, ◌∷◌, ◌++◌, ℕ, ◌+◌, ◌-◌, ◌/◌, ◌<◌, ◌≤◌, length, take, drop}
use Rattle.std.proofs.Common.{sym, ◌∙◌, ap, arith, append_assoc, length-append, take_at, drop_at, drop-drop}
use borrow.Rule.Slice.PartMut.{post_of}
use Rattle.amount.specs.declared.unit.ByteUnit.{ByteUnit}
use Rattle.amount.specs.Amount.{space, size_of, name_of}
use Rattle.amount.specs.Digits.{decimal}
use Rattle.amount.specs.Writing.{at_start, in_unit, unit_for}
use Rattle.amount.specs.WriteLaws.{start_short, start_whole}

-- A text over what stands after another at the start of a buffer.
start_joined : (d e buf : List ℕ) (start len : ℕ) → start ≡ length d → len ≡ length e → length d + length e ≤ length buf
    → take start (at_start d buf) ++ (e ++ post_of start len (at_start d buf)) ≡ at_start (d ++ e) buf
start_joined d e buf start len s l h =
    let whole : at_start (d ++ e) buf ≡ (d ++ e) ++ drop (length (d ++ e)) buf = start_whole (d ++ e) buf (omega (arith, length-append d e)) in
    rw (s, l, start_whole d buf (omega arith), take_at d (drop (length d) buf) (length d) refl, drop_at d (drop (length d) buf) (length d) refl, drop-drop, whole, length-append d e, append_assoc)

-- A count in its unit u, which has so many bytes: the number's digits, of which there are start, and then the text e.
module _ (n bytes start : ℕ) (u : ByteUnit) (e buf : List ℕ) (eu : u ≡ unit_for n) (eb : bytes ≡ size_of u) (ee : e ≡ space ∷ name_of u)
    (es : start ≡ length (decimal (n / bytes))) where
  whole : decimal (n / bytes) ++ e ≡ in_unit (unit_for n) n
  whole = rw (ee, eb, eu)

  pub count_short : length buf < start + length e → buf ≡ at_start (in_unit (unit_for n) n) buf
  count_short h = sym (rw (← whole) (start_short (decimal (n / bytes) ++ e) buf (omega (arith, length-append (decimal (n / bytes)) e))))

  -- m is the buffer after the digits, and t what was copied
  pub count_left : (m t : List ℕ) → m ≡ at_start (decimal (n / bytes)) buf → t ≡ e → start + length e ≤ length buf
      → take start m ++ (t ++ post_of start (start + length e - start) m) ≡ at_start (in_unit (unit_for n) n) buf
  count_left m t em et h = rw (em, et) (start_joined (decimal (n / bytes)) e buf start (start + length e - start) es (omega arith) (omega arith) ∙ ap (λ (x : List ℕ). at_start x buf) whole)
