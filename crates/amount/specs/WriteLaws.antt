-- Laws for the writer: a text at the start of a buffer, digits placed in front of a text, and the answers of writing.
use Rattle.std.specs.Prelude.{◌≡◌, Bool, List, [], ◌∷◌, ◌++◌, ℕ, zero, suc, ◌+◌, ◌-◌, ◌/◌, ◌%◌, ◌<◌, ◌≤◌, ltb, length, take, set}
use Rattle.std.proofs.Math.Path.{refl}
use Rattle.std.proofs.Common.{sym, ◌∙◌, ap, append_assoc, append-nil, zero-add, arith, lt-ltb, le-ltb, length-drop, drop_of_length-le, take_all, drop_at, drop-drop, length-append, length-take-le}
use Rattle.std.proofs.Math.Bool.{true, false, cond}
use borrow.Rule.Slice.PartMut.{mid_of, post_of, put_mid}
use Rattle.std.proofs.Math.ListN.{drop}
use Rattle.std.proofs.lemmas.List.{set_split}
use Rattle.lists.specs.Bytes.{over}
use Rattle.std.specs.Prelude.{Ok, Err}
use Rattle.amount.specs.declared.error.AmountError.TheVariants.{Room}
use Rattle.amount.specs.Digits.{digit, decimal}
use Rattle.amount.specs.DecimalLaws.{small_or_more, decimal_small, decimal_more, decimal_some}
use Rattle.amount.specs.Steps.{fitted}
use Rattle.amount.specs.Writing.{at_start, buffer_at}

-- A text at the start of a buffer that has no room for it, and of one that has.
module _ (text buf : List ℕ) where
  pub start_short : length buf < length text → at_start text buf ≡ buf
  unfolding at_start
  start_short h = rw (lt-ltb (length buf) (length text) h)

  pub start_whole : length text ≤ length buf → at_start text buf ≡ text ++ drop (length text) buf
  unfolding at_start
  start_whole h = rw (le-ltb (length buf) (length text) h)

  pub start_over : length text ≤ length buf → at_start text buf ≡ over 0 text buf
  start_over h = start_whole h ∙ ap (λ (k : ℕ). text ++ drop k buf) (sym (zero-add (length text)))

  -- The buffer that the answer of writing leaves.
  pub start_answered : at_start text buf ≡ buffer_at (fitted text (length buf)) text buf
  unfolding at_start
  start_answered = go (ltb (length buf) (length text))
    where
      go : (b : Bool) → cond b buf (text ++ drop (length text) buf) ≡ buffer_at (cond b (Err Room) (Ok (length text))) text buf
      go true = refl
      go false = refl

-- A text written into what stands from a place on, in a buffer that has room for it: part is the lent rest of the buffer after the writing.
module _ (at : ℕ) (text buf part : List ℕ) (h : at + length text ≤ length buf) where
  rest_whole : mid_of at (length buf - at) buf ≡ drop at buf
  rest_whole = take_all (length buf - at) (drop at buf) (omega (arith, length-drop at buf))

  rest_end : post_of at (length buf - at) buf ≡ []
  rest_end = drop_of_length-le (drop at buf) {i = length buf - at} (omega (arith, length-drop at buf))

  pub rest_written : part ≡ at_start text (mid_of at (length buf - at) buf) → put_mid at (length buf - at) buf part ≡ over at text buf
  rest_written e =
      let p : part ≡ text ++ drop (at + length text) buf =
      e ∙ rw rest_whole (start_whole text (drop at buf) (omega (arith, length-drop at buf)) ∙ rw drop-drop) in
      rw (rest_end, append-nil, p, append_assoc)

-- One byte in front of what stands from i on.
placed : (l : List ℕ) (i b : ℕ) → 1 ≤ i → i ≤ length l → drop (i - 1) (set l (i - 1) b) ≡ b ∷ drop i l
placed l zero b h k = absurd (omega arith)
placed l (suc j) b h k =
    let e : suc j - 1 ≡ j = omega arith in
    rw (e, set_split l j b k) (drop_at (take j l) (b ∷ drop (suc j) l) j (length-take-le j l (omega arith)))

module _ (n : ℕ) (l : List ℕ) (i : ℕ) (h : 1 ≤ i) (k : i ≤ length l) where
  -- The last digit, with the others still to come.
  pub digit_placed : 10 ≤ n → decimal n ++ drop i l ≡ decimal (n / 10) ++ drop (i - 1) (set l (i - 1) (digit (n % 10)))
  digit_placed m = rw (decimal_more n m, placed l i (digit (n % 10)) h k, append_assoc)

  -- The first digit.
  pub number_placed : n < 10 → decimal n ++ drop i l ≡ drop (i - 1) (set l (i - 1) (digit n))
  number_placed m = rw (decimal_small n m, placed l i (digit n) h k)

-- i digits are still to come: those of rest, in front of what was written. Where none is, the whole is written.
pub record Placing (buf₀ : List ℕ) (n i rest : ℕ) (buf : List ℕ) : Type 0 where
  pub left : 0 < i → (i ≡ length (decimal rest)) × (decimal rest ++ drop i buf ≡ at_start (decimal n) buf₀)
  pub done : i ≡ 0 → buf ≡ at_start (decimal n) buf₀

pub placing_start : (buf₀ : List ℕ) (n i : ℕ) → i ≡ length (decimal n) → i ≤ length buf₀ → Placing buf₀ n i n buf₀
placing_start buf₀ n i e h =
    record {
      left = λ _. (e, rw e (sym (start_whole (decimal n) buf₀ (rw e at h))));
      done = λ z. absurd (omega (arith, decimal_some n));
    }

pub placing_on : (buf₀ : List ℕ) (n i rest : ℕ) (buf : List ℕ) → Placing buf₀ n i rest buf → 0 < i → i ≤ length buf
    → Placing buf₀ n (i - 1) (rest / 10) (set buf (i - 1) (48 + rest % 10))
placing_on buf₀ n i rest buf p h k = small_or_more rest _ small more
  where
    more : 10 ≤ rest → Placing buf₀ n (i - 1) (rest / 10) (set buf (i - 1) (48 + rest % 10))
    more m =
        let l : length (decimal rest) ≡ length (decimal (rest / 10)) + 1 = ap length (decimal_more rest m) ∙ length-append (decimal (rest / 10)) (digit (rest % 10) ∷ []) in
        let e : i ≡ length (decimal rest) = (p.left h).0 in
        record {
          left = λ _. (omega arith, sym (digit_placed rest buf i h k m) ∙ (p.left h).1);
          done = λ z. absurd (omega (arith, decimal_some (rest / 10)));
        }

    small : rest < 10 → Placing buf₀ n (i - 1) (rest / 10) (set buf (i - 1) (48 + rest % 10))
    small s =
        let e : i ≡ 1 = (p.left h).0 ∙ ap length (decimal_small rest s) in
        let r : rest % 10 ≡ rest = omega arith in
        record {
          left = λ q. absurd (omega arith);
          done = λ z. rw (r, e) (sym (number_placed rest buf 1 (omega arith) (omega arith) s) ∙ rw e at (p.left h).1);
        }
