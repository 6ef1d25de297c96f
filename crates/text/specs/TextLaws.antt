-- Laws of texts: the part of an array that a text is, and what a text holds. Assumes nothing.
use Rattle.std.specs.Prelude.{◌≡◌, refl, Bool, true, ◌&&◌, List, [], ◌∷◌, ℕ, zero, suc, min, ◌-◌, ◌≤◌, leb, eqb, length, take, get_or, replicate}
use Rattle.std.proofs.Common.{ap, sym, ◌∙◌, zero-add, arith, le-leb, leb-true, rules, length-take, take_at, length-take-le}
use Rattle.std.proofs.Math.Nat.{min_comm, min-zero, min-le_right, suc-min-suc}
use Rattle.std.proofs.Math.Seq.{take-nil}
use Rattle.lists.specs.Lists.{all_of}
use Rattle.lists.specs.Bytes.{same_bytes, starts_with}
use Rattle.lists.specs.BoolLaws.{and_left, and_right}
use Rattle.text.specs.Text.{path_limit, name_limit, slash, is_path_byte, is_part, parts, is_path, but_last}
use Rattle.text.specs.Text.{is_path_and_slash, is_prefix, is_name_byte, is_name, text_bytes, to_text, holds, text_of, name_bytes, to_name, holds_name}

-- no more than all
pub take_min : (m : ℕ) (l : List ℕ) → take (min (length l) m) l ≡ take m l
take_min m [] = take-nil (min 0 m) ∙ sym (take-nil m)
take_min zero (x ∷ xs) = rw (min-zero (suc (length xs)))
take_min (suc m) (x ∷ xs) = rw (suc-min-suc (length xs) m) (ap (λ ys. x ∷ ys) (take_min m xs))

-- the part of the array l of a text or a name of length len that holds its n bytes
module _ (l : List ℕ) (len n : ℕ) (e : n ≡ length (take len l)) where
  pub part_within : n ≤ length l
  part_within = omega (arith, length-take len l, min-le_right len (length l))

  pub part_bytes : take n l ≡ take len l
  part_bytes = ap (λ (k : ℕ). take k l) (e ∙ length-take len l ∙ min_comm len (length l)) ∙ take_min len l

  pub part_length : n ≡ length (take n l)
  part_length = e ∙ ap length (sym part_bytes)

  -- what was said of that part is said of the text
  module _ (r : Bool) (s : List ℕ) where
    pub part_same : r ≡ same_bytes (take n l) s → r ≡ same_bytes (take len l) s
    part_same f = rw (← part_bytes) f

    pub part_begins : r ≡ starts_with (take n l) s → r ≡ starts_with (take len l) s
    part_begins f = rw (← part_bytes) f

    pub same_part : r ≡ same_bytes s (take n l) → r ≡ same_bytes s (take len l)
    same_part f = rw (← part_bytes) f

pub ruleset lent = (part_within, part_length, part_same, part_begins, same_part, rules)

-- a text holds what it was made of
module _ (n : ℕ) (s : List ℕ) where
  pub made_bytes : text_bytes (text_of n s) ≡ s
  made_bytes = take_at s (replicate (n - length s) 0) (length s) refl

  pub made_holds : (p : List ℕ → Bool) → length s ≤ n → holds p (text_of n s) ≡ p s
  made_holds p h = rw (le-leb (length s) n h, made_bytes)

pub text_bytes_lem : (s : List ℕ) → text_bytes (to_text s) ≡ s
text_bytes_lem s = made_bytes path_limit s

pub name_bytes_lem : (s : List ℕ) → name_bytes (to_name s) ≡ s
name_bytes_lem s = made_bytes name_limit s

pub text_holds : (p : List ℕ → Bool) (s : List ℕ) → length s ≤ path_limit → holds p (to_text s) ≡ p s
text_holds p s h = made_holds path_limit s p h

pub name_holds : (s : List ℕ) → length s ≤ name_limit → holds_name (to_name s) ≡ is_name s
name_holds s h = made_holds name_limit s is_name h

-- the bytes of a path or a prefix fit a text, and those of a name a name
pub path_fits : (s : List ℕ) → is_path s ≡ true → length s ≤ path_limit
unfolding is_path
path_fits s e =
    let l = leb 1 (length s) in
    let m = leb (length s) path_limit in
    let b = all_of is_path_byte s in
    leb-true (length s) path_limit (and_right l m (and_left (l && m) b (and_left (l && m && b) (all_of is_part (parts s)) e)))

pub prefix_fits : (s : List ℕ) → is_prefix s ≡ true → length s ≤ path_limit
unfolding is_prefix is_path_and_slash
prefix_fits [] e = omega arith
prefix_fits (x ∷ xs) e =
    let s = x ∷ xs in
    let m = leb (length s) path_limit in
    let b = eqb (get_or s (length s - 1) 0) slash in
    leb-true (length s) path_limit (and_left m b (and_left (m && b) (is_path (but_last s)) e))

pub name_fits : (s : List ℕ) → is_name s ≡ true → length s ≤ name_limit
unfolding is_name
name_fits s e =
    let l = leb 1 (length s) in
    let m = leb (length s) name_limit in
    leb-true (length s) name_limit (and_right l m (and_left (l && m) (all_of is_name_byte s) e))
