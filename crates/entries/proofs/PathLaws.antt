-- Rows by a path that is a text: what was found at the part of the text's array that was lent, and whether there is such a row. Assumes nothing.
use Rattle.std.specs.Prelude.{Option, Some, None}
use mathlib.Core.Path.{◌≡◌, sym, ◌∙◌}
use mathlib.Core.Bool.{Bool, true, false}
use mathlib.Core.Logic.{⊎_elim}
use mathlib.Core.List.{List}
use Prim.Native.Nat.{ℕ, ◌<◌, ◌≤◌}
use native.Mathlib.Omega.{arith}
use borrow.Author.Rules.{rules}
use lib.ListN.{length, take, length-take}
use lib.Seq.{take_all}
use Rattle.lists.specs.Lists.{first_at, any_of}
use Rattle.lists.specs.BoolLaws.{pass_or_fail}
use Rattle.lists.specs.SearchLaws.{first_index, first_miss, miss_none, none_miss}
use Rattle.text.specs.Text.{Text}
use Rattle.text.specs.Text.{path_limit, text_bytes, to_text}
use Rattle.text.specs.TextLaws.{part_within, part_length, part_bytes}
use Rattle.rules.specs.declared.Put.{Put}
use Rattle.rules.specs.Tables.{is_put}

-- a text has its array's length or less
module _ (t : Text) (e : length t.bytes ≡ path_limit) where
  pub len_within : t.len < path_limit → t.len ≡ length (text_bytes t)
  len_within h = omega (arith, length-take t.len t.bytes)

  pub len_whole : path_limit ≤ t.len → path_limit ≡ length (text_bytes t)
  len_whole h = omega (arith, length-take t.len t.bytes)

  pub text_fits : length (text_bytes t) ≤ path_limit
  text_fits = omega (arith, length-take t.len t.bytes)

-- a search found a row, or none
module _ {A : Type 0} (p : A → Bool) (l : List A) (f : Option ℕ) (e : f ≡ first_at p 0 l) where
  pub row_there : (i : ℕ) → f ≡ Some i → any_of p l ≡ true
  row_there i w = ⊎_elim (λ t. t) (λ n. absurd (other (sym (first_index p 0 l ∙ rw (none_miss p l 0 n)) ∙ sym e ∙ w))) (pass_or_fail (any_of p l))
    where
      other : None ≡ Some i → ⊥
      other q = let z : ◌≡◌ {A = ℕ} 0 1 = cc in omega arith

  pub row_missing : f ≡ None → any_of p l ≡ false
  row_missing w = miss_none p l 0 (first_miss p l (sym e ∙ w))

-- what was said of the n bytes that were lent is said of the text
module _ (t : Text) (n : ℕ) (e : n ≡ length (text_bytes t)) where
  pub path_within : n ≤ length t.bytes
  path_within = part_within t.bytes t.len n e

  pub path_length : n ≡ length (take n t.bytes)
  path_length = part_length t.bytes t.len n e

  pub anew : (r : Text) → length t.bytes ≡ path_limit → r ≡ to_text (take path_limit (take n t.bytes)) → r ≡ to_text (text_bytes t)
  anew r h q = q ∙ rw (part_bytes t.bytes t.len n e, take_all path_limit (text_bytes t) (text_fits t h))

  module _ (puts : List Put) (f : Option ℕ) (q : f ≡ first_at (is_put (take n t.bytes)) 0 puts) where
    put_part : f ≡ first_at (is_put (text_bytes t)) 0 puts
    put_part = rw (← part_bytes t.bytes t.len n e) q

    pub put_there : (i : ℕ) → f ≡ Some i → true ≡ any_of (is_put (text_bytes t)) puts
    put_there i w = sym (row_there (is_put (text_bytes t)) puts f put_part i w)

    pub put_missing : f ≡ None → false ≡ any_of (is_put (text_bytes t)) puts
    put_missing w = sym (row_missing (is_put (text_bytes t)) puts f put_part w)

-- the same where b is what the text gave as its bytes
module _ (t : Text) (b : List ℕ) (e : b ≡ text_bytes t) where
  pub written_anew : (r : Text) → length t.bytes ≡ path_limit → r ≡ to_text (take path_limit b) → r ≡ to_text (text_bytes t)
  written_anew r h q = q ∙ rw (e, take_all path_limit (text_bytes t) (text_fits t h))

  module _ (puts : List Put) (f : Option ℕ) (q : f ≡ first_at (is_put b) 0 puts) where
    there : f ≡ first_at (is_put (text_bytes t)) 0 puts
    there = rw (← e) q

    pub staged_there : (i : ℕ) → f ≡ Some i → true ≡ any_of (is_put (text_bytes t)) puts
    staged_there i w = sym (row_there (is_put (text_bytes t)) puts f there i w)

    pub staged_missing : f ≡ None → false ≡ any_of (is_put (text_bytes t)) puts
    staged_missing w = sym (row_missing (is_put (text_bytes t)) puts f there w)

pub ruleset given-paths = (written_anew, staged_there, staged_missing, rules)

pub ruleset lens = (len_within, len_whole, rules)

pub ruleset lent-paths = (path_within, path_length, anew, put_there, put_missing, rules)
