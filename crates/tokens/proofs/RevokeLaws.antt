-- Revoke: at the row of its token, and in the tables; and the loop that clears the rows of a set. Assumes nothing.
use Rattle.std.specs.Prelude.{Option, Some, None}
use mathlib.Core.Path.{◌≡◌, refl, sym, ◌∙◌}
use mathlib.Core.Bool.{Bool, true, false, not, cond}
use mathlib.Core.List.{List, map}
use Prim.Native.Nat.{ℕ, ◌+◌, ◌/◌, ◌%◌, ◌^◌, ◌<◌, ◌≤◌}
use native.Mathlib.Omega.{arith}
use borrow.Author.Rules.{rules}
use borrow.Author.Tests.{not-true, not-false}
use lib.Dec.{eqb}
use lib.ListN.{length, get_or, set}
use Rattle.lists.specs.Lists.{hit, miss, first_at, bit_set}
use Rattle.lists.specs.ByteLoopLaws.{FillLoop, fill_start, fill_same, fill_step_first, fill_whole}
use Rattle.lists.specs.RowLaws.{rows_length}
use Rattle.lists.specs.SearchLaws.{first_row_lem, first_miss}
use Rattle.rules.specs.declared.Account.{Account}
use Rattle.rules.specs.declared.Answer.{Answer}
use Rattle.rules.specs.declared.TokenNo.{TokenNo}
use Rattle.rules.specs.declared.Token.{Token}
use Rattle.rules.specs.declared.Volume.{Volume}
use Rattle.rules.specs.declared.Tables.{Tables}
use Rattle.rules.specs.declared.TablesOutcome.{TablesOutcome}
use Rattle.rules.specs.Fresh.{fresh_token}
use Rattle.rules.specs.Numbers.{NO_TOKEN, NOT_OWNER}
use Rattle.rules.specs.Outcome.{refusal, refused, success}
use Rattle.rules.specs.Scope.{descends}
use Rattle.rules.specs.Tables.{is_volume, is_token, owned_by, volume_of, token_of}
use Rattle.rules.specs.TokenCalls.{revoke_in, revoke_owner, revoke_rule}
use Rattle.rows.specs.Blank.{blank_volume, blank_token}
use Rattle.rows.specs.Links.{token_number, token_parent, row_if}
use Rattle.tokens.specs.Dropped.{cleared_in, dropped_from, none_dropped}
use Rattle.tokens.specs.DroppedLaws.{length_in, row_by_bit, in_none, in_those}
use Rattle.tokens.specs.Parts.{on_tokens}
use Rattle.tokens.specs.RowLaws.{revoke_by_row}
use Rattle.tokens.specs.declared.Dropped.{Dropped}
use Rattle.tokens.specs.declared.TokensOutcome.{TokensOutcome}

-- the refusal that a function made
pub drops_none : (a : Answer) (n : ℕ) → a ≡ refusal n → record { answer = a; set = 0 } ≡ none_dropped n
drops_none a n e = rw e

refused_drop : (t : Tables) (r : Dropped) (n : ℕ) → r ≡ none_dropped n → dropped_from t r ≡ refused t n
refused_drop t r n e = rw (e, in_none fresh_token t.tokens)

-- k is the row of the token, where it is there
module _ (t : Tables) (a : Account) (there : Bool) (k : Token) where
  pub revoke_missed : (r : Dropped) → not there ≡ true → r ≡ none_dropped NO_TOKEN → dropped_from t r ≡ revoke_in t a (row_if there k)
  unfolding revoke_in
  revoke_missed r q e = refused_drop t r NO_TOKEN e ∙ sym (rw (not-true there q))

  -- f is what the search of the volumes said
  module _ (q : not there ≡ false) (vs : List Volume) (v : t.volumes ≡ vs) (f : Option ℕ) (e : f ≡ first_at (is_volume k.volume) 0 vs) where
    by_owner : (x : TablesOutcome) → x ≡ revoke_owner t a k (volume_of k.volume t) → x ≡ revoke_in t a (row_if there k)
    unfolding revoke_in
    by_owner x w = w ∙ sym (rw (not-false there q))

    pub owner_none : (r : Dropped) → f ≡ None → r ≡ none_dropped NOT_OWNER → dropped_from t r ≡ revoke_in t a (row_if there k)
    unfolding revoke_owner volume_of
    owner_none r w g =
        let m : volume_of k.volume t ≡ miss = rw v (first_miss (is_volume k.volume) vs (sym e ∙ w)) in
        by_owner (dropped_from t r) (refused_drop t r NOT_OWNER g ∙ sym (rw m))

    -- b says whether the account owns the volume in the row j
    module _ (j : ℕ) (w : f ≡ Some j) (b : Bool) (o : b ≡ owned_by a (get_or vs j blank_volume)) where
      found : volume_of k.volume t ≡ hit j (get_or vs j blank_volume)
      unfolding volume_of
      found = rw v (first_row_lem (is_volume k.volume) vs j (sym e ∙ w) blank_volume)

      pub owner_other : (r : Dropped) → not b ≡ true → r ≡ none_dropped NOT_OWNER → dropped_from t r ≡ revoke_in t a (row_if there k)
      unfolding revoke_owner
      owner_other r u g = by_owner (dropped_from t r) (refused_drop t r NOT_OWNER g ∙ sym (rw (found, ← o, not-true b u)))

      pub owner_drops : (x : Answer) (s : ℕ) (ns ps : List ℕ) → not b ≡ false → x ≡ success 0 → length t.tokens ≡ 32
          → ns ≡ map token_number t.tokens → ps ≡ map token_parent t.tokens
          → ((ts : List Token) → length ts ≡ 32 → ns ≡ map token_number ts → ps ≡ map token_parent ts → s ≡ bit_set (descends ts k.no) ts)
          → dropped_from t (record { answer = x; set = s }) ≡ revoke_in t a (row_if there k)
      unfolding revoke_owner
      owner_drops x s ns ps u y m c d g =
          by_owner (dropped_from t (record { answer = x; set = s }))
          (rw (y, g t.tokens m c d, in_those fresh_token (descends t.tokens k.no) t.tokens) (sym (rw (found, ← o, not-false b u))))

-- in the rows, where x is the answer and s the set of the rows that go
pub revoke_told : (t : Tables) (a : Account) (n : TokenNo) (i last : ℕ) (k : Token) (vs : List Volume) (rows out : List Token) (ns ps : List ℕ) (x : Answer) (s : ℕ)
    → out ≡ cleared_in s fresh_token rows → length rows ≡ 32 → ns ≡ map token_number rows → ps ≡ map token_parent rows
    → t.volumes ≡ vs → t.tokens ≡ rows → t.last_token ≡ last → token_of n t ≡ hit i k
    → ((u : Tables) → length u.tokens ≡ 32 → u.volumes ≡ vs → ns ≡ map token_number u.tokens → ps ≡ map token_parent u.tokens
    → dropped_from u (record { answer = x; set = s }) ≡ revoke_in u a (hit 0 k))
    → on_tokens t (record { answer = x; tokens = out; last = last }) ≡ revoke_rule a n t
revoke_told t a n i last k vs rows out ns ps x s c m d e v q l h g =
    rw (c, ← q, ← l) (g t (rw q m) v (rw q d) (rw q e) ∙ revoke_by_row t a n true i k h)

-- f is what the search for the token n said
module _ (t : Tables) (a : Account) (n : TokenNo) (f : Option ℕ) (e : f ≡ first_at (is_token n) 0 t.tokens) (r : TokensOutcome) where
  pub revoke_none : f ≡ None → on_tokens t r ≡ refused t NO_TOKEN → on_tokens t r ≡ revoke_rule a n t
  unfolding revoke_rule revoke_in token_of
  revoke_none w h = h ∙ sym (rw (first_miss (is_token n) t.tokens (sym e ∙ w)))

  pub revoke_found : (i : ℕ) → f ≡ Some i
      → ((u : Tables) (m : TokenNo) (j : ℕ) → u.volumes ≡ t.volumes → u.tokens ≡ t.tokens → u.last_token ≡ t.last_token
      → token_of m u ≡ hit j (get_or t.tokens i blank_token) → on_tokens u r ≡ revoke_rule a m u)
      → on_tokens t r ≡ revoke_rule a n t
  unfolding token_of
  revoke_found i w g = g t n i refl refl refl (first_row_lem (is_token n) t.tokens i (sym e ∙ w) blank_token)

-- the loop that clears the rows of the set s: the first i rows are done
pub record ClearSetLoop (s : ℕ) (rows : List Token) (i : ℕ) (out : List Token) : Type 0 where
  pub done : FillLoop rows 0 (cleared_in s fresh_token rows) 32 i out

module _ (s : ℕ) (rows : List Token) where
  pub clear_start : length rows ≡ 32 → ClearSetLoop s rows 0 rows
  clear_start e = record { done = fill_start rows 0 (cleared_in s fresh_token rows) 32 (omega arith) (omega (arith, length_in fresh_token s rows)) }

  module _ (i : ℕ) (out : List Token) (h : ClearSetLoop s rows i out) where
    pub clear_end : 32 ≤ i → length rows ≡ 32 → out ≡ cleared_in s fresh_token rows
    clear_end k e = fill_whole rows (cleared_in s fresh_token rows) 32 i out h.done k e (length_in fresh_token s rows ∙ e)

    pub clear_size : length out ≡ length rows
    clear_size = h.done.size

    -- b is the bit of row i, and next the table after it
    module _ (b : Bool) (next : List Token) (k : i < 32) (e : b ≡ eqb (s / 2 ^ i % 2) 1) where
      row : get_or (cleared_in s fresh_token rows) i blank_token ≡ cond b fresh_token (get_or rows i blank_token)
      row = rw e (row_by_bit fresh_token s rows i blank_token (omega (arith, h.done.room)))

      pub clear_row : b ≡ true → (y : Token) → next ≡ set out i y → y ≡ fresh_token → ClearSetLoop s rows (i + 1) next
      clear_row t y f q =
          let z : get_or (cleared_in s fresh_token rows) i blank_token ≡ fresh_token = row ∙ rw t in
          let g = fill_step_first rows (cleared_in s fresh_token rows) 32 i out blank_token h.done k in
          record { done = rw (f, q) (rw z at g) }

      pub keep_row : b ≡ false → next ≡ out → ClearSetLoop s rows (i + 1) next
      keep_row t f = record { done = rw f (fill_same rows (cleared_in s fresh_token rows) 32 i out blank_token h.done k (row ∙ rw t)) }

pub ruleset clears = (clear_row, keep_row, clear_end, clear_size, clear_start, rows_length, rules)
