-- Look, over kept tokens and kept entries. j is the bytes of the journal. Assumes nothing.
use Rattle.std.specs.Prelude.{Option, Some, None}
use mathlib.Core.Path.{◌≡◌, sym, ◌∙◌}
use mathlib.Core.Bool.{Bool, true, false, not, cond}
use mathlib.Core.List.{List}
use Prim.Native.Nat.{ℕ, ◌*◌, ◌^◌, ◌<◌}
use borrow.Author.Tests.{not-true, not-false}
use mir.Val.{Fits}
use mir.Syntax.{w64}
use lib.Dec.{ltb}
use lib.ListN.{length, get_or, get_or-map}
use Rattle.lists.specs.Lists.{find, first_at, hit, miss}
use Rattle.lists.specs.AnswerLaws.{row_in, row_fits_lem}
use Rattle.lists.specs.ByteLoopLaws.{length_mapped}
use Rattle.lists.specs.SearchLaws.{first_row_lem, first_miss}
use Rattle.rules.specs.declared.Answer.{Answer}
use Rattle.rules.specs.declared.Entry.{Entry}
use Rattle.rules.specs.declared.Tables.{Tables}
use Rattle.rules.specs.declared.Token.{Token}
use Rattle.rules.specs.declared.TokenNo.{TokenNo}
use Rattle.rules.specs.Numbers.{NO_TOKEN}
use Rattle.rules.specs.Outcome.{refusal, refused}
use Rattle.rules.specs.Tables.{is_token, is_entry, token_of, entry_of}
use Rattle.rules.specs.TokenCalls.{look_in, look_rule}
use Rattle.rows.specs.Links.{row_if}
use Rattle.tokens.specs.Parts.{unchanged}
use Rattle.tokens.specs.Rows.{look_found}
use Rattle.tokens.specs.RowLaws.{look_by_row}
use Rattle.kept.specs.declared.KeptEntry.{KeptEntry}
use Rattle.kept.specs.declared.KeptToken.{KeptToken}
use Rattle.kept.specs.Kept.{entry_in}
use Rattle.kept_tokens.specs.KeptTokens.{tokens_in}
use Rattle.kept_entries.specs.KeptEntries.{entries_in}

pub look_refuses : (t : Tables) (r : Answer) (n : ℕ) → r ≡ refusal n → unchanged t r ≡ refused t n
look_refuses t r n e = rw e

-- the row i that was found lies in the table of the 64 entries, and its place in memory is a number of the machine
module _ (j : List ℕ) (p : Entry → Bool) (es : List KeptEntry) (f : Option ℕ) (i : ℕ) (e : f ≡ first_at p 0 (entries_in j es)) (w : f ≡ Some i) (h : length es ≡ 64) where
  pub entry_in_lem : i < 64
  entry_in_lem = row_in p (entries_in j es) f i 64 e w (length_mapped (entry_in j) es 64 h)

  pub entry_fits : (m : ℕ) → ltb (64 * m) (2 ^ 64) ≡ true → Fits w64 (i * m)
  entry_fits m q = row_fits_lem p (entries_in j es) f i 64 m e w (length_mapped (entry_in j) es 64 h) q

module _ (j : List ℕ) (t : Tables) (clock : ℕ) (es : List KeptEntry) (c : t.clock ≡ clock) (v : t.entries ≡ entries_in j es) (path : List ℕ) (k : Token) (r : Answer) where
  -- f is what the search for the entry said
  module _ (f : Option ℕ) (e : f ≡ first_at (is_entry k.volume path) 0 (entries_in j es)) where
    pub entry_absent : (x : Entry) → f ≡ None
        → ((u : Tables) (m : ℕ) → u.clock ≡ clock → entry_of k.volume path u ≡ cond false (hit m x) miss → unchanged u r ≡ look_in u path (hit 0 k))
        → unchanged t r ≡ look_in t path (hit 0 k)
    unfolding entry_of
    entry_absent x w g = g t 0 c (rw v (first_miss (is_entry k.volume path) (entries_in j es) (sym e ∙ w)))

    pub entry_present : (i : ℕ) (d : KeptEntry) (x : Entry) → f ≡ Some i → x ≡ entry_in j (get_or es i d)
        → ((u : Tables) (m : ℕ) → u.clock ≡ clock → entry_of k.volume path u ≡ cond true (hit m x) miss → unchanged u r ≡ look_in u path (hit 0 k))
        → unchanged t r ≡ look_in t path (hit 0 k)
    unfolding entry_of
    entry_present i d x w q g =
        g t i c (rw (v, q, ← get_or-map (entry_in j) es i d) (first_row_lem (is_entry k.volume path) (entries_in j es) i (sym e ∙ w) (entry_in j d)))

  -- k is the row of the token, where it is there
  module _ (there : Bool) where
    pub look_none : not there ≡ true → r ≡ refusal NO_TOKEN → unchanged t r ≡ look_in t path (row_if there k)
    unfolding look_in
    look_none w h = rw (not-true there w, h)

    pub look_at_lem : not there ≡ false
        → ((u : Tables) → u.clock ≡ clock → u.entries ≡ entries_in j es → unchanged u r ≡ look_in u path (hit 0 k))
        → unchanged t r ≡ look_in t path (row_if there k)
    look_at_lem w g = g t c v ∙ sym (rw (not-false there w))

    pub look_found_lem : (ks : List KeptToken) (n : TokenNo) (i : ℕ) → find (is_token n) (tokens_in j ks) ≡ cond there (hit i k) miss → t.tokens ≡ tokens_in j ks
        → ((u : Tables) → u.clock ≡ clock → u.entries ≡ entries_in j es → unchanged u r ≡ look_found u path (row_if there k))
        → unchanged t r ≡ look_rule n path t
    unfolding token_of
    look_found_lem ks n i e q g = g t c v ∙ look_by_row t n path there i k (rw q e)
