-- Look: at the rows of its token and of its path, and in the tables. Assumes nothing.
use Rattle.std.specs.Prelude.{Option}
use mathlib.Core.Path.{◌≡◌, refl, sym, ◌∙◌}
use mathlib.Core.Bool.{Bool, true, false, not, cond}
use mathlib.Core.List.{List}
use Prim.Native.Nat.{ℕ, ◌<◌, ◌≤◌}
use borrow.Author.Tests.{not-true, not-false}
use lib.ListN.{get_or}
use Rattle.lists.specs.Lists.{hit, miss, first_at}
use Rattle.lists.specs.LoopLaws.{FindLoop, find_end}
use Rattle.lists.specs.SearchLaws.{first_row_lem, first_miss}
use Rattle.rules.specs.declared.Answer.{Answer}
use Rattle.rules.specs.declared.VolumeNo.{VolumeNo}
use Rattle.rules.specs.declared.TokenNo.{TokenNo}
use Rattle.rules.specs.declared.Scope.{Scope}
use Rattle.rules.specs.declared.Token.{Token}
use Rattle.rules.specs.declared.Entry.{Entry}
use Rattle.rules.specs.declared.Tables.{Tables}
use Rattle.rules.specs.declared.TablesOutcome.{TablesOutcome}
use Rattle.rules.specs.Fresh.{fresh_entry}
use Rattle.rules.specs.Numbers.{NO_TOKEN, NO_ENTRY}
use Rattle.rules.specs.Outcome.{refusal, refused, success_with}
use Rattle.rules.specs.Scope.{in_window}
use Rattle.rules.specs.Tables.{is_token, is_entry, token_of, entry_of}
use Rattle.rules.specs.TokenCalls.{look_in, look_entry, look_rule}
use Rattle.rows.specs.Blank.{blank_token, blank_entry}
use Rattle.rows.specs.EntryLaws.{entry_here}
use Rattle.tokens.specs.Parts.{unchanged, is_found, place_of}
use Rattle.rows.specs.Links.{row_if}
use Rattle.tokens.specs.Rows.{look_found}
use Rattle.tokens.specs.RowLaws.{look_by_row}
use Rattle.tokens.specs.FoundLaws.{found_row}

-- the entry's row e, where it was found
module _ (t : Tables) (j : ℕ) (found : Bool) (e : Entry) (r : Answer) where
  pub entry_none : not found ≡ true → r ≡ refusal NO_ENTRY → unchanged t r ≡ look_entry t (cond found (hit j e) miss)
  unfolding look_entry
  entry_none q h = rw (not-true found q, h)

  pub entry_at : not found ≡ false → r ≡ success_with e.size e.hash → unchanged t r ≡ look_entry t (cond found (hit j e) miss)
  unfolding look_entry
  entry_at q h = rw (not-false found q, h)

  pub entry_told : (n : VolumeNo) (path : List ℕ) → entry_of n path t ≡ cond found (hit j e) miss
      → ((u : Tables) (m : ℕ) → unchanged u r ≡ look_entry u (cond found (hit m e) miss)) → unchanged t r ≡ look_entry t (entry_of n path t)
  entry_told n path h g = g t j ∙ sym (rw h)

-- the window of a scope, where r says it of the clock y, which is x
module _ (x y : ℕ) (s : Scope) (r : Bool) (e : x ≡ y) (h : r ≡ in_window y s) where
  pub window_shut : not r ≡ true → in_window x s ≡ false
  window_shut q = rw e (sym h ∙ not-true r q)

  pub window_open : not r ≡ false → in_window x s ≡ true
  window_open q = rw e (sym h ∙ not-false r q)

-- by the token k: at the row i of the entries, and past their end
module _ (t : Tables) (clock : ℕ) (es : List Entry) (c : t.clock ≡ clock) (v : t.entries ≡ es) (k : Token) (path : List ℕ) (i : ℕ) (r : Answer)
    (h : FindLoop (is_entry k.volume path) es 64 i) where
  pub look_here : (b : Bool) → b ≡ true → b ≡ is_entry k.volume path (get_or es i blank_entry) → i < 64
      → ((u : Tables) (m : ℕ) → u.clock ≡ clock → entry_of k.volume path u ≡ cond true (hit m (get_or es i blank_entry)) miss → unchanged u r ≡ look_in u path (hit 0 k))
      → unchanged t r ≡ look_in t path (hit 0 k)
  unfolding entry_of
  look_here b q w l g =
      g t i c (rw v (first_row_lem (is_entry k.volume path) es i (sym (entry_here k.volume path es i b q w l h)) blank_entry))

  pub look_past : (e : Entry) → e ≡ fresh_entry → 64 ≤ i
      → ((u : Tables) (m : ℕ) → u.clock ≡ clock → entry_of k.volume path u ≡ cond false (hit m e) miss → unchanged u r ≡ look_in u path (hit 0 k))
      → unchanged t r ≡ look_in t path (hit 0 k)
  unfolding entry_of
  look_past e q l g = g t i c (rw v (first_miss (is_entry k.volume path) es (sym (find_end (is_entry k.volume path) es 64 i h l))))

-- k is the row of the token, where it is there
module _ (t : Tables) (path : List ℕ) (there : Bool) (k : Token) where
  pub look_none : (x : TablesOutcome) → not there ≡ true → x ≡ refused t NO_TOKEN → x ≡ look_in t path (row_if there k)
  unfolding look_in
  look_none x w h = h ∙ sym (rw (not-true there w))

  pub look_at_lem : (clock : ℕ) (es : List Entry) (r : Answer) → not there ≡ false → t.clock ≡ clock → t.entries ≡ es
      → ((u : Tables) → u.clock ≡ clock → u.entries ≡ es → unchanged u r ≡ look_in u path (hit 0 k))
      → unchanged t r ≡ look_in t path (row_if there k)
  unfolding look_in
  look_at_lem clock es r w c v g = g t c v ∙ sym (rw (not-false there w))

-- f is what the search for the token n said
pub look_told : (t : Tables) (path : List ℕ) (n : TokenNo) (f : Option ℕ) (there : Bool) (i : ℕ) (r : Answer) → f ≡ first_at (is_token n) 0 t.tokens
    → there ≡ is_found f → i ≡ place_of f
    → ((u : Tables) → u.clock ≡ t.clock → u.entries ≡ t.entries → unchanged u r ≡ look_found u path (row_if there (get_or t.tokens i blank_token)))
    → unchanged t r ≡ look_rule n path t
unfolding token_of
look_told t path n f there i r e p q g =
    g t refl refl
    ∙ look_by_row t n path there i (get_or t.tokens i blank_token) (rw (p, q) (found_row (is_token n) t.tokens blank_token f e))
