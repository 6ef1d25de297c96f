-- A new token, of code that was handed the last number given and whether a row is free, and the table that it is stored in. Assumes nothing.
use Rattle.std.specs.Prelude.{Option, Some, None}
use mathlib.Core.Path.{◌≡◌, refl, ap, sym, ◌∙◌}
use mathlib.Core.Bool.{Bool, true, false, not, cond}
use mathlib.Core.List.{List}
use Prim.Native.Nat.{ℕ, ◌+◌, ◌<◌, ◌≤◌}
use borrow.Author.Tests.{le-leb, lt-leb, not-true, not-false}
use lib.Dec.{leb}
use lib.ListN.{set}
use lib.Seq.{take_all}
use Rattle.amount.specs.declared.Cap.{Cap}
use Rattle.lists.specs.Lists.{find, hit, miss}
use Rattle.lists.specs.BoolLaws.{not_both}
use Rattle.text.specs.Text.{path_limit, is_prefix}
use Rattle.text.specs.TextLaws.{prefix_fits}
use Rattle.rules.specs.declared.Answer.{Answer}
use Rattle.rules.specs.declared.Mode.{Mode}
use Rattle.rules.specs.declared.VolumeNo.{VolumeNo}
use Rattle.rules.specs.declared.TokenNo.{TokenNo}
use Rattle.rules.specs.declared.Scope.{Scope}
use Rattle.rules.specs.declared.Token.{Token}
use Rattle.rules.specs.declared.Tables.{Tables}
use Rattle.rules.specs.Fresh.{fresh_token}
use Rattle.rules.specs.Limits.{last_number}
use Rattle.rules.specs.Numbers.{SPENT, ROOM}
use Rattle.rules.specs.Scope.{to_scope}
use Rattle.rules.specs.Tables.{free_token}
use Rattle.rules.specs.Outcome.{refusal, refused, success}
use Rattle.rules.specs.TokenCalls.{token_in, new_token}
use Rattle.scopes.specs.Arguments.{scope_arg}
use Rattle.tokens.specs.Parts.{on_tokens, stored_at, stored_in, not_stored, HasScope, HasPrefix, is_found, place_of}
use Rattle.tokens.specs.declared.NewToken.{NewToken}
use Rattle.tokens.specs.declared.TokensOutcome.{TokensOutcome}

-- the refusal that a function made, and the row beside it
pub none_stored : (a : Answer) (k : Token) (n : ℕ) → a ≡ refusal n → k ≡ fresh_token → record { answer = a; stored = false; token = k } ≡ not_stored n
none_stored a k n e f = rw (e, f)

-- it leaves the tables as they are
pub refused_new : (t : Tables) (i : ℕ) (r : NewToken) (n : ℕ) → r ≡ not_stored n → stored_at t i r ≡ refused t n
refused_new t i r n e = rw e

-- and there is no token of which a scope or a prefix is to be told
pub refused_scope : (s : Scope) (r : NewToken) (n : ℕ) → r ≡ not_stored n → HasScope s r
refused_scope s r n e = record { same = λ q. absurd (not_both q (rw e)) }

pub refused_prefix : (b : List ℕ) (r : NewToken) (n : ℕ) → r ≡ not_stored n → HasPrefix b r
refused_prefix b r n e = record { same = λ q. absurd (not_both q (rw e)) }

pub new_scope : (a : Answer) (v : VolumeNo) (p : TokenNo) (s : Scope) (n : ℕ)
    → HasScope s (record { answer = a; stored = true; token = record { no = record { 0 = n }; volume = v; parent = p; scope = s; used = 0 } })
new_scope a v p s n = record { same = λ q. refl }

-- a prefix that is one is kept whole
pub new_prefix : (b : List ℕ) (r : NewToken) (a : Scope) (mode : Mode) (cap : Cap) (start until : ℕ) → is_prefix b ≡ true → a ≡ to_scope (scope_arg b mode cap start until) → HasScope a r
    → HasPrefix b r
new_prefix b r a mode cap start until e f h = record { same = λ q. rw (take_all path_limit b (prefix_fits b e)) (ap (λ (x : Scope). x.prefix) (h.same q ∙ f)) }

module _ (t : Tables) (i last : ℕ) (v : VolumeNo) (p : TokenNo) (s : Scope) (f : t.last_token ≡ last) where
  pub token_spent : (r : NewToken) → last_number ≤ last → r ≡ not_stored SPENT → stored_at t i r ≡ new_token t v p s
  unfolding new_token
  token_spent r h g =
      let w : leb last_number t.last_token ≡ true = rw f (le-leb last_number last h) in
      refused_new t i r SPENT g ∙ sym (rw w)

  module _ (free : Bool) (old : Token) (h : last < last_number) (e : find free_token t.tokens ≡ cond free (hit i old) miss) where
    pub token_no_room : (r : NewToken) → not free ≡ true → r ≡ not_stored ROOM → stored_at t i r ≡ new_token t v p s
    unfolding new_token token_in
    token_no_room r q g =
        let w : leb last_number t.last_token ≡ false = rw f (lt-leb last_number last h) in
        refused_new t i r ROOM g ∙ sym (rw (w, e, not-true free q))

    pub token_next : (a : Answer) → not free ≡ false → a ≡ success (last + 1)
        → stored_at t i (record { answer = a; stored = true; token = record { no = record { 0 = last + 1 }; volume = v; parent = p; scope = s; used = 0 } }) ≡ new_token t v p s
    unfolding new_token token_in
    token_next a q g =
        let w : leb last_number t.last_token ≡ false = rw f (lt-leb last_number last h) in
        sym (rw (w, e, not-false free q, f, g))

-- what was made of the last number, and of whether a row is free, holds of t; the scope is the one that another function made
pub token_told : (t : Tables) (i last : ℕ) (free : Bool) (old : Token) (r : NewToken) (v : VolumeNo) (p : TokenNo) (a b : Scope)
    → ((u : Tables) (j : ℕ) (o : Token) → u.last_token ≡ last → find free_token u.tokens ≡ cond free (hit j o) miss → stored_at u j r ≡ new_token u v p a)
    → t.last_token ≡ last → find free_token t.tokens ≡ cond free (hit i old) miss → a ≡ b → stored_at t i r ≡ new_token t v p b
token_told t i last free old r v p a b g f e q = g t i old f e ∙ rw q

-- what a search said: f
module _ (f : Option ℕ) where
  pub found_none : f ≡ None → false ≡ is_found f
  found_none e = sym (rw e)

  pub found_some : (i : ℕ) → f ≡ Some i → true ≡ is_found f
  found_some i e = sym (rw e)

  pub place_none : f ≡ None → 0 ≡ place_of f
  place_none e = sym (rw e)

  pub place_some : (i : ℕ) → f ≡ Some i → i ≡ place_of f
  place_some i e = sym (rw e)

-- the tokens and the last number as they were, or with the new token
module _ (rows : List Token) (last : ℕ) (f : Option ℕ) (o : NewToken) where
  pub store_none : not o.stored ≡ true → record { answer = o.answer; tokens = rows; last = last } ≡ stored_in rows last (place_of f) o
  store_none q = rw (not-true o.stored q)

  pub store_row : (i : ℕ) → i ≡ place_of f → not o.stored ≡ false
      → record { answer = o.answer; tokens = set rows i o.token; last = o.token.no.0 } ≡ stored_in rows last (place_of f) o
  store_row i e q = rw (not-false o.stored q, e)

-- of the tables t
module _ (rows : List Token) (i last : ℕ) (o : NewToken) (t : Tables) (e : t.tokens ≡ rows) (l : t.last_token ≡ last) where
  on_stored : (b : Bool) → o.stored ≡ b → on_tokens t (stored_in rows last i o) ≡ stored_at t i o
  on_stored true q = rw (q, ← e)
  on_stored false q = rw (q, ← e, ← l)

  pub tokens_stored : (r : TokensOutcome) → r ≡ stored_in rows last i o → on_tokens t r ≡ stored_at t i o
  tokens_stored r h = rw h (on_stored o.stored refl)
