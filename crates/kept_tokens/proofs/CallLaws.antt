-- The calls on tokens, in a table of kept ones. j is the bytes of the journal. Assumes nothing.
use Rattle.std.specs.Prelude.{Option}
use mathlib.Core.Path.{◌≡◌, refl, ap, sym, ◌∙◌}
use mathlib.Core.Bool.{Bool, true, false, not, cond}
use mathlib.Core.List.{List, [], ◌∷◌, map}
use Prim.Native.Nat.{ℕ, zero, suc, ◌+◌}
use borrow.Author.Tests.{not-true, not-false}
use lib.ListN.{length, get_or, set}
use Rattle.amount.specs.declared.Cap.{Cap}
use Rattle.lists.specs.Lists.{first_at, find, hit, miss}
use Rattle.lists.specs.ByteLoopLaws.{length_mapped}
use Rattle.text.specs.Text.{Text}
use Rattle.rules.specs.declared.Account.{Account}
use Rattle.rules.specs.declared.Answer.{Answer}
use Rattle.rules.specs.declared.Mode.{Mode}
use Rattle.rules.specs.declared.Tables.{Tables}
use Rattle.rules.specs.declared.Token.{Token}
use Rattle.rules.specs.declared.TokenNo.{TokenNo}
use Rattle.rules.specs.declared.Volume.{Volume}
use Rattle.rules.specs.declared.VolumeNo.{VolumeNo}
use Rattle.rules.specs.Scope.{depth}
use Rattle.rules.specs.Tables.{is_token, free_token, token_of}
use Rattle.rules.specs.TokenCalls.{grant_rule, attenuate_rule, revoke_in, revoke_rule}
use Rattle.rows.specs.Blank.{blank_token}
use Rattle.rows.specs.Links.{token_number, token_parent, chain_in, row_if}
use Rattle.rows.specs.LinkLaws.{depth_linked}
use Rattle.scopes.specs.Arguments.{scope_arg}
use Rattle.tokens.specs.declared.NewToken.{NewToken}
use Rattle.tokens.specs.Dropped.{dropped_from, cleared_in}
use Rattle.tokens.specs.FoundLaws.{found_row}
use Rattle.tokens.specs.Parts.{stored_at, HasPrefix, is_found, place_of}
use Rattle.tokens.specs.Rows.{attenuate_found}
use Rattle.tokens.specs.RowLaws.{attenuate_by_row, revoke_by_row}
use Rattle.kept.specs.declared.KeptToken.{KeptToken}
use Rattle.kept.specs.Kept.{bytes_in, text_in, token_in, fresh_kept_token}
use Rattle.kept_tokens.specs.declared.KeptTokens.{KeptTokens}
use Rattle.kept_tokens.specs.KeptTokens.{tokens_in, free_kept, kept_number, kept_parent}
use Rattle.kept_tokens.specs.KeptTokenLaws.{free_in, numbers_in, parents_in, cleared_in_lem}
use Rattle.kept_tokens.specs.Calls.{on_kept_tokens, kept_as, kept_stored}

-- the kept rows as they were, or with the new token
module _ (rows : List KeptToken) (last at n : ℕ) (f : Option ℕ) (o : NewToken) where
  pub store_none : not o.stored ≡ true → record { answer = o.answer; tokens = rows; last = last } ≡ kept_stored rows last (place_of f) at n o
  store_none q = rw (not-true o.stored q)

  pub store_row : (i : ℕ) (k : KeptToken) → i ≡ place_of f → k ≡ kept_as o.token at n → not o.stored ≡ false
      → record { answer = o.answer; tokens = set rows i k; last = o.token.no.0 } ≡ kept_stored rows last (place_of f) at n o
  store_row i k e w q = rw (not-false o.stored q, e, w)

map_set : {A B : Type 0} (f : A → B) (l : List A) (i : ℕ) (v : A) → map f (set l i v) ≡ set (map f l) i (f v)
map_set f [] i v = refl
map_set f (x ∷ xs) zero v = refl
map_set {B = B} f (x ∷ xs) (suc i) v = ap (λ (t : List B). f x ∷ t) (map_set f xs i v)

-- a token whose prefix is the text at the place is the one that the kept token stands for
abbrev with_prefix : Token → Text → Token
with_prefix k x = record {
  no = k.no;
  volume = k.volume;
  parent = k.parent;
  scope = record { prefix = x; mode = k.scope.mode; cap = k.scope.cap; «from» = k.scope.«from»; until = k.scope.until };
  used = k.used;
}

kept_same : (j : List ℕ) (k : Token) (at n : ℕ) → k.scope.prefix ≡ text_in j at n → token_in j (kept_as k at n) ≡ k
kept_same j k at n e = ap (with_prefix k) (sym e)

-- of the tables t
module _ (j : List ℕ) (rows : List KeptToken) (i last at n : ℕ) (o : NewToken) (t : Tables) (e : t.tokens ≡ tokens_in j rows) (l : t.last_token ≡ last)
    (h : HasPrefix (bytes_in j at n) o) where
  on_stored : (b : Bool) → o.stored ≡ b → on_kept_tokens j t (kept_stored rows last i at n o) ≡ stored_at t i o
  on_stored true q = rw (q, e, map_set (token_in j) rows i (kept_as o.token at n), kept_same j o.token at n (h.same q))
  on_stored false q = rw (q, ← e, ← l)

  kept_stored_lem : (r : KeptTokens) → r ≡ kept_stored rows last i at n o → on_kept_tokens j t r ≡ stored_at t i o
  kept_stored_lem r g = rw g (on_stored o.stored refl)

-- f is what the search for a free row said, o the new token, and b the bytes of its prefix
module _ (j : List ℕ) (rows : List KeptToken) (last at n : ℕ) (f : Option ℕ) (free : Bool) (o : NewToken) (b : List ℕ) (r : KeptTokens) (t : Tables)
    (g : r ≡ kept_stored rows last (place_of f) at n o) (e : f ≡ first_at free_kept 0 rows) (q : free ≡ is_found f) (w : b ≡ bytes_in j at n) (h : HasPrefix b o)
    (v : t.tokens ≡ tokens_in j rows) (l : t.last_token ≡ last) (mode : Mode) (cap : Cap) (start until : ℕ) where
  stored : on_kept_tokens j t r ≡ stored_at t (place_of f) o
  stored = kept_stored_lem j rows (place_of f) last at n o t v l (rw w at h) r g

  here : find free_token t.tokens ≡ cond free (hit (place_of f) (get_or (tokens_in j rows) (place_of f) blank_token)) miss
  here = rw (v, q) (found_row free_token (tokens_in j rows) blank_token f (free_in j rows f e))

  pub grant_kept : (a : Account) (m : VolumeNo) (vs : List Volume) → t.volumes ≡ vs
      → ((u : Tables) (i : ℕ) (old : Token) → u.volumes ≡ vs → u.last_token ≡ last → find free_token u.tokens ≡ cond free (hit i old) miss
      → stored_at u i o ≡ grant_rule a m (scope_arg b mode cap start until) u)
      → on_kept_tokens j t r ≡ grant_rule a m (scope_arg (bytes_in j at n) mode cap start until) t
  grant_kept a m vs y k =
      stored ∙ k t (place_of f) (get_or (tokens_in j rows) (place_of f) blank_token) y l here ∙ rw w

  -- d is the number of tokens of the chain of the parent k
  pub attenuate_kept : (m : TokenNo) (there : Bool) (k : Token) (x d : ℕ) → token_of m t ≡ cond there (hit x k) miss
      → d ≡ 1 + length (chain_in (map kept_number rows) (map kept_parent rows) 8 k.parent.0)
      → ((u : Tables) (i : ℕ) (old : Token) → u.last_token ≡ last → find free_token u.tokens ≡ cond free (hit i old) miss
      → stored_at u i o ≡ attenuate_found u (scope_arg b mode cap start until) d (row_if there k))
      → on_kept_tokens j t r ≡ attenuate_rule m (scope_arg (bytes_in j at n) mode cap start until) t
  attenuate_kept m there k x d y c s =
      let p : d ≡ depth (tokens_in j rows) k =
      depth_linked (tokens_in j rows) k (map kept_number rows) (map kept_parent rows) d c (numbers_in j rows (map kept_number rows) refl) (parents_in j rows (map kept_parent rows) refl) in
      stored
      ∙ s t (place_of f) (get_or (tokens_in j rows) (place_of f) blank_token) l here
      ∙ attenuate_by_row t m (scope_arg b mode cap start until) d there x k y (rw v (sym p))
      ∙ rw w

-- r is what was counted in the lists of the kept numbers
pub depth_kept : (rows : List KeptToken) (parent p r : ℕ) (ns ps : List ℕ) → r ≡ 1 + length (chain_in ns ps 8 p) → p ≡ parent → ns ≡ map kept_number rows → ps ≡ map kept_parent rows
    → r ≡ 1 + length (chain_in (map kept_number rows) (map kept_parent rows) 8 parent)
depth_kept rows parent p r ns ps h w e f = h ∙ rw (w, e, f)

-- in the rows, where x is the answer and s the set of the rows that go
pub revoke_kept : (j : List ℕ) (t : Tables) (a : Account) (n : TokenNo) (i last : ℕ) (there : Bool) (k : Token) (vs : List Volume) (rows out : List KeptToken) (ns ps : List ℕ)
    (x : Answer) (s : ℕ)
    → out ≡ cleared_in s fresh_kept_token rows → length rows ≡ 32 → ns ≡ map kept_number rows → ps ≡ map kept_parent rows
    → t.volumes ≡ vs → t.tokens ≡ tokens_in j rows → t.last_token ≡ last → token_of n t ≡ cond there (hit i k) miss
    → ((u : Tables) → length u.tokens ≡ 32 → u.volumes ≡ vs → ns ≡ map token_number u.tokens → ps ≡ map token_parent u.tokens
    → dropped_from u (record { answer = x; set = s }) ≡ revoke_in u a (row_if there k))
    → on_kept_tokens j t (record { answer = x; tokens = out; last = last }) ≡ revoke_rule a n t
revoke_kept j t a n i last there k vs rows out ns ps x s c m d e v q l h g =
    rw (cleared_in_lem j rows out s c, ← q, ← l)
    (g t (rw q (length_mapped (token_in j) rows 32 m)) v (rw q (numbers_in j rows ns d)) (rw q (parents_in j rows ps e)) ∙ revoke_by_row t a n there i k h)

-- the row that was found
module _ (j : List ℕ) (t : Tables) (rows : List KeptToken) (v : t.tokens ≡ tokens_in j rows) (n : TokenNo) (there : Bool) (i : ℕ) (k : Token)
    (e : find (is_token n) (tokens_in j rows) ≡ cond there (hit i k) miss) where
  found : token_of n t ≡ cond there (hit i k) miss
  unfolding token_of
  found = rw v e

  pub attenuate_found_lem : (r : KeptTokens) (last at m : ℕ) (mode : Mode) (cap : Cap) (start until : ℕ) → t.last_token ≡ last
      → ((u : Tables) (q : TokenNo) (x : ℕ) → u.tokens ≡ tokens_in j rows → u.last_token ≡ last → token_of q u ≡ cond there (hit x k) miss
      → on_kept_tokens j u r ≡ attenuate_rule q (scope_arg (bytes_in j at m) mode cap start until) u)
      → on_kept_tokens j t r ≡ attenuate_rule n (scope_arg (bytes_in j at m) mode cap start until) t
  attenuate_found_lem r last at m mode cap start until l g = g t n i v l found

  pub revoke_found : (r : KeptTokens) (last : ℕ) (a : Account) (vs : List Volume) → t.volumes ≡ vs → t.last_token ≡ last
      → ((b : List ℕ) (u : Tables) (q : TokenNo) (x : ℕ) → u.volumes ≡ vs → u.tokens ≡ tokens_in b rows → u.last_token ≡ last
      → token_of q u ≡ cond there (hit x k) miss → on_kept_tokens b u r ≡ revoke_rule a q u)
      → on_kept_tokens j t r ≡ revoke_rule a n t
  revoke_found r last a vs y l g = g j t n i y v l found
