-- Document 01, "Tokens" and the cap, mode and window of "What the desk holds": what a token allows, and what lies within it. Assumes nothing.
use Rattle.std.specs.Prelude.{Bool, true, false, ◌&&◌, ◌||◌, List, [], ◌∷◌, ℕ, zero, suc, ◌+◌, leb, ltb, length}
use Rattle.amount.specs.declared.Cap.{Cap}
use Rattle.amount.specs.declared.Cap.TheVariants.{Unlimited, Bytes}
use Rattle.lists.specs.Lists.{Hit, miss, hit, find, any_of}
use Rattle.text.specs.Text.{is_prefix, covers, text_bytes, to_text}
use Rattle.rules.specs.declared.TokenNo.{TokenNo}
use Rattle.rules.specs.declared.Mode.{Mode}
use Rattle.rules.specs.declared.Mode.TheVariants.{Read, Write, Both}
use Rattle.rules.specs.declared.Scope.{Scope}
use Rattle.rules.specs.declared.Token.{Token}
use Rattle.rules.specs.Limits.{size_limit, used_limit, deepest}
use Rattle.rules.specs.Tables.{is_token, used_token}

-- a scope as a call names it: its prefix is any bytes
pub record ScopeArg : Type 0 where
  pub prefix : List ℕ
  pub mode : Mode
  pub cap : Cap
  pub «from» : ℕ
  pub until : ℕ

-- "Cap: either the word "unlimited" or a byte count up to 2^36; zero means zero."
abbrev pub cap_fits : Cap → Bool
cap_fits Unlimited = true
cap_fits (Bytes n) = leb n size_limit

-- n bytes pass the cap
abbrev pub passes_cap : Cap → ℕ → Bool
passes_cap Unlimited n = false
passes_cap (Bytes c) n = ltb c n

-- "Mode: 0 read, 1 write, 2 both (001)."
abbrev pub mode_number : Mode → ℕ
mode_number Read = 0
mode_number Write = 1
mode_number Both = 2

abbrev pub can_read : Mode → Bool
can_read Read = true
can_read Write = false
can_read Both = true

abbrev pub can_write : Mode → Bool
can_write Read = false
can_write Write = true
can_write Both = true

-- "window, from and until, both blocks included"
abbrev pub in_window : ℕ → Scope → Bool
in_window clock s = leb s.«from» clock && leb clock s.until

-- number 1 of a scope: its prefix, its cap, "from > until"
unfoldable pub scope_fits : ScopeArg → Bool
scope_fits a = is_prefix a.prefix && cap_fits a.cap && leb a.«from» a.until

-- "its rights .. lie within the parent's": read within read or both, write within write or both, both within both
abbrev pub mode_within : Mode → Mode → Bool
mode_within Read Read = true
mode_within Read Write = false
mode_within Read Both = true
mode_within Write Read = false
mode_within Write Write = true
mode_within Write Both = true
mode_within Both Read = false
mode_within Both Write = false
mode_within Both Both = true

-- ""unlimited" only under "unlimited""
abbrev pub cap_within : Cap → Cap → Bool
cap_within Unlimited Unlimited = true
cap_within Unlimited (Bytes p) = false
cap_within (Bytes c) Unlimited = true
cap_within (Bytes c) (Bytes p) = leb c p

-- "A child's prefix begins with its parent's, its rights, cap and window lie within the parent's"
unfoldable pub narrows : ScopeArg → Scope → Bool
narrows a p =
    covers (text_bytes p.prefix) a.prefix && mode_within a.mode p.mode && cap_within a.cap p.cap
    && leb p.«from» a.«from»
    && leb a.until p.until

-- the scope that a token keeps of the one that its call named
abbrev pub to_scope : ScopeArg → Scope
to_scope a = record { prefix = to_text a.prefix; mode = a.mode; cap = a.cap; «from» = a.«from»; until = a.until }

-- what follows the row that a search found, or what stands for none
abbrev pub on_hit : {A B : Type 0} → B → (A → B) → Hit A → B
on_hit z f miss = z
on_hit z f (hit i x) = f x

-- the token and its ancestors, nearest first: at most n of them
unfoldable pub chain : ℕ → List Token → Token → List Token
chain zero ts t = []
chain (suc n) ts t = t ∷ on_hit [] (chain n ts) (find (is_token t.parent) ts)

-- the token and its ancestors, in a table whose chains have at most 8 tokens
abbrev pub family : List Token → Token → List Token
family ts t = chain deepest ts t

-- "A root is depth 1": how many tokens its chain has, where 9 stands for any number above 8 and for a ring
abbrev pub depth : List Token → Token → ℕ
depth ts t = length (chain (suc deepest) ts t)

-- "the token and all descendants": the token n stands in t's chain
unfoldable pub descends : List Token → TokenNo → Token → Bool
descends ts n t = used_token t && any_of (is_token n) (family ts t)

-- "used + staged sizes would pass the cap, or 2^60" of one token
abbrev pub passes_quota : ℕ → Token → Bool
passes_quota bytes t = passes_cap t.scope.cap (t.used + bytes) || ltb used_limit (t.used + bytes)
