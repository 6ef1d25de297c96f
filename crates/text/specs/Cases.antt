-- Worked cases of the rules of texts: one table, proved from the definitions. Assumes nothing.
use Rattle.std.specs.Prelude.{◌≡◌, refl, Bool, true, false, List, [], ◌∷◌, ◌++◌, map, ℕ, replicate}
use Prim.Native.Char.{code}
use Prim.Native.String.{String, [] as done, ◌∷◌ as ◌then◌}
use Rattle.text.specs.Text.{slash, is_path, is_prefix, is_name, covers}

-- the bytes of a quoted text
unfoldable ascii : String → List ℕ
ascii done = []
ascii (◌then◌ c s) = code c ∷ ascii s

-- n times the letter a
abbrev letters : ℕ → List ℕ
letters n = replicate n 97

-- what a rule says, and what it is to say
pub record Case : Type 0 where
  pub says : Bool
  pub right : Bool

path : List ℕ → Bool → Case
path s r = record { says = is_path s; right = r }

prefix : List ℕ → Bool → Case
prefix s r = record { says = is_prefix s; right = r }

name : List ℕ → Bool → Case
name s r = record { says = is_name s; right = r }

covered : String → String → Bool → Case
covered p s r = record { says = covers (ascii p) (ascii s); right = r }

pub cases : List Case
cases =
    path (ascii "a") true
    ∷ path (ascii "a/b") true
    ∷ path (ascii "a.b") true
    ∷ path (ascii "...") true
    ∷ path (ascii "") false
    ∷ path (ascii "/a") false
    ∷ path (ascii "a/") false
    ∷ path (ascii "a//b") false
    ∷ path (ascii ".") false
    ∷ path (ascii "..") false
    ∷ path (ascii "a/.") false
    ∷ path (ascii "a/../b") false
    ∷ path (letters 128) true
    ∷ path (letters 129) true
    ∷ path (letters 511) true
    ∷ path (letters 512) true
    ∷ path (letters 513) false
    ∷ path (0x21 ∷ 0x7e ∷ []) true
    ∷ path (97 ∷ 0x20 ∷ []) false
    ∷ path (97 ∷ 0x7f ∷ []) false
    ∷ prefix (ascii "") true
    ∷ prefix (ascii "job/") true
    ∷ prefix (ascii "job/a/") true
    ∷ prefix (letters 511 ++ slash ∷ []) true
    ∷ prefix (letters 512 ++ slash ∷ []) false
    ∷ prefix (ascii "job") false
    ∷ prefix (ascii "/") false
    ∷ prefix (ascii "a//") false
    ∷ prefix (ascii "./") false
    ∷ covered "job/" "job/x" true
    ∷ covered "job/" "jobs/x" false
    ∷ covered "job/" "job" false
    ∷ covered "" "job" true
    ∷ name (ascii "aZ09_-.") true
    ∷ name (ascii ".") true
    ∷ name (ascii "") false
    ∷ name (ascii "a/b") false
    ∷ name (ascii "a b") false
    ∷ name (letters 64) true
    ∷ name (letters 65) false
    ∷ []

pub every_case : map (λ (c : Case). c.says) cases ≡ map (λ (c : Case). c.right) cases
unfolding cases path prefix name covered ascii is_path is_prefix is_name
every_case = refl
