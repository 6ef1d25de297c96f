-- Document 01, "What the desk holds": paths, prefixes and names, as lists of bytes, and the texts that hold them. Assumes nothing.
use Rattle.std.specs.Prelude.{Bool, true, ◌&&◌, ◌||◌, cond, not, List, [], ◌∷◌, ◌++◌, ℕ, ◌-◌, eqb, leb, length, take, get_or, replicate}
use Rattle.lists.specs.Lists.{all_of}
use Rattle.lists.specs.Bytes.{same_bytes, starts_with}
use Rattle.text.specs.declared.BoundedText.{BoundedText}

-- 01: "Path: 1 to 128 bytes"; "Prefix: .. at most 128 bytes in all". 02, W1: "Paths go to 512 bytes, as source document 000 has it, and
-- prefixes to 512 with their slash."
abbrev pub path_limit : ℕ
path_limit = 512

-- "name 1 to 64 bytes"
abbrev pub name_limit : ℕ
name_limit = 64

-- the bytes "/", ".", "_" and "-"
abbrev pub slash : ℕ
slash = 47

abbrev pub dot : ℕ
dot = 46

abbrev pub underscore : ℕ
underscore = 95

abbrev pub hyphen : ℕ
hyphen = 45

-- low ≤ b ≤ high
abbrev pub within : ℕ → ℕ → ℕ → Bool
within low high b = leb low b && leb b high

-- "in 0x21..0x7E"
abbrev pub is_path_byte : ℕ → Bool
is_path_byte b = within 0x21 0x7e b

-- one more byte at the front of the first part
unfoldable pub onto_first : ℕ → List (List ℕ) → List (List ℕ)
onto_first b [] = (b ∷ []) ∷ []
onto_first b (p ∷ ps) = (b ∷ p) ∷ ps

-- the parts of a path: what stands before, between and after its slashes
unfoldable pub parts : List ℕ → List (List ℕ)
unfolding onto_first
parts [] = [] ∷ []
parts (b ∷ bs) = cond (eqb b slash) ([] ∷ parts bs) (onto_first b (parts bs))

-- "no empty, "." or ".." part (H)"
unfoldable pub is_part : List ℕ → Bool
is_part p = not (same_bytes p [] || same_bytes p (dot ∷ []) || same_bytes p (dot ∷ dot ∷ []))

-- "Path: 1 to 128 bytes in 0x21..0x7E; no leading or trailing "/" (001), no empty, "." or ".." part (H)", with W1's 512 for 128. Before a leading
-- slash and after a trailing one stands an empty part.
unfoldable pub is_path : List ℕ → Bool
unfolding parts is_part
is_path s = within 1 path_limit (length s) && all_of is_path_byte s && all_of is_part (parts s)

-- all bytes but the last
abbrev pub but_last : List ℕ → List ℕ
but_last s = take (length s - 1) s

-- "a path followed by "/", at most 128 bytes in all", with W1's 512
unfoldable pub is_path_and_slash : List ℕ → Bool
unfolding is_path
is_path_and_slash s = leb (length s) path_limit && eqb (get_or s (length s - 1) 0) slash && is_path (but_last s)

-- "Prefix: empty, or a path followed by "/", at most 128 bytes in all", with W1's 512
unfoldable pub is_prefix : List ℕ → Bool
unfolding is_path_and_slash
is_prefix [] = true
is_prefix (b ∷ bs) = is_path_and_slash (b ∷ bs)

-- "it covers the paths that begin with it"
abbrev pub covers : List ℕ → List ℕ → Bool
covers prefix path = starts_with prefix path

-- "of a-z A-Z 0-9 _ - . (001)"
abbrev pub is_name_byte : ℕ → Bool
is_name_byte b =
    within 97 122 b || within 65 90 b || within 48 57 b || eqb b underscore || eqb b hyphen || eqb b dot

-- "name 1 to 64 bytes of a-z A-Z 0-9 _ - . (001)"
unfoldable pub is_name : List ℕ → Bool
is_name s = within 1 name_limit (length s) && all_of is_name_byte s

-- bytes followed by zeros, w in all
abbrev pub padded : ℕ → List ℕ → List ℕ
padded w s = s ++ replicate (w - length s) 0

-- a path or a prefix, and a name
abbrev pub Text : Type 0
Text = BoundedText path_limit

abbrev pub Name : Type 0
Name = BoundedText name_limit

-- the bytes of a text
abbrev pub text_bytes : {n : ℕ} → BoundedText n → List ℕ
text_bytes t = take t.len t.bytes

-- the text of at most n bytes
abbrev pub text_of : (n : ℕ) → List ℕ → BoundedText n
text_of n s = record { bytes = padded n s; len = length s }

-- a text whose bytes lie within its array and pass the test
abbrev pub holds : {n : ℕ} → (List ℕ → Bool) → BoundedText n → Bool
holds {n} p t = leb t.len n && p (text_bytes t)

-- at a path or a prefix, which has at most 512 bytes, and at a name, which has at most 64
abbrev pub to_text : List ℕ → Text
to_text s = text_of path_limit s

abbrev pub name_bytes : Name → List ℕ
name_bytes t = text_bytes t

abbrev pub to_name : List ℕ → Name
to_name s = text_of name_limit s

abbrev pub holds_name : Name → Bool
holds_name t = holds is_name t
