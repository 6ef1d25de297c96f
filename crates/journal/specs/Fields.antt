-- Document 01, "The calls": the parts that records are made of, and lists of them. Each form has one writer and one reader.
-- Assumes nothing.
use Rattle.std.specs.Prelude.{Bool, true, ◌&&◌, cond, List, [], ◌∷◌, ◌++◌, ℕ, ◌^◌, eqb, leb, ltb, length, take, drop}
use Rattle.amount.specs.declared.Cap.{Cap}
use Rattle.amount.specs.declared.Cap.TheVariants.{Unlimited, Bytes}
use Rattle.rules.specs.declared.Mode.{Mode}
use Rattle.rules.specs.declared.Mode.TheVariants.{Read, Write, Both}
use Rattle.rules.specs.Scope.{mode_number}
use Rattle.journal.specs.Numbers.{bytes_of, number_of}

-- the form of a field: a number of w bytes; a text with a length of w bytes, and the most bytes it may have; n bytes; "a cap is 00, or
-- 01 and u64"; "mode u8"
pub data Format : Type 0 where
  number : ℕ → Format
  text : ℕ → ℕ → Format
  bytes : ℕ → Format
  cap : Format
  mode : Format

-- what a field of the form holds
abbrev pub ValueOf : Format → Type 0
ValueOf (number w) = ℕ
ValueOf (text w most) = List ℕ
ValueOf (bytes n) = List ℕ
ValueOf cap = Cap
ValueOf mode = Mode

-- what reading from the front of a list of bytes gives: a value and the bytes after it, or nothing
pub data Decoded (A : Type 0) : Type 0 where
  nothing : Decoded A
  found : A → List ℕ → Decoded A

-- what follows on a value that was found
abbrev pub on_found : {A B : Type 0} → (A → List ℕ → Decoded B) → Decoded A → Decoded B
on_found f nothing = nothing
on_found f (found a rest) = f a rest

-- the first n bytes
unfoldable pub part : ℕ → List ℕ → Decoded (List ℕ)
part n l = cond (leb n (length l)) (found (take n l) (drop n l)) nothing

-- the number that bytes stand for
abbrev pub as_number : List ℕ → List ℕ → Decoded ℕ
as_number b rest = found (number_of b) rest

-- a number of w bytes
unfoldable pub decode_number : ℕ → List ℕ → Decoded ℕ
decode_number w l = on_found as_number (part w l)

-- n bytes of text, where a text has at most so many
abbrev pub as_text : ℕ → ℕ → List ℕ → Decoded (List ℕ)
as_text most n rest = cond (leb n most) (part n rest) nothing

-- "Text is one length byte and the bytes", with a length of w bytes
unfoldable pub decode_text : ℕ → ℕ → List ℕ → Decoded (List ℕ)
decode_text w most l = on_found (as_text most) (decode_number w l)

abbrev pub as_bytes : ℕ → List ℕ → Decoded Cap
as_bytes n rest = found (Bytes n) rest

-- "a cap is 00, or 01 and u64"
abbrev pub as_cap : ℕ → List ℕ → Decoded Cap
as_cap b rest = cond (eqb b 0) (found Unlimited rest) (cond (eqb b 1) (on_found as_bytes (decode_number 8 rest)) nothing)

-- "Mode: 0 read, 1 write, 2 both (001)."
abbrev pub as_mode : ℕ → List ℕ → Decoded Mode
as_mode b rest = cond (eqb b 0) (found Read rest) (cond (eqb b 1) (found Write rest) (cond (eqb b 2) (found Both rest) nothing))

-- a field of the form, from the front of the bytes
unfoldable pub decode : (f : Format) → List ℕ → Decoded (ValueOf f)
decode (number w) l = decode_number w l
decode (text w most) l = decode_text w most l
decode (bytes n) l = part n l
decode cap l = on_found as_cap (decode_number 1 l)
decode mode l = on_found as_mode (decode_number 1 l)

-- "a cap is 00, or 01 and u64"
abbrev pub cap_bytes : Cap → List ℕ
cap_bytes Unlimited = bytes_of 1 0
cap_bytes (Bytes n) = bytes_of 1 1 ++ bytes_of 8 n

-- the bytes of a field
unfoldable pub encode : (f : Format) → ValueOf f → List ℕ
encode (number w) n = bytes_of w n
encode (text w most) t = bytes_of w (length t) ++ t
encode (bytes n) b = b
encode cap c = cap_bytes c
encode mode m = bytes_of 1 (mode_number m)

abbrev pub cap_fits : Cap → Bool
cap_fits Unlimited = true
cap_fits (Bytes n) = ltb n (256 ^ 8)

-- the value can stand in a field of the form
unfoldable pub fits : (f : Format) → ValueOf f → Bool
fits (number w) n = ltb n (256 ^ w)
fits (text w most) t = leb (length t) most && ltb (length t) (256 ^ w)
fits (bytes n) b = eqb (length b) n
fits cap c = cap_fits c
fits mode m = true

-- the values of a list of fields, one after another
abbrev pub ValuesOf : List Format → Type 0
ValuesOf [] = Unit {0}
ValuesOf (f ∷ fs) = ValueOf f × ValuesOf fs

-- a value in front of the others that were found after it
abbrev pub in_front : {A B : Type 0} → A → B → List ℕ → Decoded (A × B)
in_front a b rest = found (a, b) rest

-- the fields of a list, from the front of the bytes
unfoldable pub decode_all : (fs : List Format) → List ℕ → Decoded (ValuesOf fs)
decode_all [] l = found tt l
decode_all (f ∷ fs) l = on_found (λ a rest. on_found (in_front a) (decode_all fs rest)) (decode f l)

-- their bytes
unfoldable pub encode_all : (fs : List Format) → ValuesOf fs → List ℕ
encode_all [] x = []
encode_all (f ∷ fs) x = encode f x.0 ++ encode_all fs x.1

unfoldable pub fits_all : (fs : List Format) → ValuesOf fs → Bool
fits_all [] x = true
fits_all (f ∷ fs) x = fits f x.0 && fits_all fs x.1
