-- How many bytes the layout has: of every row whose arrays have as many elements as their types say, and of the whole desk. Assumes nothing.
use Rattle.std.specs.Prelude.{◌≡◌, refl, Bool, true, ◌&&◌, ℕ, ◌+◌, ◌*◌, eqb, length}
use Rattle.std.proofs.Common.{◌∙◌, suc-mul, arith, eqb-true, length-append}
use mathlib.Core.List.{List, [], ◌∷◌, flat_map}
use Rattle.amount.specs.declared.Cap.{Cap}
use Rattle.amount.specs.declared.Cap.TheVariants.{Unlimited, Bytes}
use Rattle.lists.specs.Lists.{all_of}
use Rattle.lists.specs.BoolLaws.{and_left, and_right}
use Rattle.text.specs.Text.{Text}
use Rattle.text.specs.Text.{Name}
use Rattle.text.specs.Text.{path_limit, name_limit}
use Rattle.rules.specs.declared.Placement.{Placement}
use Rattle.rules.specs.declared.Volume.{Volume}
use Rattle.rules.specs.declared.Entry.{Entry}
use Rattle.rules.specs.declared.Token.{Token}
use Rattle.rules.specs.declared.Relay.{Relay}
use Rattle.rules.specs.declared.Put.{Put}
use Rattle.rules.specs.declared.Session.{Session}
use Rattle.rules.specs.declared.Desk.{Desk}
use Rattle.rules.specs.Limits.{volume_rows, entry_rows, token_rows, relay_rows, slot_rows, put_rows, shard_places}
use Rattle.journal.proofs.NumberLaws.{length_bytes_of}
use Rattle.desk_bytes.specs.Layout.{text_bytes_all, text_length, name_bytes_all, name_length, hash_length, relay_no_bytes, cap_bytes, cap_length, placement_bytes, placement_length, volume_bytes, volume_length, entry_bytes, entry_length, scope_bytes, token_bytes, token_length, relay_bytes, relay_length, put_bytes, put_length, session_bytes, session_length, tables_bytes, desk_bytes, desk_length}

-- ---- the totals

pub text_total : text_length ≡ 520
text_total = refl

pub name_total : name_length ≡ 72
name_total = refl

pub cap_total : cap_length ≡ 9
cap_total = refl

pub placement_total : placement_length ≡ 104
placement_total = refl

pub volume_total : volume_length ≡ 141
volume_total = refl

pub entry_total : entry_length ≡ 668
entry_total = refl

pub token_total : token_length ≡ 566
token_total = refl

pub relay_total : relay_length ≡ 32
relay_total = refl

pub put_total : put_length ≡ 560
put_total = refl

pub session_total : session_length ≡ 4500
session_total = refl

pub desk_total : desk_length ≡ 81046
desk_total = refl

-- its 128 paths and prefixes, its 8 names, and all else
pub desk_texts : desk_length ≡ 128 * path_limit + 8 * name_limit + 14998
desk_texts = refl

-- ---- every array has as many elements as its type says

abbrev pub is_sized : {A : Type 0} → List A → ℕ → Bool
is_sized l n = eqb (length l) n

abbrev pub text_sized : Text → Bool
text_sized t = is_sized t.bytes path_limit

abbrev pub name_sized : Name → Bool
name_sized t = is_sized t.bytes name_limit

abbrev pub placement_sized : Placement → Bool
placement_sized p = is_sized p.relays shard_places

abbrev pub volume_sized : Volume → Bool
volume_sized v = is_sized v.owner.0 hash_length && name_sized v.name

abbrev pub entry_sized : Entry → Bool
entry_sized e = text_sized e.path && is_sized e.hash.0 hash_length && placement_sized e.placement

abbrev pub token_sized : Token → Bool
token_sized t = text_sized t.scope.prefix

abbrev pub put_sized : Put → Bool
put_sized p = text_sized p.path && is_sized p.hash.0 hash_length

-- a table of n rows, each of which passes
abbrev pub rows_sized : {A : Type 0} → (A → Bool) → List A → ℕ → Bool
rows_sized p l n = is_sized l n && all_of p l

abbrev pub session_sized : Session → Bool
session_sized s = rows_sized put_sized s.puts put_rows

unfoldable pub desk_sized : Desk → Bool
desk_sized d =
    rows_sized volume_sized d.tables.volumes volume_rows && rows_sized entry_sized d.tables.entries entry_rows
    && rows_sized token_sized d.tables.tokens token_rows && is_sized d.tables.relays relay_rows && rows_sized session_sized d.sessions slot_rows

-- ---- the length of each part, and of the rows of a table

-- b has w bytes
abbrev Long : ℕ → List ℕ → Type 0
Long w b = length b ≡ w

sized : {A : Type 0} (l : List A) (n : ℕ) → is_sized l n ≡ true → length l ≡ n
sized l n h = eqb-true (length l) n h

-- rows of w bytes each
long_rows : {A : Type 0} (f : A → List ℕ) (p : A → Bool) (w : ℕ) → ((x : A) → p x ≡ true → Long w (f x)) → (l : List A) → all_of p l ≡ true
    → Long (length l * w) (flat_map f l)
unfolding flat_map
long_rows f p w g [] h = omega arith
long_rows f p w g (x ∷ l) h =
    length-append (f x) (flat_map f l)
    ∙ omega (arith, g x (and_left (p x) (all_of p l) h), long_rows f p w g l (and_right (p x) (all_of p l) h), suc-mul (length l) w)

all_true : {A : Type 0} (l : List A) → all_of (λ _. true) l ≡ true
all_true [] = refl
all_true (x ∷ l) = all_true l

-- the same of rows that always have w
long_any : {A : Type 0} (f : A → List ℕ) (w n : ℕ) → ((x : A) → Long w (f x)) → (l : List A) → is_sized l n ≡ true → Long (n * w) (flat_map f l)
long_any f w n g l h = rw (sized l n h) at (long_rows f (λ _. true) w (λ x e. g x) l (all_true l))

-- a table of n rows of w bytes each
long_table : {A : Type 0} (f : A → List ℕ) (p : A → Bool) (w n : ℕ) → ((x : A) → p x ≡ true → Long w (f x)) → (l : List A) → rows_sized p l n ≡ true
    → Long (n * w) (flat_map f l)
long_table f p w n g l h =
    let e : length l ≡ n = sized l n (and_left (is_sized l n) (all_of p l) h) in
    rw e at (long_rows f p w g l (and_right (is_sized l n) (all_of p l) h))

text_long : (t : Text) → text_sized t ≡ true → Long text_length (text_bytes_all t)
unfolding text_bytes_all
text_long t h = simp (length-append, length_bytes_of, sized t.bytes path_limit h)

name_long : (t : Name) → name_sized t ≡ true → Long name_length (name_bytes_all t)
unfolding name_bytes_all
name_long t h = simp (length-append, length_bytes_of, sized t.bytes name_limit h)

cap_long : (c : Cap) → Long cap_length (cap_bytes c)
unfolding cap_bytes
cap_long Unlimited = simp (length-append, length_bytes_of)
cap_long (Bytes n) = simp (length-append, length_bytes_of)

placement_long : (p : Placement) → placement_sized p ≡ true → Long placement_length (placement_bytes p)
unfolding placement_bytes
placement_long p h =
    let e : Long (shard_places * 4) (flat_map relay_no_bytes p.relays) =
    long_any relay_no_bytes 4 shard_places (λ n. length_bytes_of 4 n.0) p.relays h in
    simp (length-append, length_bytes_of, e)

volume_long : (v : Volume) → volume_sized v ≡ true → Long volume_length (volume_bytes v)
unfolding volume_bytes
volume_long v h =
    let owner = sized v.owner.0 hash_length (and_left (is_sized v.owner.0 hash_length) (name_sized v.name) h) in
    let name = name_long v.name (and_right (is_sized v.owner.0 hash_length) (name_sized v.name) h) in
    simp (length-append, length_bytes_of, owner, name, cap_long)

entry_long : (e : Entry) → entry_sized e ≡ true → Long entry_length (entry_bytes e)
unfolding entry_bytes
entry_long e h =
    let front = and_left (text_sized e.path && is_sized e.hash.0 hash_length) (placement_sized e.placement) h in
    let path = text_long e.path (and_left (text_sized e.path) (is_sized e.hash.0 hash_length) front) in
    let hash = sized e.hash.0 hash_length (and_right (text_sized e.path) (is_sized e.hash.0 hash_length) front) in
    let placement = placement_long e.placement (and_right (text_sized e.path && is_sized e.hash.0 hash_length) (placement_sized e.placement) h) in
    simp (length-append, length_bytes_of, path, hash, placement)

token_long : (t : Token) → token_sized t ≡ true → Long token_length (token_bytes t)
unfolding token_bytes scope_bytes
token_long t h = simp (length-append, length_bytes_of, text_long t.scope.prefix h, cap_long)

relay_long : (r : Relay) → Long relay_length (relay_bytes r)
unfolding relay_bytes
relay_long r = simp (length-append, length_bytes_of)

put_long : (p : Put) → put_sized p ≡ true → Long put_length (put_bytes p)
unfolding put_bytes
put_long p h =
    let path = text_long p.path (and_left (text_sized p.path) (is_sized p.hash.0 hash_length) h) in
    let hash = sized p.hash.0 hash_length (and_right (text_sized p.path) (is_sized p.hash.0 hash_length) h) in
    simp (length-append, length_bytes_of, path, hash)

session_long : (s : Session) → session_sized s ≡ true → Long session_length (session_bytes s)
unfolding session_bytes
session_long s h = simp (length-append, length_bytes_of, long_table put_bytes put_sized put_length put_rows put_long s.puts h)

-- the whole desk
pub desk_long : (d : Desk) → desk_sized d ≡ true → length (desk_bytes d) ≡ desk_length
unfolding desk_sized desk_bytes tables_bytes
desk_long d h =
    let t = d.tables in
    let a = rows_sized volume_sized t.volumes volume_rows in
    let b = rows_sized entry_sized t.entries entry_rows in
    let c = rows_sized token_sized t.tokens token_rows in
    let r = is_sized t.relays relay_rows in
    let s = rows_sized session_sized d.sessions slot_rows in
    let h₄ = and_left (a && b && c && r) s h in
    let h₃ = and_left (a && b && c) r h₄ in
    let h₂ = and_left (a && b) c h₃ in
    let volumes = long_table volume_bytes volume_sized volume_length volume_rows volume_long t.volumes (and_left a b h₂) in
    let entries = long_table entry_bytes entry_sized entry_length entry_rows entry_long t.entries (and_right a b h₂) in
    let tokens = long_table token_bytes token_sized token_length token_rows token_long t.tokens (and_right (a && b) c h₃) in
    let relays = long_any relay_bytes relay_length relay_rows relay_long t.relays (and_right (a && b && c) r h₄) in
    let sessions = long_table session_bytes session_sized session_length slot_rows session_long d.sessions (and_right (a && b && c && r) s h) in
    simp (length-append, length_bytes_of, volumes, entries, tokens, relays, sessions)
