-- No entry is replaced where no put's path has its path's number. Assumes nothing.
use mathlib.Core.Path.{◌≡◌, refl, sym, ◌∙◌, ap}
use mathlib.Core.Bool.{Bool, false}
use mathlib.Core.List.{List, [], ◌∷◌, map}
use Prim.Native.Nat.{ℕ}
use borrow.Author.Tests.{eq-eqb}
use lib.Dec.{eqb}
use lib.ListN.{length, drop, replicate}
use Rattle.lists.specs.Lists.{any_of}
use Rattle.lists.specs.Bytes.{same_bytes}
use Rattle.lists.specs.ByteLaws.{same_eq}
use Rattle.lists.specs.BoolLaws.{or_left, or_right, or_none, not_both, not_pass}
use Rattle.lists.specs.TestLaws.{any_append}
use Rattle.lists.specs.AnswerLaws.{part_fails}
use Rattle.text.specs.Text.{text_bytes}
use Rattle.rules.specs.declared.VolumeNo.{VolumeNo}
use Rattle.rules.specs.declared.Entry.{Entry}
use Rattle.rules.specs.declared.Put.{Put}
use Rattle.rules.specs.Tables.{in_volume, is_put}
use Rattle.rules.specs.Commit.{is_replaced}
use Rattle.rows.specs.PathKeys.{key_of}
use Rattle.entries.specs.Keys.{put_key, put_keys, is_key}

-- paths of which the numbers differ differ
other_path : (n : ℕ) (a b : List ℕ) → eqb (key_of n a) (key_of n b) ≡ false → same_bytes a b ≡ false
other_path n a b e = not_pass (same_bytes a b) (λ t. not_both (eq-eqb (key_of n a) (key_of n b) (ap (key_of n) (same_eq a b t))) e)

no_put : (n : VolumeNo) (path : List ℕ) (ps : List Put) → any_of (is_key (key_of n.0 path)) (map (put_key n) ps) ≡ false → any_of (is_put path) ps ≡ false
unfolding is_put
no_put n path [] e = refl
no_put n path (p ∷ ps) e =
    let first = eqb (put_key n p) (key_of n.0 path) in
    let rest = any_of (is_key (key_of n.0 path)) (map (put_key n) ps) in
    or_none (other_path n.0 (text_bytes p.path) path (or_left first rest e)) (no_put n path ps (or_right first rest e))

-- an entry is not replaced where no put's path has its path's number
pub not_keyed : (n : VolumeNo) (ps : List Put) (e : Entry) (keys : List ℕ) (key : ℕ) (r : Bool) → r ≡ false → r ≡ any_of (is_key key) keys
    → keys ≡ put_keys n ps → key ≡ key_of n.0 (text_bytes e.path) → is_replaced n ps e ≡ false
unfolding is_replaced
not_keyed n ps e keys key r f a b c =
    let path = text_bytes e.path in
    let zeros : List ℕ = drop (length ps) (replicate 8 0) in
    let none : any_of (is_key key) (put_keys n ps) ≡ false = rw (← b, ← a) f in
    let split = sym (any_append (is_key key) (map (put_key n) ps) zeros) ∙ none in
    let puts : any_of (is_key (key_of n.0 path)) (map (put_key n) ps) ≡ false = rw c at (or_left (any_of (is_key key) (map (put_key n) ps)) (any_of (is_key key) zeros) split) in
    sym (part_fails (in_volume n e) (any_of (is_put path) ps) (no_put n path ps puts))
