-- Kept paths: the bytes of a text that is kept, and a kept row's path compared with bytes. Assumes nothing.
use Rattle.std.specs.Prelude.{◌≡◌, Bool, true, false, not, List, [], ◌∷◌, ℕ, zero, suc, min, take, drop}
use Rattle.std.proofs.Common.{◌∙◌, ap, rules}
use Rattle.std.proofs.Math.Nat.{min_comm, min-zero, suc-min-suc}
use Rattle.std.proofs.lemmas.Bool.{not-true, not-false}
use Rattle.std.proofs.Math.Seq.{take-nil}
use Rattle.lists.specs.Bytes.{same_bytes}
use Rattle.text.specs.Text.{path_limit, text_bytes, to_text}
use Rattle.text.specs.TextLaws.{text_bytes_lem}
use Rattle.rules.specs.declared.VolumeNo.{VolumeNo}
use Rattle.rules.specs.declared.Placement.{Placement}
use Rattle.rules.specs.Commit.{entry_for}
use Rattle.rules.specs.Tables.{in_volume, is_entry}
use Rattle.kept.specs.declared.KeptEntry.{KeptEntry}
use Rattle.kept.specs.declared.KeptPut.{KeptPut}
use Rattle.kept.specs.Kept.{bytes_in, text_in, entry_in, put_in}
use Rattle.kept_entries.specs.KeptEntries.{path_in, kept_for}

-- the bytes of a text that is kept
pub kept_bytes_lem : (j : List ℕ) (at n : ℕ) → text_bytes (text_in j at n) ≡ take path_limit (bytes_in j at n)
kept_bytes_lem j at n = text_bytes_lem (take path_limit (bytes_in j at n))

-- and the text of them, written anew, is the same
pub kept_anew : (j : List ℕ) (at n : ℕ) → to_text (text_bytes (text_in j at n)) ≡ text_in j at n
kept_anew j at n = ap to_text (kept_bytes_lem j at n)

-- the entry of a kept put stands for that of the put
pub kept_for_lem : (j : List ℕ) (n : VolumeNo) (p : KeptPut) (place : Placement) → entry_in j (kept_for n p place) ≡ entry_for n (put_in j p) place
kept_for_lem j n p place = rw (kept_bytes_lem j p.at p.len)

-- the first b bytes, of them no more than a
part_least : (a b : ℕ) (l : List ℕ) → take (min b a) l ≡ take a (take b l)
part_least a b [] = rw (take-nil b, take-nil a, take-nil (min b a))
part_least zero b (x ∷ xs) = rw (min-zero b)
part_least (suc a) zero (x ∷ xs) = rw (min_comm 0 (suc a), min-zero (suc a))
part_least (suc a) (suc b) (x ∷ xs) = rw (suc-min-suc b a) (ap (λ ys. x ∷ ys) (part_least a b xs))

-- n of the len bytes were lent
pub path_there : (j s : List ℕ) (at len n : ℕ) → n ≡ min len path_limit → s ≡ bytes_in j at n → s ≡ path_in j at len
path_there j s at len n e f = f ∙ rw e (part_least path_limit len (drop at j))

-- what was said of the bytes s of a kept path is said of its text
pub entry_told : (j s path : List ℕ) (n : VolumeNo) (e : KeptEntry) (r b : Bool) → r ≡ same_bytes s path → b ≡ in_volume n (entry_in j e) → not b ≡ false
    → s ≡ path_in j e.at e.len → r ≡ is_entry n path (entry_in j e)
unfolding is_entry
entry_told j s path n e r b t f g q = rw (← f, not-false b g, kept_bytes_lem j e.at e.len, ← q) t

pub not_there : (j path : List ℕ) (n : VolumeNo) (e : KeptEntry) (b : Bool) → b ≡ in_volume n (entry_in j e) → not b ≡ true
    → false ≡ is_entry n path (entry_in j e)
unfolding is_entry
not_there j path n e b f g = rw (← f, not-true b g)

-- of two kept paths
pub paths_told : (x y a b : List ℕ) (r : Bool) → r ≡ same_bytes x y → x ≡ a → y ≡ b → r ≡ same_bytes a b
paths_told x y a b r t e f = rw (← e, ← f) t

pub path_told : (j x y : List ℕ) (n : VolumeNo) (e : KeptEntry) (r : Bool) → r ≡ is_entry n x (entry_in j e) → x ≡ y → r ≡ is_entry n y (entry_in j e)
path_told j x y n e r t q = rw (← q) t

pub ruleset tells = (not_there, entry_told, rules)
