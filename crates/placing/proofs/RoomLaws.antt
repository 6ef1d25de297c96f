-- Whether a placement has a shard on a relay, the set of those that have one, and the relays after one object gave its room back. Assumes nothing.
use mathlib.Core.Path.{◌≡◌, refl, ◌∙◌, ap}
use mathlib.Core.Bool.{Bool, true, false}
use mathlib.Core.List.{List, [], ◌∷◌, map}
use Prim.Native.Nat.{ℕ, zero, suc, ◌+◌, ◌*◌, ◌%◌, ◌^◌, ◌<◌, ◌≤◌}
use borrow.Author.Rules.{rules}
use lib.Bits.{bit_or}
use lib.ListN.{length, get_or, take, length-map}
use Rattle.lists.specs.Lists.{any_of, bit_set}
use Rattle.lists.specs.LoopLaws.{AnyLoop, any_found_row}
use Rattle.lists.specs.RowLaws.{rows_length}
use Rattle.rules.specs.declared.RelayNo.{RelayNo}
use Rattle.rules.specs.declared.Placement.{Placement}
use Rattle.rules.specs.declared.Relay.{Relay}
use Rattle.rules.specs.Relays.{same_relay, holds_shard}
use Rattle.lent_relays.specs.Lent.{lighter_in}
use Rattle.lent_relays.specs.RowSetLaws.{in_those}
use Rattle.placing.proofs.SetLaws.{SetLoop, set_adds, set_skips}
use Rattle.placing.specs.Room.{relay_number, is_number, has_shard, lightened_by}

-- some row of the first k passes, where the code compares by itself
pub found_first : {A : Type 0} (d : A) (p : A → Bool) (l : List A) (k n i : ℕ) → AnyLoop p (take k l) 0 n i → i < n → p (get_or l i d) ≡ true → true ≡ any_of p (take k l)
found_first d p l k n i = any_found_row d p l k 0 n i

pub take_map : {A B : Type 0} (f : A → B) (n : ℕ) (l : List A) → take n (map f l) ≡ map f (take n l)
take_map f zero l = refl
take_map f (suc n) [] = refl
take_map f (suc n) (x ∷ xs) = ap (λ ys. f x ∷ ys) (take_map f n xs)

-- whether a placement has a shard on a relay, by a list of the numbers of its relays
any_number : (n : RelayNo) (l : List RelayNo) → any_of (is_number n.0) (map relay_number l) ≡ any_of (same_relay n) l
any_number n [] = refl
any_number n (m ∷ ms) = rw (any_number n ms)

pub holds_number : (n : RelayNo) (p : Placement) (numbers : List ℕ) (b : Bool) → b ≡ any_of (is_number n.0) (take p.len numbers)
    → numbers ≡ map relay_number p.relays → b ≡ holds_shard n p
unfolding holds_shard
holds_number n p numbers b e f = e ∙ rw (f, take_map relay_number p.len p.relays) (any_number n (take p.len p.relays))

pub numbers_length : (l : List RelayNo) (numbers : List ℕ) (m : ℕ) → numbers ≡ map relay_number l → length l ≡ m → length numbers ≡ m
numbers_length l numbers m e f = rw e (length-map l relay_number ∙ f)

pub ruleset placed = (holds_number, numbers_length, rows_length, rules)

-- the loop that makes the set of those rows: b is what the code said of row i, and s the set after it
module _ (p : Placement) (rows : List Relay) (n i set : ℕ) (h : SetLoop (has_shard p) rows n i set) (k : i < n) (numbers : List ℕ)
    (f : numbers ≡ map relay_number p.relays) (d : Relay) (b : Bool) (e : b ≡ any_of (is_number (get_or rows i d).no.0) (take p.len numbers)) (s : ℕ) where
  pub held_adds : b ≡ true → n ≤ 32 → s ≡ bit_or set (1 * 2 ^ i % 2 ^ 32) → SetLoop (has_shard p) rows n (i + 1) s
  held_adds = set_adds d (has_shard p) rows n i set b s h k (holds_number (get_or rows i d).no p numbers b e f)

  pub held_skips : b ≡ false → s ≡ set → SetLoop (has_shard p) rows n (i + 1) s
  held_skips = set_skips d (has_shard p) rows n i set b s h k (holds_number (get_or rows i d).no p numbers b e f)

-- the relays that give it back are those whose bit is set
pub given_back : (bytes s : ℕ) (p : Placement) (rows out : List Relay) → s ≡ bit_set (has_shard p) rows → out ≡ lighter_in s bytes rows → out ≡ map (lightened_by bytes p) rows
unfolding lightened_by
given_back bytes s p rows out e f = f ∙ rw e (in_those (has_shard p) bytes rows)
