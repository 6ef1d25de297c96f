-- The list of the numbers of a placement's relays: the loop that makes it, and a loop over it. Assumes nothing.
use mathlib.Core.Path.{◌≡◌, refl, sym, ◌∙◌, ap}
use mathlib.Core.Bool.{Bool, true, false, not, ◌&&◌, ◌||◌, or-false}
use mathlib.Core.Logic.{⊎_elim}
use mathlib.Core.List.{List, [], ◌∷◌, ◌++◌, map}
use Prim.Native.Nat.{ℕ, zero, suc, ◌+◌, ◌-◌, ◌<◌, ◌≤◌, min}
use native.Mathlib.Nat.{zero-add}
use native.Mathlib.Omega.{arith}
use borrow.Author.Rules.{rules}
use borrow.Author.Tests.{not-true, not-false, eq-eqb, ne_eqb, leb-true, leb-false}
use borrow.Author.Rules.{part_to_end}
use lib.Dec.{leb}
use lib.ListN.{length, take, drop, get_or, replicate, length-map}
use lib.Seq.{take_all, take_at, length-take-le}
use Rattle.lists.specs.Lists.{all_of, any_of, no_clash}
use Rattle.lists.specs.BoolLaws.{pass_or_fail}
use Rattle.lists.specs.TestLaws.{all_fails, all_on, all_end, at_any, any_on, any_end}
use Rattle.lists.specs.RowLaws.{rows_length, all_map, clash_map}
use Rattle.lists.specs.LoopLaws.{part_length, ClashLoop, clash_found, clash_step}
use Rattle.lists.specs.ByteLoopLaws.{FillLoop, fill_start, fill_end, fill_size}
use Rattle.rules.specs.declared.RelayNo.{RelayNo}
use Rattle.rules.specs.declared.Placement.{Placement}
use Rattle.rules.specs.declared.Tables.{Tables}
use Rattle.rules.specs.Relays.{placed_on, same_relay}
use Rattle.rules.specs.Sound.{is_given, relay_given}
use Rattle.sound_rows.specs.Places.{place_number, same_number, place_numbers}

drop_zeros : (m j : ℕ) → drop j (replicate {A = ℕ} m 0) ≡ replicate (m - j) 0
drop_zeros m zero = let z : m ≡ m - 0 = omega arith in ap (λ (x : ℕ). replicate x 0) z
drop_zeros zero (suc j) = let z : 0 ≡ 0 - suc j = omega arith in ap (λ (x : ℕ). replicate x 0) z
drop_zeros (suc m) (suc j) = let z : m - j ≡ suc m - suc j = omega arith in drop_zeros m j ∙ ap (λ (x : ℕ). replicate x 0) z

take_map : {A B : Type 0} (f : A → B) (n : ℕ) (l : List A) → take n (map f l) ≡ map f (take n l)
take_map f zero l = refl
take_map f (suc n) [] = refl
take_map f (suc n) (x ∷ xs) = rw (take_map f n xs)

-- the first k of l are its first n, where n is no more than there are
take_least : {A : Type 0} (l : List A) (k m n : ℕ) → n ≡ min k m → length l ≡ m → take n l ≡ take k l
take_least l k m n e q =
    ⊎_elim
    (λ w. let z : n ≡ k = omega (arith, leb-true k m w) in ap (λ (j : ℕ). take j l) z)
    (λ w. let z : m ≤ k = omega (arith, leb-false k m w) in take_all n l (omega arith) ∙ sym (take_all k l (omega arith)))
    (pass_or_fail (leb k m))

-- the loop that makes the list, of the first n of the relays l
module _ (l : List RelayNo) (n : ℕ) where
  pub place_start : (k : ℕ) → n ≡ min k 24 → length l ≡ 24 → FillLoop (replicate 24 0) 0 (map place_number l) n 0 (replicate 24 0)
  place_start k e q = fill_start (replicate 24 0) 0 (map place_number l) n (omega arith) (omega (arith, length-map l place_number))

  module _ (i : ℕ) (out : List ℕ) (h : FillLoop (replicate 24 0) 0 (map place_number l) n i out) where
    pub place_end : (k : ℕ) → n ≤ i → n ≡ min k 24 → length l ≡ 24 → out ≡ map place_number (take k l) ++ replicate (24 - length (take k l)) 0
    place_end k w e q =
        fill_end (replicate 24 0) 0 (map place_number l) n i out h w
        ∙ rw (take_map place_number n l, take_least l k 24 n e q, zero-add n, drop_zeros 24 n, part_length l k 24 n e q)

pub ruleset places = (place_end, fill_size, place_start, rows_length, rules)

-- the loop that looks for x among the numbers l, and does not stop where it stands: found says of those before i
pub record AmongLoop (x : ℕ) (l : List ℕ) (i : ℕ) (found : Bool) : Type 0 where
  pub place : i ≤ length l
  pub rest : (found || any_of (same_number x) (drop i l)) ≡ any_of (same_number x) l

module _ (x : ℕ) (l : List ℕ) where
  pub among_start : AmongLoop x l 0 false
  among_start = record { place = omega arith; rest = refl }

  module _ (i : ℕ) (found : Bool) (h : AmongLoop x l i found) where
    pub among_end : length l ≤ i → found ≡ any_of (same_number x) l
    among_end k = sym (or-false found) ∙ rw (any_end (same_number x) l i k) at h.rest

    module _ (next : Bool) (k : i < length l) where
      pub among_yes : get_or l i 0 ≡ x → next ≡ true → AmongLoop x l (i + 1) next
      among_yes e q = rw q (record { place = omega arith; rest = sym (at_any (same_number x) l i 0 k (eq-eqb (get_or l i 0) x e)) })

      pub among_no : (get_or l i 0 ≡ x → ⊥) → next ≡ found → AmongLoop x l (i + 1) next
      among_no n q =
          rw q
          (record { place = omega arith; rest = rw (any_on (same_number x) l {b = false} 0 i k (sym (ne_eqb (get_or l i 0) x n)) refl) at h.rest })

pub ruleset amongs = (among_end, among_start, rules)

-- the loop that tests every number, and does not stop at one that fails: all says of those before i
pub record EachLoop (p : ℕ → Bool) (l : List ℕ) (i : ℕ) (all : Bool) : Type 0 where
  pub place : i ≤ length l
  pub rest : (all && all_of p (drop i l)) ≡ all_of p l

and_true : (b : Bool) → (b && true) ≡ b
and_true true = refl
and_true false = refl

and_false : (b : Bool) → (b && false) ≡ false
and_false true = refl
and_false false = refl

module _ (p : ℕ → Bool) (l : List ℕ) where
  pub each_start : EachLoop p l 0 true
  each_start = record { place = omega arith; rest = refl }

  module _ (i : ℕ) (all : Bool) (h : EachLoop p l i all) where
    pub each_end : length l ≤ i → all ≡ all_of p l
    each_end k = sym (and_true all) ∙ rw (all_end p l i k) at h.rest

    module _ (next b : Bool) (k : i < length l) (e : b ≡ p (get_or l i 0)) where
      pub each_no : not b ≡ true → next ≡ false → EachLoop p l (i + 1) next
      each_no t q = rw q (record { place = omega arith; rest = sym (and_false all) ∙ rw (all_fails p l 0 i k e (not-true b t)) at h.rest })

      pub each_yes : not b ≡ false → next ≡ all → EachLoop p l (i + 1) next
      each_yes t q = rw q (record { place = omega arith; rest = rw (all_on p l 0 i k e (not-false b t)) at h.rest })

pub ruleset eachs = (each_end, each_start, rules)

-- the loop over the numbers that looks for each among those after it: b is what the search said
module _ (l : List ℕ) (i : ℕ) (b : Bool) (h : ClashLoop same_number l (length l) i) (k : i < length l)
    (e : b ≡ any_of (same_number (get_or l i 0)) (take (length l - (i + 1)) (drop (i + 1) l))) where
  after : b ≡ any_of (same_number (get_or l i 0)) (drop (i + 1) l)
  after = e ∙ ap (any_of (same_number (get_or l i 0))) (part_to_end l (i + 1))

  pub number_again : b ≡ true → false ≡ no_clash same_number l
  number_again = clash_found 0 same_number l (length l) i b h k after

  pub number_once : b ≡ false → ClashLoop same_number l (length l) (i + 1)
  number_once = clash_step 0 same_number l (length l) i b h k after

-- the first n of the list, which are lent
pub part_lent : (ns : List ℕ) (k m n : ℕ) → n ≡ min k m → length ns ≡ m → length (take n ns) ≡ n
part_lent ns k m n e q = length-take-le n ns (omega arith)

-- what they say of the placement
module _ (p : Placement) (ns : List ℕ) (n : ℕ) (e : ns ≡ place_numbers p) (m : n ≡ min p.len 24) (q : length p.relays ≡ 24) (b : Bool) where
  first_places : take n ns ≡ map place_number (placed_on p)
  unfolding place_numbers
  first_places =
      rw e
      (take_at (map place_number (placed_on p)) (replicate (24 - length (placed_on p)) 0) n
      (length-map (placed_on p) place_number ∙ part_length p.relays p.len 24 n m q))

  pub places_given : (t : Tables) (last : ℕ) → t.last_relay ≡ last → b ≡ all_of (is_given last) (take n ns) → b ≡ all_of (relay_given t) (placed_on p)
  places_given t last f h = rw first_places at h ∙ all_map place_number (placed_on p) (is_given last) (relay_given t) (λ x. rw f)

  pub places_differ : b ≡ no_clash same_number (take n ns) → b ≡ no_clash same_relay (placed_on p)
  places_differ h = rw first_places at h ∙ sym (clash_map same_relay same_number place_number (placed_on p) (λ x y. refl))
