-- The numbers of the first keys as a placement, and the relays that are taken as the first of those in order. Assumes nothing.
use mathlib.Core.Path.{◌≡◌, refl, sym, ◌∙◌}
use mathlib.Core.List.{List, ◌++◌, map}
use Prim.Native.Nat.{ℕ, zero, suc, ◌+◌, ◌-◌, ◌%◌, ◌<◌, ◌≤◌, min}
use native.Mathlib.Nat.{zero-add}
use native.Mathlib.Omega.{arith}
use native.Mathlib.Decide.{dec_le}
use mir.Syntax.{w32}
use mir.Val.{Fits}
use borrow.Author.Rules.{rules}
use lib.ListN.{length, take, drop, get_or, set, replicate, length-map, length-take}
use lib.Seq.{length-take-le, take-take, take_all}
use Rattle.lists.specs.ByteLoopLaws.{FillLoop, fill_start, fill_step_of, fill_end, fill_size}
use Rattle.lists.specs.RowLaws.{rows_length}
use Rattle.rules.specs.declared.RelayNo.{RelayNo}
use Rattle.rules.specs.declared.Placement.{Placement}
use Rattle.rules.specs.declared.Relay.{Relay}
use Rattle.rules.specs.Limits.{shard_places}
use Rattle.rules.specs.Fresh.{no_relay}
use Rattle.rules.specs.Relays.{number_of, placement_of, eligible_set, taken}
use Rattle.placing.specs.Order.{key_number, ranked_in, taken_in}
use Rattle.placing.specs.OrderLaws.{taken_set}
use Rattle.placing.proofs.RoomLaws.{take_map}

drop_replicate : {A : Type 0} (n m : ℕ) (x : A) → drop n (replicate m x) ≡ replicate (m - n) x
drop_replicate zero m x = let e : m - 0 ≡ m = omega arith in rw e
drop_replicate (suc n) zero x = let e : 0 - suc n ≡ 0 = omega arith in rw e
drop_replicate (suc n) (suc m) x = let e : suc m - suc n ≡ m - n = omega arith in rw e (drop_replicate n m x)

take_least : {A : Type 0} (a b n : ℕ) (l : List A) → n ≡ min a b → take n l ≡ take a (take b l)
take_least a b n l e = go (dec_le a b)
  where
    go : Dec (a ≤ b) → take n l ≡ take a (take b l)
    go (yes h) = let f : n ≡ a = omega arith in rw f (sym (take-take a b l h))
    go (no h) = let f : n ≡ b = omega arith in rw f (sym (take_all a (take b l) (omega (arith, length-take b l))))

pub numbers_start : (l : List ℕ) (n : ℕ) → length l ≡ 32 → n ≤ shard_places
    → FillLoop (replicate shard_places no_relay) 0 (map key_number l) n 0 (replicate shard_places no_relay)
numbers_start l n e h = fill_start _ 0 (map key_number l) n (omega arith) (omega (arith, length-map l key_number))

-- the numbers of the first n keys are stored
module _ (l : List ℕ) (n i : ℕ) (out : List RelayNo) (h : FillLoop (replicate shard_places no_relay) 0 (map key_number l) n i out) where
  pub numbers_end : n ≤ i → record { relays = out; len = n } ≡ placement_of (map key_number (take n l))
  numbers_end k =
      let s : length (map key_number (take n l)) ≡ n = length-map (take n l) key_number ∙ length-take-le n l (omega (arith, h.source, length-map l key_number)) in
      let o : out ≡ map key_number (take n l) ++ replicate (shard_places - n) no_relay =
      fill_end _ 0 (map key_number l) n i out h k ∙ rw (zero-add n, take_map key_number n l, drop_replicate n shard_places no_relay) in
      rw (o, s)

  pub numbers_step : i < n → FillLoop (replicate shard_places no_relay) 0 (map key_number l) n (i + 1) (set out i (record { 0 = get_or l i 0 % 4294967296 }))
  unfolding key_number
  numbers_step k = fill_step_of key_number 0 (replicate shard_places no_relay) l n i out (key_number (get_or l i 0)) h k refl

pub number_fits : (k : ℕ) → Fits w32 (k % 4294967296)
number_fits k = record { fits = omega arith }

pub ruleset numbers = (numbers_start, numbers_step, numbers_end, number_fits, fill_size, rows_length, rules)

-- the keys of the relays of the set in order, of which n are taken
module _ (set wanted : ℕ) (rows : List Relay) (keys : List ℕ) (len most n : ℕ) where
  pub chosen : (p : Placement) → map key_number (take len keys) ≡ map number_of (ranked_in set rows) → most ≡ min wanted 24 → n ≡ min most len
      → p ≡ placement_of (map key_number (take n keys)) → p ≡ placement_of (taken_in set (min wanted 24) rows)
  unfolding taken_in
  chosen p e f g q =
      let first : map key_number (take n keys) ≡ map number_of (take most (ranked_in set rows)) =
      rw (take_least most len n keys g, ← take_map key_number most (take len keys), e) (take_map number_of most (ranked_in set rows)) in
      q ∙ rw (← f, first)

  pub places_few : most ≡ min wanted 24 → n ≡ min most len → n ≤ 24
  places_few f g = omega arith

pub ruleset chooses = (chosen, places_few, rows_length, rules)

-- from the set of those that are eligible
pub chosen_eligible : (clock bytes wanted set : ℕ) (rows : List Relay) (p : Placement) → set ≡ eligible_set clock bytes rows
    → p ≡ placement_of (taken_in set (min wanted 24) rows) → p ≡ placement_of (taken clock bytes (min wanted 24) rows)
chosen_eligible clock bytes wanted set rows p e q = q ∙ rw (e, taken_set clock bytes (min wanted 24) rows)
