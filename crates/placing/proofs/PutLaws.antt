-- The answers of placing one put: which check ends it, and what it is where none does. Assumes nothing.
use mathlib.Core.Path.{◌≡◌, refl, sym, ◌∙◌}
use mathlib.Core.Bool.{Bool, true, false, cond}
use mathlib.Core.List.{List, map}
use Rattle.std.specs.Prelude.{Option, Some, None}
use Prim.Native.Nat.{ℕ, ◌+◌, ◌<◌, ◌≤◌, min}
use native.Mathlib.Omega.{arith}
use borrow.Author.Rules.{rules}
use borrow.Author.Tests.{lt-ltb, le-ltb}
use lib.Count.{ones}
use lib.Dec.{ltb}
use Rattle.rules.specs.declared.Placement.{Placement}
use Rattle.rules.specs.declared.Relay.{Relay}
use Rattle.rules.specs.Relays.{shard_size, eligible_set, too_few, taken, placement_of, loaded}
use Rattle.placing.specs.declared.PlacedPut.{PlacedPut}
use Rattle.placing.specs.Order.{taken_in}
use Rattle.placing.specs.OrderLaws.{taken_set}
use Rattle.placing.specs.Room.{can_load_all, loaded_rows}
use Rattle.placing.specs.Put.{not_placed, took_place, placed_put}

-- l is the relays after they took the shards
module _ (bytes : ℕ) (p : Placement) (rs : List Relay) (l : Option (List Relay)) (e : l ≡ loaded_rows bytes p rs) where
  made : (b : Bool) → can_load_all bytes p rs ≡ b → l ≡ cond b (Some (map (loaded bytes p) rs)) None
  unfolding loaded_rows
  made b f = e ∙ rw f

  no_number_by : (x : PlacedPut) → l ≡ None → x ≡ not_placed rs → (b : Bool) → can_load_all bytes p rs ≡ b → x ≡ took_place bytes p rs
  unfolding took_place
  no_number_by x t q true f = absurd (let z : ◌≡◌ {A = ℕ} 0 1 = cc (made true f) in omega arith)
  no_number_by x t q false f = q ∙ sym (rw f)

  pub no_number : (x : PlacedPut) → l ≡ None → x ≡ not_placed rs → x ≡ took_place bytes p rs
  no_number x t q = no_number_by x t q _ refl

  took_by : (rows : List Relay) → l ≡ Some rows → (b : Bool) → can_load_all bytes p rs ≡ b → record { placed = true; place = p; rows = rows } ≡ took_place bytes p rs
  unfolding took_place
  took_by rows t true f = let q : rows ≡ map (loaded bytes p) rs = cc (made true f) in rw (f, q)
  took_by rows t false f = absurd (let z : ◌≡◌ {A = ℕ} 0 1 = cc (made false f) in omega arith)

  pub took : (rows : List Relay) → l ≡ Some rows → record { placed = true; place = p; rows = rows } ≡ took_place bytes p rs
  took rows t = took_by rows t _ refl

-- one put
module _ (clock k m size : ℕ) (rs : List Relay) (x : PlacedPut) where
  pub too_wide : 24 < k + m → x ≡ not_placed rs → x ≡ placed_put clock k m size rs
  unfolding placed_put
  too_wide h q = q ∙ sym (rw (lt-ltb 24 (k + m) h))

  module _ (bytes set : ℕ) (b : Bool) (h : k + m ≤ 24) (e : bytes ≡ shard_size size k) (s : set ≡ eligible_set clock bytes rs)
      (f : b ≡ ltb (ones set) (k + m)) where
    few : b ≡ too_few clock (shard_size size k) (k + m) rs
    unfolding too_few
    few = f ∙ rw (s, e)

    pub no_place_lem : b ≡ true → x ≡ not_placed rs → x ≡ placed_put clock k m size rs
    unfolding placed_put
    no_place_lem t q = q ∙ sym (rw (le-ltb 24 (k + m) h, sym few ∙ t))

    pub has_place : (p : Placement) → b ≡ false → p ≡ placement_of (taken_in set (min (k + m) 24) rs) → x ≡ took_place bytes p rs
        → x ≡ placed_put clock k m size rs
    unfolding placed_put
    has_place p t g q =
        let w : min (k + m) 24 ≡ k + m = omega arith in
        let c : p ≡ placement_of (taken clock (shard_size size k) (k + m) rs) = g ∙ rw (w, s, e, taken_set clock (shard_size size k) (k + m) rs) in
        q ∙ rw (c, e) (sym (rw (le-ltb 24 (k + m) h, sym few ∙ t)))

pub ruleset places-put = (has_place, no_place_lem, too_wide, rules)
