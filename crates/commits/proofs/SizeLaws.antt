-- The loop over the staged sizes, and the rent that a commit tests. Assumes nothing.
use mathlib.Core.Path.{◌≡◌, ◌∙◌}
use mathlib.Core.Bool.{true}
use mathlib.Core.List.{List, [], ◌∷◌}
use Prim.Native.Nat.{ℕ, ◌+◌, ◌*◌, ◌<◌, ◌≤◌, ◌^◌}
use native.Mathlib.Omega.{arith}
use mir.Val.{Fits}
use mir.Syntax.{w64}
use borrow.Author.Rules.{rules}
use lib.Dec.{ltb}
use lib.ListN.{take, get_or}
use Rattle.std.specs.Prelude.{Option, Some, None}
use Rattle.lists.specs.Lists.{all_of, total}
use Rattle.lists.specs.RowLaws.{rows_length}
use Rattle.lists.specs.LoopLaws.{SumLoop, sum_start, sum_all}
use Rattle.rules.specs.declared.Volume.{Volume}
use Rattle.rules.specs.declared.Put.{Put}
use Rattle.rules.specs.Sound.{shards_fit}
use Rattle.rules.specs.Rent.{rent_for}
use Rattle.rules.specs.Commit.{put_size}
use Rattle.rents.specs.Within.{rent_within}
use Rattle.rents.specs.WithinLaws.{rent_within_lem}
use Rattle.surveys.specs.RowLimits.{put_within}
use Rattle.commits.specs.CommitSums.{staged_small, sum_adds_part, sum_within_part}
use Rattle.surveys.specs.SurveyedLaws.{part_size}

-- the staged sizes
module _ (puts : List Put) (count : ℕ) (few : count ≤ 8) (fit : all_of put_within (take count puts) ≡ true) where
  module _ (n i sum : ℕ) (h : SumLoop put_size (take count puts) n i sum) where
    pub staged_fits : (d : Put) → i < n → Fits w64 (sum + (get_or puts i d).size)
    staged_fits d w = record { fits = omega (arith, sum_within_part d put_size puts count n i sum h w, staged_small puts count few fit) }

    pub staged_adds : (d : Put) → i < n → SumLoop put_size (take count puts) n (i + 1) (sum + (get_or puts i d).size)
    staged_adds d w = sum_adds_part d put_size puts count n i sum h w

    pub staged_most : n ≤ i → sum ≤ 8 * 2 ^ 36
    staged_most w = rw (sum_all put_size (take count puts) n i sum h w) (staged_small puts count few fit)

pub ruleset stages = (staged_adds, staged_fits, staged_most, sum_all, sum_start, part_size, rows_length, rules)

-- the rent of so many raw bytes: f is what was worked out
module _ (rate : ℕ) (v : Volume) (raw : ℕ) (f : Option ℕ) (e : f ≡ rent_within rate v.k v.m raw) (shards : shards_fit v.k v.m ≡ true)
    (small : raw ≤ 2 ^ 43) where
  one_rent : f ≡ Some (rent_for rate v (raw ∷ []))
  unfolding total
  one_rent = e ∙ rent_within_lem rate v (raw ∷ []) raw (omega arith) shards small

  pub rent_below : (coins : ℕ) → f ≡ Some coins → ltb v.balance coins ≡ ltb v.balance (rent_for rate v (raw ∷ []))
  rent_below coins q = let z : coins ≡ rent_for rate v (raw ∷ []) = cc one_rent in rw z

  pub rent_past : f ≡ None → true ≡ ltb v.balance (rent_for rate v (raw ∷ []))
  rent_past q = let z : ◌≡◌ {A = ℕ} 0 1 = cc one_rent in absurd (omega arith)
