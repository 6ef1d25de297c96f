-- The law of coins: "Over any history, deposits equal live balances plus rents paid plus balances sent back, each summed from the calls."
-- It holds of every list of calls, and the desks need not be sound for it: no volume pays more than it has. Assumes nothing.
use Rattle.std.specs.Prelude.{◌≡◌, refl, true, false, cond, List, [], ◌∷◌, ℕ, ◌+◌, eqb, leb}
use Rattle.std.proofs.Common.{arith}
use Rattle.lists.specs.Lists.{hit, sum_of}
use Rattle.lists.specs.SearchLaws.{row_passes}
use Rattle.rules.specs.declared.VolumeNo.{VolumeNo}
use Rattle.rules.specs.declared.Answer.{Answer}
use Rattle.rules.specs.declared.Volume.{Volume}
use Rattle.rules.specs.declared.Tables.{Tables}
use Rattle.rules.specs.declared.Desk.{Desk}
use Rattle.rules.specs.declared.TablesOutcome.{TablesOutcome}
use Rattle.rules.specs.Limits.{slot_rows}
use Rattle.rules.specs.Numbers.{BAD}
use Rattle.rules.specs.Fresh.{fresh_desk}
use Rattle.rules.specs.Tables.{used_volume, is_volume, volume_of, with_balance}
use Rattle.rules.specs.Outcome.{refusal, is_accepted, desk_refused}
use Rattle.rules.specs.VolumeCalls.{drop_entries, deposited}
use Rattle.rules.specs.Sound.{sound}
use Rattle.rules.specs.Calls.{Ask, Call, ask, on_slot, rule, step, run}
use Rattle.rules.specs.Coins.{live_balances, Move, neither, ask_move, move_of, coins_in, coins_paid, coins_back, summed}
use Rattle.rules.proofs.Laws.AskCases.{Effect, advances, creates, deposits, deletes, undeletes, grants, attenuates, revokes, removes, looks, registers, beats, Does, refuses, takes, ask_cases}
use Rattle.rules.proofs.Laws.BranchLaws.{cond_case}
use Rattle.rules.proofs.Laws.NumberLaws.{numbered_used}
use Rattle.rules.proofs.Laws.LiveLaws.{live_in, cond_zero, live_set}
use Rattle.rules.proofs.Laws.AdvanceCoins.{advanced_coins, advanced_deposits}
use Rattle.rules.proofs.Laws.UnmovedCoins.{Unmoved, unmoved_self, same_volumes, same_balance, new_volume_lem, work_coins}

-- a call that answers a on the tables t and leaves u: what it brings in, pays and sends back, where it is accepted, accounts for the balances
record Books (m : Move) (t : Tables) (a : Answer) (u : Tables) : Type 0 where
  coins : live_balances t + cond (is_accepted a) (coins_in m t) 0
      ≡ live_balances u + cond (is_accepted a) (coins_paid m t) 0 + cond (is_accepted a) (coins_back m t) 0
  deposited : u.deposits ≡ t.deposits + cond (is_accepted a) (coins_in m t) 0

refused_books : (m : Move) (t : Tables) (n : ℕ) → eqb n 0 ≡ false → Books m t (refusal n) t
refused_books m t n e = record { coins = rw e (omega arith); deposited = rw e (omega arith) }

unmoved_books : (t u : Tables) (a : Answer) → Unmoved t u → Books neither t a u
unmoved_books t u a e = record {
  coins = rw (cond_zero (is_accepted a)) (omega arith);
  deposited = rw (cond_zero (is_accepted a)) (omega arith);
}

-- a deposit brings its coins in
deposit_live : (t : Tables) (n : VolumeNo) (coins i : ℕ) (v : Volume) → volume_of n t ≡ hit i v → live_balances t + coins ≡ live_balances (deposited t coins i v)
unfolding live_balances volume_of
deposit_live t n coins i v e =
    let w = with_balance v (v.balance + coins) in
    let used : used_volume v ≡ true = numbered_used n.0 v.no.0 (row_passes (is_volume n) t.volumes 0 i v e) in
    let before : live_in v ≡ v.balance = rw used in
    let after : live_in w ≡ v.balance + coins = rw used in
    omega (arith, live_set (is_volume n) t.volumes i v w e)

-- each call
effect_books : (t : Tables) {a : Ask} {x : Answer} {u : Tables} → Effect t a x u → Books (ask_move a) t x u
unfolding volume_of drop_entries
effect_books t (advances block b) = record { coins = omega (arith, advanced_coins t block); deposited = omega (arith, advanced_deposits t block) }
effect_books t (creates a name k m cap i old p q r e) = unmoved_books t _ _ (new_volume_lem t i old _ e refl)
effect_books t (deposits n coins i v e p q) = record { coins = omega (arith, deposit_live t n coins i v e); deposited = refl }
effect_books t (deletes a n i v e p q) = unmoved_books t _ _ (same_balance t n i v _ e refl _ refl refl)
effect_books t (undeletes a n i v e p q) = unmoved_books t _ _ (same_balance t n i v _ e refl _ refl refl)
effect_books t (grants a n s i v j old p e q r z f) = unmoved_books t _ _ (same_volumes t _ refl refl)
effect_books t (attenuates n s i k j old p e q r z f) = unmoved_books t _ _ (same_volumes t _ refl refl)
effect_books t (revokes a n i k j v e f p) = unmoved_books t _ _ (same_volumes t _ refl refl)
effect_books t (removes a n path i v j e p f q r g z) = unmoved_books t _ _ (same_balance t n i v _ f refl _ refl refl)
effect_books t (looks n path i k j e p f q r z g) = unmoved_books t _ _ (unmoved_self t)
effect_books t (registers capacity i old p q e) = unmoved_books t _ _ (same_volumes t _ refl refl)
effect_books t (beats n i r e p) = unmoved_books t _ _ (same_volumes t _ refl refl)

does_books : (t : Tables) {a : Ask} {o : TablesOutcome} → Does t a o → Books (ask_move a) t o.answer o.tables
does_books t (refuses n e) = refused_books _ t n e
does_books t (takes x u y e) = effect_books t e

rule_books : (c : Call) (d : Desk) → Books (move_of c) d.tables (rule c d).answer (rule c d).desk.tables
unfolding rule
rule_books (ask a) d = does_books d.tables (ask_cases d.tables a)
rule_books (on_slot slot w) d =
    cond_case (λ o. Books neither d.tables o.answer o.desk.tables) (leb slot_rows slot) (desk_refused d BAD) _
    (λ e. refused_books neither d.tables BAD refl)
    (λ e. unmoved_books d.tables _ _ (work_coins w d.tables _))

step_books : (c : Call) (d : Desk) → Books (move_of c) d.tables (step c d).answer (step c d).desk.tables
unfolding step
step_books c d =
    cond_case (λ o. Books (move_of c) d.tables o.answer o.desk.tables) (sound d) (rule c d) (desk_refused d BAD) (λ e. rule_books c d)
    (λ e. refused_books (move_of c) d.tables BAD refl)

-- from any desk on
coins_from : (cs : List Call) (d : Desk)
    → live_balances d.tables + summed coins_in cs d ≡ live_balances (run cs d).tables + summed coins_paid cs d + summed coins_back cs d
unfolding summed run
coins_from [] d = omega arith
coins_from (c ∷ cs) d = omega (arith, (step_books c d).coins, coins_from cs (step c d).desk)

deposits_from : (cs : List Call) (d : Desk) → (run cs d).tables.deposits ≡ d.tables.deposits + summed coins_in cs d
unfolding summed run
deposits_from [] d = omega arith
deposits_from (c ∷ cs) d = omega (arith, (step_books c d).deposited, deposits_from cs (step c d).desk)

-- from a fresh desk: it holds no coins
fresh_live : (rate : ℕ) → live_balances (fresh_desk rate).tables ≡ 0
unfolding live_balances sum_of
fresh_live rate = refl

module _ (rate : ℕ) (cs : List Call) where
  -- "deposits equal live balances plus rents paid plus balances sent back, each summed from the calls"
  pub coins_balance : summed coins_in cs (fresh_desk rate)
      ≡ live_balances (run cs (fresh_desk rate)).tables + summed coins_paid cs (fresh_desk rate) + summed coins_back cs (fresh_desk rate)
  coins_balance = omega (arith, coins_from cs (fresh_desk rate), fresh_live rate)

  -- and the desk's own sum of deposits is that of the calls
  pub deposits_summed : (run cs (fresh_desk rate)).tables.deposits ≡ summed coins_in cs (fresh_desk rate)
  deposits_summed = omega (arith, deposits_from cs (fresh_desk rate))
