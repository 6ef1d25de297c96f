-- Every desk that is reached from a fresh one, by any list of calls and with any rate, is sound: so no call on it is answered 1 for the desk
-- itself. Assumes nothing.
use Rattle.std.specs.Prelude.{◌≡◌, true, List, ℕ}
use Rattle.rules.specs.declared.Desk.{Desk}
use Rattle.rules.specs.Fresh.{fresh_desk}
use Rattle.rules.specs.Sound.{sound}
use Rattle.rules.specs.Calls.{Call, rule, step, run}
use Rattle.rules.proofs.Laws.StaysSound.{DeskInvariant, stays, stays_on}
use Rattle.rules.proofs.Laws.FreshSound.{fresh_holds}

-- one call
pub call_keeps : (c : Call) (d : Desk) → DeskInvariant d → DeskInvariant (step c d).desk
call_keeps = stays

-- a list of calls
pub calls_keep : (cs : List Call) (d : Desk) → DeskInvariant d → DeskInvariant (run cs d)
calls_keep = stays_on

module _ (rate : ℕ) (cs : List Call) where
  pub reached_holds : DeskInvariant (run cs (fresh_desk rate))
  reached_holds = calls_keep cs (fresh_desk rate) (fresh_holds rate)

  pub reached_sound : sound (run cs (fresh_desk rate)) ≡ true
  reached_sound = reached_holds.passes

  -- the test of the desk never answers
  pub reached_answers : (c : Call) → step c (run cs (fresh_desk rate)) ≡ rule c (run cs (fresh_desk rate))
  unfolding step
  reached_answers c = rw reached_sound
