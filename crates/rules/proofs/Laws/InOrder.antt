-- What holds of every desk that is reached from a fresh one, and the law that it rests on. Assumes nothing.
use Rattle.std.specs.Prelude.{◌≡◌, true, ℕ, length, get_or}
use Rattle.rules.specs.declared.Session.{Session}
use Rattle.rules.specs.declared.Desk.{Desk}
use Rattle.rules.specs.Limits.{slot_rows}
use Rattle.rules.specs.Fresh.{fresh_session, fresh_desk}
use Rattle.rules.specs.Sound.{sound}
use Rattle.rules.specs.Calls.{Call, step}
use Rattle.rules.proofs.Laws.Later.{Tidy}

-- The law that demand 3 rests on: an invariant that holds of a fresh desk and that every call keeps; where it holds, the test of the desk passes and
-- there are "4 slots, 0..3". (That the test passes is no such invariant by itself: OneVolumeNeeded.antt.)
pub record Stays (Holds : Desk → Type 0) : Type 0 where
  pub fresh : (rate : ℕ) → Holds (fresh_desk rate)
  pub kept : (c : Call) (d : Desk) → Holds d → Holds (step c d).desk
  pub passes : (d : Desk) → Holds d → sound d ≡ true
  pub slots : (d : Desk) → Holds d → length d.sessions ≡ slot_rows

-- what the slot of this number holds; past the last slot, what a fresh one holds
abbrev pub slot_of : Desk → ℕ → Session
slot_of d s = get_or d.sessions s fresh_session

-- what holds of every desk that is reached from a fresh one: the invariant, and idle slots are fresh
pub record InOrder (Holds : Desk → Type 0) (d : Desk) : Type 0 where
  pub holds : Holds d
  pub tidy : (s : ℕ) → Tidy (slot_of d s)
