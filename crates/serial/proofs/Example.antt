-- One mixed list and its second list, by computation: two sessions side by side, a refused stage, a refused commit and the abandon after it, a
-- refused open, a session that is never committed. Assumes nothing.
use Rattle.std.specs.Prelude.{◌≡◌, refl, Bool, true, false, List, [], ◌∷◌, ℕ}
use Rattle.std.proofs.Math.Decide.{ℕ_discrete}
use Rattle.serial.specs.Second.{Kind, opens, stages, commits, abandons, Role, plain, on, choose, grown, placed, session, second_after, second, calls}

-- a call that is none of the four, or one of them on a slot; the number tells it from others
data Call : Type 0 where
  other : ℕ → Call
  slot : Kind → ℕ → ℕ → Call

abbrev role : Call → Role
role (other n) = plain
role (slot k s n) = on k s

-- an answer says only whether the call was accepted
abbrev accepted : Bool → Bool
accepted a = a

abbrev first : List (Call × Bool)
first = (other 1, true) ∷ (slot opens 0 1, true) ∷ (slot opens 2 2, true) ∷ (slot stages 2 3, true) ∷ (other 2, false)
    ∷ (slot stages 1 4, false)
    ∷ (slot stages 0 5, true)
    ∷ (slot commits 2 6, true)
    ∷ (other 3, true)
    ∷ (slot commits 0 7, false)
    ∷ (slot abandons 0 8, true)
    ∷ (slot opens 0 9, true)
    ∷ (slot abandons 3 10, false)
    ∷ (slot stages 0 11, true)
    ∷ (other 4, true)
    ∷ (slot stages 0 12, true)
    ∷ (slot opens 0 13, false)
    ∷ (slot commits 0 14, true)
    ∷ (slot opens 1 15, true)
    ∷ []

example : calls (second role accepted first)
    ≡ other 1 ∷ other 2 ∷ slot opens 2 2 ∷ slot stages 2 3 ∷ slot commits 2 6 ∷ other 3 ∷ other 4 ∷ slot opens 0 9
    ∷ slot stages 0 11
    ∷ slot stages 0 12
    ∷ slot commits 0 14
    ∷ []
unfolding second second_after session placed grown choose ℕ_discrete
example = refl
