-- What a desk's step has to meet for demand 3. `base` is the desk without its session slots, `cell d s` what slot s holds. Assumes nothing.
--
-- Three things are the desk's to choose, and no statement names them:
-- `Sound`: what holds of every desk that is reached from the fresh one; at least that the test answered 1 before all else passes.
-- `Later b b'`: what may be said of a base b' that calls have made of b, such as that no number is given twice.
-- `Ready b x`: what an accepted commit of a slot that holds x tests of the base b, and open and stage test too.
--
-- A call that is none of the four has the role `plain`. It owes `stays-sound`, `goes_on` and the two laws `plain-..`, each one more case of a
-- function by cases; `Second.antt` and `Replay.antt` do not change.
use Rattle.std.specs.Prelude.{◌≡◌, ◌≢◌, Bool, true, false, ℕ}
use Rattle.serial.specs.Second.{Kind, opens, stages, commits, abandons, Role, plain, on}

-- An open and a stage prepare a commit; a commit and an abandon end the session; all but a commit leave the base as it is.
abbrev pub Prepares : Kind → Type 0
Prepares opens = Unit {0}
Prepares stages = Unit {0}
Prepares commits = ⊥
Prepares abandons = ⊥

abbrev pub Ends : Kind → Type 0
Ends opens = ⊥
Ends stages = ⊥
Ends commits = Unit {0}
Ends abandons = Unit {0}

abbrev pub Silent : Kind → Type 0
Silent opens = Unit {0}
Silent stages = Unit {0}
Silent commits = ⊥
Silent abandons = Unit {0}

module _ {Call Answer Desk : Type 0} (role : Call → Role) (accepted : Answer → Bool) (step : Call → Desk → Answer × Desk) (Sound : Desk → Type 0) where
  -- The call c, of kind k on slot s, is accepted on the desk d.
  pub record Takes (k : Kind) (s : ℕ) (c : Call) (d : Desk) : Type 0 where
    pub is : role c ≡ on k s
    pub sound : Sound d
    pub ok : accepted (step c d).0 ≡ true

module _
    {Call Answer Desk Base Cell : Type 0}
    (role : Call → Role) (accepted : Answer → Bool) (step : Call → Desk → Answer × Desk)
    (base : Desk → Base) (cell : Desk → ℕ → Cell) (idle : Cell) (fresh : Desk)
    (Sound : Desk → Type 0) (Later : Base → Base → Type 0) (Ready : Base → Cell → Type 0) where
  abbrev pub answer : Call → Desk → Answer
  answer c d = (step c d).0

  abbrev pub next : Call → Desk → Desk
  next c d = (step c d).1

  abbrev pub Accepts : Kind → ℕ → Call → Desk → Type 0
  Accepts = Takes role accepted step Sound

  pub record Laws : Type 0 where
    -- every desk that is reached is sound; a fresh one has idle slots
    pub fresh_sound : Sound fresh
    pub fresh_idle : (s : ℕ) → cell fresh s ≡ idle
    pub stays_sound : (c : Call) (d : Desk) → Sound d → Sound (next c d)
    -- time goes on
    pub later_refl : (b : Base) → Later b b
    pub later_trans : (b b₁ b₂ : Base) → Later b b₁ → Later b₁ b₂ → Later b b₂
    pub goes_on : (c : Call) (d : Desk) → Sound d → Later (base d) (base (next c d))
    -- a call that keeps its place neither writes nor reads the slots
    pub plain_cells : (c : Call) (d : Desk) → role c ≡ plain → Sound d → (t : ℕ) → cell (next c d) t ≡ cell d t
    pub plain_same : (c : Call) (d d' : Desk) → role c ≡ plain → Sound d → Sound d' → base d' ≡ base d
        → (answer c d' ≡ answer c d) × (base (next c d') ≡ base (next c d))
    -- the four: a refusal changes nothing; no other slot changes; only a commit changes the base; commit and abandon free the slot
    pub refused : (k : Kind) (s : ℕ) (c : Call) (d : Desk) → role c ≡ on k s → Sound d → accepted (answer c d) ≡ false
        → (base (next c d) ≡ base d) × ((t : ℕ) → cell (next c d) t ≡ cell d t)
    pub others : {k : Kind} {s : ℕ} {c : Call} {d : Desk} → Accepts k s c d → (t : ℕ) → t ≢ s → cell (next c d) t ≡ cell d t
    pub silent : {k : Kind} {s : ℕ} {c : Call} {d : Desk} → Silent k → Accepts k s c d → base (next c d) ≡ base d
    pub ends : {k : Kind} {s : ℕ} {c : Call} {d : Desk} → Ends k → Accepts k s c d → cell (next c d) s ≡ idle
    pub opens_idle : {s : ℕ} {c : Call} {d : Desk} → Accepts opens s c d → cell d s ≡ idle
    -- an open or a stage that was accepted is accepted again, later, on a base that is ready for what it left in the slot: with the same
    -- answer, and it leaves the same; such a base is ready for what was in the slot before it, too
    pub ready_before : {k : Kind} {s : ℕ} {c : Call} {d : Desk} → Prepares k → Accepts k s c d
        → (b : Base) → Ready b (cell (next c d) s) → Ready b (cell d s)
    pub again : {k : Kind} {s : ℕ} {c : Call} {d : Desk} → Prepares k → Accepts k s c d
        → (d' : Desk) → Sound d' → Later (base d) (base d') → cell d' s ≡ cell d s → Ready (base d') (cell (next c d) s)
        → (answer c d' ≡ answer c d) × (cell (next c d') s ≡ cell (next c d) s)
    -- an accepted commit found the base ready; it reads the base and its slot, nothing else
    pub commits_ready : {s : ℕ} {c : Call} {d : Desk} → Accepts commits s c d → Ready (base d) (cell d s)
    pub commits_same : {s : ℕ} {c : Call} {d : Desk} → Accepts commits s c d
        → (d' : Desk) → Sound d' → base d' ≡ base d → cell d' s ≡ cell d s
        → (answer c d' ≡ answer c d) × (base (next c d') ≡ base (next c d))
