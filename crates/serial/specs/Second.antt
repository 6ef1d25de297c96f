-- Document 01, "The list of demand 3": the second list, made from the calls of the first list and their answers alone, and what is claimed of it.
-- For any kind of call, answer and desk. Assumes nothing.
--
-- To read the claim for one desk, read this file and what that desk says of itself: which calls are the four on a session slot (`role`), which
-- answers are accepted, what a call answers and leaves (`step`), and what of two desks is compared (`base`). The claim would say little if `role`
-- named fewer calls than the four, if `base` left out more than the session slots, or if an answer held less than all that is handed back.
use Rattle.std.specs.Prelude.{◌≡◌, Bool, true, false, List, [], ◌∷◌, ◌++◌, map, ℕ}
use Rattle.std.proofs.Math.Decide.{ℕ_discrete}

-- the four calls on a session slot
pub data Kind : Type 0 where
  opens stages commits abandons : Kind

-- what a call is to the session slots: nothing at all, or one of the four on the slot of that number
pub data Role : Type 0 where
  plain : Role
  on : Kind → ℕ → Role

-- `choose q a b` is a where q decides yes, and else b
unfoldable pub choose : {P A : Type 0} → Dec P → A → A → A
choose (yes p) a b = a
choose (no p) a b = b

-- An event is a call with the answer that it had; E is the type of events.
module _ {E : Type 0} where
  -- "A session is an accepted open and its slot's accepted stages after it, up to that slot's next accepted commit or abandon": what an event makes
  -- of the session l that slot s has open, by the role of its call and whether it was accepted
  unfoldable pub grown : ℕ → Role → Bool → E → List E → List E
  grown s r false e l = l
  grown s plain true e l = l
  grown s (on opens t) true e l = choose (ℕ_discrete s t) (e ∷ []) l
  grown s (on stages t) true e l = choose (ℕ_discrete s t) (l ++ (e ∷ [])) l
  grown s (on commits t) true e l = choose (ℕ_discrete s t) [] l
  grown s (on abandons t) true e l = choose (ℕ_discrete s t) [] l

  -- what stands in the second list at the place of an event: itself, where its call is none of the four; the session that its slot has open (`l` of
  -- the slot) and then itself, where it is an accepted commit; nothing, where it is a refused commit, an open, a stage or an abandon
  unfoldable pub placed : Role → Bool → E → (ℕ → List E) → List E
  placed plain b e l = e ∷ []
  placed (on opens s) b e l = []
  placed (on stages s) b e l = []
  placed (on abandons s) b e l = []
  placed (on commits s) true e l = l s ++ (e ∷ [])
  placed (on commits s) false e l = []

module _ {Call Answer : Type 0} (role : Call → Role) (accepted : Answer → Bool) where
  -- the session that slot s has open after some events, the latest first: its open and its accepted stages, in their order
  unfoldable pub session : List (Call × Answer) → ℕ → List (Call × Answer)
  session [] s = []
  session (e ∷ past) s = grown s (role e.0) (accepted e.1) e (session past s)

  -- what the events give after those of the past, the latest first
  unfoldable pub second_after : List (Call × Answer) → List (Call × Answer) → List (Call × Answer)
  second_after past [] = []
  second_after past (e ∷ es) = placed (role e.0) (accepted e.1) e (session past) ++ second_after (e ∷ past) es

  -- the second list, of all events of the first: each kept call with the answer that it had in the first
  unfoldable pub second : List (Call × Answer) → List (Call × Answer)
  second es = second_after [] es

module _ {Call Answer Desk : Type 0} (step : Call → Desk → Answer × Desk) where
  -- a list of calls, one after another from the desk d: each with its answer, and the desk that the last one leaves
  unfoldable pub events : List Call → Desk → List (Call × Answer)
  events [] d = []
  events (c ∷ cs) d = (c, (step c d).0) ∷ events cs (step c d).1

  unfoldable pub left : List Call → Desk → Desk
  left [] d = d
  left (c ∷ cs) d = left cs (step c d).1

-- the calls of a list of events
abbrev pub calls : {Call Answer : Type 0} → List (Call × Answer) → List Call
calls es = map (λ e. e.0) es

-- The claim, of a desk's step and a fresh desk: of every list of calls, run from there, the second list, run from there too, has the answers that
-- its calls had in the first, and leaves the same base.
abbrev pub Serial : {Call Answer Desk Base : Type 0} → (Call → Role) → (Answer → Bool) → (Call → Desk → Answer × Desk)
    → (Desk → Base) → Desk → Type 0
Serial {Call = Call} role accepted step base fresh = (cs : List Call) →
    let es = second role accepted (events step cs fresh) in
    (events step (calls es) fresh ≡ es) × (base (left step (calls es) fresh) ≡ base (left step cs fresh))
