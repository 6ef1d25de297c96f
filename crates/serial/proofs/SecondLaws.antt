-- What the second list keeps, whatever the events: the calls that are none of the four and the accepted commits stand in it just as in the first,
-- in their order. All else in it are the opens and stages before each commit. Assumes nothing.
use Rattle.std.specs.Prelude.{◌≡◌, Bool, ℕ}
use Rattle.std.proofs.Math.Path.{refl, sym, ap}
use Rattle.std.proofs.Common.{◌∙◌}
use Rattle.std.proofs.Math.Bool.{true, false}
use mathlib.Core.List.{List, [], ◌∷◌, ◌++◌}
use Rattle.std.proofs.Math.Decide.{ℕ_discrete}
use Rattle.serial.specs.Second.{opens, stages, commits, abandons, Role, plain, on, choose, grown, placed, session, second_after, second}

-- the event in front of others, where its call is none of the four or an accepted commit
stays : {E : Type 0} → Role → Bool → E → List E → List E
stays plain b e l = e ∷ l
stays (on commits s) true e l = e ∷ l
stays (on commits s) false e l = l
stays (on opens s) b e l = l
stays (on stages s) b e l = l
stays (on abandons s) b e l = l

module _ {Call Answer : Type 0} (role : Call → Role) (accepted : Answer → Bool) where
  abbrev Event : Type 0
  Event = Call × Answer

  -- the events that keep their place
  pub staying : List Event → List Event
  staying [] = []
  staying (e ∷ es) = stays (role e.0) (accepted e.1) e (staying es)

  stays_append : (r : Role) (b : Bool) (e : Event) (l m : List Event) → stays r b e l ++ m ≡ stays r b e (l ++ m)
  unfolding stays
  stays_append plain b e l m = refl
  stays_append (on commits s) true e l m = refl
  stays_append (on commits s) false e l m = refl
  stays_append (on opens s) b e l m = refl
  stays_append (on stages s) b e l m = refl
  stays_append (on abandons s) b e l m = refl

  staying_append : (l m : List Event) → staying (l ++ m) ≡ staying l ++ staying m
  unfolding staying
  staying_append [] m = refl
  staying_append (e ∷ l) m = ap (stays (role e.0) (accepted e.1) e) (staying_append l m)
      ∙ sym (stays_append (role e.0) (accepted e.1) e (staying l) (staying m))

  choose_none : {P : Type 0} (q : Dec P) (l m : List Event) → staying l ≡ [] → staying m ≡ [] → staying (choose q l m) ≡ []
  unfolding choose
  choose_none (yes p) l m g h = g
  choose_none (no p) l m g h = h

  alone : (r : Role) (b : Bool) (e : Event) → role e.0 ≡ r → accepted e.1 ≡ b → staying (e ∷ []) ≡ stays r b e []
  unfolding staying
  alone r b e p q = rw (p, q)

  grown_none : (s : ℕ) (r : Role) (b : Bool) (e : Event) (l : List Event) → role e.0 ≡ r → staying l ≡ [] → staying (grown s r b e l) ≡ []
  unfolding grown staying stays
  grown_none s r false e l p h = h
  grown_none s plain true e l p h = h
  grown_none s (on opens t) true e l p h = choose_none (ℕ_discrete s t) (e ∷ []) l (alone (on opens t) (accepted e.1) e p refl) h
  grown_none s (on stages t) true e l p h = choose_none (ℕ_discrete s t) (l ++ (e ∷ [])) l
      (staying_append l (e ∷ []) ∙ (ap (λ m. m ++ staying (e ∷ [])) h ∙ alone (on stages t) (accepted e.1) e p refl)) h
  grown_none s (on commits t) true e l p h = choose_none (ℕ_discrete s t) [] l refl h
  grown_none s (on abandons t) true e l p h = choose_none (ℕ_discrete s t) [] l refl h

  session_none : (past : List Event) (s : ℕ) → staying (session role accepted past s) ≡ []
  unfolding session staying
  session_none [] s = refl
  session_none (e ∷ past) s = grown_none s (role e.0) (accepted e.1) e (session role accepted past s) refl (session_none past s)

  placed_stays : (r : Role) (b : Bool) (e : Event) (l : ℕ → List Event) → role e.0 ≡ r → accepted e.1 ≡ b
      → ((s : ℕ) → staying (l s) ≡ []) → staying (placed r b e l) ≡ stays r b e []
  unfolding placed stays staying
  placed_stays plain b e l p q h = alone plain b e p q
  placed_stays (on opens s) b e l p q h = refl
  placed_stays (on stages s) b e l p q h = refl
  placed_stays (on abandons s) b e l p q h = refl
  placed_stays (on commits s) true e l p q h = staying_append (l s) (e ∷ []) ∙ (ap (λ m. m ++ staying (e ∷ [])) (h s) ∙ alone (on commits s) true e p q)
  placed_stays (on commits s) false e l p q h = refl

  second_after_stays : (past es : List Event) → staying (second_after role accepted past es) ≡ staying es
  unfolding second_after staying
  second_after_stays past [] = refl
  second_after_stays past (e ∷ es) =
      staying_append (placed (role e.0) (accepted e.1) e (session role accepted past)) (second_after role accepted (e ∷ past) es)
      ∙ (ap (λ m. m ++ staying (second_after role accepted (e ∷ past) es)) (placed_stays (role e.0) (accepted e.1) e (session role accepted past) refl refl (session_none past))
      ∙ (ap (λ m. stays (role e.0) (accepted e.1) e [] ++ m) (second_after_stays (e ∷ past) es)
      ∙ stays_append (role e.0) (accepted e.1) e [] (staying es)))

  -- they are the same in both lists, in the same order
  pub second_stays : (es : List Event) → staying (second role accepted es) ≡ staying es
  unfolding second
  second_stays es = second_after_stays [] es
