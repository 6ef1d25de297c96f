-- Demand 3 over any desk that meets the laws: the two runs go on side by side, the second with idle slots, and what each slot of the first has open
-- can be run again in the second. Assumes nothing.
use Rattle.std.specs.Prelude.{◌≡◌, ◌≢◌, Bool, ℕ}
use Rattle.std.proofs.Math.Path.{refl, ap}
use Rattle.std.proofs.Common.{sym, ◌∙◌}
use Rattle.std.proofs.Math.Bool.{true, false}
use mathlib.Core.List.{List, [], ◌∷◌, ◌++◌}
use Rattle.std.proofs.Math.Decide.{ℕ_discrete}
use Rattle.serial.specs.Second.{Kind, opens, stages, commits, abandons, Role, plain, on, choose, grown, placed, session, second_after, second, events, left, calls, Serial}
use Rattle.serial.specs.Laws.{Prepares, Silent, Takes, Laws}

silent_prepares : (k : Kind) → Prepares k → Silent k
silent_prepares opens p = tt
silent_prepares stages p = tt
silent_prepares commits p = p
silent_prepares abandons p = tt

module _
    {Call Answer Desk Base Cell : Type 0}
    (role : Call → Role) (accepted : Answer → Bool) (step : Call → Desk → Answer × Desk)
    (base : Desk → Base) (cell : Desk → ℕ → Cell) (idle : Cell) (fresh : Desk)
    (Sound : Desk → Type 0) (Later : Base → Base → Type 0) (Ready : Base → Cell → Type 0)
    (L : Laws role accepted step base cell idle fresh Sound Later Ready) where
  abbrev Event : Type 0
  Event = Call × Answer

  abbrev answer : Call → Desk → Answer
  answer c d = (step c d).0

  abbrev next : Call → Desk → Desk
  next c d = (step c d).1

  abbrev Accepts : Kind → ℕ → Call → Desk → Type 0
  Accepts = Takes role accepted step Sound

  -- From d the calls of the list have the answers of the list, and leave e.
  data Runs : Desk → List Event → Desk → Type 0 where
    done : {d : Desk} → Runs d [] d
    call : {c : Call} {a : Answer} {d e : Desk} {l : List Event} → answer c d ≡ a → Runs (next c d) l e → Runs d ((c, a) ∷ l) e

  runs_append : {d e f : Desk} {l m : List Event} → Runs d l e → Runs e m f → Runs d (l ++ m) f
  runs_append done q = q
  runs_append (call h p) q = call h (runs_append p q)

  runs_give : {d e : Desk} {l : List Event} → Runs d l e → (events step (calls l) d ≡ l) × (left step (calls l) d ≡ e)
  unfolding events left
  runs_give done = (refl, refl)
  runs_give (call h p) = let q = runs_give p in (rw (h, q.0), q.1)

  -- The list l, run from d, leaves x in slot s and changes nothing else.
  record Fills (s : ℕ) (l : List Event) (x : Cell) (d e : Desk) : Type 0 where
    runs : Runs d l e
    sound : Sound e
    same : base e ≡ base d
    has : cell e s ≡ x
    rest : (t : ℕ) → t ≢ s → cell e t ≡ idle

  -- It does so from every desk with idle slots whose base is later than b and ready for x.
  abbrev Replays : ℕ → Base → List Event → Cell → Type 0
  Replays s b l x = (d : Desk) → Sound d → Later b (base d) → Ready (base d) x → ((t : ℕ) → cell d t ≡ idle) → (e : Desk) × Fills s l x d e

  replay_none : (s : ℕ) (b : Base) (x : Cell) → x ≡ idle → Replays s b [] x
  replay_none s b x i d so la re id = (d, record { runs = done; sound = so; same = refl; has = id s ∙ sym i; rest = λ t n. id t })

  replay_later : (s : ℕ) (b b₁ : Base) (l : List Event) (x : Cell) → Later b b₁ → Replays s b l x → Replays s b₁ l x
  replay_later s b b₁ l x la h d so la₁ = h d so (L.later_trans b b₁ (base d) la la₁)

  replay_more : (k : Kind) (s : ℕ) (c : Call) (d : Desk) (l : List Event) → Prepares k → Accepts k s c d
      → Replays s (base d) l (cell d s) → Replays s (base (next c d)) (l ++ ((c, answer c d) ∷ [])) (cell (next c d) s)
  replay_more k s c d l p a h f so la re id =
      let la₁ : Later (base d) (base f) = L.later_trans (base d) (base (next c d)) (base f) (L.goes_on c d a.sound) la in
      let (e, F) = h f so la₁ (L.ready_before p a (base f) re) id in
      let q = L.again p a e F.sound (rw F.same la₁) F.has (rw F.same re) in
      let a₁ : Accepts k s c e = record { is = a.is; sound = F.sound; ok = rw q.0 a.ok } in (
        next c e,
        record {
          runs = runs_append F.runs (call q.0 done);
          sound = L.stays_sound c e F.sound;
          same = L.silent (silent_prepares k p) a₁ ∙ F.same;
          has = q.1;
          rest = λ t n. L.others a₁ t n ∙ F.rest t n;
        },
      )

  replay_on : (k : Kind) (s : ℕ) (c : Call) (d : Desk) (l m : ℕ → List Event) → Accepts k s c d
      → ((t : ℕ) → Replays t (base d) (l t) (cell d t)) → Replays s (base (next c d)) (m s) (cell (next c d) s)
      → (t : ℕ) (q : Dec (t ≡ s)) → Replays t (base (next c d)) (choose q (m t) (l t)) (cell (next c d) t)
  unfolding choose
  replay_on k s c d l m a h new t (yes p) = rw p new
  replay_on k s c d l m a h new t (no n) = rw (L.others a t n) (replay_later t (base d) (base (next c d)) (l t) (cell d t) (L.goes_on c d a.sound) (h t))

  -- The first run is at d and the second at d', and slot t of the first has the session `l t` open.
  record Agree (l : ℕ → List Event) (d d' : Desk) : Type 0 where
    sound : Sound d
    sound' : Sound d'
    same : base d' ≡ base d
    quiet : (t : ℕ) → cell d' t ≡ idle
    replay : (t : ℕ) → Replays t (base d) (l t) (cell d t)

  -- One call of the first run, and what stands in its place in the second.
  abbrev OneCall : (Role) → Bool → Call → (ℕ → List Event) → Desk → Desk → Type 0
  OneCall r b c l d d' = (d'' : Desk) × Runs d' (placed r b (c, answer c d) l) d'' × Agree (λ t. grown t r b (c, answer c d) (l t)) (next c d) d''

  module _ (c : Call) (l : ℕ → List Event) (d d' : Desk) (T : Agree l d d') where
    one_plain : role c ≡ plain → (d'' : Desk) × Runs d' ((c, answer c d) ∷ []) d'' × Agree l (next c d) d''
    one_plain r =
        let q = L.plain_same c d d' r T.sound T.sound' T.same in (
          next c d',
          call q.0 done,
          record {
            sound = L.stays_sound c d T.sound;
            sound' = L.stays_sound c d' T.sound';
            same = q.1;
            quiet = λ t. L.plain_cells c d' r T.sound' t ∙ T.quiet t;
            replay = λ t. rw (L.plain_cells c d r T.sound t) (replay_later t (base d) (base (next c d)) (l t) (cell d t) (L.goes_on c d T.sound) (T.replay t));
          },
        )

    one_refused : (k : Kind) (s : ℕ) → role c ≡ on k s → accepted (answer c d) ≡ false → Agree l (next c d) d'
    one_refused k s r f =
        let (b, x) = L.refused k s c d r T.sound f in
        record {
          sound = L.stays_sound c d T.sound;
          sound' = T.sound';
          same = T.same ∙ sym b;
          quiet = T.quiet;
          replay = λ t. rw (b, x t) (T.replay t);
        }

    -- an accepted open, stage or abandon, after which the slot has m open
    one_silent : (k : Kind) (s : ℕ) (m : ℕ → List Event) → Silent k → Accepts k s c d → Replays s (base (next c d)) (m s) (cell (next c d) s)
        → Agree (λ t. choose (ℕ_discrete t s) (m t) (l t)) (next c d) d'
    one_silent k s m i a new = record {
      sound = L.stays_sound c d T.sound;
      sound' = T.sound';
      same = T.same ∙ sym (L.silent i a);
      quiet = T.quiet;
      replay = λ t. replay_on k s c d l m a T.replay new t (ℕ_discrete t s);
    }

    one_commit : (s : ℕ) → Accepts commits s c d
        → (d'' : Desk) × Runs d' (l s ++ ((c, answer c d) ∷ [])) d'' × Agree (λ t. choose (ℕ_discrete t s) [] (l t)) (next c d) d''
    one_commit s a =
        let (e, F) = T.replay s d' T.sound' (rw T.same (L.later_refl (base d))) (rw T.same (L.commits_ready a)) T.quiet in
        let q = L.commits_same a e F.sound (F.same ∙ T.same) F.has in
        let a₁ : Accepts commits s c e = record { is = a.is; sound = F.sound; ok = rw q.0 a.ok } in (
          next c e,
          runs_append F.runs (call q.0 done),
          record {
            sound = L.stays_sound c d T.sound;
            sound' = L.stays_sound c e F.sound;
            same = q.1;
            quiet = λ t. emptied t a₁ F.rest (ℕ_discrete t s);
            replay = λ t. replay_on commits s c d l (λ u. []) a T.replay (replay_none s (base (next c d)) (cell (next c d) s) (L.ends tt a)) t (ℕ_discrete t s);
          },
        )
      where
        emptied : {e : Desk} (t : ℕ) → Accepts commits s c e → ((u : ℕ) → u ≢ s → cell e u ≡ idle) → Dec (t ≡ s) → cell (next c e) t ≡ idle
        emptied t a₁ rest (yes p) = rw p (L.ends tt a₁)
        emptied t a₁ rest (no n) = L.others a₁ t n ∙ rest t n

  one : (r : Role) (b : Bool) (c : Call) (l : ℕ → List Event) (d d' : Desk) → Agree l d d' → role c ≡ r → accepted (answer c d) ≡ b → OneCall r b c l d d'
  unfolding placed grown
  one plain true c l d d' T r f = one_plain c l d d' T r
  one plain false c l d d' T r f = one_plain c l d d' T r
  one (on opens s) false c l d d' T r f = (d', done, one_refused c l d d' T opens s r f)
  one (on stages s) false c l d d' T r f = (d', done, one_refused c l d d' T stages s r f)
  one (on commits s) false c l d d' T r f = (d', done, one_refused c l d d' T commits s r f)
  one (on abandons s) false c l d d' T r f = (d', done, one_refused c l d d' T abandons s r f)
  one (on opens s) true c l d d' T r f =
      let a : Accepts opens s c d = record { is = r; sound = T.sound; ok = f } in
      let new = replay_more opens s c d [] tt a (replay_none s (base d) (cell d s) (L.opens_idle a)) in
      (d', done, one_silent c l d d' T opens s (λ t. (c, answer c d) ∷ []) tt a new)
  one (on stages s) true c l d d' T r f =
      let a : Accepts stages s c d = record { is = r; sound = T.sound; ok = f } in
      let new = replay_more stages s c d (l s) tt a (T.replay s) in
      (d', done, one_silent c l d d' T stages s (λ t. l t ++ ((c, answer c d) ∷ [])) tt a new)
  one (on commits s) true c l d d' T r f = one_commit c l d d' T s (record { is = r; sound = T.sound; ok = f })
  one (on abandons s) true c l d d' T r f =
      let a : Accepts abandons s c d = record { is = r; sound = T.sound; ok = f } in
      (d', done, one_silent c l d d' T abandons s (λ t. []) tt a (replay_none s (base (next c d)) (cell (next c d) s) (L.ends tt a)))

  both_run : (cs : List Call) (past : List Event) (d d' : Desk) → Agree (session role accepted past) d d'
      → (e : Desk) × Runs d' (second_after role accepted past (events step cs d)) e × (base e ≡ base (left step cs d))
  unfolding session second_after events left
  both_run [] past d d' T = (d', done, T.same)
  both_run (c ∷ cs) past d d' T =
      let (d₁, p, T₁) = one (role c) (accepted (answer c d)) c (session role accepted past) d d' T refl refl in
      let (e, q, b) = both_run cs ((c, answer c d) ∷ past) (next c d) d₁ T₁ in
      (e, runs_append p q, b)

  pub serial : Serial role accepted step base fresh
  unfolding second session
  serial cs =
      let (e, p, b) = both_run cs [] fresh fresh (record {
        sound = L.fresh_sound;
        sound' = L.fresh_sound;
        same = refl;
        quiet = L.fresh_idle;
        replay = λ t. replay_none t (base fresh) (cell fresh t) (L.fresh_idle t);
      }) in
      let q = runs_give p in
      (q.0, ap base q.1 ∙ b)
