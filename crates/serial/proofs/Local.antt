-- The laws, from rules that are stated on the base and one slot alone: `ask` of the calls that keep their place, `work` of the four. `Fit` is what
-- holds of the base of a sound desk, `Tidy` what holds of each of its slots. Assumes nothing.
use Rattle.std.specs.Prelude.{◌≡◌, refl, ◌≢◌, Bool, true, false, ℕ}
use Rattle.std.proofs.Common.{sym, ◌∙◌, ap}
use Rattle.std.proofs.Math.Decide.{ℕ_discrete}
use Rattle.serial.specs.Second.{Kind, opens, stages, commits, abandons, Role, plain, on}
use Rattle.serial.specs.Laws.{Prepares, Silent, Ends, Takes, Laws}

module _
    {Call Answer Desk Base Cell : Type 0} (role : Call → Role) (step : Call → Desk → Answer × Desk)
    (base : Desk → Base) (cell : Desk → ℕ → Cell) (idle : Cell) (fresh : Desk) (Sound : Desk → Type 0) (Fit : Base → Type 0) (Tidy : Cell → Type 0)
    (ask : Call → Base → Answer × Base) (work : Call → Base → Cell → Answer × Base × Cell) where
  -- The step on a sound desk runs these rules and touches nothing else.
  pub record Local : Type 0 where
    pub fresh_sound : Sound fresh
    pub fresh_idle : (s : ℕ) → cell fresh s ≡ idle
    pub stays_sound : (c : Call) (d : Desk) → Sound d → Sound (step c d).1
    pub fit : (d : Desk) → Sound d → Fit (base d)
    pub tidy : (d : Desk) → Sound d → (s : ℕ) → Tidy (cell d s)
    pub plain_answer : (c : Call) (d : Desk) → role c ≡ plain → Sound d → (step c d).0 ≡ (ask c (base d)).0
    pub plain_base : (c : Call) (d : Desk) → role c ≡ plain → Sound d → base (step c d).1 ≡ (ask c (base d)).1
    pub plain_cells : (c : Call) (d : Desk) → role c ≡ plain → Sound d → (t : ℕ) → cell (step c d).1 t ≡ cell d t
    pub slot_answer : (k : Kind) (s : ℕ) (c : Call) (d : Desk) → role c ≡ on k s → Sound d → (step c d).0 ≡ (work c (base d) (cell d s)).0
    pub slot_base : (k : Kind) (s : ℕ) (c : Call) (d : Desk) → role c ≡ on k s → Sound d → base (step c d).1 ≡ (work c (base d) (cell d s)).1
    pub slot_cell : (k : Kind) (s : ℕ) (c : Call) (d : Desk) → role c ≡ on k s → Sound d → cell (step c d).1 s ≡ (work c (base d) (cell d s)).2
    pub slot_others : (k : Kind) (s : ℕ) (c : Call) (d : Desk) → role c ≡ on k s → Sound d → (t : ℕ) → t ≢ s → cell (step c d).1 t ≡ cell d t

module _
    {Call Answer Base Cell : Type 0} (role : Call → Role) (accepted : Answer → Bool) (Fit : Base → Type 0) (Tidy : Cell → Type 0)
    (work : Call → Base → Cell → Answer × Base × Cell) where
  -- The call c, of kind k, is accepted on the base b and the slot x.
  pub record Passes (k : Kind) (s : ℕ) (c : Call) (b : Base) (x : Cell) : Type 0 where
    pub is : role c ≡ on k s
    pub fits : Fit b
    pub neat : Tidy x
    pub ok : accepted (work c b x).0 ≡ true

module _
    {Call Answer Base Cell : Type 0} (role : Call → Role) (accepted : Answer → Bool) (idle : Cell)
    (Fit : Base → Type 0) (Tidy : Cell → Type 0) (Later : Base → Base → Type 0) (Ready : Base → Cell → Type 0)
    (ask : Call → Base → Answer × Base) (work : Call → Base → Cell → Answer × Base × Cell) where
  abbrev Pass : Kind → ℕ → Call → Base → Cell → Type 0
  Pass = Passes role accepted Fit Tidy work

  pub record Rules : Type 0 where
    pub later_refl : (b : Base) → Later b b
    pub later_trans : (b b₁ b₂ : Base) → Later b b₁ → Later b₁ b₂ → Later b b₂
    pub plain_later : (c : Call) (b : Base) → role c ≡ plain → Fit b → Later b (ask c b).1
    pub commit_later : (s : ℕ) (c : Call) (b : Base) (x : Cell) → Pass commits s c b x → Later b (work c b x).1
    pub refused : (k : Kind) (s : ℕ) (c : Call) (b : Base) (x : Cell) → role c ≡ on k s → accepted (work c b x).0 ≡ false
        → ((work c b x).1 ≡ b) × ((work c b x).2 ≡ x)
    pub silent : (k : Kind) (s : ℕ) (c : Call) (b : Base) (x : Cell) → Silent k → Pass k s c b x → (work c b x).1 ≡ b
    pub ends : (k : Kind) (s : ℕ) (c : Call) (b : Base) (x : Cell) → Ends k → Pass k s c b x → (work c b x).2 ≡ idle
    pub opens_idle : (s : ℕ) (c : Call) (b : Base) (x : Cell) → Pass opens s c b x → x ≡ idle
    pub ready_before : (k : Kind) (s : ℕ) (c : Call) (b : Base) (x : Cell) → Prepares k → Pass k s c b x
        → (b' : Base) → Ready b' (work c b x).2 → Ready b' x
    pub again : (k : Kind) (s : ℕ) (c : Call) (b : Base) (x : Cell) → Prepares k → Pass k s c b x
        → (b' : Base) → Fit b' → Later b b' → Ready b' (work c b x).2
        → ((work c b' x).0 ≡ (work c b x).0) × ((work c b' x).2 ≡ (work c b x).2)
    pub commits_ready : (s : ℕ) (c : Call) (b : Base) (x : Cell) → Pass commits s c b x → Ready b x

module _
    {Call Answer Desk Base Cell : Type 0}
    (role : Call → Role) (accepted : Answer → Bool) (step : Call → Desk → Answer × Desk)
    (base : Desk → Base) (cell : Desk → ℕ → Cell) (idle : Cell) (fresh : Desk)
    (Sound : Desk → Type 0) (Fit : Base → Type 0) (Tidy : Cell → Type 0) (Later : Base → Base → Type 0) (Ready : Base → Cell → Type 0)
    (ask : Call → Base → Answer × Base) (work : Call → Base → Cell → Answer × Base × Cell) where
  module _ (O : Local role step base cell idle fresh Sound Fit Tidy ask work) (R : Rules role accepted idle Fit Tidy Later Ready ask work) where
    abbrev Accepts : Kind → ℕ → Call → Desk → Type 0
    Accepts = Takes role accepted step Sound

    passes : {k : Kind} {s : ℕ} {c : Call} {d : Desk} → Accepts k s c d → Passes role accepted Fit Tidy work k s c (base d) (cell d s)
    passes {k} {s} {c} {d} a = record {
      is = a.is;
      fits = O.fit d a.sound;
      neat = O.tidy d a.sound s;
      ok = ap accepted (sym (O.slot_answer k s c d a.is a.sound)) ∙ a.ok;
    }

    refused : (k : Kind) (s : ℕ) (c : Call) (d : Desk) → role c ≡ on k s → Sound d → accepted (step c d).0 ≡ false
        → (base (step c d).1 ≡ base d) × ((t : ℕ) → cell (step c d).1 t ≡ cell d t)
    refused k s c d r so f =
        let (p, q) = R.refused k s c (base d) (cell d s) r (ap accepted (sym (O.slot_answer k s c d r so)) ∙ f) in
        (O.slot_base k s c d r so ∙ p, λ t. at t (ℕ_discrete t s) (O.slot_cell k s c d r so ∙ q))
      where
        at : (t : ℕ) → Dec (t ≡ s) → cell (step c d).1 s ≡ cell d s → cell (step c d).1 t ≡ cell d t
        at t (yes e) h = rw e h
        at t (no n) h = O.slot_others k s c d r so t n

    slot_later : (k : Kind) (s : ℕ) (c : Call) (d : Desk) (b : Bool) → role c ≡ on k s → Sound d → accepted (step c d).0 ≡ b → Later (base d) (base (step c d).1)
    slot_later k s c d false r so f = rw (refused k s c d r so f).0 (R.later_refl (base d))
    slot_later opens s c d true r so f = rw (O.slot_base opens s c d r so, R.silent opens s c (base d) (cell d s) tt (passes (record { is = r; sound = so; ok = f }))) (R.later_refl (base d))
    slot_later stages s c d true r so f = rw (O.slot_base stages s c d r so, R.silent stages s c (base d) (cell d s) tt (passes (record { is = r; sound = so; ok = f }))) (R.later_refl (base d))
    slot_later abandons s c d true r so f = rw (O.slot_base abandons s c d r so, R.silent abandons s c (base d) (cell d s) tt (passes (record { is = r; sound = so; ok = f }))) (R.later_refl (base d))
    slot_later commits s c d true r so f = rw (O.slot_base commits s c d r so) (R.commit_later s c (base d) (cell d s) (passes (record { is = r; sound = so; ok = f })))

    goes_on : (r : Role) (c : Call) (d : Desk) → role c ≡ r → Sound d → Later (base d) (base (step c d).1)
    goes_on plain c d r so = rw (O.plain_base c d r so) (R.plain_later c (base d) r (O.fit d so))
    goes_on (on k s) c d r so = slot_later k s c d (accepted (step c d).0) r so refl

    pub laws : Laws role accepted step base cell idle fresh Sound Later Ready
    laws = record {
      fresh_sound = O.fresh_sound;
      fresh_idle = O.fresh_idle;
      stays_sound = O.stays_sound;
      later_refl = R.later_refl;
      later_trans = R.later_trans;
      goes_on = λ c d so. goes_on (role c) c d refl so;
      plain_cells = O.plain_cells;
      plain_same = λ c d d' r so so' e. (
        O.plain_answer c d' r so' ∙ (ap (λ b. (ask c b).0) e ∙ sym (O.plain_answer c d r so)),
        O.plain_base c d' r so' ∙ (ap (λ b. (ask c b).1) e ∙ sym (O.plain_base c d r so)),
      );
      refused = refused;
      others = λ {k} {s} {c} {d} a t n. O.slot_others k s c d a.is a.sound t n;
      silent = λ {k} {s} {c} {d} i a. O.slot_base k s c d a.is a.sound ∙ R.silent k s c (base d) (cell d s) i (passes a);
      ends = λ {k} {s} {c} {d} i a. O.slot_cell k s c d a.is a.sound ∙ R.ends k s c (base d) (cell d s) i (passes a);
      opens_idle = λ {s} {c} {d} a. R.opens_idle s c (base d) (cell d s) (passes a);
      ready_before = λ {k} {s} {c} {d} i a b re. R.ready_before k s c (base d) (cell d s) i (passes a) b (rw (O.slot_cell k s c d a.is a.sound) at re);
      again = λ {k} {s} {c} {d} i a d' so la e re.
          let q = R.again k s c (base d) (cell d s) i (passes a) (base d') (O.fit d' so) la (rw (O.slot_cell k s c d a.is a.sound) at re) in (
            O.slot_answer k s c d' a.is so ∙ (ap (λ x. (work c (base d') x).0) e ∙ (q.0 ∙ sym (O.slot_answer k s c d a.is a.sound))),
            O.slot_cell k s c d' a.is so ∙ (ap (λ x. (work c (base d') x).2) e ∙ (q.1 ∙ sym (O.slot_cell k s c d a.is a.sound))),
          );
      commits_ready = λ {s} {c} {d} a. R.commits_ready s c (base d) (cell d s) (passes a);
      commits_same = λ {s} {c} {d} a d' so e x. (
        O.slot_answer commits s c d' a.is so ∙ (rw (e, x) refl ∙ sym (O.slot_answer commits s c d a.is a.sound)),
        O.slot_base commits s c d' a.is so ∙ (rw (e, x) refl ∙ sym (O.slot_base commits s c d a.is a.sound)),
      );
    }
