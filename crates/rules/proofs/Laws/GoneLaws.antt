-- Numbers are "never given twice": each that is given is above all before it, and one that was given and is in no row is in no row after any
-- calls. So the tokens that a delete drops are gone for good. Assumes nothing.
use Rattle.std.specs.Prelude.{◌≡◌, true, Bool, List, [], ◌∷◌, ℕ, ◌+◌, ◌≤◌, ◌<◌, leb, get_or, set}
use Rattle.std.proofs.Math.Path.{refl, sym}
use Rattle.std.proofs.Common.{◌∙◌, ap, subst, arith, length-set, get_or-set_same, lt-ltb, eq-eqb}
use Rattle.lists.specs.Lists.{Hit, miss, hit, find, any_of}
use Rattle.lists.specs.SearchLaws.{miss_none, none_miss, found_below}
use Rattle.std.proofs.Math.Option.{none, some}
use Rattle.lists.specs.TestLaws.{at_any}
use Rattle.lists.specs.BoolLaws.{and_both}
use Rattle.rules.specs.declared.VolumeNo.{VolumeNo}
use Rattle.rules.specs.declared.TokenNo.{TokenNo}
use Rattle.rules.specs.declared.RelayNo.{RelayNo}
use Rattle.rules.specs.declared.Account.{Account}
use Rattle.rules.specs.declared.Volume.{Volume}
use Rattle.rules.specs.declared.Token.{Token}
use Rattle.rules.specs.declared.Relay.{Relay}
use Rattle.rules.specs.declared.Answer.{Answer}
use Rattle.rules.specs.declared.Tables.{Tables}
use Rattle.rules.specs.declared.Desk.{Desk}
use Rattle.rules.specs.declared.Outcome.{Outcome}
use Rattle.rules.specs.Limits.{slot_rows}
use Rattle.rules.specs.Numbers.{BAD}
use Rattle.rules.specs.Fresh.{fresh_volume, fresh_token, fresh_relay, fresh_session}
use Rattle.rules.specs.Tables.{is_volume, is_token, is_relay, volume_of, token_of, relay_of, numbered, free_volume, free_token, free_relay}
use Rattle.rules.specs.Outcome.{is_accepted, desk_refused}
use Rattle.rules.specs.Sound.{sound}
use Rattle.rules.specs.Calls.{Ask, delete, Call, ask, on_slot, rule, step, run}
use Rattle.rules.specs.VolumeCalls.{created}
use Rattle.rules.specs.TokenCalls.{granted}
use Rattle.rules.specs.RelayCalls.{registered}
use Rattle.rules.specs.Numbering.{NumberKind, volumes, tokens, relays, given_by, last_of, NextNumber}
use Rattle.rules.proofs.Laws.BranchLaws.{cond_case}
use Rattle.rules.proofs.Laws.SoundParts.{Parts, tables_sound}
use Rattle.rules.proofs.Laws.AskCases.{Effect, advances, creates, deposits, deletes, undeletes, grants, attenuates, revokes, removes, looks, registers, beats, step_effect}
use Rattle.rules.proofs.Laws.DropLaws.{delete_drops}
use Rattle.rules.proofs.Laws.AgainLaws.{token_given, token_same}
use Rattle.rules.proofs.Laws.Later.{Later}
use Rattle.rules.proofs.Laws.LaterLaws.{later_refl, later_trans, ask_later}
use Rattle.rules.proofs.Laws.SlotLaws.{work_does}
use Rattle.rules.proofs.Laws.OnceRows.{none_back}
use Rattle.rules.proofs.Laws.OnceLaws.{NumbersOnce, numbers_refl, numbers_on, ask_once, work_once}

-- what is said of the three kinds after some calls
pub record Onward (t u : Tables) : Type 0 where
  pub tokens : Later t u
  pub others : NumbersOnce t u

onward_refl : (t : Tables) → Onward t t
onward_refl t = record { tokens = later_refl t; others = numbers_refl t }

onward_on : (t u w : Tables) → Onward t u → Onward u w → Onward t w
onward_on t u w p q = record {
  tokens = later_trans t u w p.tokens q.tokens;
  others = numbers_on t u w p.others q.others;
}

rule_onward : (c : Call) (d : Desk) → Onward d.tables (rule c d).desk.tables
unfolding rule
rule_onward (ask a) d = record { tokens = ask_later a d.tables; others = ask_once a d.tables }
rule_onward (on_slot slot w) d =
    let s = get_or d.sessions slot fresh_session in
    cond_case (λ (o : Outcome). Onward d.tables o.desk.tables) (leb slot_rows slot) (desk_refused d BAD) _ (λ b. onward_refl d.tables)
    (λ b. record { tokens = (work_does w d.tables s).later; others = work_once w d.tables s })

pub call_onward : (c : Call) (d : Desk) → Onward d.tables (step c d).desk.tables
unfolding step
call_onward c d =
    cond_case (λ (o : Outcome). Onward d.tables o.desk.tables) (sound d) (rule c d) (desk_refused d BAD) (λ b. rule_onward c d) (λ b. onward_refl d.tables)

calls_onward : (cs : List Call) (d : Desk) → Onward d.tables (run cs d).tables
unfolding run
calls_onward [] d = onward_refl d.tables
calls_onward (c ∷ cs) d =
    let next = (step c d).desk in
    onward_on d.tables next.tables (run cs next).tables (call_onward c d) (calls_onward cs next)

module _ (cs : List Call) (d : Desk) where
  abbrev before : Tables
  before = d.tables

  abbrev after : Tables
  after = (run cs d).tables

  pub volume_gone : (n : VolumeNo) → n.0 ≤ before.last_volume → volume_of n before ≡ miss → volume_of n after ≡ miss
  unfolding volume_of
  volume_gone n h e =
      none_miss (is_volume n) after.volumes 0
      (none_back (λ (v : Volume). v.no.0) fresh_volume n.0 before.last_volume before.volumes after.volumes refl h
      (calls_onward cs d).others.volumes.once (miss_none (is_volume n) before.volumes 0 e))

  pub token_gone_lem : (n : TokenNo) → n.0 ≤ before.last_token → token_of n before ≡ miss → token_of n after ≡ miss
  unfolding token_of
  token_gone_lem n h e =
      none_miss (is_token n) after.tokens 0
      (none_back (λ (k : Token). k.no.0) fresh_token n.0 before.last_token before.tokens after.tokens refl h
      (λ j u g. sym (ap (λ (m : TokenNo). m.0) ((calls_onward cs d).tokens.kept j u g).no))
      (miss_none (is_token n) before.tokens 0 e))

  pub relay_gone : (n : RelayNo) → n.0 ≤ before.last_relay → relay_of n before ≡ miss → relay_of n after ≡ miss
  unfolding relay_of
  relay_gone n h e =
      none_miss (is_relay n) after.relays 0
      (none_back (λ (r : Relay). r.no.0) fresh_relay n.0 before.last_relay before.relays after.relays refl h
      (calls_onward cs d).others.relays.once (miss_none (is_relay n) before.relays 0 e))

-- A row that takes a new number is found by it.
new_found : {A : Type 0} (f : A → ℕ) (l : List A) (p : A → Bool) (i : ℕ) (old x : A) → find p l ≡ hit i old → 1 ≤ f x
    → any_of (λ y. numbered (f x) (f y)) (set l i x) ≡ true
new_found f l p i old x q e =
    let below = found_below p l i old q in
    at_any (λ y. numbered (f x) (f y)) (set l i x) i x (rw (length-set l i x) below)
    (rw (get_or-set_same l i x x below) (and_both (lt-ltb 0 (f x) e) (eq-eqb (f x) (f x) refl)))

-- An accepted call that gives a number gives the next one, and it is in the table.
created_next : (t : Tables) (i : ℕ) (old v : Volume) → find free_volume t.volumes ≡ hit i old → v.no.0 ≡ t.last_volume + 1
    → NextNumber volumes t v.no.0 (created t i v)
created_next t i old v e q = record {
  next = q;
  last = refl;
  there = new_found (λ (x : Volume). x.no.0) t.volumes free_volume i old v e (omega arith);
}

granted_next : (t : Tables) (i : ℕ) (old k : Token) → find free_token t.tokens ≡ hit i old → k.no.0 ≡ t.last_token + 1
    → NextNumber tokens t k.no.0 (granted t i k)
granted_next t i old k e q = record {
  next = q;
  last = refl;
  there = new_found (λ (x : Token). x.no.0) t.tokens free_token i old k e (omega arith);
}

registered_next : (t : Tables) (i : ℕ) (old r : Relay) → find free_relay t.relays ≡ hit i old → r.no.0 ≡ t.last_relay + 1
    → NextNumber relays t r.no.0 (registered t i r)
registered_next t i old r e q = record {
  next = q;
  last = refl;
  there = new_found (λ (x : Relay). x.no.0) t.relays free_relay i old r e (omega arith);
}

-- the kind that a call gives is one
for_kind : (j k : NumberKind) (t : Tables) (n : ℕ) (u : Tables) → some j ≡ some k → NextNumber j t n u → NextNumber k t n u
for_kind j k t n u e = subst (λ (y : NumberKind). NextNumber y t n u) cc

no_kind : {k : NumberKind} → none ≡ some k → ⊥
no_kind e = let z : ◌≡◌ {A = ℕ} 0 1 = cc in omega arith

next_given : (t : Tables) {a : Ask} {x : Answer} {u : Tables} → Effect t a x u → (k : NumberKind) → given_by a ≡ some k → NextNumber k t x.value u
next_given t (advances block b) k e = absurd (no_kind e)
next_given t (creates a name k m cap i old p q r e) j f = for_kind volumes j t _ _ f (created_next t i old _ e refl)
next_given t (deposits n coins i v e p q) k f = absurd (no_kind f)
next_given t (deletes a n i v e p q) k f = absurd (no_kind f)
next_given t (undeletes a n i v e p q) k f = absurd (no_kind f)
next_given t (grants a n s i v l old p e q r z f) j g = for_kind tokens j t _ _ g (granted_next t l old _ f refl)
next_given t (attenuates n s i k l old p e q r z f) j g = for_kind tokens j t _ _ g (granted_next t l old _ f refl)
next_given t (revokes a n i k j v e f p) l g = absurd (no_kind g)
next_given t (removes a n path i v j e p f q r g z) k h = absurd (no_kind h)
next_given t (looks n path i k j e p f q r z g) l h = absurd (no_kind h)
next_given t (registers capacity i old p q e) j f = for_kind relays j t _ _ f (registered_next t i old _ e refl)
next_given t (beats n i r e p) k f = absurd (no_kind f)

pub number_next : (k : NumberKind) (a : Ask) → given_by a ≡ some k → (d : Desk) → is_accepted (step (ask a) d).answer ≡ true
    → NextNumber k d.tables (step (ask a) d).answer.value (step (ask a) d).desk.tables
number_next k a g d y = next_given d.tables (step_effect a d y).1 k g

-- last numbers never fall
last_grown : (k : NumberKind) (cs : List Call) (d : Desk) → last_of k d.tables ≤ last_of k (run cs d).tables
last_grown volumes cs d = (calls_onward cs d).others.volumes.grown
last_grown tokens cs d = (calls_onward cs d).tokens.last
last_grown relays cs d = (calls_onward cs d).others.relays.grown

pub number_once : (k : NumberKind) (a b : Ask) → given_by a ≡ some k → given_by b ≡ some k → (d : Desk) (cs : List Call) → is_accepted (step (ask a) d).answer ≡ true
    → is_accepted (step (ask b) (run cs (step (ask a) d).desk)).answer ≡ true
    → (step (ask a) d).answer.value < (step (ask b) (run cs (step (ask a) d).desk)).answer.value
number_once k a b g h d cs y z =
    let e = (step (ask a) d).desk in
    omega (arith, (number_next k a g d y).last, last_grown k cs e, (number_next k b h (run cs e) z).next)

-- A delete: none of the volume's tokens is found again.
module _ (a : Account) (n : VolumeNo) (d : Desk) (y : is_accepted (step (ask (delete a n)) d).answer ≡ true) (m : TokenNo) (j : ℕ) (k : Token)
    (found : token_of m d.tables ≡ hit j k) (own : k.volume ≡ n) where
  abbrev left : Desk
  left = (step (ask (delete a n)) d).desk

  parts : Parts d.tables
  parts = tables_sound d (step_effect (delete a n) d y).0

  gone : (h : Hit Token) → token_of m left.tables ≡ h → h ≡ miss
  gone miss e = refl
  gone (hit i x) e =
      let same = token_same m d.tables left.tables j i k x parts (call_onward (ask (delete a n)) d).tokens found e in
      absurd (delete_drops d.tables (step_effect (delete a n) d y).1 m i x e (sym same.volume ∙ own))

  pub deleted_gone : (cs : List Call) → token_of m (run cs left).tables ≡ miss
  deleted_gone cs =
      token_gone_lem cs left m (omega (arith, token_given m d.tables j k parts found, (call_onward (ask (delete a n)) d).tokens.last))
      (gone (token_of m left.tables) refl)
