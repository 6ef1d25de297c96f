-- Every call on a sound desk leaves a sound one, and so does every list of calls. Beside the test of the desk the theorem carries that each
-- table has its rows, that each slot has its places, and that each token is of its parent's volume (OneVolumeNeeded shows a desk that passes
-- the test, lacks the last, and fails the test after a delete). What advance, remove and commit keep is taken as given here: Reached supplies
-- it.
use Rattle.std.specs.Prelude.{◌≡◌, Bool, true, ◌&&◌, List, [], ◌∷◌, ℕ, ◌<◌, eqb, leb, length, get_or}
use Rattle.std.proofs.Common.{◌∙◌, arith, leb-false, eqb-true, eq-eqb, length-set}
use Rattle.std.proofs.lemmas.Bool.{not-false}
use Rattle.lists.specs.Lists.{all_of}
use Rattle.lists.specs.TestLaws.{all_at, all_weaker}
use Rattle.text.specs.Text.{is_name, is_path}
use Rattle.rules.specs.declared.Answer.{Answer}
use Rattle.rules.specs.declared.Session.{Session}
use Rattle.rules.specs.declared.Tables.{Tables}
use Rattle.rules.specs.declared.Desk.{Desk}
use Rattle.rules.specs.declared.Outcome.{Outcome}
use Rattle.rules.specs.declared.SlotOutcome.{SlotOutcome}
use Rattle.rules.specs.Limits.{slot_rows, put_rows, size_limit, last_number}
use Rattle.rules.specs.Numbers.{BAD}
use Rattle.rules.specs.Tables.{busy, volume_of}
use Rattle.rules.specs.Scope.{cap_fits}
use Rattle.rules.specs.Fresh.{fresh_session}
use Rattle.rules.specs.Outcome.{desk_refused}
use Rattle.rules.specs.Sound.{shards_fit, sound_session, sound}
use Rattle.rules.proofs.Laws.SoundParts.{tables_sound, slots_sound, desk_sound}
use Rattle.rules.specs.Calls.{Ask, ask_rule, Work, work_rule, Call, ask, on_slot, with_slot, rule, step, run}
use Rattle.rules.proofs.Laws.AskCases.{Effect, advances, creates, deposits, deletes, undeletes, grants, attenuates, revokes, removes, looks, registers, beats, ask_tables}
use Rattle.rules.proofs.Laws.CommitCases.{tables_of}
use Rattle.rules.proofs.Laws.WorkCases.{WorkEffect, opening, restaging, staging, committing, abandoning, WorkDoes, refuses, takes, work_cases}
use Rattle.rules.proofs.Laws.Shape.{Shape}
use Rattle.rules.proofs.Laws.Family.{FamilyInOneVolume}
use Rattle.rules.proofs.Laws.SetLaws.{all_set}
use Rattle.rules.proofs.Laws.BranchLaws.{cond_case}
use Rattle.rules.proofs.Laws.RowsKept.{session_grown}
use Rattle.rules.proofs.Laws.Invariant.{Invariant, Follows, follows_self, whole_of, follows, SlotSound, SlotFollows, fresh_slot}
use Rattle.rules.proofs.Laws.CreateSound.{create_keeps}
use Rattle.rules.proofs.Laws.VolumeSound.{deposit_keeps, delete_keeps, undelete_keeps}
use Rattle.rules.proofs.Laws.TokenSound.{grant_keeps, attenuate_keeps, revoke_keeps}
use Rattle.rules.proofs.Laws.RelaySound.{register_keeps, beat_keeps}
use Rattle.rules.proofs.Laws.RemoveSound.{removed_follows}
use Rattle.rules.proofs.Laws.AdvanceSound.{advance_follows}
use Rattle.rules.proofs.Laws.CommitSound.{commit_follows}
use Rattle.rules.proofs.Laws.SessionSound.{opened_sound, replaced, appended}

-- a slot has its places for puts
abbrev pub has_places : Session → Bool
has_places s = eqb (length s.puts) put_rows

-- what holds of every desk that is reached from a fresh one
pub record DeskInvariant (d : Desk) : Type 0 where
  pub passes : sound d ≡ true
  pub shape : Shape d.tables
  pub family : FamilyInOneVolume d.tables
  pub slots : length d.sessions ≡ slot_rows
  pub places : all_of has_places d.sessions ≡ true

tables_of_lem : (d : Desk) → DeskInvariant d → Invariant d.tables
tables_of_lem d i = record { parts = tables_sound d i.passes; shape = i.shape; family = i.family }

slot_of : (d : Desk) → DeskInvariant d → (j : ℕ) → j < slot_rows → SlotSound d.tables (get_or d.sessions j fresh_session)
slot_of d i j h = record {
  session = all_at (sound_session d.tables) d.sessions (slots_sound d i.passes) j (rw i.slots h) fresh_session;
  places =
      eqb-true (length (get_or d.sessions j fresh_session).puts) put_rows (all_at has_places d.sessions i.places j (rw i.slots h) fresh_session);
}

-- the desk after its tables follow, with its slots as they are
module _ (d : Desk) (i : DeskInvariant d) where
  slots_follow : (u : Tables) → Follows d.tables u → all_of (sound_session u) d.sessions ≡ true
  slots_follow u f =
      all_weaker (sound_session d.tables) (sound_session u) d.sessions (session_grown d.tables u f.grown) (slots_sound d i.passes)

  tables_follow : (u : Tables) → Follows d.tables u → DeskInvariant (record { tables = u; sessions = d.sessions })
  tables_follow u f = record {
    passes = desk_sound (record { tables = u; sessions = d.sessions }) f.invariant.parts (slots_follow u f);
    shape = f.invariant.shape;
    family = f.invariant.family;
    slots = i.slots;
    places = i.places;
  }

  -- and with one slot changed
  slot_changes : (j : ℕ) (o : SlotOutcome) → SlotFollows d.tables o → DeskInvariant (with_slot d j o).desk
  slot_changes j o f =
      let u = o.tables in
      let s = o.session in
      record {
        passes =
            desk_sound (with_slot d j o).desk f.tables.invariant.parts
            (all_set (sound_session u) d.sessions j s (slots_follow u f.tables) f.slot.session);
        shape = f.tables.invariant.shape;
        family = f.tables.invariant.family;
        slots = length-set d.sessions j s ∙ i.slots;
        places = all_set has_places d.sessions j s i.places (eq-eqb (length s.puts) put_rows f.slot.places);
      }

-- each call on the tables
effect_follows : (t : Tables) → Invariant t → {a : Ask} {x : Answer} {u : Tables} → Effect t a x u → Follows t u
unfolding volume_of
effect_follows t i (advances block b) = advance_follows block t i b
effect_follows t i (creates a name k m cap j old p q r e) =
    follows i (create_keeps t (whole_of i) a name k m cap (not-false (is_name name && shards_fit k m && cap_fits cap) p) q (leb-false last_number t.last_volume r) j old e)
effect_follows t i (deposits n coins j v e p q) = follows i (deposit_keeps t (whole_of i) n j v e coins q)
effect_follows t i (deletes a n j v e p q) = follows i (delete_keeps t (whole_of i) n j v e i.family)
effect_follows t i (undeletes a n j v e p q) = follows i (undelete_keeps t (whole_of i) n j v e)
effect_follows t i (grants a n s j v l old p e q r z f) = follows i (grant_keeps t (whole_of i) s p z l old f n j v e)
effect_follows t i (attenuates n s j k l old p e q r z f) = follows i (attenuate_keeps t (whole_of i) s p z l old f n j k e r)
effect_follows t i (revokes a n j k l v e f p) = follows i (revoke_keeps t (whole_of i) k)
effect_follows t i (removes a n path j v l e p f q r g z) = removed_follows n path t j v f i
effect_follows t i (looks n path j k l e p f q r z g) = follows_self i
effect_follows t i (registers capacity j old p q e) = follows i (register_keeps t (whole_of i) capacity j p q)
effect_follows t i (beats n j r e p) = follows i (beat_keeps t (whole_of i) n j r e)

ask_follows : (a : Ask) (t : Tables) → Invariant t → Follows t (ask_rule a t).tables
ask_follows a t i = ask_tables (Follows t) a t (follows_self i) (λ x u. effect_follows t i)

-- each call on a slot
slot_effect : (t : Tables) → Invariant t → (s : Session) → SlotSound t s → {w : Work} {x : Answer} {u : Tables} {r : Session} → WorkEffect t s w x u r
    → SlotFollows t (record { answer = x; tables = u; session = r })
slot_effect t i s h (opening n a k j v b e p q f r) = record {
  tables = follows_self i;
  slot = opened_sound t i.parts n a k e k.volume j v f;
}
slot_effect t i s h (restaging path size x a k j old p q e r f) = record {
  tables = follows_self i;
  slot = replaced t s h (not-false (busy s) q) path size x (not-false (is_path path && leb size size_limit) p) j old f;
}
slot_effect t i s h (staging path size x a k p q e r f z) = record {
  tables = follows_self i;
  slot =
      appended t s h (not-false (busy s) q) path size x (not-false (is_path path && leb size size_limit) p) f (leb-false put_rows s.count z);
}
slot_effect t i s h (committing a) = record { tables = commit_follows t i s h.session a; slot = fresh_slot (tables_of t s a) }
slot_effect t i s h (abandoning b) = record { tables = follows_self i; slot = fresh_slot t }

work_follows : (w : Work) (t : Tables) → Invariant t → (s : Session) → SlotSound t s → SlotFollows t (work_rule w t s)
work_follows w t i s h = go (work_cases t s w)
  where
    go : {o : SlotOutcome} → WorkDoes t s w o → SlotFollows t o
    go (refuses n e) = record { tables = follows_self i; slot = h }
    go (takes x u r y e) = slot_effect t i s h e

rule_stays : (c : Call) (d : Desk) → DeskInvariant d → DeskInvariant (rule c d).desk
unfolding rule
rule_stays (ask a) d i = tables_follow d i (ask_rule a d.tables).tables (ask_follows a d.tables (tables_of_lem d i))
rule_stays (on_slot j w) d i =
    cond_case (λ (o : Outcome). DeskInvariant o.desk) (leb slot_rows j) (desk_refused d BAD) _ (λ b. i)
    (λ b.
    let h = leb-false slot_rows j b in
    slot_changes d i j _ (work_follows w d.tables (tables_of_lem d i) _ (slot_of d i _ (omega arith))))

-- one call
pub stays : (c : Call) (d : Desk) → DeskInvariant d → DeskInvariant (step c d).desk
unfolding step
stays c d i = cond_case (λ (o : Outcome). DeskInvariant o.desk) (sound d) (rule c d) (desk_refused d BAD) (λ b. rule_stays c d i) (λ b. i)

-- a list of calls
pub stays_on : (cs : List Call) (d : Desk) → DeskInvariant d → DeskInvariant (run cs d)
unfolding run
stays_on [] d i = i
stays_on (c ∷ cs) d i = stays_on cs (step c d).desk (stays c d i)
