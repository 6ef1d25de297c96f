-- The loop of a replay: its invariant, and the laws of its start, its end and its step. What is still to be printed, over the buffer from where the
-- replay has come, gives the whole; the calls that are left lead from the tables and the slots to the desk after all of them. This desk is one that
-- calls reach, so that each call is answered by its rule. Assumes nothing.
use Rattle.std.specs.Prelude.{Ok}
use mathlib.Core.Path.{◌≡◌, refl, sym, ◌∙◌, ap}
use mathlib.Core.Bool.{true}
use mathlib.Core.List.{List, [], ◌++◌}
use Prim.Native.Nat.{ℕ, ◌+◌, ◌-◌, ◌<◌, ◌≤◌}
use native.Mathlib.Omega.{arith}
use mir.Syntax.{w64}
use mir.Val.{Fits}
use lib.Pow.{are_bytes}
use lib.ListN.{length, take, drop, replicate, length-append}
use Rattle.rules.specs.declared.Answer.{Answer}
use Rattle.rules.specs.declared.Session.{Session}
use Rattle.rules.specs.declared.Tables.{Tables}
use Rattle.rules.specs.declared.Desk.{Desk}
use Rattle.rules.specs.declared.Outcome.{Outcome}
use Rattle.rules.specs.Fresh.{fresh_tables, fresh_desk}
use Rattle.kept.specs.declared.KeptSession.{KeptSession}
use Rattle.kept.specs.Kept.{slots_in, fresh_kept_session}
use Rattle.rules.specs.declared.Relay.{Relay}
use Rattle.rules.specs.declared.Token.{Token}
use Rattle.rules.specs.declared.Entry.{Entry}
use Rattle.rules.specs.Tables.{with_relays, with_entries, with_tokens}
use Rattle.kept_tokens.specs.KeptTokens.{tokens_in}
use Rattle.kept_entries.specs.KeptEntries.{entries_in}
use Rattle.replay_calls.specs.declared.Held.{Held}
use Rattle.replay_calls.specs.Held.{held_tables, fresh_held}
use Rattle.rules.specs.Calls.{Call, rule, step, run}
use Rattle.rules.proofs.Laws.StaysSound.{DeskInvariant}
use Rattle.rules.proofs.Laws.Reached.{call_keeps}
use Rattle.rules.proofs.Laws.FreshSound.{fresh_holds}
use Rattle.journal.specs.declared.Record.{Record}
use Rattle.journal.specs.declared.Version.{Version}
use Rattle.journal.specs.Records.{v01}
use Rattle.journal.specs.Places.{call_at}
use Rattle.journal.specs.declared.errors.JournalError.{JournalError}
use Rattle.journal.specs.Journal.{error_number, Ending, end, stop, Contents, stopped, ended, after, records}
use Rattle.lists.specs.Bytes.{over}
use Rattle.journal_calls.specs.declared.Group.{Group}
use Rattle.journal_calls.specs.declared.Group.TheVariants as group
use Rattle.journal_calls.specs.declared.Item.{Item}
use Rattle.transcripts.specs.declared.Replayed.{Replayed}
use Rattle.printed.specs.Transcript.{record_line, last_line, program_rate}
use Rattle.printed.specs.TranscriptLaws.{printed_from, from_call, from_last}
use Rattle.printed.specs.RoomLaws.{answered}
use Rattle.transcripts.specs.Written.{Wrote}
use Rattle.journal_calls.specs.Groups.{is_record, StandsAt, BodyAt}
use Rattle.journal_calls.specs.ItemLaws.{RecordAt, Within, item_within, item_end, item_stop, item_record}
use Rattle.transcripts.specs.Parts.{desk_of}
use Rattle.lists.specs.OverLaws.{length_over, over_over}
use Rattle.transcripts.specs.Replay.{Replays}

-- what is printed for the records l, and for those from p on, where n records left the tables t and the slots
abbrev pub whole_of : Version → List ℕ → List ℕ
whole_of v l = printed_from 0 (fresh_desk program_rate) (records v l)

abbrev pub left_of : Version → List ℕ → Tables → List Session → ℕ → ℕ → List ℕ
left_of v l t slots n p = printed_from n (desk_of t slots) (records v (drop p l))

pub record ReplayLoop (v : Version) (l out₀ : List ℕ) (start : ℕ) (t : Tables) (slots : List Session) (n p at : ℕ) (out : List ℕ) : Type 0 where
  pub bytes : are_bytes l ≡ true
  pub short : length l < 65536
  pub place : p ≤ length l
  pub count : n ≤ p
  pub held : DeskInvariant (desk_of t slots)
  pub size : length out ≡ length out₀
  pub room : start + length (whole_of v l) ≤ length out₀
  pub ends : at + length (left_of v l t slots n p) ≡ start + length (whole_of v l)
  pub left : over at (left_of v l t slots n p) out ≡ over start (whole_of v l) out₀
  pub desk : run (records v (drop p l)).calls (desk_of t slots) ≡ run (records v l).calls (fresh_desk program_rate)

-- a record of the group g, with the fields r and the bytes b, is answered with a; and it leaves the tables t' and the slots'
pub record Answered (g : Group) (r : Record) (b : List ℕ) (t : Tables) (slots : List Session) (a : Answer) : Type 0 where
  pub stands : is_record g ≡ true
  pub same : a ≡ (rule (call_at v01 r b) (desk_of t slots)).answer

pub record Carried (g : Group) (r : Record) (b : List ℕ) (t : Tables) (slots : List Session) (a : Answer) (t' : Tables) (slots' : List Session) : Type 0 where
  pub stands : is_record g ≡ true
  pub same : record { answer = a; desk = desk_of t' slots' } ≡ rule (call_at v01 r b) (desk_of t slots)

module _ (v : Version) (l out₀ : List ℕ) (start : ℕ) where
  pub replay_start : (t : Tables) (h : Held) (s : KeptSession) → t ≡ fresh_tables program_rate → h ≡ fresh_held → s ≡ fresh_kept_session → are_bytes l ≡ true
      → length l < 65536 → start + length (whole_of v l) ≤ length out₀
      → ReplayLoop v l out₀ start (held_tables l t h t.relays) (slots_in l (replicate 4 s)) 0 0 start out₀
  replay_start t h s et eh es b k m =
      rw (et, eh, es)
      (record {
        bytes = b;
        short = k;
        place = omega arith;
        count = omega arith;
        held = fresh_holds program_rate;
        size = refl;
        room = m;
        ends = refl;
        left = refl;
        desk = refl;
      })

  module _ (t : Tables) (slots : List Session) (n p at : ℕ) (out : List ℕ) (h : ReplayLoop v l out₀ start t slots n p at out) where
    pub count_fits : Fits w64 (n + 1)
    count_fits = record { fits = omega (arith, h.count, h.place, h.short) }

    counted : n + 1 - 1 ≡ n
    counted = omega arith

    -- the last line, where no record is left
    module _ (e : Ending) (f : records v (drop p l) ≡ record { calls = []; ending = e }) where
      at_last : left_of v l t slots n p ≡ last_line n e
      at_last = ap (printed_from n (desk_of t slots)) f ∙ from_last n (desk_of t slots) e

      last_room : at + length (last_line n e) ≤ length out
      last_room = rw (← at_last) (omega (arith, h.ends, h.room, h.size))

      last_replays : (len : ℕ) (out' : List ℕ) (r : Replayed) → Wrote at (last_line n e) out len out' → r ≡ record { written = Ok len; desk = desk_of t slots }
          → Replays start (records v l) out₀ r out'
      unfolding run
      last_replays len out' r w er =
          rw er
          (record {
            len = len;
            written = refl;
            wrote = record { place = w.place ∙ rw (← at_last) h.ends; buffer = w.buffer ∙ rw (← at_last) h.left };
            desk = rw f at h.desk;
          })

    -- x stands at p
    module _ (x : Item) (e : StandsAt v l p x) where
      in_journal : Within l p x.after
      in_journal = item_within v l h.bytes p x e.same h.place

      pub item_least : p ≤ x.after
      item_least = in_journal.least

      pub item_most : x.after ≤ length l
      item_most = in_journal.most

      -- and is the end: n was counted once more
      module _ (w : x.group ≡ group.End) where
        at_end : records v (drop p l) ≡ ended
        at_end = item_end v l h.bytes p x e.same w

        pub end_room : at + length (last_line (n + 1 - 1) end) ≤ length out
        end_room = rw counted (last_room end at_end)

        pub end_replays : (len : ℕ) (out' : List ℕ) (r : Replayed) → Wrote at (last_line (n + 1 - 1) end) out len out'
            → r ≡ record { written = Ok len; desk = desk_of t slots } → Replays start (records v l) out₀ r out'
        end_replays len out' r f = last_replays end at_end len out' r (rw counted at f)

      -- and is a fault
      module _ (fault : JournalError) (w : x.group ≡ group.Stop fault) (number : ℕ) (q : number ≡ error_number fault) where
        at_stop : records v (drop p l) ≡ stopped number
        at_stop = rw q (item_stop v l h.bytes p x e.same fault w)

        pub stop_room : at + length (last_line (n + 1 - 1) (stop number)) ≤ length out
        stop_room = rw counted (last_room (stop number) at_stop)

        pub stop_replays : (len : ℕ) (out' : List ℕ) (r : Replayed) → Wrote at (last_line (n + 1 - 1) (stop number)) out len out'
            → r ≡ record { written = Ok len; desk = desk_of t slots } → Replays start (records v l) out₀ r out'
        stop_replays len out' r f = last_replays (stop number) at_stop len out' r (rw counted at f)

      -- and is a record
      record_at : is_record x.group ≡ true → RecordAt v l p x
      record_at w = item_record v l h.bytes p x e.same h.place w

      pub fewer_left : is_record x.group ≡ true → length l - x.after < length l - p
      fewer_left w = omega (arith, (record_at w).least, item_most)

      -- its bytes are b
      module _ (b : List ℕ) (eb : BodyAt l p x.after b) where
        abbrev call : Call
        call = call_at v01 x.fields b

        abbrev rest : Contents
        rest = records v (drop x.after l)

        abbrev here : Desk
        here = desk_of t slots

        stands : is_record x.group ≡ true → records v (drop p l) ≡ after call rest
        stands w = rw eb.same (record_at w).left

        by_rule : step call here ≡ rule call here
        by_rule = answered call here h.held

        printed : is_record x.group ≡ true → left_of v l t slots n p ≡ record_line (n + 1) (step call here).answer ++ printed_from (n + 1) (step call here).desk rest
        printed w = ap (printed_from n here) (stands w) ∙ from_call n here call rest

        -- answered: its line comes first in what is left
        module _ (a : Answer) (c : Answered x.group x.fields b t slots a) where
          pub line_room : at + length (record_line (n + 1) a) ≤ length out
          line_room =
              let said : (step call here).answer ≡ a = rw (by_rule, c.same) in
              let left_is = rw said at (printed c.stands) in
              omega (arith, ap length left_is, length-append (record_line (n + 1) a) (printed_from (n + 1) (step call here).desk rest), h.ends, h.room, h.size)

        -- carried out: the rest of what is left is printed from the desk after it
        module _ (a : Answer) (t' : Tables) (slots' : List Session) (c : Carried x.group x.fields b t slots a t' slots') where
          stepped : step call here ≡ record { answer = a; desk = desk_of t' slots' }
          stepped = by_rule ∙ sym c.same

          abbrev line : List ℕ
          line = record_line (n + 1) a

          abbrev later : List ℕ
          later = left_of v l t' slots' (n + 1) x.after

          left_is : left_of v l t slots n p ≡ line ++ later
          left_is = rw stepped at (printed c.stands)

          desk_is : run rest.calls (desk_of t' slots') ≡ run (records v l).calls (fresh_desk program_rate)
          unfolding run
          desk_is =
              ap (λ (o : Outcome). run rest.calls o.desk) (sym stepped)
              ∙ sym (ap (λ (k : Contents). run k.calls here) (stands c.stands))
              ∙ h.desk

          both : length (left_of v l t slots n p) ≡ length line + length later
          both = ap length left_is ∙ length-append line later

          within : at + length line ≤ length out
          within = omega (arith, both, h.ends, h.room, h.size)

          pub replay_step : (at' : ℕ) (out' : List ℕ) → Wrote at line out at' out' → ReplayLoop v l out₀ start t' slots' (n + 1) x.after at' out'
          replay_step at' out' f =
              record {
                bytes = h.bytes;
                short = h.short;
                place = item_most;
                count = omega (arith, (record_at c.stands).least, h.count);
                held = rw stepped at (call_keeps call here h.held);
                size = rw f.buffer (length_over at line out within ∙ h.size);
                room = h.room;
                ends = omega (arith, both, f.place, h.ends);
                left =
                    rw (f.place, f.buffer)
                    (over_over at line later out within ∙ ap (λ (m : List ℕ). over at m out) (sym left_is) ∙ h.left);
                desk = desk_is;
              }

      -- the same of a call that reads none of its bytes
      abbrev bytes_of : List ℕ
      bytes_of = take (x.after - (p + 2)) (drop (p + 2) l)

      pub plain_room : (a : Answer) → Answered x.group x.fields bytes_of t slots a → at + length (record_line (n + 1) a) ≤ length out
      plain_room a c = line_room bytes_of (record { same = refl }) a c

      pub plain_step : (a : Answer) (t' : Tables) (slots' : List Session) → Carried x.group x.fields bytes_of t slots a t' slots' → (at' : ℕ) (out' : List ℕ)
          → Wrote at (record_line (n + 1) a) out at' out' → ReplayLoop v l out₀ start t' slots' (n + 1) x.after at' out'
      plain_step a t' slots' c at' out' f = replay_step bytes_of (record { same = refl }) a t' slots' c at' out' f

-- ---- the desk that is held

pub tables_made : (l : List ℕ) (t : Tables) (h : Held) (relays : List Relay) (tokens : List Token) (entries : List Entry) → tokens ≡ tokens_in l h.tokens
    → entries ≡ entries_in l h.entries → with_relays (with_entries (with_tokens t tokens) entries) relays ≡ held_tables l t h relays
tables_made l t h relays tokens entries e f = rw (e, f)

pub desk_made : (len : ℕ) (t t₀ : Tables) (slots slots₀ : List Session) → t ≡ t₀ → slots ≡ slots₀
    → ◌≡◌ {A = Replayed} (record { written = Ok len; desk = desk_of t slots }) (record { written = Ok len; desk = desk_of t₀ slots₀ })
desk_made len t t₀ slots slots₀ e f = rw (e, f)

pub ruleset ends = (end_room, end_replays)

pub ruleset stops = (stop_room, stop_replays)

pub ruleset places = (item_least, item_most)
