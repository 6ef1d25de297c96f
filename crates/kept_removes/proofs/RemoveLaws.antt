-- What a remove from kept entries answers, return by return. j is the bytes of the journal. Assumes nothing.
use Rattle.std.specs.Prelude.{Option, Some, None}
use mathlib.Core.Path.{◌≡◌, sym, ◌∙◌, ap}
use mathlib.Core.Bool.{Bool, true, false, not}
use mathlib.Core.List.{List, map}
use Prim.Native.Nat.{ℕ, ◌+◌, ◌<◌, ◌≤◌}
use borrow.Author.Rules.{rules}
use borrow.Author.Tests.{not-true, not-false, le-leb, lt-leb}
use lib.ListN.{get_or, set}
use Rattle.lists.specs.Lists.{first_at, find, hit, miss}
use Rattle.lists.specs.SearchLaws.{first_row_lem, first_miss}
use Rattle.text.specs.Text.{is_path}
use Rattle.rules.specs.declared.Account.{Account}
use Rattle.rules.specs.declared.Answer.{Answer}
use Rattle.rules.specs.declared.VolumeNo.{VolumeNo}
use Rattle.rules.specs.declared.Volume.{Volume}
use Rattle.rules.specs.declared.Entry.{Entry}
use Rattle.rules.specs.declared.Relay.{Relay}
use Rattle.rules.specs.declared.Tables.{Tables}
use Rattle.rules.specs.Limits.{last_version}
use Rattle.rules.specs.Numbers.{BAD, NO_VOLUME, NOT_OWNER, STATE, NO_ENTRY, SPENT}
use Rattle.rules.specs.Fresh.{fresh_entry}
use Rattle.rules.specs.Tables.{is_volume, is_entry, owned_by, volume_of, entry_of, with_volumes, with_entries, with_relays, with_version}
use Rattle.rules.specs.Relays.{lightened}
use Rattle.rules.specs.Outcome.{success, refused, accepted}
use Rattle.rules.specs.VolumeCalls.{is_open, drop_entries, remove_entry, remove_in, remove_rule}
use Rattle.rows.specs.Blank.{blank_volume, blank_entry}
use Rattle.entries.specs.Marks.{marked, cleared_by}
use Rattle.entries.specs.MarkLaws.{marked_keep, cleared_by_lem}
use Rattle.kept.specs.declared.KeptEntry.{KeptEntry}
use Rattle.kept_entries.specs.KeptEntries.{entries_in}
use Rattle.kept_removes.specs.declared.KeptRemove.{KeptRemove}
use Rattle.kept_removes.specs.Parts.{on_kept_remove, kept_refused, Leaves, out_rule, entry_rule, in_rule}

-- the marked entries go with their room, and the volume has its new version
outs : (t : Tables) (path : List ℕ) (i : ℕ) (v : Volume) (ms : List Bool) (left : List Entry) (rows : List Relay) (w : Volume) (version : ℕ)
    → ms ≡ map (is_entry v.no path) t.entries → left ≡ cleared_by ms fresh_entry t.entries
    → rows ≡ map (lightened t.volumes (marked ms t.entries)) t.relays → w ≡ with_version v version
    → with_volumes (with_relays (with_entries t left) rows) (set t.volumes i w)
    ≡ with_volumes (drop_entries (is_entry v.no path) t) (set t.volumes i (with_version v version))
unfolding drop_entries
outs t path i v ms left rows w version m l r q =
    rw (q, l, r, m, marked_keep (is_entry v.no path) t.entries, cleared_by_lem (is_entry v.no path) fresh_entry t.entries)

module _ (j : List ℕ) (vs : List Volume) (es : List KeptEntry) (rs : List Relay) where
  -- left, rows and next are the tables that the code left, and w is the volume's row
  pub takes_out : (path : List ℕ) (i : ℕ) (v w : Volume) (ms : List Bool) (left : List KeptEntry) (rows : List Relay) (answer : Answer)
      → ms ≡ map (is_entry v.no path) (entries_in j es) → w ≡ with_version v (v.version + 1) → answer ≡ success (v.version + 1)
      → ((b : List ℕ) → entries_in b left ≡ cleared_by ms fresh_entry (entries_in b es))
      → ((b : List ℕ) → rows ≡ map (lightened vs (marked ms (entries_in b es))) rs)
      → Leaves j vs es rs (record { answer = answer; volumes = set vs i w; entries = left; relays = rows }) (out_rule path i v)
  unfolding out_rule
  takes_out path i v w ms left rows answer m q a l r =
      record {
        told = λ t x y z.
            rw (a, ← x)
            (ap (accepted (v.version + 1))
            (outs t path i v ms (entries_in j left) rows w (v.version + 1) (m ∙ rw y) (l j ∙ rw y) (r j ∙ rw (x, y, z)) q));
      }

  -- a refusal leaves the tables as they are
  refuses : (r : KeptRemove) (n : ℕ) → r ≡ kept_refused vs es rs n → (t : Tables) → t.volumes ≡ vs → t.entries ≡ entries_in j es → t.relays ≡ rs
      → on_kept_remove j t r ≡ refused t n
  refuses r n q t x y z = rw (q, ← x, ← y, ← z)

  -- from the entry on: f is what the search for it said
  module _ (r : KeptRemove) (path : List ℕ) (i : ℕ) (v : Volume) (f : Option ℕ) (e : f ≡ first_at (is_entry v.no path) 0 (entries_in j es)) where
    pub entry_none : f ≡ None → r ≡ kept_refused vs es rs NO_ENTRY → Leaves j vs es rs r (entry_rule path i v)
    unfolding entry_rule entry_of remove_entry
    entry_none w q =
        record {
          told = λ t x y z.
              let g : find (is_entry v.no path) t.entries ≡ miss = rw y (first_miss (is_entry v.no path) (entries_in j es) (sym e ∙ w)) in
              refuses r NO_ENTRY q t x y z ∙ sym (rw g);
        }

    module _ (k : ℕ) (w : f ≡ Some k) where
      there : (t : Tables) → t.entries ≡ entries_in j es
          → find (is_entry v.no path) t.entries ≡ hit k (get_or (entries_in j es) k blank_entry)
      there t y = rw y (first_row_lem (is_entry v.no path) (entries_in j es) k (sym e ∙ w) blank_entry)

      pub entry_spent : last_version ≤ v.version → r ≡ kept_refused vs es rs SPENT → Leaves j vs es rs r (entry_rule path i v)
      unfolding entry_rule entry_of remove_entry
      entry_spent h q =
          record { told = λ t x y z. refuses r SPENT q t x y z ∙ sym (rw (there t y, le-leb last_version v.version h)) }

      pub entry_out : v.version < last_version → Leaves j vs es rs r (out_rule path i v) → Leaves j vs es rs r (entry_rule path i v)
      unfolding entry_rule entry_of remove_entry out_rule
      entry_out h q = record { told = λ t x y z. q.told t x y z ∙ sym (rw (there t y, lt-leb last_version v.version h)) }

  -- from the volume on: b is what the code said of its owner, and o of its status
  module _ (r : KeptRemove) (a : Account) (path : List ℕ) (i : ℕ) (v : Volume) (b : Bool) (e : b ≡ owned_by a v) where
    pub not_owner : not b ≡ true → r ≡ kept_refused vs es rs NOT_OWNER → Leaves j vs es rs r (in_rule a path i v)
    unfolding in_rule remove_in
    not_owner w q = record { told = λ t x y z. refuses r NOT_OWNER q t x y z ∙ sym (rw (sym e ∙ not-true b w)) }

    module _ (w : not b ≡ false) (o : Bool) (f : o ≡ is_open v.status) where
      pub not_open : not o ≡ true → r ≡ kept_refused vs es rs STATE → Leaves j vs es rs r (in_rule a path i v)
      unfolding in_rule remove_in
      not_open u q = record { told = λ t x y z. refuses r STATE q t x y z ∙ sym (rw (sym e ∙ not-false b w, sym f ∙ not-true o u)) }

      pub may_remove : not o ≡ false → Leaves j vs es rs r (entry_rule path i v) → Leaves j vs es rs r (in_rule a path i v)
      unfolding in_rule remove_in entry_rule
      may_remove u q = record { told = λ t x y z. q.told t x y z ∙ sym (rw (sym e ∙ not-false b w, sym f ∙ not-false o u)) }

  -- the whole: b is what the code said of the path, and f what the search for the volume said
  module _ (r : KeptRemove) (a : Account) (n : VolumeNo) (path : List ℕ) (b : Bool) (e : b ≡ is_path path) where
    pub bad_path : not b ≡ true → r ≡ kept_refused vs es rs BAD → Leaves j vs es rs r (remove_rule a n path)
    unfolding remove_rule
    bad_path w q = record { told = λ t x y z. refuses r BAD q t x y z ∙ sym (rw (sym e ∙ not-true b w)) }

    module _ (w : not b ≡ false) (f : Option ℕ) (g : f ≡ first_at (is_volume n) 0 vs) where
      pub volume_none : f ≡ None → r ≡ kept_refused vs es rs NO_VOLUME → Leaves j vs es rs r (remove_rule a n path)
      unfolding remove_rule volume_of remove_in
      volume_none u q =
          record {
            told = λ t x y z.
                let h : find (is_volume n) t.volumes ≡ miss = rw x (first_miss (is_volume n) vs (sym g ∙ u)) in
                refuses r NO_VOLUME q t x y z ∙ sym (rw (sym e ∙ not-false b w, h));
          }

      pub volume_at : (i : ℕ) → f ≡ Some i → Leaves j vs es rs r (in_rule a path i (get_or vs i blank_volume)) → Leaves j vs es rs r (remove_rule a n path)
      unfolding remove_rule volume_of in_rule
      volume_at i u q =
          record {
            told = λ t x y z.
                let h : find (is_volume n) t.volumes ≡ hit i (get_or vs i blank_volume) = rw x (first_row_lem (is_volume n) vs i (sym g ∙ u) blank_volume) in
                q.told t x y z ∙ sym (rw (sym e ∙ not-false b w, h));
          }

  pub remove_told : (r : KeptRemove) (a : Account) (n : VolumeNo) (path : List ℕ) (t : Tables) → Leaves j vs es rs r (remove_rule a n path)
      → t.volumes ≡ vs → t.entries ≡ entries_in j es → t.relays ≡ rs → on_kept_remove j t r ≡ remove_rule a n path t
  remove_told r a n path t q x y z = q.told t x y z

pub ruleset entry-answers = (entry_none, entry_spent, entry_out, rules)

pub ruleset in-answers = (not_owner, not_open, may_remove, rules)

pub ruleset answers = (bad_path, volume_none, volume_at, rules)
