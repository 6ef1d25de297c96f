-- What a collection from kept tables leaves, by what the code made. j is the bytes of the journal. Assumes nothing.
use mathlib.Core.Path.{◌≡◌, refl, sym, ◌∙◌}
use mathlib.Core.Bool.{Bool}
use mathlib.Core.List.{List, map}
use Prim.Native.Nat.{ℕ}
use Rattle.lists.specs.Lists.{keep}
use Rattle.lists.specs.RowLaws.{map_after}
use Rattle.rules.specs.declared.Volume.{Volume}
use Rattle.rules.specs.declared.Entry.{Entry}
use Rattle.rules.specs.declared.Token.{Token}
use Rattle.rules.specs.declared.Relay.{Relay}
use Rattle.rules.specs.declared.Tables.{Tables}
use Rattle.rules.specs.Fresh.{fresh_volume, fresh_entry, fresh_token}
use Rattle.rules.specs.Tables.{cleared, with_volumes, with_entries, with_tokens, with_relays}
use Rattle.rules.specs.Relays.{lightened}
use Rattle.rules.specs.VolumeCalls.{drop_entries}
use Rattle.rules.specs.Advance.{is_due, entry_of_one, collect}
use Rattle.entries.specs.Marks.{marked, cleared_by}
use Rattle.entries.specs.MarkLaws.{marked_keep, cleared_by_lem}
use Rattle.kept.specs.declared.KeptEntry.{KeptEntry}
use Rattle.kept.specs.declared.KeptToken.{KeptToken}
use Rattle.kept.specs.Kept.{entry_in}
use Rattle.kept_entries.specs.KeptEntries.{entries_in}
use Rattle.kept_tokens.specs.KeptTokens.{tokens_in, token_gone}
use Rattle.epochs.specs.Gone.{due_number, entry_gone}
use Rattle.epochs.specs.GoneLaws.{marks_gone, tokens_gone_lem}
use Rattle.kept_epochs.specs.Parts.{kept_gone, on_kept_collect}

-- the marked entries give their room back and go, and so do the tokens and rows of the volumes that are due
collects : (t : Tables) (block : ℕ) (gone : List ℕ) (ms : List Bool) (rows : List Relay) (left : List Entry) (ks : List Token) (kept : List Volume)
    → gone ≡ map (due_number block) t.volumes → ms ≡ map (entry_gone gone) t.entries
    → rows ≡ map (lightened t.volumes (marked ms t.entries)) t.relays → left ≡ cleared_by ms fresh_entry t.entries
    → ks ≡ cleared (token_gone gone) fresh_token t.tokens → kept ≡ cleared (is_due block) fresh_volume t.volumes
    → with_volumes (with_tokens (with_relays (with_entries t left) rows) ks) kept ≡ collect (is_due block) t
unfolding collect drop_entries
collects t block gone ms rows left ks kept g m r l k v =
    let p = entry_of_one (keep (is_due block) t.volumes) in
    let q : ms ≡ map p t.entries = m ∙ rw g (marks_gone block t.volumes t.entries) in
    rw (v, k, g, tokens_gone_lem block t.volumes t.tokens, l, r, q, marked_keep p t.entries, cleared_by_lem p fresh_entry t.entries)

-- of tables that the kept ones stand for: rows, left, rest and kept are what the code left
pub kept_collects : (j : List ℕ) (t : Tables) (block : ℕ) (vs : List Volume) (es : List KeptEntry) (ks : List KeptToken) (rs : List Relay)
    (gone : List ℕ) (ms : List Bool) (rows : List Relay) (left : List KeptEntry) (rest : List KeptToken) (kept : List Volume)
    → gone ≡ map (due_number block) vs → ms ≡ map (kept_gone gone) es → kept ≡ cleared (is_due block) fresh_volume vs
    → t.volumes ≡ vs → t.entries ≡ entries_in j es → t.tokens ≡ tokens_in j ks → t.relays ≡ rs
    → ((i : List ℕ) → rows ≡ map (lightened vs (marked ms (entries_in i es))) rs)
    → ((i : List ℕ) → entries_in i left ≡ cleared_by ms fresh_entry (entries_in i es))
    → ((i : List ℕ) → tokens_in i rest ≡ cleared (token_gone gone) fresh_token (tokens_in i ks))
    → on_kept_collect j t (record { volumes = kept; entries = left; tokens = rest; relays = rows }) ≡ collect (is_due block) t
kept_collects j t block vs es ks rs gone ms rows left rest kept g m q v e k l r f n =
    collects t block gone ms rows (entries_in j left) (tokens_in j rest) kept (g ∙ rw v)
    (m ∙ rw e (sym (map_after (entry_gone gone) (entry_in j) (kept_gone gone) es (λ x. refl))))
    (r j ∙ rw (v, e, l)) (f j ∙ rw e) (n j ∙ rw k) (q ∙ rw v)
