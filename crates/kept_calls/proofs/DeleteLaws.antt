-- Delete, over kept tokens. j is the bytes of the journal, and t has the parts that were read. Assumes nothing.
use Rattle.std.specs.Prelude.{Option, Some, None}
use mathlib.Core.Path.{◌≡◌, sym, ◌∙◌}
use mathlib.Core.List.{List}
use Prim.Native.Nat.{ℕ}
use lib.ListN.{get_or, set}
use Rattle.lists.specs.Lists.{hit, first_at}
use Rattle.lists.specs.SearchLaws.{first_row_lem, first_miss}
use Rattle.rules.specs.declared.Account.{Account}
use Rattle.rules.specs.declared.Answer.{Answer}
use Rattle.rules.specs.declared.Status.TheVariants.{Deleted}
use Rattle.rules.specs.declared.Tables.{Tables}
use Rattle.rules.specs.declared.Volume.{Volume}
use Rattle.rules.specs.declared.VolumeNo.{VolumeNo}
use Rattle.rules.specs.Fresh.{fresh_token}
use Rattle.rules.specs.Numbers.{NO_VOLUME}
use Rattle.rules.specs.Outcome.{success, refused, accepted}
use Rattle.rules.specs.Tables.{is_volume, volume_of, with_status, with_volumes, with_tokens, cleared}
use Rattle.rules.specs.VolumeCalls.{is_token_of, delete_in, delete_rule}
use Rattle.rows.specs.Blank.{blank_volume}
use Rattle.kept.specs.declared.KeptToken.{KeptToken}
use Rattle.kept_tokens.specs.KeptTokens.{tokens_in}
use Rattle.kept_calls.specs.declared.KeptDelete.{KeptDelete}
use Rattle.kept_calls.specs.Parts.{on_kept_delete, not_deleted}

module _ (j : List ℕ) (t : Tables) (vs : List Volume) (ks : List KeptToken) (v : t.volumes ≡ vs) (k : t.tokens ≡ tokens_in j ks) where
  pub delete_refuses : (r : KeptDelete) (n : ℕ) → r ≡ not_deleted vs ks n → on_kept_delete j t r ≡ refused t n
  delete_refuses r n e = rw (e, ← v, ← k)

  -- the row i is w, and out the tokens that are left; old is the row as it was
  pub delete_accepts : (clock i : ℕ) (x : Answer) (old w : Volume) (out : List KeptToken) → t.clock ≡ clock → x ≡ success 0
      → w ≡ with_status old Deleted old.grace clock
      → ((b : List ℕ) → tokens_in b out ≡ cleared (is_token_of old.no) fresh_token (tokens_in b ks))
      → on_kept_delete j t (record { answer = x; volumes = set vs i w; tokens = out })
      ≡ accepted 0 (with_tokens (with_volumes t (set t.volumes i (with_status old Deleted old.grace t.clock))) (cleared (is_token_of old.no) fresh_token t.tokens))
  delete_accepts clock i x old w out c e q g = rw (e, q, g j, ← k, ← v, ← c)

  -- f is what the search for the volume n said
  module _ (n : VolumeNo) (a : Account) (f : Option ℕ) (e : f ≡ first_at (is_volume n) 0 vs) (r : KeptDelete) where
    pub delete_none : f ≡ None → r ≡ not_deleted vs ks NO_VOLUME → on_kept_delete j t r ≡ delete_rule a n t
    unfolding delete_rule delete_in volume_of
    delete_none w q =
        delete_refuses r NO_VOLUME q ∙ sym (rw (v, first_miss (is_volume n) vs (sym e ∙ w)))

    pub delete_found : (i clock : ℕ) → f ≡ Some i → t.clock ≡ clock
        → ((b : List ℕ) (u : Tables) → u.clock ≡ clock → u.volumes ≡ vs → u.tokens ≡ tokens_in b ks → on_kept_delete b u r ≡ delete_in u a (hit i (get_or vs i blank_volume)))
        → on_kept_delete j t r ≡ delete_rule a n t
    unfolding delete_rule volume_of
    delete_found i clock w c g =
        g j t c v k ∙ sym (rw (v, first_row_lem (is_volume n) vs i (sym e ∙ w) blank_volume))
