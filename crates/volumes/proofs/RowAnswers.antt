-- What each rule on a volume answers: `X-none` where the search found no row, `X-at` at the row that it found. And the answers that hold what
-- another function of the code made. Assumes nothing.
use mathlib.Core.List.{List}
use mathlib.Core.Bool.{true, ◌&&◌}
use mathlib.Core.Path.{◌≡◌, ◌∙◌}
use Prim.Native.Nat.{ℕ}
use lib.ListN.{take, set}
use lib.Seq.{take_all}
use Rattle.amount.specs.declared.Cap.{Cap}
use Rattle.lists.specs.Lists.{Hit}
use Rattle.lists.specs.BoolLaws.{and_left}
use Rattle.lists.specs.AnswerLaws.{NoRow, AtRow, no_row, at_row}
use Rattle.text.specs.Text.{name_limit, is_name}
use Rattle.text.specs.TextLaws.{name_fits}
use Rattle.rules.specs.declared.Account.{Account}
use Rattle.rules.specs.declared.VolumeNo.{VolumeNo}
use Rattle.rules.specs.declared.Volume.{Volume}
use Rattle.rules.specs.declared.Token.{Token}
use Rattle.rules.specs.declared.Tables.{Tables}
use Rattle.rules.specs.declared.TablesOutcome.{TablesOutcome}
use Rattle.rules.specs.Tables.{is_volume, free_volume, with_volumes, with_tokens, with_last_volume, with_deposits}
use Rattle.rules.specs.Outcome.{accepted}
use Rattle.rules.specs.Scope.{cap_fits}
use Rattle.rules.specs.Sound.{shards_fit}
use Rattle.rules.specs.VolumeCalls.{new_volume, create_in, deposit_in, delete_in, undelete_in}
use Rattle.rows.specs.Blank.{blank_volume}

module _ (t : Tables) where
  pub create_none : (v : Volume) → NoRow (create_in t v) free_volume t.volumes
  create_none v = no_row (create_in t v) _ _

  pub create_at : (v : Volume) → AtRow (create_in t v) free_volume t.volumes blank_volume
  create_at v = at_row (create_in t v) _ _ _

  module _ (n : VolumeNo) where
    pub deposit_none : (coins : ℕ) → NoRow (deposit_in t coins) (is_volume n) t.volumes
    deposit_none coins = no_row (deposit_in t coins) _ _

    pub deposit_at : (coins : ℕ) → AtRow (deposit_in t coins) (is_volume n) t.volumes blank_volume
    deposit_at coins = at_row (deposit_in t coins) _ _ _

    pub delete_none : (a : Account) → NoRow (delete_in t a) (is_volume n) t.volumes
    delete_none a = no_row (delete_in t a) _ _

    pub delete_at : (a : Account) → AtRow (delete_in t a) (is_volume n) t.volumes blank_volume
    delete_at a = at_row (delete_in t a) _ _ _

    pub undelete_none : (a : Account) → NoRow (undelete_in t a) (is_volume n) t.volumes
    undelete_none a = no_row (undelete_in t a) _ _

    pub undelete_at : (a : Account) → AtRow (undelete_in t a) (is_volume n) t.volumes blank_volume
    undelete_at a = at_row (undelete_in t a) _ _ _

-- a name that is one is stored whole
pub whole_name : (t : Tables) (n : ℕ) (a : Account) (name : List ℕ) (k m : ℕ) (cap : Cap) (v : Volume) (q : Hit Volume) (x : TablesOutcome)
    → (is_name name && shards_fit k m && cap_fits cap) ≡ true → v ≡ new_volume n a (take name_limit name) k m cap → x ≡ create_in t v q
    → x ≡ create_in t (new_volume n a name k m cap) q
whole_name t n a name k m cap v q x e f g =
    g ∙ rw (f, take_all name_limit name (name_fits name (and_left _ _ (and_left _ _ e))))

-- success with a row, or with a table, that another function made
pub accepts_row : (t : Tables) (v last coins i : ℕ) (rows : List Volume) (a b : Volume) (x : TablesOutcome)
    → x ≡ accepted v (with_deposits (with_last_volume (with_volumes t (set rows i a)) last) coins) → a ≡ b
    → x ≡ accepted v (with_deposits (with_last_volume (with_volumes t (set rows i b)) last) coins)
accepts_row t v last coins i rows a b x e f = e ∙ rw f

pub accepts_delete : (t : Tables) (i : ℕ) (rows : List Volume) (a b : Volume) (k l : List Token) (x : TablesOutcome)
    → x ≡ accepted 0 (with_tokens (with_volumes t (set rows i a)) k) → a ≡ b → k ≡ l → x ≡ accepted 0 (with_tokens (with_volumes t (set rows i b)) l)
accepts_delete t i rows a b k l x e f g = e ∙ rw (f, g)
