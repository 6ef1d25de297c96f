-- What a test of one row says of the tables that it was handed parts of. Assumes nothing.
use Rattle.std.specs.Prelude.{Option, Some, None}
use mathlib.Core.Path.{◌≡◌, refl, sym, ◌∙◌}
use mathlib.Core.Bool.{Bool, false, not, ◌&&◌, ◌||◌}
use mathlib.Core.List.{List, map}
use Prim.Native.Nat.{ℕ, ◌+◌, ◌<◌, ◌≤◌}
use native.Mathlib.Omega.{arith}
use borrow.Author.Tests.{ne_eqb, le-leb, not-false}
use lib.Dec.{eqb, leb}
use lib.ListN.{length, drop, get_or}
use Rattle.text.specs.Text.{holds, is_prefix}
use Rattle.rules.specs.Limits.{deepest, used_limit}
use Rattle.rules.specs.Scope.{cap_fits, depth}
use Rattle.lists.specs.Lists.{first_at, find, any_of}
use Rattle.lists.specs.SearchLaws.{first_row_lem, first_miss, first_below}
use Rattle.rules.specs.declared.VolumeNo.{VolumeNo}
use Rattle.rules.specs.Tables.{is_volume, is_token, numbered}
use Rattle.rows.specs.Blank.{blank_volume}
use Rattle.lists.specs.LoopLaws.{ClashLoop, clash_step}
use Rattle.lists.specs.TestLaws.{at_none}
use Rattle.lists.specs.RowLaws.{any_map}
use Rattle.rows.specs.Links.{token_number}
use Rattle.rules.specs.declared.Placement.{Placement}
use Rattle.rules.specs.declared.Volume.{Volume}
use Rattle.rules.specs.declared.Token.{Token}
use Rattle.rules.specs.declared.Entry.{Entry}
use Rattle.rules.specs.declared.Session.{Session}
use Rattle.rules.specs.declared.Status.{Status}
use Rattle.rules.specs.declared.Tables.{Tables}
use Rattle.rules.specs.Sound.{same_name, sound_grace, sound_volume, sound_token, sound_entry, sound_session, sound_in, parent_there, sound_placement, is_given, volume_there}
use Rattle.sound_rows.specs.Numbers.{volume_number, volume_width}
use Rattle.sound_rows.specs.FieldLaws.{in_rows, field_at}

module _ (t : Tables) (b : Bool) where
  pub volume_told : (v : Volume) → ((u : Tables) → u.last_volume ≡ t.last_volume → u.clock ≡ t.clock → b ≡ sound_volume u v) → b ≡ sound_volume t v
  volume_told v f = f t refl refl

  module _ (ns ws : List ℕ) where
    pub entry_told : (e : Entry)
        → ((u : Tables) → ns ≡ map volume_number u.volumes → ws ≡ map volume_width u.volumes → u.last_relay ≡ t.last_relay → b ≡ sound_entry u e)
        → ns ≡ map volume_number t.volumes → ws ≡ map volume_width t.volumes → b ≡ sound_entry t e
    entry_told e f g h = f t g h refl

    pub in_told : (p : Placement) (n : VolumeNo) (last : ℕ)
        → ((u : Tables) → ns ≡ map volume_number u.volumes → ws ≡ map volume_width u.volumes → u.last_relay ≡ last → b ≡ sound_in u p (find (is_volume n) u.volumes))
        → ns ≡ map volume_number t.volumes → ws ≡ map volume_width t.volumes → t.last_relay ≡ last → b ≡ sound_in t p (find (is_volume n) t.volumes)
    in_told p n last f g h e = f t g h e

  pub session_told : (s : Session)
      → ((u : Tables) → u.last_token ≡ t.last_token → u.last_volume ≡ t.last_volume → b ≡ sound_session u s) → b ≡ sound_session t s
  session_told s f = f t refl refl

  -- a list of numbers stands for its table
  pub volume_in : (n : VolumeNo) (ns : List ℕ) → b ≡ any_of (numbered n.0) ns → ns ≡ map volume_number t.volumes → b ≡ volume_there t n
  unfolding volume_there
  volume_in n ns h e = rw e at h ∙ any_map volume_number t.volumes (numbered n.0) (is_volume n) (λ x. refl)

  pub parent_in : (k : Token) (ns : List ℕ) → b ≡ (eqb k.parent.0 0 || any_of (numbered k.parent.0) ns) → ns ≡ map token_number t.tokens → b ≡ parent_there t k
  unfolding parent_there
  parent_in k ns h e = h ∙ rw (e, any_map token_number t.tokens (numbered k.parent.0) (is_token k.parent) (λ x. refl))

-- an entry's placement, where the search for its volume's number m found none, or the one at i
module _ (t : Tables) (p : Placement) (n : VolumeNo) (m : ℕ) (ns : List ℕ) (f : Option ℕ) (e : f ≡ first_at (numbered m) 0 ns) (same : m ≡ n.0)
    (k : ns ≡ map volume_number t.volumes) where
  there : f ≡ first_at (is_volume n) 0 t.volumes
  there = in_rows volume_number (numbered n.0) t.volumes ns f (rw same at e) k

  pub placed_none : f ≡ None → false ≡ sound_in t p (find (is_volume n) t.volumes)
  unfolding sound_in
  placed_none w = sym (rw (first_miss (is_volume n) t.volumes (sym there ∙ w)))

  pub placed_at : (ws : List ℕ) (i : ℕ) (b : Bool) (last : ℕ) → f ≡ Some i
      → ((u : Tables) (v : Volume) → u.last_relay ≡ last → v.k + v.m ≡ get_or ws i 0 → b ≡ sound_placement u v p)
      → ws ≡ map volume_width t.volumes → t.last_relay ≡ last → b ≡ sound_in t p (find (is_volume n) t.volumes)
  unfolding sound_in
  placed_at ws i b last w g q h =
      let below : i < length t.volumes = omega (arith, first_below (is_volume n) t.volumes 0 i (sym there ∙ w)) in
      g t (get_or t.volumes i blank_volume) h (sym (field_at volume_width t.volumes ws i blank_volume 0 q below))
      ∙ sym (rw (first_row_lem (is_volume n) t.volumes i (sym there ∙ w) blank_volume))

-- the last return of a token's test: all parts but the last hold
pub token_passed : (t : Tables) (k : Token) (x fits there parent : Bool) (last n : ℕ) → (k.no.0 ≡ 0 → ⊥) → t.last_token ≡ last
    → fits ≡ (is_given last k.no.0 && holds is_prefix k.scope.prefix && cap_fits k.scope.cap && leb k.scope.«from» k.scope.until) → not fits ≡ false
    → not there ≡ false → there ≡ volume_there t k.volume → not parent ≡ false → parent ≡ parent_there t k → n ≤ deepest → n ≡ depth t.tokens k
    → x ≡ leb k.used used_limit → x ≡ sound_token t k
unfolding sound_token
token_passed t k x fits there parent last n used g a a' b' b p' p d' d w =
    rw (ne_eqb k.no.0 0 used, ← p, not-false parent p', ← b, not-false there b', ← d, le-leb n deepest d', g, ← a, not-false fits a') w

-- a free volume has no name that another could have
free_name : (a b : Volume) → a.no.0 ≡ 0 → same_name a b ≡ false
unfolding same_name
free_name a b e = rw e

pub name_skipped : (rows : List Volume) (i : ℕ) → ClashLoop same_name rows 8 i → i < 8 → (get_or rows i blank_volume).no.0 ≡ 0 → ClashLoop same_name rows 8 (i + 1)
name_skipped rows i h k e =
    clash_step blank_volume same_name rows 8 i false h k
    (sym (at_none (same_name (get_or rows i blank_volume)) (drop (i + 1) rows) blank_volume (λ j l. free_name (get_or rows i blank_volume) (get_or (drop (i + 1) rows) j blank_volume) e)))
    refl

-- the grace count of a status that is known
pub by_status : (s k : Status) (x : Bool) (grace : ℕ) → s ≡ k → x ≡ sound_grace k grace → x ≡ sound_grace s grace
by_status s k x grace e f = rw e f
