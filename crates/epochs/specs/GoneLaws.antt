-- Laws of the numbers of volumes that are due: they pick the entries and tokens that the rules pick, and where no volume is due nothing goes.
-- Assumes nothing.
use Rattle.std.specs.Prelude.{◌≡◌, Bool, true, false, cond, ◌&&◌, ◌||◌, ℕ, get_or}
use Rattle.std.proofs.Math.Path.{refl}
use Rattle.std.proofs.Common.{sym, ap}
use Rattle.std.proofs.Math.Bool.{and-false}
use mathlib.Core.List.{List, [], ◌∷◌, map}
use Rattle.lists.specs.Lists.{any_of, keep}
use Rattle.lists.specs.BoolLaws.{or_left, or_right}
use Rattle.lists.specs.TestLaws.{at_none}
use Rattle.lists.specs.RowLaws.{map_agree}
use Rattle.rules.specs.declared.VolumeNo.{VolumeNo}
use Rattle.rules.specs.declared.Volume.{Volume}
use Rattle.rules.specs.declared.Entry.{Entry}
use Rattle.rules.specs.declared.Token.{Token}
use Rattle.rules.specs.declared.Tables.{Tables}
use Rattle.rules.specs.Fresh.{fresh_volume, fresh_entry, fresh_token}
use Rattle.rules.specs.Tables.{numbered, is_volume, used_token, cleared}
use Rattle.rules.specs.Relays.{lightened}
use Rattle.rules.specs.VolumeCalls.{drop_entries}
use Rattle.rules.specs.Advance.{is_due, is_one_of, entry_of_one, token_of_one, collect}
use Rattle.rules.proofs.Laws.RoomLaws.{no_zero}
use Rattle.placing.specs.GiveLaws.{map_same, after_none}
use Rattle.epochs.specs.Gone.{due_number, entry_gone, token_gone}

-- some row passes of those that are kept, where x is kept or not
any_kept : {A : Type 0} (q : A → Bool) (b : Bool) (x : A) (l : List A) → any_of q (cond b (x ∷ l) l) ≡ ((b && q x) || any_of q l)
any_kept q true x l = refl
any_kept q false x l = refl

-- a number that is that of a volume, or 0
number_or_none : (b : Bool) (n m : ℕ) → numbered n (cond b m 0) ≡ (b && numbered n m)
number_or_none true n m = refl
number_or_none false n m = no_zero n

module _ (clock : ℕ) where
  -- a number is one of these where a volume that is due has it
  pub gone_one : (vs : List Volume) (n : VolumeNo) → any_of (numbered n.0) (map (due_number clock) vs) ≡ is_one_of (keep (is_due clock) vs) n
  unfolding is_one_of due_number
  gone_one [] n = refl
  gone_one (v ∷ vs) n =
      rw (number_or_none (is_due clock v) n.0 v.no.0, gone_one vs n) (sym (any_kept (is_volume n) (is_due clock v) v (keep (is_due clock) vs)))

-- two tests that agree clear the same rows
cleared_agrees : {A : Type 0} (p q : A → Bool) (z : A) (l : List A) → ((x : A) → p x ≡ q x) → cleared p z l ≡ cleared q z l
unfolding cleared
cleared_agrees p q z [] e = refl
cleared_agrees p q z (x ∷ xs) e = rw (e x, cleared_agrees p q z xs e)

module _ (clock : ℕ) (vs : List Volume) where
  pub marks_gone : (es : List Entry) → map (entry_gone (map (due_number clock) vs)) es ≡ map (entry_of_one (keep (is_due clock) vs)) es
  marks_gone es =
      map_agree (entry_gone (map (due_number clock) vs)) (entry_of_one (keep (is_due clock) vs)) es fresh_entry
      (λ j h. gone_one clock vs (get_or es j fresh_entry).volume)

  pub tokens_gone_lem : (ks : List Token) → cleared (token_gone (map (due_number clock) vs)) fresh_token ks ≡ cleared (token_of_one (keep (is_due clock) vs)) fresh_token ks
  tokens_gone_lem ks =
      cleared_agrees (token_gone (map (due_number clock) vs)) (token_of_one (keep (is_due clock) vs)) fresh_token ks
      (λ k. ap (λ (b : Bool). used_token k && b) (gone_one clock vs k.volume))

-- where no row passes, none is kept and none is cleared
keep_none : {A : Type 0} (p : A → Bool) (l : List A) → any_of p l ≡ false → keep p l ≡ []
keep_none p [] e = refl
keep_none p (x ∷ xs) e = rw (or_left (p x) (any_of p xs) e, keep_none p xs (or_right (p x) (any_of p xs) e))

cleared_none : {A : Type 0} (p : A → Bool) (z : A) (l : List A) → any_of p l ≡ false → cleared p z l ≡ l
unfolding cleared
cleared_none p z [] e = refl
cleared_none p z (x ∷ xs) e = rw (or_left (p x) (any_of p xs) e, cleared_none p z xs (or_right (p x) (any_of p xs) e))

-- where no volume is due, a collection changes nothing
pub none_due : (p : Volume → Bool) (t : Tables) → any_of p t.volumes ≡ false → collect p t ≡ t
unfolding collect drop_entries is_one_of
none_due p t e =
    let no-entry = at_none (entry_of_one []) t.entries fresh_entry (λ j h. refl) in
    let no-token = at_none (token_of_one []) t.tokens fresh_token (λ j h. and-false (used_token (get_or t.tokens j fresh_token))) in
    rw (
      keep_none p t.volumes e,
      cleared_none p fresh_volume t.volumes e,
      cleared_none (entry_of_one []) fresh_entry t.entries no-entry,
      cleared_none (token_of_one []) fresh_token t.tokens no-token,
      keep_none (entry_of_one []) t.entries no-entry,
      map_same (lightened t.volumes []) t.relays (after_none t.volumes),
    )
