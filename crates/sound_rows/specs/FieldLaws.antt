-- What a search in a list of one field, and an element of it, say of the rows that the field is of. Assumes nothing.
use Rattle.std.specs.Prelude.{◌≡◌, refl, Bool, List, map, ℕ, ◌<◌, length, get_or, Option}
use Rattle.std.proofs.Common.{◌∙◌}
use Rattle.lists.specs.Lists.{first_at}
use Rattle.lists.specs.RowLaws.{map_row, first_map}

-- what is found in the list of one field, ns, is found in the rows: r is what the search said
module _ {A B : Type 0} (f : A → B) (p : B → Bool) (l : List A) (ns : List B) (r : Option ℕ) where
  pub in_rows : r ≡ first_at p 0 ns → ns ≡ map f l → r ≡ first_at (λ x. p (f x)) 0 l
  in_rows h e = rw e at h ∙ first_map f l p (λ x. p (f x)) (λ x. refl) 0

-- an element of the list of one field is that field of the row
module _ {A B : Type 0} (f : A → B) (l : List A) (ns : List B) where
  pub field_at : (i : ℕ) (d : A) (z : B) → ns ≡ map f l → i < length l → get_or ns i z ≡ f (get_or l i d)
  field_at i d z e h = rw e (map_row f l i d z h)
