-- The numbers of a token's family, and who is among them. Assumes nothing.
use Rattle.std.specs.Prelude.{◌≡◌, refl, false, List, [], ◌∷◌, map, ℕ, zero, suc, ◌+◌, ◌<◌, eqb, take, drop, replicate}
use Rattle.std.proofs.Common.{sym, ◌∙◌, ap, arith, ne_eqb, length-drop, get_or-drop}
use Rattle.std.proofs.Math.Bool.{or-false}
use Rattle.std.proofs.lemmas.List.{length-replicate, get_or-replicate}
use Rattle.lists.specs.Lists.{any_of}
use Rattle.lists.specs.AnswerLaws.{part_fails}
use Rattle.lists.specs.TestLaws.{at_none, any_append}
use Rattle.lists.specs.RowLaws.{any_map}
use Rattle.rules.specs.declared.TokenNo.{TokenNo}
use Rattle.rules.specs.declared.Token.{Token}
use Rattle.rules.specs.Tables.{given, numbered, is_token}
use Rattle.rows.specs.Links.{token_number}
use Rattle.commits.specs.Charge.{numbers_of}

pub take_map : {A B : Type 0} (f : A → B) (n : ℕ) (l : List A) → take n (map f l) ≡ map f (take n l)
take_map f zero l = refl
take_map f (suc n) [] = refl
take_map f (suc n) (x ∷ xs) = ap (λ ys. f x ∷ ys) (take_map f n xs)

-- no number is 0
not_zero : (n : ℕ) → numbered n 0 ≡ false
not_zero zero = refl
not_zero (suc n) = sym (part_fails (given (suc n)) (eqb 0 (suc n)) (ne_eqb 0 (suc n) (λ q. omega (arith, q))))

not_zeros : (n k m : ℕ) → any_of (numbered n) (drop k (replicate m 0)) ≡ false
not_zeros n k m =
    at_none (numbered n) (drop k (replicate m 0)) 0
    (λ j h.
    let w : k + j < m = omega (arith, length-drop {A = ℕ} k (replicate m 0), length-replicate {A = ℕ} m 0) in
    rw (get_or-drop {A = ℕ} k (replicate m 0) j 0, get_or-replicate {A = ℕ} m (k + j) 0 0 w) (not_zero n))

-- a number is among those of the first k tokens, or it is none of theirs
pub member_of : (n : TokenNo) (l : List Token) (k : ℕ) → any_of (numbered n.0) (numbers_of l k) ≡ any_of (is_token n) (take k l)
unfolding numbers_of
member_of n l k =
    any_append (numbered n.0) (take k (map token_number l)) (drop (0 + k) (replicate 8 0))
    ∙ rw (not_zeros n.0 (0 + k) 8, take_map token_number k l)
    (or-false (any_of (numbered n.0) (map token_number (take k l))) ∙ any_map token_number (take k l) (numbered n.0) (is_token n) (λ x. refl))

pub map_alike : {A B : Type 0} (f g : A → B) (l : List A) → ((x : A) → f x ≡ g x) → map f l ≡ map g l
map_alike f g [] e = refl
map_alike f g (x ∷ xs) e = rw (e x, map_alike f g xs e)
