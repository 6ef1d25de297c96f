-- What is known of a path's bytes from some place on is what their parts say; and the two cases of a prefix. Assumes nothing.
use Rattle.std.specs.Prelude.{◌≡◌, refl, fold, reverse, Bool, true, false, ◌&&◌, ◌||◌, cond, not, List, [], ◌∷◌, ℕ, eqb}
use Rattle.std.proofs.Common.{ap, ◌∙◌, arith}
use Rattle.std.proofs.Math.Path.{sym}
use Rattle.std.proofs.lemmas.List.{reverse-append}
use Rattle.std.proofs.lemmas.List.Sums.{fold-append}
use Rattle.std.proofs.Math.ListN.{length}
use Rattle.lists.specs.Lists.{all_of}
use Rattle.text.specs.Text.{slash, dot, onto_first, parts, is_part, is_prefix, is_path_and_slash}
use Rattle.text.specs.Scan.{is_other, longer, passes, scan_byte}
use Rattle.text.specs.declared.path.Kind.{Kind}
use Rattle.text.specs.declared.path.Kind.TheVariants.{Empty, Dot, DotDot, Other}
use Rattle.text.specs.declared.path.Scan.{Scan}

-- the kind of a part
unfoldable pub kind_of : List ℕ → Kind
kind_of [] = Empty
kind_of (b ∷ p) = longer (eqb b dot) (kind_of p)

-- what is known of some parts
unfoldable pub known : List (List ℕ) → Scan
unfolding kind_of
known [] = record { first = Empty; rest = true }
known (p ∷ ps) = record { first = kind_of p; rest = all_of is_part ps }

-- a part passes by its kind
one_byte : (a : Bool) → not (a && true || a && false) ≡ is_other (longer a Empty)
one_byte true = refl
one_byte false = refl

two_bytes : (a b : Bool) → not (a && false || a && (b && true)) ≡ is_other (longer a (longer b Empty))
two_bytes true true = refl
two_bytes true false = refl
two_bytes false b = refl

more_bytes : (a b c : Bool) (k : Kind) → not (a && false || a && (b && false)) ≡ is_other (longer a (longer b (longer c k)))
more_bytes true true true Empty = refl
more_bytes true true true Dot = refl
more_bytes true true true DotDot = refl
more_bytes true true true Other = refl
more_bytes true true false k = refl
more_bytes true false c k = refl
more_bytes false b c k = refl

pub part_kind : (p : List ℕ) → is_part p ≡ is_other (kind_of p)
unfolding is_part kind_of
part_kind [] = refl
part_kind (x ∷ []) = one_byte (eqb x dot)
part_kind (x ∷ y ∷ []) = two_bytes (eqb x dot) (eqb y dot)
part_kind (x ∷ y ∷ z ∷ p) = more_bytes (eqb x dot) (eqb y dot) (eqb z dot) (kind_of p)

-- one more byte at the front
known_onto : (b : ℕ) (ps : List (List ℕ))
    → known (onto_first b ps) ≡ record { first = longer (eqb b dot) (known ps).first; rest = (known ps).rest }
unfolding known kind_of onto_first
known_onto b [] = refl
known_onto b (p ∷ ps) = refl

-- all parts pass where the first passes by its kind and the rest do
passes_cons : (p : List ℕ) (ps : List (List ℕ)) → passes (known (p ∷ ps)) ≡ all_of is_part (p ∷ ps)
unfolding known
passes_cons p ps = rw (part_kind p)

passes_onto : (b : ℕ) (ps : List (List ℕ)) → passes (known (onto_first b ps)) ≡ all_of is_part (onto_first b ps)
unfolding onto_first
passes_onto b [] = passes_cons (b ∷ []) []
passes_onto b (p ∷ ps) = passes_cons (b ∷ p) ps

passes_cond : (t : Bool) (b : ℕ) (ps : List (List ℕ)) → let q = cond t ([] ∷ ps) (onto_first b ps) in passes (known q) ≡ all_of is_part q
passes_cond true b ps = passes_cons [] ps
passes_cond false b ps = passes_onto b ps

pub known_passes : (s : List ℕ) → passes (known (parts s)) ≡ all_of is_part (parts s)
unfolding parts
known_passes [] = passes_cons [] []
known_passes (b ∷ bs) = passes_cond (eqb b slash) b (parts bs)

-- one more byte at the front
known_cond : (t : Bool) (b : ℕ) (ps : List (List ℕ)) → passes (known ps) ≡ all_of is_part ps
    → known (cond t ([] ∷ ps) (onto_first b ps))
    ≡ cond t
    (record { first = Empty; rest = passes (known ps) })
    (record { first = longer (eqb b dot) (known ps).first; rest = (known ps).rest })
unfolding known kind_of
known_cond true b ps e = ap (λ (r : Bool). record { first = Empty; rest = r }) (sym e)
known_cond false b ps e = known_onto b ps

pub known_byte : (b : ℕ) (bs : List ℕ) → known (parts (b ∷ bs)) ≡ scan_byte b (known (parts bs))
unfolding parts
known_byte b bs = known_cond (eqb b slash) b (parts bs) (known_passes bs)

-- from the last byte to the first: what is known of the parts of all the bytes
pub known_whole : (s : List ℕ) → fold (λ k b. scan_byte b k) (record { first = Empty; rest = true }) (reverse s) ≡ known (parts s)
unfolding known kind_of parts
known_whole [] = refl
known_whole (b ∷ bs) =
    ap (fold (λ k x. scan_byte x k) (record { first = Empty; rest = true })) (reverse-append (b ∷ []) bs)
    ∙ fold-append (λ k x. scan_byte x k) (record { first = Empty; rest = true }) (reverse bs) (b ∷ [])
    ∙ ap (scan_byte b) (known_whole bs)
    ∙ sym (known_byte b bs)

-- a prefix is empty or not: x is what the code answers
pub prefix_none : (s : List ℕ) → length s ≡ 0 → true ≡ is_prefix s
unfolding is_prefix
prefix_none [] e = refl
prefix_none (b ∷ bs) e = absurd (omega arith)

pub prefix_some : (s : List ℕ) (x : Bool) → (length s ≡ 0 → ⊥) → x ≡ is_path_and_slash s → x ≡ is_prefix s
unfolding is_prefix
prefix_some [] x n e = absurd (n refl)
prefix_some (b ∷ bs) x n e = e

pub ruleset prefixes = (prefix_none, prefix_some)
