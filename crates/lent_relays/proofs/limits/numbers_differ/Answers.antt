-- The first row's number is that of a later one, or the rows after it decide.
use Rattle.std.proofs.Common.{◌≡◌, ◌∙◌, ◌∷◌, [], ◌||◌, Bool, true, false, List, ap, arith, length, refl, rules, sym}
use Rattle.lists.specs.Lists.{any_of, no_clash}
use Rattle.rules.specs.declared.Relay.{Relay}
use Rattle.rules.specs.Sound.{same_relay_row}
use Rattle.rules.specs.Tables.{is_relay}
use Rattle.lent_relays.proofs.limits.numbers_differ.Goals as goal

again : (x : Relay) (l : List Relay) → any_of (is_relay x.no) l ≡ any_of (same_relay_row x) l
again x [] = refl
again x (y ∷ l) = ap (λ b. is_relay x.no y || b) (again x l)

module _ (rows rest later : List Relay) (x : Relay) (b : Bool) (left : no_clash same_relay_row rows ≡ no_clash same_relay_row rest) (split : rest ≡ x ∷ later)
    (told : b ≡ any_of (is_relay x.no) later) where
  twice : b ≡ true → false ≡ no_clash same_relay_row rows
  unfolding no_clash
  twice e =
      let found : any_of (same_relay_row x) later ≡ true = sym (again x later) ∙ sym told ∙ e in
      sym (left ∙ rw (split, found))

  once : b ≡ false → no_clash same_relay_row rows ≡ no_clash same_relay_row later
  unfolding no_clash
  once e =
      let none : any_of (same_relay_row x) later ≡ false = sym (again x later) ∙ sym told ∙ e in
      left ∙ rw (split, none)

alone : (rows rest : List Relay) → no_clash same_relay_row rows ≡ no_clash same_relay_row rest → length rest ≡ 0 → true ≡ no_clash same_relay_row rows
unfolding no_clash
alone rows [] left none = sym left
alone rows (x ∷ rest) left none = absurd (omega (arith, none))

pub returns-then-any_row : goal.returns-then-any_row
returns-then-any_row c = twice _ _ c.in-Some.later.now c.in-Some.x.now _ c.loop-x.invariant (search rules) c.any_row.ensures c.if-any_row.true

pub loop-x-preserved : goal.loop-x-preserved
loop-x-preserved c = once _ _ c.in-Some.later.now c.in-Some.x.now _ c.loop-x.invariant (search rules) c.any_row.ensures c.if-any_row.false

pub returns : goal.returns
returns c =
    let none = rw c.in_default.is at c.split_first.ensures.cases in
    alone _ _ c.loop-x.invariant (search (none, rules))
