-- A volume at an epoch end, by its status and by whether its balance covers the rent. Assumes nothing.
use mathlib.Core.Path.{◌≡◌, sym, ◌∙◌}
use Prim.Native.Nat.{ℕ, ◌+◌, ◌-◌, ◌<◌, ◌≤◌, min}
use native.Mathlib.Omega.{arith}
use borrow.Author.Rules.{rules}
use borrow.Author.Tests.{le-leb, lt-leb}
use Rattle.rules.specs.declared.Status.TheVariants.{Active, Grace, Deleted}
use Rattle.rules.specs.declared.Volume.{Volume}
use Rattle.rules.specs.Tables.{with_balance, with_status}
use Rattle.rules.specs.Advance.{after_rent}

-- r is what the code made of the volume
module _ (rent : ℕ) (v r : Volume) where
  module _ (h : rent ≤ v.balance) where
    pub active_pays : v.status ≡ Active → r ≡ with_balance (with_status v Active v.grace v.deleted) (v.balance - rent) → r ≡ after_rent rent v
    unfolding after_rent
    active_pays e q = q ∙ sym (rw (e, le-leb rent v.balance h))

    pub grace_pays : v.status ≡ Grace → r ≡ with_balance (with_status v Active 0 v.deleted) (v.balance - rent) → r ≡ after_rent rent v
    unfolding after_rent
    grace_pays e q = q ∙ sym (rw (e, le-leb rent v.balance h))

    pub deleted_pays : v.status ≡ Deleted → r ≡ with_balance (with_status v Deleted v.grace v.deleted) (v.balance - rent) → r ≡ after_rent rent v
    unfolding after_rent
    deleted_pays e q = let p : v.balance - min rent v.balance ≡ v.balance - rent = omega arith in q ∙ sym (rw (e, p))

  module _ (h : v.balance < rent) where
    nothing : v.balance - 0 ≡ v.balance
    nothing = omega arith

    pub active_short : v.status ≡ Active → r ≡ with_balance (with_status v Grace 1 v.deleted) v.balance → r ≡ after_rent rent v
    unfolding after_rent
    active_short e q = q ∙ sym (rw (e, lt-leb rent v.balance h, nothing))

    pub grace_short : v.status ≡ Grace → r ≡ with_balance (with_status v Grace (v.grace + 1) v.deleted) v.balance → r ≡ after_rent rent v
    unfolding after_rent
    grace_short e q = q ∙ sym (rw (e, lt-leb rent v.balance h, nothing))

    pub deleted_short : v.status ≡ Deleted → r ≡ with_balance (with_status v Deleted v.grace v.deleted) 0 → r ≡ after_rent rent v
    unfolding after_rent
    deleted_short e q = let p : v.balance - min rent v.balance ≡ 0 = omega arith in q ∙ sym (rw (e, p))

pub ruleset pays = (active_pays, grace_pays, deleted_pays, active_short, grace_short, deleted_short, rules)
