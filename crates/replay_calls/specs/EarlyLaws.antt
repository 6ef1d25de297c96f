-- A commit whose first checks are asked before its limits is the rule, where the work of a commit is: on tables that calls reach. Assumes nothing.
use Rattle.std.specs.Prelude.{◌≡◌, refl, Bool, true, false, ℕ, eqb}
use Rattle.std.proofs.Common.{sym}
use Rattle.std.proofs.lemmas.Bool.{eqb-false}
use Rattle.rules.specs.declared.Session.{Session}
use Rattle.rules.specs.declared.Tables.{Tables}
use Rattle.rules.specs.Commit.{commit_rule}
use Rattle.commits.specs.Within.{commit_within}
use Rattle.first_checks.specs.Early.{early_number, early_refused}
use Rattle.kept_commits.specs.Early.{early_or, commit_early}

pub early_rule : (t : Tables) (s : Session) → commit_within t s ≡ commit_rule t s → commit_early t s ≡ commit_rule t s
unfolding commit_early
early_rule t s w = by (early_number t.clock t.volumes t.tokens s) refl
  where
    by : (n : ℕ) → n ≡ early_number t.clock t.volumes t.tokens s → early_or t s n ≡ commit_rule t s
    by n e = go (eqb n 0) refl
      where
        go : (b : Bool) → eqb n 0 ≡ b → early_or t s n ≡ commit_rule t s
        go true q = rw q w
        go false q = rw q (sym (early_refused t s n e (eqb-false n 0 q)))
