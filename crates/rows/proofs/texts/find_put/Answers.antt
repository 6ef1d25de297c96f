use Rattle.std.proofs.Common.{◌∙◌, rules, tests}
use Rattle.std.proofs.lemmas.Iterator.{YieldsList-from_slice, YieldsList-from_take}
use Rattle.std.proofs.lemmas.Iterator.Search.{position_from_yields_List}
use Rattle.lists.specs.LibraryLaws.{position_first}
use Rattle.rules.specs.Tables.{is_put}
use Rattle.rows.proofs.texts.find_put.Goals as goal

pub returns-clause-place : goal.returns-clause-place
returns-clause-place c =
    position_from_yields_List (is_put c.args.path.now) _ _ _ c.position.ensures.ran
    (YieldsList-from_take _ (YieldsList-from_slice c.args.rows.now cc) c.take.ensures.count) (λ x b q k. search (rules, tests))
    ∙ position_first _ _
