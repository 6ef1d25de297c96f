-- The fold says what `all_of` says.
use Rattle.std.proofs.Common.{true, ◌&&◌, ◌∙◌, rules, tests}
use Rattle.std.proofs.lemmas.Iterator.{YieldsList-from_slice}
use Rattle.std.proofs.lemmas.Iterator.Consumers.{fold_from_yields_List}
use Rattle.lists.specs.LibraryLaws.{fold_all}
use Rattle.text.specs.Text.{is_path_byte}
use Rattle.text.proofs.path.path_bytes.Goals as goal

pub returns : goal.returns
returns c =
    fold_from_yields_List _ (λ all b. all && is_path_byte b) true _ c.fold.ensures.ran (YieldsList-from_slice c.args.s.now cc)
    (λ a x b q k. search (rules, tests))
    ∙ fold_all is_path_byte c.args.s.now
