-- The fold from the last byte says what is known of all the parts.
use Rattle.std.proofs.Common.{true, ap, ◌∙◌, rules, tests}
use Rattle.std.proofs.lemmas.Iterator.Adapters.{YieldsList-from_rev_slice}
use Rattle.std.proofs.lemmas.Iterator.Consumers.{fold_from_yields_List}
use Rattle.text.specs.Scan.{passes, scan_byte}
use Rattle.text.specs.PathLaws.{known_whole, known_passes}
use Rattle.text.specs.declared.path.Kind.TheVariants.{Empty}
use Rattle.text.proofs.path.parts_pass.Goals as goal

pub returns : goal.returns
returns c =
    let s = c.args.s.now in
    let scanned =
    fold_from_yields_List _ (λ k b. scan_byte b k) (record { first = Empty; rest = true }) _ c.fold-all.ensures.ran (YieldsList-from_rev_slice s cc)
    (λ a x b q k. search (rules, tests)) in
    c.passes.ensures ∙ ap passes (scanned ∙ known_whole s) ∙ known_passes s
