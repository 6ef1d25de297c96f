-- `price::effective_size` meets its contract: within the limits its product fits. Assumes nothing.
use Rattle.std.proofs.Common.{◌∙◌}
use Rattle.rules.proofs.Laws.CeilLaws.{ceil_rounded}
use Rattle.rents.proofs.PriceLaws.{k_some, effective_is, effective_most}
use Rattle.rents.proofs.price.effective_size.Goals as goal

pub returns : goal.returns
returns c =
    let rounded = rw (c.from.ensures, c.from-2.ensures, c.from-3.ensures) at c.div_ceil.ensures in
    let whole = rounded ∙ ceil_rounded _ _ (k_some c.args.k c.args.m c.args.raw c.requires.0 c.requires.1) in
    (effective_is c.args.k c.args.m c.args.raw c.requires.0 c.requires.1 _ whole, effective_most c.args.k c.args.m c.args.raw c.requires.0 c.requires.1 _ whole)
