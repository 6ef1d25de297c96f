-- `raw::raw_from`: the pair of each turn is at the length of what the lists have yielded, and the shorter list ends it. Assumes nothing.
use Rattle.std.proofs.Common.{refl, ◌∙◌, rules, length, length-append}
use Rattle.std.proofs.lemmas.Slice.Zip.{zip_turn, zip_end}
use Rattle.rents.proofs.RawLaws.{raw_adds, raw_skips, raw_over}
use Rattle.rents.proofs.raw.raw_from.Goals as goal

pub loop-number-preserved-then-is_number : goal.loop-number-preserved-then-is_number
loop-number-preserved-then-is_number c =
    let turn =
    zip_turn c.args.numbers.now c.args.sizes.now c.loop-number.yielded c.into_iter-number-iterator.result c.loop-number.number-iterator c.next.new.self
    c.next.result (search rules) (search rules) c.loop-number.yielded_by (c.in-Some.number, c.in-Some.size) c.in-Some.is c.next.ensures.steps in
    rw length-append
    (raw_adds c.args.n c.args.numbers.now c.args.sizes.now (length c.loop-number.yielded) c.loop-number.sum c.loop-number.invariant c.is_number.result _
    turn.0 turn.1 (c.is_number.ensures ∙ rw (turn.2 0)) c.if-is_number.true (c.saturating_add-sum.ensures ∙ rw (turn.3 0)))

pub loop-number-preserved : goal.loop-number-preserved
loop-number-preserved c =
    let turn =
    zip_turn c.args.numbers.now c.args.sizes.now c.loop-number.yielded c.into_iter-number-iterator.result c.loop-number.number-iterator c.next.new.self
    c.next.result (search rules) (search rules) c.loop-number.yielded_by (c.in-Some.number, c.in-Some.size) c.in-Some.is c.next.ensures.steps in
    rw length-append
    (raw_skips c.args.n c.args.numbers.now c.args.sizes.now (length c.loop-number.yielded) c.loop-number.sum c.loop-number.invariant c.is_number.result _
    turn.0 turn.1 (c.is_number.ensures ∙ rw (turn.2 0)) c.if-is_number.false refl)

pub returns : goal.returns
returns c =
    raw_over c.args.n c.args.numbers.now c.args.sizes.now (length c.loop-number.yielded) c.loop-number.sum c.loop-number.invariant
    (zip_end c.args.numbers.now c.args.sizes.now c.loop-number.yielded c.into_iter-number-iterator.result c.loop-number.number-iterator c.next.new.self
    c.next.result (search rules) (search rules) c.loop-number.yielded_by c.in-None.is c.next.ensures.steps)
