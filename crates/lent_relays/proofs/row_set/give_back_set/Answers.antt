-- Each row is changed where its bit is set, and else left.
use Rattle.std.proofs.Common.{rules, ◌∙◌}
use Rattle.rows.specs.Blank.{blank_relay}
use Rattle.lists.specs.RowLaws.{rows_length}
use Rattle.lent_relays.specs.RowSetLaws.{set_start, set_end, set_out, set_in}
use Rattle.lent_relays.proofs.row_set.give_back_set.Goals as goal
use Rattle.lent_relays.proofs.row_set.give_back_set.Goals.{then-in_set, else-in_set}

pub loop-i-init : goal.loop-i-init
loop-i-init c = search (set_start, rows_length, rules)

pub loop-i-preserved : goal.loop-i-preserved
loop-i-preserved c =
    elim c.if-in_set.branch [ then-in_set w ↦ set_in c.args.set c.args.bytes _ 32 c.loop-i.i c.loop-i.left blank_relay c.loop-i.invariant c.loop-i-test.true _ _ c.in_set.ensures w.if-in_set.true (w.left-is ∙ w.give_back_row.ensures) | else-in_set w ↦ rw w.left-is (set_out c.args.set c.args.bytes _ 32 c.loop-i.i c.loop-i.left blank_relay c.loop-i.invariant c.loop-i-test.true _ c.in_set.ensures w.if-in_set.false) ]

pub returns : goal.returns
returns c = search (set_end, rows_length, rules)
