-- `loading::load_row` meets its contract: a relay without a shard of it stays, another takes one where its numbers have room. Assumes nothing.
use Rattle.std.proofs.Common.{◌∙◌, arith}
use Rattle.placing.proofs.LoadLaws.{loads-row, too_many_bytes, too_many_shards}
use Rattle.placing.proofs.loading.load_row.Goals as goal

pub returns-then-not-any_number : goal.returns-then-not-any_number
returns-then-not-any_number c = search loads-row

pub returns-in_err-checked_add : goal.returns-in_err-checked_add
returns-in_err-checked_add c =
    c.from_residual.ensures
    ∙ too_many_bytes c.args.bytes _ c.args.row c.any_number.result c.any_number.ensures c.if-not-any_number.false (omega (arith, c.in_err-checked_add.ensures))

pub returns-in_err-checked_add-2 : goal.returns-in_err-checked_add-2
returns-in_err-checked_add-2 c =
    c.from_residual-in_err-checked_add-2.ensures
    ∙ too_many_shards c.args.bytes _ c.args.row c.any_number.result c.any_number.ensures c.if-not-any_number.false
    (omega (arith, c.in_ok-checked_add.ensures))
    (omega (arith, c.in_err-checked_add-2.ensures))

pub returns : goal.returns
returns c = search loads-row
