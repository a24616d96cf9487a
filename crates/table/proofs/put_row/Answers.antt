use Rattle.std.proofs.Common.{◌≡◌, ◌/◌, ◌%◌, ◌^◌, ◌<◌, arith, rules}
use Rattle.terms.specs.declared.View.{View}
use Rattle.records.specs.Numbers.{le_bytes}
use Rattle.rules.specs.Answers.{log_view}
use Rattle.table.specs.Table.{view_bytes}
use Rattle.table.proofs.Copying.{row_put}
use Rattle.table.proofs.put_row.Goals as goal

-- what `put_u16` puts down of a view, which code has in sixteen bits
put_down : (v : View) → v.0 < 2 ^ 16 → le_bytes 2 v.0 ≡ view_bytes v
put_down v h = let u : v.0 / 256 % 256 ≡ v.0 / 256 = omega arith in rw u

pub returns : goal.returns
returns c =
    let l = put_down (log_view c.args.x.log) (rw (← c.log_view.ensures) (search rules)) in
    let v = put_down c.args.x.view (search rules) in
    let p = row_put c.args.e.now c.args.body.now c.args.x in
    rw (c.put_body.ensures, c.put_u16-2.ensures, c.put_u16.ensures, c.log_view.ensures, c.put_codes.ensures) (grind arith)
