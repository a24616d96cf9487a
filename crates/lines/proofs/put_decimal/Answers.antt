use Rattle.std.proofs.Common.{◌≡◌, ◌∙◌, sym, arith}
use Rattle.lines.specs.Lines.{decimal}
use Rattle.lines.proofs.Decimals.{decimal_is, decimal_short}
use Rattle.lines.proofs.Putting.{puts_text}
use Rattle.lines.proofs.put_decimal.Goals as goal

pub put_text-requires : goal.put_text-requires
put_text-requires c =
    let e : c.as_bytes.result.now ≡ decimal c.args.x = c.as_bytes.ensures.value ∙ c.format.ensures.text ∙ sym (decimal_is c.args.x (omega arith)) in
    rw e (omega (arith, decimal_short c.args.x))

pub returns : goal.returns
returns c =
    let e : c.as_bytes.result.now ≡ decimal c.args.x = c.as_bytes.ensures.value ∙ c.format.ensures.text ∙ sym (decimal_is c.args.x (omega arith)) in
    puts_text (rw e at c.put_text.ensures) (decimal_short _)
