use Rattle.std.proofs.Common.{rules}
use Rattle.records.specs.Tx.{read_key, read_version, write_key, write_value}
use Rattle.writing.proofs.Laid.{tx_puts}
use Rattle.writing.proofs.put_tx.Goals as goal

pub returns : goal.returns
returns c =
    let reads = c.put_items-at.ensures.bytes read_key read_version (λ x y p. search rules) in
    let writes = c.put_items.ensures.bytes write_key write_value (λ x y p. search rules) in
    (tx_puts c.args.x (search rules) (search rules) c.put_head-at.ensures reads writes, search rules)
