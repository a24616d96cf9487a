use mathlib.Core.Path.{◌≡◌, ◌∙◌}
use mathlib.Core.Bool.{false}
use Rattle.std.proofs.Common.{rules}
use Rattle.terms.specs.Choice.{any}
use Rattle.table.specs.Table.{entries}
use Rattle.scans.specs.Keys.{lacks, keys_read}
use Rattle.scans.specs.Scans.{hit3}
use Rattle.scans.proofs.Visits.{found_any}
use Rattle.scans.proofs.Rows.entries_3.Goals as goal

pub returns : goal.returns
returns c =
    let l = c.lowest_read-low.ensures in
    let k : any (lacks c.add_keys.new.keys) (keys_read c.args.b.bytes.now) ≡ false = rw (← c.read_count.ensures.0) c.add_keys.ensures in
    c.is_some.ensures ∙ found_any (hit3 c.args.b.bytes.now) (entries c.args.self.bytes.now c.args.self.n) (c.up_to.ensures (hit3 c.args.b.bytes.now) (λ e x r. search rules))
