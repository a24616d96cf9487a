use mathlib.Core.Path.{◌≡◌, ◌∙◌}
use mathlib.Core.Bool.{false}
use Rattle.std.proofs.Common.{rules}
use Rattle.terms.specs.Choice.{any}
use Rattle.rules.specs.Tests.{test4}
use Rattle.table.specs.Table.{entries}
use Rattle.scans.specs.Keys.{lacks, keys_written}
use Rattle.scans.specs.Scans.{hit4}
use Rattle.scans.proofs.Visits.{found_any}
use Rattle.scans.proofs.test_4.Goals as goal

pub returns : goal.returns
unfolding test4 hit4
returns c =
    let k : any (lacks c.add_keys.new.keys) (keys_written c.args.b.now) ≡ false = rw (← c.writes_from.ensures, ← c.write_count.ensures.0) c.add_keys.ensures in
    c.is_some.ensures ∙ found_any (hit4 c.args.b.now) (entries c.args.t.now c.args.n) (c.up_to.ensures (hit4 c.args.b.now) (λ e x r. search rules))
