use lib.ListN.{length-drop}
use mathlib.Core.Path.{◌∙◌}
use native.Mathlib.Omega.{arith}
use Rattle.low.proofs.tx_at.Goals as goal

pub row-requires : goal.row-requires
row-requires c = rw (c.rows.ensures, length-drop) (let a = c.requires.0 in omega arith)

pub tx_of-requires : goal.tx_of-requires
tx_of-requires c = rw (c.row.ensures.0, c.rows.ensures) c.requires.1

pub returns : goal.returns
returns c = (c.tx_of.ensures.0 ∙ (rw (c.row.ensures.0, c.rows.ensures)), c.tx_of.ensures.1)
