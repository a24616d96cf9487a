-- A10 of calls is not empty: the rules' panel, on tables of zeros.
use Rattle.std.specs.Prelude.{◌++◌}
use Rattle.terms.specs.declared.Decision.TheVariants.{Commit as commit}
use Rattle.records.specs.Tx.{tx_bytes}
use Rattle.rules.specs.Cases.{writes}
use Rattle.rules.specs.System.{ProofBy}
use Rattle.rules.specs.SlipUnder.{NoneHeld}
use Rattle.rules.specs.Traces.{liar}
use Rattle.rules.specs.Panel.{afterwards, looked}
use Rattle.engine.specs.Safety.{FairCalls, gave_by}
use Rattle.engine.specs.SlipUnder.{kept_for}
use Rattle.engine.specs.Busy.{eight}

pub record PanelCalls : Type 0 where
  pub fair : FairCalls 1 liar eight (afterwards ++ looked)
  pub none_held : NoneHeld 1 liar (kept_for 1 eight) 3 90 (tx_bytes (writes 60 3)) looked
  pub never : ProofBy 1 liar (gave_by 1 eight (afterwards ++ looked)) (tx_bytes (writes 60 3)) commit → ⊥
  pub other_commits : ProofBy 1 liar (gave_by 1 eight (afterwards ++ looked)) (tx_bytes (writes 95 3)) commit
  pub equal_commits : ProofBy 1 liar (gave_by 1 eight (afterwards ++ looked)) (tx_bytes (writes 90 3)) commit
