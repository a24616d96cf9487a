-- Laws of what is asked and made.
use Rattle.std.proofs.Common.{ℕ, ◌≤◌, ◌≡◌, refl}
use Rattle.terms.specs.Checks.{passed}
use Rattle.terms.proofs.Checks.{first_none, not_less}
use Rattle.records.specs.Tx.{tx_in, held_tx}
use Rattle.passage.specs.declared.Values.{Values}
use Rattle.passage.specs.declared.Seen.{Seen}
use Rattle.passage.specs.Passages.{passage_wrong, asks_wrong}
use Rattle.passage.specs.Corrections.{passage_tx}

pub low : (p : ℕ) → passage_wrong p ≡ passed → p ≤ 127
unfolding passage_wrong
low p e = not_less _ _ _ e

pub asks_low : (p s : ℕ) → asks_wrong p s ≡ passed → p ≤ 127
unfolding asks_wrong
asks_low p s e = low p (first_none _ _ e)

-- the struct holds the transaction
pub tx_held : (p : ℕ) (s : Seen) (stamp : ℕ) (v : Values) → tx_in (held_tx (passage_tx p s stamp v)) ≡ passage_tx p s stamp v
unfolding tx_in held_tx passage_tx
tx_held p s stamp v = refl
