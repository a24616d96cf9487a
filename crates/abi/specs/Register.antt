-- The passage register in numbers and arrays.
use Rattle.std.specs.Prelude.{ℕ, List, [], ◌∷◌, get_or, Result, Ok, Err}
use Rattle.terms.specs.declared.Refusal.{Refusal}
use Rattle.records.specs.declared.Transaction.{Transaction}
use Rattle.rules.specs.declared.Version.{Version}
use Rattle.arrays.specs.Arrays.{TxFields, tx_fields, tx_fields_of, refusal_number, tx_or_none}
use Rattle.passage.specs.declared.Values.{Values}
use Rattle.passage.specs.declared.Seen.{Seen}
use Rattle.passage.specs.declared.Asked.{Asked}
use Rattle.passage.specs.declared.Report.{Report}

-- what was seen, lent as four versions and four values in the order of the keys
abbrev pub lent_version : List ℕ → List ℕ → ℕ → Version
lent_version versions values i = record { stamp = record { 0 = get_or versions i 0 }; value = get_or values i 0 }

unfoldable pub lent_seen : List ℕ → List ℕ → Seen
lent_seen versions values =
    record {
      train = lent_version versions values 0;
      direction = lent_version versions values 1;
      axles = lent_version versions values 2;
      hot = lent_version versions values 3;
    }

unfoldable pub lent_values : List ℕ → Values
lent_values v = record { train = get_or v 0 0; direction = get_or v 1 0; axles = get_or v 2 0; hot = get_or v 3 0 }

-- the keys of the four RDs; zeros where they are refused
abbrev pub asked_keys : Result Asked Refusal → List ℕ
asked_keys (Ok a) = a.train.key.0 ∷ a.direction.key.0 ∷ a.axles.key.0 ∷ a.hot.key.0 ∷ []
asked_keys (Err r) = 0 ∷ 0 ∷ 0 ∷ 0 ∷ []

-- a report: 0 and its four numbers, or the refusal's number and zeros
abbrev pub report_number : Result Report Refusal → ℕ
report_number x = refusal_number x

abbrev pub report_row : Result Report Refusal → List ℕ
report_row (Ok r) = r.train ∷ r.direction ∷ r.axles ∷ r.hot ∷ []
report_row (Err r) = 0 ∷ 0 ∷ 0 ∷ 0 ∷ []

-- what was made: its refusal's number or 0, and the transaction in the arrays that the writers take; zeros where it is refused
pub record Lent : Type 0 where
  pub number : ℕ
  pub tx : TxFields

abbrev pub made : ℕ → List ℕ → List ℕ → List ℕ → List ℕ → Lent
made n reads versions writes values = record { number = n; tx = tx_fields reads versions writes values }

unfoldable pub made_of : Result Transaction Refusal → Lent
made_of m = record { number = refusal_number m; tx = tx_fields_of (tx_or_none m) }
