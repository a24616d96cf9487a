-- A contract that leaves something open, for a function that is lent two bytes to put a number down.
use Rattle.std.specs.Prelude.{◌≡◌, length}
use seplogic.Ra.Ura.{Ura}
use base.Logic.{emp}
use contract.Monad.{fact}
use denote.Triple.Clauses.{Clauses}
use Rattle.records.specs.contracts.put_u16

module _ {M : Type 1} (𝓤 : Ura M) where
  -- it says how many bytes are left there, and not which
  abbrev pub count_alone : Clauses 𝓤 put_u16.ended
  count_alone κs a = record { ghost = Unit {0}; requires = λ g. emp 𝓤; ensures = λ g r e. fact 𝓤 (length e.0.now ≡ 2) }
