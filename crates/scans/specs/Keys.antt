-- A set of keys, asked before a row's keys are compared: what it lets out cannot clash.
use Rattle.std.specs.Prelude.{ℕ, ◌+◌, ◌*◌, ◌/◌, ◌%◌, ◌^◌, Bool, not, List, eqb, get_or, set}
use Rattle.std.specs.Int.Bits.{bit_or}
use Rattle.terms.specs.Choice.{tab}
use Rattle.records.specs.Numbers.{num_at}
use Rattle.records.specs.Tx.{r_count, w_count, writes_from}
use Rattle.rules.specs.Bodies.{Body}

-- whether a key may be in a set: eight words of 64 bits, so that each key of a message has a bit of its own
unfoldable pub in_keys : List ℕ → ℕ → Bool
in_keys ks k = eqb (get_or ks (k / 64 % 8) 0 / 2 ^ (k % 64) % 2) 1

-- the set with one key more
unfoldable pub with_key : List ℕ → ℕ → List ℕ
with_key ks k = set ks (k / 64 % 8) (bit_or (get_or ks (k / 64 % 8) 0) (2 ^ (k % 64)))

-- whether a key is not in a set
unfoldable pub lacks : List ℕ → ℕ → Bool
lacks ks k = not (in_keys ks k)

-- the keys of n reads or writes that begin at p
unfoldable pub keys_at : Body → ℕ → ℕ → List ℕ
keys_at b p n = tab (λ j. num_at 2 (p + j * 10) b) 0 n

-- "a key read here"
abbrev pub keys_read : Body → List ℕ
keys_read b = keys_at b 12 (r_count b)

-- "a key written here"
abbrev pub keys_written : Body → List ℕ
keys_written b = keys_at b (writes_from b) (w_count b)
