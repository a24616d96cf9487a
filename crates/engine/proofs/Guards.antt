-- Checks in front of an act.
use mathlib.Core.Path.{◌≡◌, refl}
use Rattle.std.specs.Prelude.{Ok, Err}
use Rattle.terms.specs.Checks.{Check, passed, or_else}
use Rattle.terms.specs.declared.Refusal.{Refusal}
use Rattle.rules.specs.Calls.{Act, guarded, refuse}

pub through : (c : Check) (x : Act) → c ≡ passed → x ≡ guarded c x
unfolding guarded
through c x p = rw p

pub halted : {c : Check} (r : Refusal) (x : Act) → c ≡ Err r → refuse r ≡ guarded c x
unfolding guarded
halted r x p = rw p

pub guarded_or : (a b : Check) (x : Act) → guarded (or_else a b) x ≡ guarded a (guarded b x)
unfolding guarded or_else
guarded_or (Ok _) b x = refl
guarded_or (Err r) b x = refl
