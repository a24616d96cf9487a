-- What is put down of a reading's parts is what is put down of the reading.
use Rattle.std.proofs.Common.{◌≡◌, refl}
use Rattle.std.specs.Prelude.{Result, Ok, Err}
use Rattle.terms.specs.declared.Refusal.{Refusal}
use Rattle.records.specs.declared.Message.{Message}
use Rattle.records.specs.declared.Message.TheVariants.{PR as pr, LG as lg, DC as dc, RD as rd, IV as iv, LD as ld}
use Rattle.arrays.specs.Arrays.{parts_of, parts_fields, fields_of}

pub parts_put : (x : Result Message Refusal) → parts_fields (parts_of x) ≡ fields_of x
unfolding parts_fields fields_of
parts_put (Ok (pr x)) = refl
parts_put (Ok (lg x l)) = refl
parts_put (Ok (dc x l)) = refl
parts_put (Ok (rd k s)) = refl
parts_put (Ok (iv x l)) = refl
parts_put (Ok (ld x l)) = refl
parts_put (Err r) = refl
