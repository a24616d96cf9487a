-- A mark's number names the mark again, by itself and as a message has it.
use Rattle.std.proofs.Common.{◌≡◌, refl}
use Rattle.std.specs.Prelude.{Ok}
use Rattle.records.specs.declared.Mark.{Mark}
use Rattle.records.specs.declared.Mark.TheVariants.{PR, LG, DC, RD, IV, LD}
use Rattle.records.specs.declared.Message.{Message}
use Rattle.arrays.specs.Arrays.{number_of_mark, mark_in, mark_number, marked_by}

pub mark_alone_named : (k : Mark) → marked_by (number_of_mark k) ≡ Ok k
unfolding marked_by
mark_alone_named PR = refl
mark_alone_named LG = refl
mark_alone_named DC = refl
mark_alone_named RD = refl
mark_alone_named IV = refl
mark_alone_named LD = refl

pub mark_named : (m : Message) → marked_by (mark_number (Ok m)) ≡ Ok (mark_in m)
mark_named m = mark_alone_named (mark_in m)
