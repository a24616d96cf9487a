-- What the bench prints, by what it read; and how it answers for the buffer that it was lent.
use Prim.Native.Nat.{ℕ, ◌+◌, ◌≤◌, ◌<◌}
use native.Mathlib.Omega.{arith}
use mathlib.Core.Path.{◌≡◌, refl, ap, sym, ◌∙◌}
use mathlib.Core.List.{List, [], ◌++◌}
use lib.ListN.{length, drop}
use borrow.Author.Tests.{lt-ltb, le-ltb}
use Rattle.std.specs.Prelude.{Result, Ok, Err}
use Rattle.terms.specs.Checks.{passed, or_else}
use Rattle.terms.specs.declared.Refusal.{Refusal}
use Rattle.terms.proofs.Checks.{not_less}
use Rattle.records.specs.Writing.{wrote_by, buffer_by}
use Rattle.rules.specs.declared.Answer.TheVariants.{Refused}
use Rattle.lines.specs.declared.Said.{Said}
use Rattle.lines.specs.declared.Said.TheVariants.{Answered}
use Rattle.lines.specs.Lines.{line_of, put_at, Puts}
use Rattle.replay.specs.Bench.{longest, too_long, gp_refusal, cut_or, run_text, bench_text, room, room_wrong, wrote_in}
use Rattle.replay.proofs.Cuts.{yes, no}
use Rattle.replay.proofs.Running.{cut_is, cut_passes}

-- ---- the text
module _ (s : List ℕ) where
  pub text_long : longest < length s → bench_text s ≡ too_long
  unfolding bench_text
  text_long h = yes _ _ _ (lt-ltb _ _ h)

  module _ (few : length s ≤ longest) where
    pub text_none : length s ≡ 0 → bench_text s ≡ []
    unfolding bench_text
    text_none e = no _ _ _ (le-ltb _ _ few) ∙ no _ _ _ (le-ltb 0 (length s) (omega arith))

    module _ (some : length s ≡ 0 → ⊥) where
      text_first : bench_text s ≡ cut_or (gp_refusal s) 0 s (run_text s)
      unfolding bench_text
      text_first = no _ _ _ (le-ltb _ _ few) ∙ yes _ _ _ (lt-ltb 0 (length s) (omega arith))

      pub text_refused : {r : Refusal} {what : Said} → gp_refusal s ≡ Err r → what ≡ Answered (Refused r) → bench_text s ≡ line_of 0 s what
      text_refused e h = text_first ∙ cut_is _ _ _ e ∙ ap (line_of 0 s) (sym h)

      pub text_run : gp_refusal s ≡ passed → bench_text s ≡ run_text s
      text_run z = text_first ∙ cut_passes _ _ _ z

-- ---- the answer and the buffer
pub wide : (out : List ℕ) → room_wrong out ≡ passed → room ≤ length out
unfolding room_wrong
wide out z = not_less _ _ _ z

module _ (s out : List ℕ) where
  abbrev pub Printed : Result ℕ Refusal → List ℕ → Type 0
  Printed r after = (r ≡ wrote_by (room_wrong out) (bench_text s)) × (after ≡ buffer_by (room_wrong out) (bench_text s) out) × (wrote_in r ≤ room)

  pub no_room : {r : Refusal} → room_wrong out ≡ Err r → Printed (Err r) out
  unfolding wrote_by buffer_by or_else
  no_room e = rw e (refl, refl, omega arith)

  module _ (passes : room_wrong out ≡ passed) where
    pub printed : (text after : List ℕ) (n most : ℕ) → bench_text s ≡ text → Puts out 0 text most after n → most ≤ room → Printed (Ok n) after
    unfolding wrote_by buffer_by or_else put_at
    printed text after n most e p fits =
        let z : 0 + length text ≡ length text = omega arith in
        rw (passes, e) (ap Ok (p.place ∙ z), p.written ∙ ap (λ (k : ℕ). text ++ drop k out) z, let a = p.place in let b = p.short in omega arith)

    pub printed_none : bench_text s ≡ [] → Printed (Ok 0) out
    unfolding wrote_by buffer_by or_else
    printed_none e = rw (passes, e) (refl, refl, omega arith)
