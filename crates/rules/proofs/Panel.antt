-- The traces of specs/Panel, by computation.
use Prim.Native.Nat.{ℕ, zero, suc, ◌<◌}
use mathlib.Core.Bool.{◌||◌}
use mathlib.Core.Path.{◌≡◌, refl}
use mathlib.Core.Logic.{◌⊎◌, inl, inr}
use mathlib.Core.List.{List, [], ◌++◌}
use native.Mathlib.Omega.{arith}
use lib.Dec.{T, eqb, ltb, ltb→lt}
use Rattle.terms.specs.Group.{boxes}
use Rattle.terms.specs.declared.Refusal.TheVariants.{TooFew}
use Rattle.records.specs.Tx.{tx_bytes}
use Rattle.rules.specs.Answers.{ReadMark, Refused, apart_from_number, commit, votes}
use Rattle.rules.specs.Bodies.{stamp_of, writes_key}
use Rattle.rules.specs.Act.{receive}
use Rattle.rules.specs.System.{Event, Fair, Sound, answer_to, gave, how_many, vote}
use Rattle.rules.specs.SlipUnder.{NoneHeld, NoneShown, asks, ever_held, holds, is_found, is_rd, read_without, reads_now, shown_below, shows_below, shows_now, watched}
use Rattle.rules.specs.Cases.{PR, RD, aborts, found, lg, list, writes}
use Rattle.rules.specs.Traces.{at, each, liar, with_liar}
use Rattle.rules.specs.Panel.{Panel, Slipped, afterwards, asked, looked, slipped, three_asked, three_looked}
use Rattle.rules.proofs.Laws.{no_both, or_cases}
use Rattle.rules.proofs.Made.{provable, provable_proof}
use Rattle.rules.proofs.Running.{tracing}
use Rattle.rules.proofs.Traces.{checking, fair_by, fair_test, few}
use Rattle.rules.proofs.SlipUnder.{nothing_slips_under}

unfoldable looking : ℕ
unfolding holds ever_held is_rd asks is_found reads_now read_without shows_below shows_now shown_below asked looked afterwards three_asked three_looked slipped
looking = 0

-- a sound box below n is 0, 1 or 2; the liar is not sound
module _ (P : ℕ → Type 0) where
  two : P 0 → P 1 → (i : ℕ) → i < 2 → P i
  two a b zero h = a
  two a b (suc zero) h = b
  two a b (suc (suc i)) h = absurd (omega arith)

  three : P 0 → P 1 → P 2 → (i : ℕ) → i < 3 → P i
  three a b c zero h = a
  three a b c (suc zero) h = b
  three a b c (suc (suc zero)) h = c
  three a b c (suc (suc (suc i))) h = absurd (omega arith)

  or_liar : (n : ℕ) → ((i : ℕ) → i < n → P i) → (i : ℕ) → Sound 1 liar i → T (ltb i n || eqb i 5) → P i
  unfolding liar
  or_liar n p i s h = go (or_cases (ltb i n) (eqb i 5) h)
    where
      go : T (ltb i n) ⊎ T (eqb i 5) → P i
      go (inl y) = p i (ltb→lt i n y)
      go (inr y) = absurd (no_both (eqb i 5) y s.1)

abbrev Unheld : List Event → ℕ → ℕ → Type 0
Unheld es t i = T (read_without (watched 1 i) i 3 90 (tx_bytes (writes t 3)) es)

abbrev Unshown : List Event → ℕ → Type 0
Unshown es i = T (shown_below (watched 1 i) i 3 90 (stamp_of (tx_bytes (writes 60 3))) es)

record PanelTests : Type 0 where
  fair : T (fair_test 1 liar (afterwards ++ looked))
  enough : how_many asked (boxes 1) ≡ 4
  unheld_0 : Unheld looked 60 0
  unheld_1 : Unheld looked 60 1
  unheld_2 : Unheld looked 60 2
  unshown_0 : Unshown looked 0
  unshown_1 : Unshown looked 1
  unshown_2 : Unshown looked 2
  writes_it : T (writes_key (tx_bytes (writes 60 3)) 3)
  stamp : stamp_of (tx_bytes (writes 60 3)) ≡ 60
  liar_asked : T (asked 5)
  liar_lies : T (liar 5)
  shown : answer_to 1 (at receive 0 (RD 3 90)) (each receive 3 2 (PR (writes 60 3)) []) ≡ found 0 0 0 0
  held_elsewhere : T (ever_held (watched 1 3) (tx_bytes (writes 60 3)) looked)
  voted_elsewhere : T (gave 1 3 (tx_bytes (writes 60 3)) (vote commit) looked)
  stopped : apart_from_number (answer_to 1 (at receive 0 (PR (writes 60 3))) looked) ≡ aborts ReadMark
  one_short : answer_to 1 (at receive 0 (lg (writes 60 3) (list votes commit (with_liar 3 2 commit)))) (afterwards ++ looked) ≡ Refused (TooFew 1)
  other : T (provable 1 liar (afterwards ++ looked) (tx_bytes (writes 95 3)) commit)
  equal_0 : Unheld looked 90 0
  equal_1 : Unheld looked 90 1
  equal_2 : Unheld looked 90 2
  equal : T (provable 1 liar (afterwards ++ looked) (tx_bytes (writes 90 3)) commit)

panel_tests : PanelTests
unfolding tracing checking looking
panel_tests = record {
  fair = tt;
  enough = refl;
  unheld_0 = tt;
  unheld_1 = tt;
  unheld_2 = tt;
  unshown_0 = tt;
  unshown_1 = tt;
  unshown_2 = tt;
  writes_it = tt;
  stamp = refl;
  liar_asked = tt;
  liar_lies = tt;
  shown = refl;
  held_elsewhere = tt;
  voted_elsewhere = tt;
  stopped = refl;
  one_short = refl;
  other = tt;
  equal_0 = tt;
  equal_1 = tt;
  equal_2 = tt;
  equal = tt;
}

panel_fair : Fair 1 liar (afterwards ++ looked)
panel_fair = fair_by 1 liar (afterwards ++ looked) panel_tests.fair

panel_none_held : NoneHeld 1 liar (watched 1) 3 90 (tx_bytes (writes 60 3)) looked
unfolding asked
panel_none_held = record {
  asked = asked;
  enough = omega (arith, panel_tests.enough);
  answered = or_liar (Unheld looked 60) 3 (three (Unheld looked 60) panel_tests.unheld_0 panel_tests.unheld_1 panel_tests.unheld_2);
  writes = panel_tests.writes_it;
  below = omega (arith, panel_tests.stamp);
}

panel_none_shown : NoneShown 1 liar (watched 1) 3 90 (tx_bytes (writes 60 3)) looked
unfolding asked
panel_none_shown = record {
  asked = asked;
  enough = omega (arith, panel_tests.enough);
  answered = or_liar (Unshown looked) 3 (three (Unshown looked) panel_tests.unshown_0 panel_tests.unshown_1 panel_tests.unshown_2);
  writes = panel_tests.writes_it;
  below = omega (arith, panel_tests.stamp);
}

pub panel_trace : Panel
unfolding asked panel_none_held
panel_trace = record {
  fair = panel_fair;
  none_held = panel_none_held;
  these = refl;
  liar_asked = (panel_tests.liar_asked, panel_tests.liar_lies);
  shown = panel_tests.shown;
  none_shown = panel_none_shown;
  held_elsewhere = panel_tests.held_elsewhere;
  voted_elsewhere = panel_tests.voted_elsewhere;
  stopped = panel_tests.stopped;
  one_short = panel_tests.one_short;
  never = nothing_slips_under 1 liar few looked afterwards panel_fair 3 90 (tx_bytes (writes 60 3)) panel_none_held;
  other_commits = provable_proof 1 liar (afterwards ++ looked) _ commit panel_tests.other;
  equal_unheld = or_liar (Unheld looked 90) 3 (three (Unheld looked 90) panel_tests.equal_0 panel_tests.equal_1 panel_tests.equal_2);
  equal_commits = provable_proof 1 liar (afterwards ++ looked) _ commit panel_tests.equal;
}

record SlippedTests : Type 0 where
  fair : T (fair_test 1 liar (slipped ++ three_looked))
  asked_three : how_many three_asked (boxes 1) ≡ 3
  unheld_0 : Unheld three_looked 60 0
  unheld_1 : Unheld three_looked 60 1
  slips : T (provable 1 liar (slipped ++ three_looked) (tx_bytes (writes 60 3)) commit)

slipped_tests : SlippedTests
unfolding tracing checking looking
slipped_tests = record { fair = tt; asked_three = refl; unheld_0 = tt; unheld_1 = tt; slips = tt }

pub slipped_trace : Slipped
unfolding three_asked
slipped_trace = record {
  fair = fair_by 1 liar (slipped ++ three_looked) slipped_tests.fair;
  three = slipped_tests.asked_three;
  unheld = or_liar (Unheld three_looked 60) 2 (two (Unheld three_looked 60) slipped_tests.unheld_0 slipped_tests.unheld_1);
  slips = provable_proof 1 liar (slipped ++ three_looked) _ commit slipped_tests.slips;
}
