-- For proofs by computation: `unfolding running` opens all that a box computes with, `unfolding tracing` all that a trace does.
use Prim.Native.Nat.{ℕ}
use Rattle.terms.specs.Checks.{or_else, when, if_less, if_same, if_other}
use Rattle.terms.specs.Group.{group_wrong, capacity_wrong}
use Rattle.records.specs.Numbers.{num_at}
use Rattle.records.specs.Tx.{tx_of, tx_bytes, read_at, write_at}
use Rattle.records.specs.Views.{ballot_from, ballot_at, views_of, ballot_bytes, led_bytes, views_bytes}
use Rattle.records.specs.Vl.{view_len, view_of, view_bytes, vl_of, vl_bytes, pair_at}
use Rattle.records.specs.Contents.{tx_wrong, list_wrong, log_list_wrong, code_wrong, rd_wrong, counts_wrong, count_wrong, views_wrong}
use Rattle.records.specs.Cutting.{tx_part, list_part, tx_cut, vl_cut, views_cut, listed_cut, viewed_cut, listed_len, viewed_len, rest_cut, message_cut, message_len}
use Rattle.records.specs.Cutting.{behind_wrong, mark_wrong}
use Rattle.records.specs.Messages.{list_behind, views_behind, contents_wrong, due_refusal, is_mark, mark_of}
use Rattle.records.specs.Writing.{pr_bytes, listed_bytes, viewed_bytes, rd_bytes}
use Rattle.rules.specs.Answers.{apart_from_number}
use Rattle.rules.specs.Bodies.{stamp_of, reads_of, writes_of, same_body, writes_key}
use Rattle.rules.specs.Lists.{kind_of, decision_of, bit, tally, meets, lacking}
use Rattle.rules.specs.Table.{empty, find, put, live_by, live}
use Rattle.rules.specs.Tests.{test1, live_writer, is_low, is_folded, names, test2, undercut, fold_above, test3, test4, test5, status_by, status_of}
use Rattle.rules.specs.Tests.{status_folded, status, waiting_rule, first_vote}
use Rattle.rules.specs.Visits.{through, look_up, version_up, key_by_key, visits2, fails3, fails4, visits3, visits4, waiting_visits, test_visits, first_visits}
use Rattle.rules.specs.Visits.{again_visits}
use Rattle.rules.specs.Calls.{guarded, old_wrong, version_or, is_full, room_for, needing, same_decision, cast_act, pr_by_vote, pr_by_decision, pr_by_entry, pr_rule}
use Rattle.rules.specs.Calls.{log_act, lg_by_log}
use Rattle.rules.specs.Calls.{lg_by_decision, lg_by_entry, lg_rule, decide_act, dc_same, dc_other, dc_by_entry, dc_rule, better, newest, value_at}
use Rattle.rules.specs.Calls.{version_of, is_committed, is_undecided, rd_answer, look_act, rd_rule}
use Rattle.rules.specs.Fallback.{leader_of, reach, higher, reached, by_few, by_many, next_view, elect_act, iv_by_log, iv_by_decision, iv_by_entry, iv_rule}
use Rattle.rules.specs.Fallback.{one_view, leads, may_take, take_act, ld_by_decision, ld_by_entry, ld_rule}
use Rattle.rules.specs.Low.{up_to, open_up_to, low_wrong, low_rule, newer_fold, fold_up_to, folds_up_to, above}
use Rattle.rules.specs.Act.{told_wrong, unless_old, rule, due_act, marked_act, due_mark, mark_by, act_by, act, table_after, raise, marks_after, low_after}
use Rattle.rules.specs.Act.{folds_after, box_after, after}
use Rattle.rules.specs.System.{box_at, answer_to, word, cast, vote_word, word_in, same_word, is_word, gives_now, gave, how_many}
use Rattle.rules.specs.Cases.{got, LM, replay, given, due, line, case, read, write, tx, writes, reads, pairs, list, PR, LG, DC, RD, commits, waits}
use Rattle.rules.specs.Cases.{aborts, logs0, lg, dc, iv, ld, logs_at, ballots_of, seen, elections, few, found}
use Rattle.rules.specs.Vectors.{group, marked, lent, at_first, viewed, entry, logs_in, elects, zeros, stores, run, held, wanted}

unfoldable checks : ℕ
unfolding or_else when if_less if_same if_other group_wrong capacity_wrong
checks = 0

unfoldable bytes : ℕ
unfolding num_at read_at write_at tx_of tx_bytes view_len view_of view_bytes pair_at vl_of vl_bytes pr_bytes listed_bytes rd_bytes
bytes = 0

unfoldable views : ℕ
unfolding ballot_from ballot_at views_of ballot_bytes led_bytes views_bytes views_wrong views_cut viewed_cut viewed_len views_behind viewed_bytes
views = 0

unfoldable reading : ℕ
unfolding counts_wrong count_wrong tx_wrong code_wrong list_wrong log_list_wrong rd_wrong mark_wrong tx_cut vl_cut behind_wrong tx_part list_part
reading = 0

unfoldable messages : ℕ
unfolding listed_cut listed_len rest_cut message_cut message_len list_behind contents_wrong due_refusal is_mark mark_of
messages = 0

unfoldable tables : ℕ
unfolding stamp_of reads_of writes_of same_body writes_key kind_of decision_of bit tally meets lacking empty find put live_by live
tables = 0

unfoldable testing : ℕ
unfolding test1 live_writer is_low is_folded names test2 undercut fold_above test3 test4 test5 status_by status_of status_folded status waiting_rule first_vote
testing = 0

unfoldable visiting : ℕ
unfolding through look_up version_up key_by_key visits2 fails3 fails4 visits3 visits4 waiting_visits test_visits first_visits again_visits
visiting = 0

unfoldable calling : ℕ
unfolding guarded old_wrong is_full room_for needing same_decision cast_act pr_by_vote pr_by_decision pr_by_entry pr_rule log_act lg_by_log lg_by_decision lg_by_entry lg_rule
calling = 0

unfoldable deciding : ℕ
unfolding decide_act dc_same dc_other dc_by_entry dc_rule better newest value_at version_or version_of is_committed is_undecided rd_answer look_act rd_rule
deciding = 0

unfoldable moving : ℕ
unfolding leader_of reach higher reached by_few by_many next_view elect_act iv_by_log iv_by_decision iv_by_entry iv_rule
moving = 0

unfoldable leading : ℕ
unfolding one_view leads may_take take_act ld_by_decision ld_by_entry ld_rule
leading = 0

unfoldable folding : ℕ
unfolding up_to open_up_to low_wrong low_rule newer_fold fold_up_to folds_up_to above
folding = 0

unfoldable acting : ℕ
unfolding told_wrong unless_old rule due_act marked_act due_mark mark_by act_by act table_after raise marks_after low_after folds_after box_after after
acting = 0

unfoldable sending : ℕ
unfolding apart_from_number got LM replay given due line case read write tx writes reads pairs list PR LG DC RD lg dc iv ld logs_at ballots_of seen elections few found commits waits aborts logs0
sending = 0

unfoldable lending : ℕ
unfolding group marked lent at_first viewed entry logs_in elects zeros run held wanted stores
lending = 0

unfoldable pub running : ℕ
unfolding checks bytes views reading messages tables testing visiting calling deciding moving leading folding acting sending lending
running = 0

unfoldable pub tracing : ℕ
unfolding running box_at answer_to word cast vote_word word_in same_word is_word gives_now gave how_many
tracing = 0
