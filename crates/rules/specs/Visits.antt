-- A6, "Say what one prepare may look at": the entries that a PR visits, counted in 01's order.
use Rattle.std.specs.Prelude.{ℕ, suc, ◌+◌, Bool, false, ◌&&◌, ◌||◌, List, [], ◌∷◌, ◌++◌, eqb, ltb, leb}
use Rattle.terms.specs.Choice.{any, pick}
use Rattle.records.specs.declared.Read.{Read}
use Rattle.records.specs.Tx.{read_key, read_version, write_key}
use Rattle.rules.specs.Answers.{unlogged, unsettled, unvoted, view_as}
use Rattle.rules.specs.Bodies.{Body, reads_of, stamp_of, writes_of}
use Rattle.rules.specs.Table.{Box, Told, Entry, live}
use Rattle.rules.specs.Tests.{fold_above, names_none, read_undercut, test1, test2, test3, test4, test5}

-- one for each entry that is gone through, up to the first that is looked for and with it
unfoldable pub through : (Entry → Bool) → List Entry → ℕ
through looked [] = 0
through looked (e ∷ es) = suc (pick (looked e) 0 (through looked es))

-- "one per entry passed over when a stamp is looked up"; "A look-up counts the entry it finds and stops there"
unfoldable pub look_up : ℕ → List Entry → ℕ
look_up s t = through (λ e. eqb (stamp_of e.body) s) t

-- of a version read, if it is "nonzero"; A11: "no look-up at or below L", and so none of 0
unfoldable pub version_up : ℕ → List Entry → Read → ℕ
version_up low t r = pick (leb (read_version r) low) 0 (look_up (read_version r) t)

-- "tests 2 to 4 go key by key .. and stop at the first that fails"
module _ {K : Type 0} where
  unfoldable pub key_by_key : (K → ℕ) → (K → Bool) → List K → ℕ
  key_by_key visits fails [] = 0
  key_by_key visits fails (k ∷ ks) = visits k + pick (fails k) 0 (key_by_key visits fails ks)

-- test 2 looks up each version
unfoldable pub visits2 : Box → Body → ℕ
visits2 x b = key_by_key (version_up x.low x.table) (names_none x) (reads_of b)

-- "3 and 4 through the entries": an entry that fails test 3 at one key read here, and one that fails test 4 at one key written here
unfoldable pub fails3 : Body → Read → Entry → Bool
fails3 b r e = live e && read_undercut (stamp_of b) e.body r

unfoldable pub fails4 : Body → ℕ → Entry → Bool
fails4 b k e = live e && any (λ r. eqb k (read_key r) && (ltb (read_version r) (stamp_of b) && ltb (stamp_of b) (stamp_of e.body))) (reads_of e.body)

-- "ending with the test that fails": what comes behind a test counts only if it passes
abbrev pub unless : Bool → ℕ → ℕ
unless fails n = pick fails 0 n

-- A11: the folded version comes "before the key's entries"; "A6 counts entries only"
unfoldable pub visits3 : Box → Body → ℕ
visits3 x b =
    key_by_key (λ r. unless (fold_above x r) (through (fails3 b r) x.table)) (λ r. fold_above x r || any (fails3 b r) x.table) (reads_of b)

unfoldable pub visits4 : Box → Body → ℕ
visits4 x b = key_by_key (λ w. through (fails4 b (write_key w)) x.table) (λ w. any (fails4 b (write_key w)) x.table) (writes_of b)

-- "the waiting rule looks up every nonzero version": it does not stop early
unfoldable pub waiting_visits : ℕ → List Entry → Body → ℕ
waiting_visits low t b = key_by_key (version_up low t) (λ _. false) (reads_of b)

-- "the new entry standing last"
abbrev pub new_last : Body → List Entry → List Entry
new_last b t = t ++ (record { body = b; vote = unvoted; log = unlogged; view = view_as 0; decided = unsettled } ∷ [])

-- "in 01's order": the five tests, then the waiting rule over the entries that stand by then
unfoldable pub test_visits : Told → Box → Body → List Entry → ℕ
test_visits told x b standing =
    unless (test1 told b) (visits2 x b
    + unless (test2 x b) (visits3 x b
    + unless (test3 x b) (visits4 x b
    + unless (test4 x b) (unless (test5 x b) (waiting_visits x.low standing b)))))

-- a PR looks its own stamp up first; the tests run where it has no vote, the waiting rule alone where it waits
unfoldable pub first_visits : Told → Box → Body → List Entry → ℕ
first_visits told x b standing = look_up (stamp_of b) x.table + test_visits told x b standing

unfoldable pub again_visits : Box → Body → ℕ
again_visits x b = look_up (stamp_of b) x.table + waiting_visits x.low x.table b
