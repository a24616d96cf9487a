-- What was committed last is what every RD shows; so the direction corrected twice gives the first report back.
use Prim.Native.Nat.{ℕ, ◌+◌, ◌*◌, ◌≤◌, ◌<◌}
use mathlib.Core.Path.{◌≡◌, refl, sym, ap, ◌∙◌}
use mathlib.Core.Option.{Option}
use mathlib.Core.List.Memᴰ.{head as here}
use mathlib.Core.List.Memᴰ.{tail as there}
use mathlib.Core.List.{List, ◌∷◌, Memᴰ as In}
use native.Mathlib.Omega.{arith}
use lib.Dec.{T, eqb, eqb_refl}
use borrow.Author.Tests.{eq-eqb, ne_eqb}
use Rattle.std.specs.Prelude.{Ok, Err}
use Rattle.std.proofs.Common.{true≢false, is_err}
use Rattle.terms.specs.Checks.{Check, passed, or_else}
use Rattle.terms.proofs.Checks.{first_none, rest_none}
use Rattle.records.specs.declared.Transaction.{Transaction}
use Rattle.records.specs.declared.Write.{Write}
use Rattle.records.specs.Tx.{Tx, tx_of, tx_in, held_tx, write_key, write_value}
use Rattle.rules.specs.Bodies.{Body, stamp_of, writes_of, writes_key}
use Rattle.rules.specs.declared.Version.{Version}
use Rattle.rules.specs.Table.{Box, Entry, fold_at}
use Rattle.rules.specs.Calls.{value_at, version_or}
use Rattle.rules.specs.System.{Event, box_at}
use Rattle.rules.proofs.Laws.{any_of}
use Rattle.passage.specs.declared.Values.{Values}
use Rattle.passage.specs.declared.Seen.{Seen}
use Rattle.passage.specs.Passages.{key_at, values_of, passage_wrong, values_wrong, seen_wrong, reported, report_of}
use Rattle.passage.specs.Corrections.{write_of, turned, passage_tx, made_by, made_after, direction_corrected, entered}
use Rattle.passage.specs.Register.{version_at, standing, seen_in, report_in, Alone, Last, NewestTaken, never, top, LastTaken, MadeAs}
use Rattle.passage.specs.Register.{EntryShown, CorrectionShown, ReportBack, BoxBack, AloneTaken}
use Rattle.passage.proofs.Checked.{right}
use Rattle.passage.proofs.Making.{low, tx_held}
use Rattle.passage.proofs.Leading.{turned_back, stays_right, report_standing}
use Rattle.passage.proofs.Newest.{Fits, Newest, no_one, this, newest_is}
use Rattle.passage.proofs.Boxes.{shown, seen_is, report_is, stands_of}
use Rattle.passage.proofs.History.{shown_top, sees_above, all_stand}

-- what RDs below s show of what b writes of the passage: b
unfoldable pub Shows : Box → ℕ → ℕ → Body → Type 0
Shows x p s b = (n : ℕ) → n < 4 → T (writes_key b (key_at p n)) → shown x (key_at p n) s ≡ version_at (stamp_of b) (value_at (key_at p n) (writes_of b))

-- ---- the last one that stands
last_by : {x : Box} {p s : ℕ} {b : Body} (g : Version) → Last x p s b → (i : ℕ) → i < 4 → T (writes_key b (key_at p i)) → {o : Option Entry}
    → Newest (key_at p i) s x.table o → version_or (key_at p i) g o ≡ version_at (stamp_of b) (value_at (key_at p i) (writes_of b))
unfolding version_or Alone
last_by {x} {p} {s} {b} g l i h w (no_one n) = absurd (n l.stands.entry l.stands.inside fits)
  where
    fits : Fits (key_at p i) s l.stands.entry
    fits = record { committed = l.stands.committed; writes = rw l.stands.body w; below = rw l.stands.body l.below }
last_by {x} {p} {s} {b} g l i h w (this e m q most) =
    let low : stamp_of b ≤ stamp_of e.body = rw l.stands.body at (most l.stands.entry l.stands.inside fits) in
    let one : e.body ≡ b = l.alone e.body (stands_of x e m q) i h q.writes q.below low in
    rw one
  where
    fits : Fits (key_at p i) s l.stands.entry
    fits = record { committed = l.stands.committed; writes = rw l.stands.body w; below = rw l.stands.body l.below }

last_shows : (x : Box) (p s : ℕ) (b : Body) → Last x p s b → Shows x p s b
unfolding Shows shown
last_shows x p s b l n h w = last_by (fold_at x.folds (key_at p n)) l n h w (newest_is (key_at p n) s x.table)

-- ---- the last one that was taken
module _ (f i : ℕ) (es : List Event) (p s : ℕ) (b : Body) (low : p ≤ 127) (l : LastTaken f i es p s b) where
  taken_by : (n : ℕ) → n < 4 → T (writes_key b (key_at p n)) → {v : Version} → NewestTaken f i es (key_at p n) s v
      → v ≡ version_at (stamp_of b) (value_at (key_at p n) (writes_of b))
  taken_by n h w (never none) = absurd (none b (record { taken = l.taken; writes = w; below = l.below }))
  taken_by n h w (top c y up) =
      let own : stamp_of b ≤ stamp_of c = up b (record { taken = l.taken; writes = w; below = l.below }) in
      let one : c ≡ b = l.alone c y.taken n h y.writes y.below own in
      rw one

  taken_shows : Shows (box_at f i es) p s b
  unfolding Shows
  taken_shows n h w = taken_by n h w (shown_top f i es (key_at p n) s (omega arith) (sees_above f i es s l.high))

-- ---- what a passage's transaction wrote
value_here : (k : ℕ) (w : Write) (ws : List Write) → write_key w ≡ k → value_at k (w ∷ ws) ≡ write_value w
unfolding value_at
value_here k w ws e = rw (eq-eqb (write_key w) k e)

value_there : (k : ℕ) (w : Write) (ws : List Write) → (write_key w ≡ k → ⊥) → value_at k (w ∷ ws) ≡ value_at k ws
unfolding value_at
value_there k w ws h = rw (ne_eqb (write_key w) k h)

module _ (x : Box) (p s : ℕ) (seen : Seen) (v : Values) (b : Body) (made : tx_of b ≡ passage_tx p seen (stamp_of b) v) (l : Shows x p s b) where
  wrote : (i : ℕ) (w : Write) → In w (passage_tx p seen (stamp_of b) v).writes → write_key w ≡ key_at p i → T (writes_key b (key_at p i))
  unfolding writes_key writes_of
  wrote i w m e = any_of (λ u. eqb (write_key u) (key_at p i)) (tx_of b).writes w (rw made m) (rw e (eqb_refl (key_at p i)))

  shows : (i : ℕ) → i < 4 → (w : Write) → In w (passage_tx p seen (stamp_of b) v).writes → write_key w ≡ key_at p i
      → value_at (key_at p i) (passage_tx p seen (stamp_of b) v).writes ≡ write_value w → shown x (key_at p i) s ≡ version_at (stamp_of b) (write_value w)
  unfolding Shows writes_of
  shows i h w m e q =
      l i h (wrote i w m e)
      ∙ ap (version_at (stamp_of b)) (ap (λ (t : Tx). value_at (key_at p i) t.writes) made ∙ q)

  pub seen_last : seen_in x p s ≡ standing (stamp_of b) v
  unfolding passage_tx standing
  seen_last =
      let train = shows 0 (omega arith) (write_of p 0 v.train) (here refl) refl (value_here _ _ _ refl) in
      let direction = shows 1 (omega arith) (write_of p 1 v.direction) (there (here refl)) refl
      (value_there _ _ _ (λ (e : 4 * p + 0 ≡ 4 * p + 1). omega arith) ∙ value_here _ _ _ refl) in
      let axles = shows 2 (omega arith) (write_of p 2 v.axles) (there (there (here refl))) refl
      (value_there _ _ _ (λ (e : 4 * p + 0 ≡ 4 * p + 2). omega arith)
      ∙ (value_there _ _ _ (λ (e : 4 * p + 1 ≡ 4 * p + 2). omega arith) ∙ value_here _ _ _ refl)) in
      let hot = shows 3 (omega arith) (write_of p 3 v.hot) (there (there (there (here refl)))) refl
      (value_there _ _ _ (λ (e : 4 * p + 0 ≡ 4 * p + 3). omega arith)
      ∙ (value_there _ _ _ (λ (e : 4 * p + 1 ≡ 4 * p + 3). omega arith)
      ∙ (value_there _ _ _ (λ (e : 4 * p + 2 ≡ 4 * p + 3). omega arith) ∙ value_here _ _ _ refl))) in
      rw (seen_is x p s, train, direction, axles, hot)

  pub report_last : passage_wrong p ≡ passed → values_wrong v ≡ passed → report_in x p s ≡ Ok (reported v)
  report_last low fine = report_is x p s ∙ (ap (report_of p) seen_last ∙ report_standing p (stamp_of b) v low fine)

-- ---- what was made
-- whole, with the zeros of the places that are not used
pub made_by_lem : (c : Check) (x : Tx) (t : Transaction) → made_by c x ≡ Ok t → (c ≡ passed) × (t ≡ held_tx x)
unfolding made_by or_else
made_by_lem (Ok _) x t h = (refl, cc)
made_by_lem (Err r) x t h = absurd (true≢false (ap is_err h))

-- as a body has it
pub body_made : (c : Check) (x : Tx) (b : Body) → MadeAs (made_by c x) b → (c ≡ passed) × (tx_of b ≡ tx_in (held_tx x))
unfolding made_by or_else
body_made (Ok _) x b h = (refl, h)
body_made (Err r) x b h = absurd h

-- nothing was refused, and the body is the passage's transaction
pub made_as : (c : Check) (p : ℕ) (seen : Seen) (stamp : ℕ) (v : Values) (b : Body) → MadeAs (made_after c (passage_tx p seen stamp v)) b
    → (c ≡ passed) × (tx_of b ≡ passage_tx p seen stamp v)
unfolding made_after
made_as c p seen stamp v b h =
    let m = body_made _ (passage_tx p seen stamp v) b h in
    (first_none c _ m.0, m.1 ∙ tx_held p seen stamp v)

made_low : (p : ℕ) (seen : Seen) (stamp : ℕ) (v : Values) (b : Body) → MadeAs (entered p seen stamp v) b → p ≤ 127
unfolding entered
made_low p seen stamp v b h = low p (first_none _ _ (made_as _ p seen stamp v b h).0)

entry_by_lem : (x : Box) (p s : ℕ) (seen : Seen) (v : Values) (b : Body) → MadeAs (entered p seen (stamp_of b) v) b → Shows x p s b
    → report_in x p s ≡ Ok (reported v)
unfolding entered
entry_by_lem x p s seen v b h l =
    let m = made_as _ p seen (stamp_of b) v b h in
    report_last x p s seen v b m.1 l (first_none _ _ m.0) (rest_none _ _ m.0)

correction_by : (x : Box) (p s : ℕ) (seen : Seen) (b : Body) → MadeAs (direction_corrected p seen (stamp_of b)) b → Shows x p s b
    → report_in x p s ≡ Ok (reported (turned (values_of seen)))
unfolding direction_corrected seen_wrong
correction_by x p s seen b h l =
    let m = made_as _ p seen (stamp_of b) (turned (values_of seen)) b h in
    report_last x p s seen (turned (values_of seen)) b m.1 l (first_none _ _ m.0) (stays_right (values_of seen) (rest_none _ _ (rest_none _ _ m.0)))

-- the values that a box shows after it
entered_values : (x : Box) (p s : ℕ) (seen : Seen) (v : Values) (b : Body) → MadeAs (entered p seen (stamp_of b) v) b → Shows x p s b
    → values_of (seen_in x p s) ≡ v
unfolding entered standing
entered_values x p s seen v b h l = ap values_of (seen_last x p s seen v b (made_as _ p seen (stamp_of b) v b h).1 l)

corrected_values : (x : Box) (p s : ℕ) (seen : Seen) (b : Body) → MadeAs (direction_corrected p seen (stamp_of b)) b → Shows x p s b
    → values_of (seen_in x p s) ≡ turned (values_of seen)
unfolding direction_corrected standing
corrected_values x p s seen b h l =
    ap values_of (seen_last x p s seen (turned (values_of seen)) b (made_as _ p seen (stamp_of b) (turned (values_of seen)) b h).1 l)

entered_right : (p : ℕ) (seen : Seen) (stamp : ℕ) (v : Values) (b : Body) → MadeAs (entered p seen stamp v) b → values_wrong v ≡ passed
unfolding entered
entered_right p seen stamp v b h = rest_none _ _ (made_as _ p seen stamp v b h).0

back_by : (x y z : Box) (p q r s : ℕ) (seen : Seen) (v : Values) (b c d : Body)
    → MadeAs (entered p seen (stamp_of b) v) b → Shows x p q b
    → MadeAs (direction_corrected p (seen_in x p q) (stamp_of c)) c → Shows y p r c
    → MadeAs (direction_corrected p (seen_in y p r) (stamp_of d)) d → Shows z p s d
    → report_in z p s ≡ report_in x p q
back_by x y z p q r s seen v b c d hb lb hc lc hd ld =
    let first = entered_values x p q seen v b hb lb in
    let second = corrected_values y p r (seen_in x p q) c hc lc in
    let back = turned_back v (right v (entered_right p seen (stamp_of b) v b hb)).direction in
    let all : turned (values_of (seen_in y p r)) ≡ v = ap turned second ∙ (ap (λ (u : Values). turned (turned u)) first ∙ back) in
    correction_by z p s (seen_in y p r) d hd ld ∙ (ap (λ (u : Values). Ok (reported u)) all ∙ sym (entry_by_lem x p q seen v b hb lb))

-- ---- the claims
pub entry_shown : EntryShown
entry_shown x p s seen v b h l = entry_by_lem x p s seen v b h (last_shows x p s b l)

pub correction_shown : CorrectionShown
correction_shown x p s seen b h l = correction_by x p s seen b h (last_shows x p s b l)

pub report_back : ReportBack
report_back x y z p q r s seen v b c d hb lb hc lc hd ld =
    back_by x y z p q r s seen v b c d hb (last_shows x p q b lb) hc (last_shows y p r c lc) hd (last_shows z p s d ld)

pub box_back : BoxBack
box_back f i es ds cs p q r s seen v b c d hb lb hc lc hd ld =
    let low = made_low p seen (stamp_of b) v b hb in
    back_by (box_at f i es) (box_at f i ds) (box_at f i cs) p q r s seen v b c d
    hb (taken_shows f i es p q b low lb)
    hc (taken_shows f i ds p r c low lc)
    hd (taken_shows f i cs p s d low ld)

pub alone_taken : AloneTaken
unfolding Alone
alone_taken f i es p s b z t l alone =
    record { taken = t; below = l; high = rw z (omega arith); alone = λ c u n h w k m. alone c (all_stand f i c es z u) n h w k m }
