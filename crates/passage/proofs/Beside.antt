-- Of all that is made of one look, one commits: the later one reads below what the earlier one wrote.
use Prim.Native.Nat.{ℕ, ◌≤◌, ◌<◌}
use mathlib.Core.Bool.{Bool, false, not}
use mathlib.Core.Path.{◌≡◌, refl, ap}
use mathlib.Core.Logic.{◌⊎◌, inl, inr}
use mathlib.Core.List.Memᴰ.{head as here}
use mathlib.Core.List.{List, Memᴰ as In}
use native.Mathlib.Omega.{arith}
use lib.Dec.{T, eqb, eqb_refl, leb, ltb, ltb→lt, nltb→le, nleb→lt}
use Rattle.terms.specs.Choice.{any}
use Rattle.terms.specs.Checks.{Check, passed}
use Rattle.terms.specs.Group.{boxes}
use Rattle.terms.specs.declared.Decision.TheVariants.{Commit as commit}
use Rattle.terms.proofs.Checks.{rest_none, when_none}
use Rattle.records.specs.Tx.{Tx, tx_of, write_key}
use Rattle.records.specs.Contents.{too_new, tx_wrong}
use Rattle.rules.specs.Bodies.{Body, stamp_of, reads_of, writes_of, writes_key}
use Rattle.rules.specs.System.{Event, Fair, Proof, how_many}
use Rattle.rules.proofs.Laws.{any_of, decide_t}
use Rattle.rules.proofs.Global.{one_body_lem, none_between}
use Rattle.passage.specs.declared.Values.{Values}
use Rattle.passage.specs.declared.Seen.{Seen}
use Rattle.passage.specs.Passages.{key_at, values_of}
use Rattle.passage.specs.Corrections.{read_of, write_of, turned, passage_tx, made_after, direction_corrected, corrected, entered}
use Rattle.passage.specs.Register.{MadeAs, MadeOf, by_entry, by_correction, by_direction, OneOfALook}
use Rattle.passage.proofs.Shown.{body_made, made_as}

-- whichever it is, it is the passage's transaction, and in order
record Plain (p : ℕ) (seen : Seen) (b : Body) : Type 0 where
  values : Values
  tx : tx_of b ≡ passage_tx p seen (stamp_of b) values
  fine : tx_wrong (passage_tx p seen (stamp_of b) values) ≡ passed

plain_by : (c : Check) (p : ℕ) (seen : Seen) (v : Values) (b : Body) → MadeAs (made_after c (passage_tx p seen (stamp_of b) v)) b → Plain p seen b
unfolding made_after
plain_by c p seen v b h =
    record {
      values = v;
      tx = (made_as c p seen (stamp_of b) v b h).1;
      fine = rest_none c _ (body_made _ (passage_tx p seen (stamp_of b) v) b h).0;
    }

plain : (p : ℕ) (seen : Seen) (b : Body) → MadeOf p seen b → Plain p seen b
unfolding entered corrected direction_corrected
plain p seen b (by_entry v h) = plain_by _ p seen v b h
plain p seen b (by_correction v h) = plain_by _ p seen v b h
plain p seen b (by_direction h) = plain_by _ p seen (turned (values_of seen)) b h

-- the train's key is read at what was seen, below the own stamp, and written
reads_it : {p : ℕ} {seen : Seen} {b : Body} → Plain p seen b → In (read_of p 0 seen.train) (reads_of b)
unfolding reads_of passage_tx
reads_it {p} {seen} {b} h = let e : reads_of b ≡ (passage_tx p seen (stamp_of b) h.values).reads = ap (λ (t : Tx). t.reads) h.tx in rw e (here refl)

writes_it : {p : ℕ} {seen : Seen} {b : Body} → Plain p seen b → T (writes_key b (key_at p 0))
unfolding writes_key writes_of passage_tx
writes_it {p} {seen} {b} h = any_of (λ w. eqb (write_key w) (key_at p 0)) (tx_of b).writes (write_of p 0 h.values.train) (rw h.tx (here refl)) (eqb_refl (key_at p 0))

below_it : {p : ℕ} {seen : Seen} {b : Body} → Plain p seen b → seen.train.stamp.0 < stamp_of b
unfolding tx_wrong passage_tx
below_it {p} {seen} {b} h = go (decide_t (leb (stamp_of b) seen.train.stamp.0))
  where
    none_new : any (too_new (stamp_of b)) (passage_tx p seen (stamp_of b) h.values).reads ≡ false
    none_new = when_none _ _ (rest_none _ _ (rest_none _ _ (rest_none _ _ (rest_none _ _ (rest_none _ _ h.fine)))))

    go : T (leb (stamp_of b) seen.train.stamp.0) ⊎ T (not (leb (stamp_of b) seen.train.stamp.0)) → seen.train.stamp.0 < stamp_of b
    go (inl k) =
        let new = any_of (too_new (stamp_of b)) (passage_tx p seen (stamp_of b) h.values).reads (read_of p 0 seen.train) (here refl) k in
        absurd (rw none_new at new)
    go (inr k) = nleb→lt (stamp_of b) seen.train.stamp.0 k

module _ (f : ℕ) (faulty : ℕ → Bool) (few : how_many faulty (boxes f) ≤ f) (es : List Event) (F : Fair f faulty es) (p : ℕ) (seen : Seen) where
  apart : (b c : Body) → Plain p seen b → Plain p seen c → Proof f faulty es b commit → Proof f faulty es c commit → stamp_of c < stamp_of b → ⊥
  apart b c h k P Q l = none_between f faulty few es F b c P Q (read_of p 0 seen.train) (reads_it h) (writes_it k) (below_it k) l

pub one_of_a_look : OneOfALook
one_of_a_look f faulty few es F p seen b c h k P Q = go (decide_t (ltb (stamp_of c) (stamp_of b))) (decide_t (ltb (stamp_of b) (stamp_of c)))
  where
    x : Plain p seen b
    x = plain p seen b h

    y : Plain p seen c
    y = plain p seen c k

    go : T (ltb (stamp_of c) (stamp_of b)) ⊎ T (not (ltb (stamp_of c) (stamp_of b))) → T (ltb (stamp_of b) (stamp_of c)) ⊎ T (not (ltb (stamp_of b) (stamp_of c))) → b ≡ c
    go (inl u) w = absurd (apart f faulty few es F p seen b c x y P Q (ltb→lt (stamp_of c) (stamp_of b) u))
    go (inr u) (inl w) = absurd (apart f faulty few es F p seen c b y x Q P (ltb→lt (stamp_of b) (stamp_of c) w))
    go (inr u) (inr w) =
        let one = nltb→le (stamp_of c) (stamp_of b) u in
        let two = nltb→le (stamp_of b) (stamp_of c) w in
        let z : stamp_of b ≡ stamp_of c = omega arith in
        one_body_lem f faulty few es F b c z P Q
