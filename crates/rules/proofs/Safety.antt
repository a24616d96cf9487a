-- The claim of System.
use Prim.Native.Nat.{◌<◌}
use mathlib.Core.Path.{◌≡◌}
use mathlib.Core.Logic.{◌⊎◌, inl, inr}
use mathlib.Core.List.{Memᴰ as In}
use Rattle.records.specs.declared.Read.{Read}
use Rattle.records.specs.Tx.{read_key, read_version}
use Rattle.rules.specs.Answers.{commit}
use Rattle.rules.specs.Bodies.{Body, stamp_of, reads_of}
use Rattle.rules.specs.System.{Proof, Safety}
use Rattle.rules.proofs.Rests.{Writer}
use Rattle.rules.proofs.Global.{one_outcome_lem, one_body_lem, read_ok, none_between}
use Rattle.rules.proofs.Serial.{Wrote, Facts, serial_run}
use Rattle.rules.proofs.Exist.{listing}

pub safety : Safety
safety f faulty few es F = record {
  one_outcome = one_outcome_lem f faulty few es F;
  one_body = one_body_lem f faulty few es F;
  listed = listing f faulty few es F;
  serial = λ bs L. serial_run C facts bs L.order L.only L.every;
}
  where
    C : Body → Type 0
    C b = Proof f faulty es b commit

    below : (b : Body) → C b → (r : Read) → In r (reads_of b) → read_version r < stamp_of b
    below b P r m = (read_ok f faulty few es F b P r m).below

    names : (b : Body) → C b → (r : Read) → In r (reads_of b) → (read_version r ≡ 0) ⊎ Wrote C (read_key r) (read_version r)
    names b P r m = go (read_ok f faulty few es F b P r m).names
      where
        go : (read_version r ≡ 0) ⊎ Writer f faulty es (read_key r) (read_version r) → (read_version r ≡ 0) ⊎ Wrote C (read_key r) (read_version r)
        go (inl z) = inl z
        go (inr u) = inr (record { body = u.body; in_force = u.proof; stamp = u.stamp; writes = u.writes })

    facts : Facts C
    facts = record { below = below; names = names; between = none_between f faulty few es F }
