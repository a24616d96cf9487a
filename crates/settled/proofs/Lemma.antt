-- The one lemma: a contract settles a call where what it says of two outcomes makes them one.
-- The other files have a line of it for each public function: an equation for the answer, then one for each parameter in its order, `refl` where
-- nothing is answered or lent.
use mathlib.Core.Path.{◌≡◌, sym, ◌∙◌}
use seplogic.Ra.Ura.{Ura}
use base.Logic.{ent}
use Rattle.terms.specs.declared.Key.{Key}
use Rattle.terms.specs.declared.Stamp.{Stamp}
use contract.Monad.{conj, conj_l, conj_r, fact, fact_i, fact_use}
use Rattle.std.specs.Prelude.{Result, Ok, Err}

pub settled : {M : Type 1} (𝓤 : Ura M) {P P' Q : Type 0} → (P → P' → Q) → ent 𝓤 (conj 𝓤 (fact 𝓤 P) (fact 𝓤 P')) (fact 𝓤 Q)
settled 𝓤 {P} {P'} {Q} same = fact_use 𝓤 P (conj_l 𝓤 (fact 𝓤 P) (fact 𝓤 P')) (λ p.
    fact_use 𝓤 P' (conj_r 𝓤 (fact 𝓤 P) (fact 𝓤 P')) (λ q. fact_i 𝓤 Q (conj 𝓤 (fact 𝓤 P) (fact 𝓤 P')) (same p q)))

pub one : {A : Type 0} {x y z : A} → x ≡ z → y ≡ z → x ≡ y
one p q = p ∙ sym q

-- the same of what holds one number
pub same_stamp : (a b : Stamp) → a.0 ≡ b.0 → a ≡ b
same_stamp a b e i = record { 0 = e i }

pub same_key : (a b : Key) → a.0 ≡ b.0 → a ≡ b
same_key a b e i = record { 0 = e i }

-- the same of what is left of a result that was handed over, where nothing is left of a value, nor of what stands for a refusal
pub none_left : {A E : Type 0} (L : Result A E → Type 0) → ((x : A) (w w' : L (Ok x)) → w ≡ w') → ((e : E) (w w' : L (Err e)) → w ≡ w')
    → (r : Result A E) (w w' : L r) → w ≡ w'
none_left L value refusal (Ok x) = value x
none_left L value refusal (Err e) = refusal e

pub ◌&◌ : {A B : Type 0} {o o' : A × B} → o.0 ≡ o'.0 → o.1 ≡ o'.1 → o ≡ o'
◌&◌ p q i = (p i, q i)

infixr 40 ◌&◌
