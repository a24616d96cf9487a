-- Text put down at a place, and more text put down behind it.
use Prim.Native.Nat.{ℕ, ◌+◌, ◌-◌, ◌≤◌}
use native.Mathlib.Omega.{arith}
use native.Mathlib.Nat.{le_refl, add-zero, add-sub_cancel_left}
use mathlib.Core.Path.{◌≡◌, ap, sym, ◌∙◌}
use mathlib.Core.List.{List, [], ◌++◌, append_assoc}
use lib.ListN.{length, take, drop, length-append, length-drop, take-append-drop}
use lib.Seq.{length-take-le, take_at, drop_at, drop-drop}
use Rattle.lines.specs.Lines.{blank, put_at, Puts}

module _ (o : List ℕ) (at : ℕ) (p : List ℕ) (h : at + length p ≤ length o) where
  front_long : length (take at o ++ p) ≡ at + length p
  front_long = length-append (take at o) p ∙ ap (λ (n : ℕ). n + length p) (length-take-le at o (omega arith))

  -- as the front and what stands behind it
  put_as : put_at o at p ≡ (take at o ++ p) ++ drop (at + length p) o
  unfolding put_at
  put_as = sym (append_assoc (take at o) p (drop (at + length p) o))

  pub put_long : length (put_at o at p) ≡ length o
  put_long =
      let d : length (drop (at + length p) o) ≡ length o - (at + length p) = length-drop (at + length p) o in
      ap length put_as ∙ length-append (take at o ++ p) (drop (at + length p) o) ∙ (omega (arith, front_long))

  -- two texts, one behind the other, are one text
  pub put_put : (q : List ℕ) → put_at (put_at o at p) (at + length p) q ≡ put_at o at (p ++ q)
  unfolding put_at
  put_put q =
      let f : List ℕ = take at o ++ p in
      let b : List ℕ = drop (at + length p) o in
      let l : at + length p + length q ≡ at + length (p ++ q) = (omega (arith, length-append p q)) in
      let t : take (at + length p) (f ++ b) ≡ f = take_at f b (at + length p) front_long in
      let d : drop (at + length p + length q) (f ++ b) ≡ drop (at + length (p ++ q)) o =
      sym (drop-drop (length q) (at + length p) (f ++ b))
      ∙ ap (drop (length q)) (drop_at f b (at + length p) front_long)
      ∙ drop-drop (length q) (at + length p) o
      ∙ ap (λ (n : ℕ). drop n o) l in
      ap (λ (x : List ℕ). take (at + length p) x ++ (q ++ drop (at + length p + length q) x)) put_as
      ∙ (rw (t, d))
      ∙ append_assoc (take at o) p (q ++ drop (at + length (p ++ q)) o)
      ∙ ap (λ (x : List ℕ). take at o ++ x) (sym (append_assoc p q (drop (at + length (p ++ q)) o)))

pub puts_none : (o : List ℕ) (at m : ℕ) → at ≤ length o → Puts o at [] m o at
unfolding put_at
puts_none o at m h = record { place = omega arith; written = rw add-zero (sym (take-append-drop at o)); short = omega arith }

pub puts_same : {o t e : List ℕ} {at b m : ℕ} → Puts o at t m e b → at + m ≤ length o → length e ≡ length o
puts_same {o} {t} {e} {at} x h = let s = x.short in ap length x.written ∙ put_long o at t (omega arith)

-- text behind text, where both have room
pub puts_both : {o p q e f : List ℕ} {at b c m n : ℕ} → Puts o at p m e b → Puts e b q n f c → at + m ≤ length o → Puts o at (p ++ q) (m + n) f c
puts_both {o} {p} {q} {e} {f} {at} {b} {c} x y h =
    let l = x.short in
    let k = y.short in
    let s : length (p ++ q) ≡ length p + length q = length-append p q in
    let u = x.place in
    let v = y.place in
    record { place = omega arith; written = y.written ∙ (rw (x.written, u)) ∙ put_put o at p (omega arith) q; short = omega arith }

-- the same with what put_text gives
pub puts_word : {o p e f : List ℕ} {at b c m : ℕ} (w : List ℕ)
    → Puts o at p m e b → (c ≡ b + length w) × (f ≡ put_at e b w) → at + m ≤ length o → Puts o at (p ++ w) (m + length w) f c
puts_word w x y h = puts_both x (record { place = y.0; written = y.1; short = le_refl (length w) }) h

-- two texts with a blank between them
pub puts_apart : {o p q e f g : List ℕ} {at b c d m n : ℕ}
    → Puts o at p m e b → (c ≡ b + length blank) × (f ≡ put_at e b blank) → Puts f c q n g d → at + m + 1 ≤ length o → Puts o at (p ++ (blank ++ q)) (m + 1 + n) g d
puts_apart {p = p} {q = q} x w y h = rw (← append_assoc p blank q) (puts_both (puts_word blank x w (omega arith)) y (omega arith))

-- a bound that is not as close, and the same text by its name
pub puts_within : {o t e : List ℕ} {at b m n : ℕ} → Puts o at t m e b → m ≤ n → Puts o at t n e b
puts_within x w = let l = x.short in record { place = x.place; written = x.written; short = omega arith }

pub puts_as : {o p t e : List ℕ} {at b m n : ℕ} → p ≡ t → Puts o at p m e b → m ≤ n → Puts o at t n e b
puts_as h x w = rw (← h) (puts_within x w)

pub puts_text : {o t e : List ℕ} {at b n : ℕ} → (b ≡ at + length t) × (e ≡ put_at o at t) → length t ≤ n → Puts o at t n e b
puts_text x h = record { place = x.0; written = x.1; short = h }

-- what put_line tells
pub line_put : {o t e : List ℕ} {at b : ℕ} → (b ≡ at + length t) × (e ≡ put_at o at t) × (length t ≤ 112) → Puts o at t 112 e b
line_put x = record { place = x.0; written = x.1; short = x.2 }

-- ---- text that was copied to its place
pub copied : (o : List ℕ) (at : ℕ) (p q : List ℕ) → q ≡ p → take at o ++ (q ++ drop (at + length p - at) (drop at o)) ≡ put_at o at p
unfolding put_at
copied o at p q h = rw (h, add-sub_cancel_left, drop-drop)
