-- What a card of a kind gives (specs/Gauging.antt), from what each function has seen. A sample passed on goes through
-- its bits, `to_z w16 (of_z w16 n)`, and so does the row that is stored.
--     of-spring, of-bridge, of-neither    by the kind
--     sample-read                         what is handed back of it
--     by-spring, by-bridge, by-neither    the other way: what the card of that kind gives
--     sample-one                          a kind, two floats and a sample have one answer
-- Assumes nothing.
use mathlib.Core.Path.{◌≡◌, refl, sym, ap, ◌∙◌}
use mathlib.Core.Bool.{Bool, true, false, cond}
use Prim.Native.Nat.{ℕ, ◌<◌}
use native.Mathlib.Omega.{arith}
use lib.Dec.{eqb}
use lib.IntN.{ℤ, pos}
use lib.Ieee.{Float}
use borrow.Author.Tests.{eq-eqb, ne_eqb}
use mir.Syntax.{w16}
use mir.Val.{Fits, SFits, to_z, of_z}
use mir.ValLaws.{to_z-of_z}
use Rattle.gauge.specs.declared.Card.TheVariants.{Spring, Bridge}
use Rattle.std.specs.Float.{fin}
use Rattle.gauge.specs.declared.Reading.{Reading}
use Rattle.gauge.specs.Readings.{Gauged, refusal_number, handed, Sampled, Gauges}
use Rattle.gauge.proofs.ReadingLaws.{sampled-one}
use Rattle.rig.specs.Bits.{packed, number_of}
use Rattle.rig.specs.Gauging.{NoCard, KindGauges, SampleRead}
use Rattle.rig.proofs.BitLaws.{number-packed}

module _ (k : ℕ) (x y : Float) (n : ℤ) where
  pub of-spring : (g : Gauged) → k ≡ 0 → SFits w16 n → Gauges (Spring x y) (to_z w16 (of_z w16 n)) g
      → KindGauges k x y n (refusal_number g) (handed g).pressure (handed g).row
  unfolding KindGauges
  of-spring g e fits h = rw (eq-eqb k 0 e) (rw (to_z-of_z w16 n fits) at h)

  pub of-bridge : (g : Gauged) → (k ≡ 0 → ⊥) → k ≡ 1 → SFits w16 n → Gauges (Bridge x y) (to_z w16 (of_z w16 n)) g
      → KindGauges k x y n (refusal_number g) (handed g).pressure (handed g).row
  unfolding KindGauges
  of-bridge g f e fits h = rw (ne_eqb k 0 f, eq-eqb k 1 e) (rw (to_z-of_z w16 n fits) at h)

  pub of-neither : (k ≡ 0 → ⊥) → (k ≡ 1 → ⊥) → KindGauges k x y n 21 (fin false 0 (pos 0)) (pos 0)
  unfolding KindGauges
  of-neither f e = rw (ne_eqb k 0 f, ne_eqb k 1 e) (refl, refl, refl)

  pub sample-read : (g : Gauged) {h : Reading} {j r : ℕ} → SFits w16 n
      → KindGauges k x y (to_z w16 (of_z w16 n)) (refusal_number g) (handed g).pressure (handed g).row → h ≡ handed g
      → j ≡ refusal_number g → Fits w16 j → SFits w16 h.row → r ≡ packed 0 j 0 0
      → SampleRead k x y n r h.pressure (to_z w16 (of_z w16 h.row))
  sample-read g {h} {j} fits kind d i number row e =
      let is = ap number_of e ∙ number-packed j number.fits in
      rw (to_z-of_z w16 h.row row)
      (record { says = e ∙ ap (λ i. packed 0 i 0 0) (sym is); reads = rw (is, d, i, ← to_z-of_z w16 n fits) kind })

-- ---- what is known of an answer

module _ (x y : Float) (n : ℤ) {j : ℕ} {p : Float} {m : ℤ} where
  pub by-spring : KindGauges 0 x y n j p m → Sampled (Spring x y) n j p m
  unfolding KindGauges
  by-spring h = h

  pub by-bridge : KindGauges 1 x y n j p m → Sampled (Bridge x y) n j p m
  unfolding KindGauges
  by-bridge h = h

pub by-neither : (k : ℕ) (x y : Float) (n : ℤ) {j : ℕ} {p : Float} {m : ℤ} → 1 < k → KindGauges k x y n j p m
    → NoCard j p m
unfolding KindGauges
by-neither k x y n l h = rw (ne_eqb k 0 (λ e. omega arith), ne_eqb k 1 (λ e. omega arith)) at h

kind-one : (k : ℕ) (x y : Float) (n : ℤ) {j i : ℕ} {p o : Float} {m l : ℤ} → KindGauges k x y n j p m
    → KindGauges k x y n i o l → (j ≡ i) × (p ≡ o) × (m ≡ l)
unfolding KindGauges
kind-one k x y n {j} {i} {p} {o} {m} {l} = go (eqb k 0) (eqb k 1)
  where
    go : (b c : Bool)
        → cond b (Sampled (Spring x y) n j p m) (cond c (Sampled (Bridge x y) n j p m) (NoCard j p m))
        → cond b (Sampled (Spring x y) n i o l) (cond c (Sampled (Bridge x y) n i o l) (NoCard i o l))
        → (j ≡ i) × (p ≡ o) × (m ≡ l)
    go true c h w = sampled-one h w
    go false true h w = sampled-one h w
    go false false h w = (h.0 ∙ sym w.0, h.1 ∙ sym w.1, h.2 ∙ sym w.2)

pub sample-one : {k : ℕ} {x y : Float} {n : ℤ} {r q : ℕ} {p o : Float} {m l : ℤ} → SampleRead k x y n r p m
    → SampleRead k x y n q o l → (r ≡ q) × (◌≡◌ {A = Float × ℤ} (p, m) (o, l))
sample-one {k} {x} {y} {n} {r} {q} h w =
    let one = kind-one k x y n h.reads w.reads in
    (h.says ∙ ap (λ i. packed 0 i 0 0) one.0 ∙ sym w.says, λ i. (one.1 i, one.2 i))
