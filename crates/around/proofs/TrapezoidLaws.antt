-- What lies below a segment, strip by strip: a trapezoid.
--     trapezoid s      twice what lies below s: its breadth by the heights of both its ends
--     strips-part      the heights of s in the middle of the strips that it covers add up to it, scaled by M; or to 0,
--                      where a test, one and the same in all these strips, lets none of them through
-- Assumes nothing.
use mathlib.Core.Path.{◌≡◌, refl, sym, ap, ◌∙◌}
use mathlib.Core.Logic.{◌⊎◌, inl, inr}
use mathlib.Core.Bool.{Bool, true, false, ◌&&◌}
use mathlib.Core.List.{[], ◌∷◌}
use Prim.Native.Nat.{ℕ, zero, suc, ◌+◌, ◌-◌, ◌*◌, ◌/◌, ◌<◌, ◌≤◌}
use native.Mathlib.Nat.{add-suc, add-zero, zero-add}
use native.Mathlib.Omega.{arith}
use lib.Dec.{ltb, leb}
use borrow.Author.Tests.{le-ltb, lt-leb}
use Rattle.counts.specs.Count.{ind, sum, listed, places}
use Rattle.counts.proofs.TestLaws.{lt-or-le}
use Rattle.counts.proofs.SumLaws.{sum-ext, sum-mul, sum-zero, sum-append}
use Rattle.counts.proofs.ListedLaws.{listed-snoc}
use Rattle.plane.specs.declared.Segment.{Segment}
use Rattle.plane.specs.Columns.{covers, breadth}
use Rattle.plane.proofs.Heights.{Scale, height, key}
use Rattle.plane.proofs.ColumnLaws.{covers-is}

abbrev pub trapezoid : Segment → ℕ
trapezoid s = breadth s * (s.a.y + s.b.y)

-- one place more
sum-next : (f : ℕ → ℕ) (n : ℕ) → sum f (places (suc n)) ≡ sum f (places n) + f n
unfolding sum
sum-next f n =
    ap (sum f) (listed-snoc (λ i. i) 0 n) ∙ sum-append f (places n) ((0 + n) ∷ []) ∙ omega (arith, ap f (zero-add n))

module _ {W : ℕ} (M : ℕ) (scale : Scale W M) (s : Segment) (small : s.b.x < W) where
  abbrev in_strip : ℕ → ℕ
  in_strip x = ind (covers x s) * key M s x

  abbrev share : ℕ
  share = M / (s.b.x - s.a.x)

  -- k strips past the left end, and j more to come
  strip-height : (k j : ℕ) → s.a.x + k + suc j ≡ s.b.x
      → key M s (s.a.x + k) ≡ share * (s.a.y * (2 * j + 1) + s.b.y * (2 * k + 1))
  unfolding height
  strip-height k j e =
      go (2 * s.b.x - (2 * (s.a.x + k) + 1)) (2 * (s.a.x + k) + 1 - 2 * s.a.x) (omega arith) (omega arith)
    where
      go : (m n : ℕ) → m ≡ 2 * j + 1 → n ≡ 2 * k + 1
          → share * (s.a.y * m + s.b.y * n) ≡ share * (s.a.y * (2 * j + 1) + s.b.y * (2 * k + 1))
      go m n d g = rw (d, g) refl

  -- before it, over it and past it
  none_yet : (n : ℕ) → n ≤ s.a.x → sum in_strip (places n) ≡ 0
  unfolding sum listed
  none_yet zero h = refl
  none_yet (suc n) h =
      sum-next in_strip n ∙ rw (none_yet n (omega arith), lt-leb s.a.x n h) (omega arith)

  some-yet : (k j : ℕ) → s.a.x + k + j ≡ s.b.x
      → sum in_strip (places (s.a.x + k)) ≡ share * (s.a.y * (k * k + 2 * k * j) + s.b.y * (k * k))
  some-yet zero j e = rw add-zero (none_yet s.a.x (omega arith) ∙ omega arith)
  some-yet (suc k) j e =
      rw add-suc (sum-next in_strip (s.a.x + k)
      ∙ go share s.a.y s.b.y _ _ _ (some-yet k (suc j) (omega arith)) (strip-height k j (omega arith))
      (ap ind ((covers-is (s.a.x + k) s).1 (omega arith))))
    where
      go : (q u v t h i : ℕ) → t ≡ q * (u * (k * k + 2 * k * suc j) + v * (k * k))
          → h ≡ q * (u * (2 * j + 1) + v * (2 * k + 1)) → i ≡ 1
          → t + i * h ≡ q * (u * (suc k * suc k + 2 * suc k * j) + v * (suc k * suc k))
      go q u v t h i a b c = rw (a, b, c) (omega arith)

  all-yet : (i : ℕ) → sum in_strip (places (s.b.x + i)) ≡ sum in_strip (places s.b.x)
  all-yet zero = rw add-zero refl
  all-yet (suc i) =
      rw add-suc (sum-next in_strip (s.b.x + i) ∙ go (leb s.a.x (s.b.x + i)) (all-yet i))
    where
      go : (b : Bool) → sum in_strip (places (s.b.x + i)) ≡ sum in_strip (places s.b.x)
          → sum in_strip (places (s.b.x + i)) + ind (b && ltb (s.b.x + i) s.b.x) * key M s (s.b.x + i)
          ≡ sum in_strip (places s.b.x)
      go true ih = rw (le-ltb (s.b.x + i) s.b.x (omega arith)) (omega arith)
      go false ih = omega arith

  strips-sum : s.a.x < s.b.x → sum in_strip (places W) ≡ M * trapezoid s
  strips-sum slanted =
      go (s.b.x - s.a.x) (W - s.b.x) share (omega arith) (omega arith) (omega arith)
      (scale.divides _ (omega arith) (omega arith)) (some-yet (s.b.x - s.a.x) 0 (omega arith))
    where
      go : (w i q : ℕ) → s.a.x + w ≡ s.b.x → s.b.x + i ≡ W → breadth s ≡ w → q * w ≡ M
          → sum in_strip (places (s.a.x + w)) ≡ q * (s.a.y * (w * w + 2 * w * 0) + s.b.y * (w * w))
          → sum in_strip (places W) ≡ M * trapezoid s
      go w i q e f d g p =
          ap (λ n. sum in_strip (places n)) (sym f) ∙ all-yet i ∙ ap (λ n. sum in_strip (places n)) (sym e) ∙ p
          ∙ rw (d, ← g) (omega arith)

  pub strips-part : (g : ℕ → Bool) (b : Bool) → ((x : ℕ) → covers x s ≡ true → g x ≡ b)
      → sum (λ x. ind (covers x s && g x) * key M s x) (places W) ≡ M * (ind b * trapezoid s)
  strips-part g b steady = go (lt-or-le s.a.x s.b.x)
    where
      over : (x : ℕ) (c : Bool) → covers x s ≡ c → ind (c && g x) * key M s x ≡ ind b * (ind c * key M s x)
      over x true h = rw (steady x h) (omega arith)
      over x false h = omega arith

      upright : s.b.x ≤ s.a.x → (x : ℕ) (c : Bool) → covers x s ≡ c → ind (c && g x) * key M s x ≡ 0
      upright l x true h = let at = (covers-is x s).0 h in absurd (omega arith)
      upright l x false h = omega arith

      go : (s.a.x < s.b.x) ⊎ (s.b.x ≤ s.a.x)
          → sum (λ x. ind (covers x s && g x) * key M s x) (places W) ≡ M * (ind b * trapezoid s)
      go (inl l) =
          sum-ext _ _ (places W) (λ x m. over x (covers x s) refl) ∙ sum-mul (ind b) in_strip (places W)
          ∙ ap (λ n. ind b * n) (strips-sum l) ∙ swap (ind b) (trapezoid s)
        where
          swap : (i n : ℕ) → i * (M * n) ≡ M * (i * n)
          swap i n = omega arith
      go (inr l) =
          let flat : breadth s ≡ 0 = omega arith in
          sum-ext _ _ (places W) (λ x m. upright l x (covers x s) refl) ∙ sum-zero (places W) ∙ rw flat (omega arith)
