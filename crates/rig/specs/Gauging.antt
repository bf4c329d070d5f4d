-- A gauge sample at the boundary, where a card is a kind and two floats.
--     by_kind k a b c    a for kind 0, a spring; b for kind 1, a bridge; c for any other
--     NoCard j p m       what a kind that is no card's gives: 21, with pressure and row zero
--     KindGauges k x y n j p m    what the sample n gives by the card of kind k, a refusal's number j, a pressure p and a
--                        row m: a spring of rate x and pin y, a bridge of gain x and zero y; a kind that is neither
--                        breaks the rules
--     SampleRead k x y n r p m    the answer r has the refusal's number and nothing else; with the pressure p and the
--                        row m, which are always written, it is what the sample gives
-- Assumes nothing.
use Rattle.std.specs.Prelude.{◌≡◌, cond, ℕ, eqb, ℤ, pos, Float, false}
use Rattle.std.specs.Float.{fin}
use Rattle.gauge.specs.declared.Card.TheVariants.{Spring, Bridge}
use Rattle.gauge.specs.Readings.{Sampled}
use Rattle.rig.specs.Bits.{packed, number_of}

abbrev pub by_kind : {A : Type 1} → ℕ → A → A → A → A
by_kind k a b c = cond (eqb k 0) a (cond (eqb k 1) b c)

abbrev pub NoCard : ℕ → Float → ℤ → Type 0
NoCard j p m = (j ≡ 21) × (p ≡ fin false 0 (pos 0)) × (m ≡ pos 0)

unfoldable pub KindGauges : ℕ → Float → Float → ℤ → ℕ → Float → ℤ → Type 0
KindGauges k x y n j p m =
    by_kind k (Sampled (Spring x y) n j p m) (Sampled (Bridge x y) n j p m) (NoCard j p m)

pub record SampleRead (k : ℕ) (x y : Float) (n : ℤ) (r : ℕ) (p : Float) (m : ℤ) : Type 0 where
  pub says : r ≡ packed 0 (number_of r) 0 0
  pub reads : KindGauges k x y n (number_of r) p m
