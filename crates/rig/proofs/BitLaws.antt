-- What is packed into an answer is read from it again.
--     Decoded a v n c k    the answer a has the value v, the number n, the chart c and the kind k
--     packed-decoded       so, where each has room in its bits
--     number-packed        a number alone
-- Assumes nothing.
use mathlib.Core.Path.{◌≡◌}
use Prim.Native.Nat.{ℕ, ◌^◌, ◌<◌}
use native.Mathlib.Omega.{arith}
use Rattle.rig.specs.Bits.{packed, value_of, number_of, chart_of, kind_of}

pub record Decoded (a v n c k : ℕ) : Type 0 where
  pub value : value_of a ≡ v
  pub number : number_of a ≡ n
  pub chart : chart_of a ≡ c
  pub kind : kind_of a ≡ k

pub packed-decoded : (v n c k : ℕ) → v < 2 ^ 32 → n < 2 ^ 16 → c < 2 ^ 8 → Decoded (packed v n c k) v n c k
unfolding packed value_of number_of chart_of kind_of
packed-decoded v n c k lv ln lc =
    record { value = omega arith; number = omega arith; chart = omega arith; kind = omega arith }

pub number-packed : (n : ℕ) → n < 2 ^ 16 → number_of (packed 0 n 0 0) ≡ n
number-packed n l = (packed-decoded 0 n 0 0 (omega arith) l (omega arith)).number
