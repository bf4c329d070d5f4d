-- The highest below a point, found in one pass: what a search that compares each record with the highest so far alone
-- comes to, in any array. That in a sound chart it is the nearest: `highest-nearest` of proofs/PassLaws.antt.
--     climb s p b i k      the highest so far stands at b, and k records from record i on are compared with it
--     highest_below s p    from the first that is counted below p on: the number of records where there is none
--     Highest s p b        b is that, with its range
-- Assumes nothing.
use Rattle.std.specs.Prelude.{◌≡◌, cond, List, ℕ, zero, suc, ◌-◌, ◌≤◌, ℤ}
use Rattle.counts.specs.Scan.{first_from}
use Rattle.plane.specs.declared.Point.{Point}
use Rattle.record.specs.Records.{record_at, record_count}
use Rattle.segment.specs.Segments.{segment}
use Rattle.region.specs.Boundaries.{counted, higher_below}

unfoldable pub climb : List ℤ → Point → ℕ → ℕ → ℕ → ℕ
climb s p b i zero = b
climb s p b i (suc k) =
    climb s p (cond (higher_below p (segment (record_at s b)) (record_at s i)) i b) (suc i) k

unfoldable pub highest_below : List ℤ → Point → ℕ
highest_below s p =
    let f = first_from (counted p) (record_at s) 0 (record_count s) in climb s p f f (record_count s - f)

pub record Highest (s : List ℤ) (p : Point) (b : ℕ) : Type 0 where
  pub is : b ≡ highest_below s p
  pub most : b ≤ record_count s
