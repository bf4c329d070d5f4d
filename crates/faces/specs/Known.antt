-- What is known of an accepted chart s whose walks are cut.
--     Known s starts firsts    both arrays have, for each record, the start of its walk and the first record of its
--                              cycle
-- Assumes nothing.
use Rattle.std.specs.Prelude.{◌≡◌, true, List, ℕ, ◌≤◌, ◌<◌, ℤ, length, get_or}
use Rattle.record.specs.Records.{record_count}
use Rattle.chart.specs.Verdicts.{accepted}
use Rattle.walks.specs.Cycles.{start_of, first_of}

pub record Known (s : List ℤ) (starts firsts : List ℕ) : Type 0 where
  pub sound : accepted s ≡ true
  pub start-room : record_count s ≤ length starts
  pub first-room : record_count s ≤ length firsts
  pub start : (i : ℕ) → i < record_count s → get_or starts i 0 ≡ start_of s i
  pub first : (i : ℕ) → i < record_count s → get_or firsts i 0 ≡ first_of s i
