-- What is said of cycles: that one comes round, and that two records are in one.
--     Closed s c          the cycle c comes round and passes no point twice: it has a record, each but the last ends
--                         where the next departs, the last where the first does, and no two depart from one point
--     Together cs a b     one of the cycles cs has both records a and b
-- Assumes nothing.
use Rattle.std.specs.Prelude.{◌≡◌, List, ℕ, suc, ◌-◌, ◌<◌, ℤ, length, get_or}
use Rattle.counts.specs.Count.{◌∈◌}
use Rattle.record.specs.Records.{record_at}

pub record Closed (s : List ℤ) (c : List ℕ) : Type 0 where
  pub some : 0 < length c
  pub chain : (k : ℕ) → suc k < length c → (record_at s (get_or c k 0)).other ≡ (record_at s (get_or c (suc k) 0)).dom
  pub ends : (record_at s (get_or c (length c - 1) 0)).other ≡ (record_at s (get_or c 0 0)).dom
  pub simple : (j k : ℕ) → j < k → k < length c
      → (record_at s (get_or c j 0)).dom ≡ (record_at s (get_or c k 0)).dom → ⊥

pub record Together (cs : List (List ℕ)) (a b : ℕ) : Type 0 where
  pub it : List ℕ
  pub listed : it ∈ cs
  pub one : a ∈ it
  pub other : b ∈ it
