use Rattle.std.specs.Borrow.{Bor}
use Rattle.std.proofs.Common.{rules, ap, List}
use lib.IntN.{ℤ}
use Rattle.join.proofs.JoinLaws.{joined-written}
use Rattle.join.proofs.combine_charts.Goals as goal

-- equal slices have the same numbers
pub returns : goal.returns
returns c =
    let first = ap (λ (s : Bor (List ℤ)). s.now) c.numbers.ensures.same in
    let second = ap (λ (s : Bor (List ℤ)). s.now) c.numbers-2.ensures.same in
    search (rules, joined-written)
