-- The order of two records in each case, as a program finds it (specs/Order.antt).
--     leads-left, leads-right, leads-straight        by the turn of the two directions
--     earlier-halves                                 by the halves
--     precedes-before, precedes-same, precedes-past  by the dominating ends
-- Assumes nothing.
use mathlib.Core.Path.{◌≡◌, sym, ap₂}
use mathlib.Core.Bool.{Bool, true, false, cond}
use lib.Dec.{ltb}
use Rattle.counts.specs.Count.{◌⊕◌}
use Rattle.plane.specs.Points.{before, same}
use Rattle.points.specs.Turning.{turn_of}
use Rattle.points.specs.declared.Turn.TheVariants.{Left, Straight, Right}
use Rattle.points.proofs.TurnLaws.{turn_of-says-left, turn_of-says-right, turn_of-says-straight}
use Rattle.record.specs.declared.Record.{Record}
use Rattle.record.specs.Order.{left, square_length, leads, earlier, precedes}

module _ (r e : Record) where
  -- ---- by the turn

  pub leads-left : turn_of r.dom r.other e.other ≡ Left → leads r e ≡ true
  unfolding leads
  leads-left t = rw (turn_of-says-left r.dom r.other e.other t)

  pub leads-right : turn_of r.dom r.other e.other ≡ Right → leads r e ≡ false
  unfolding leads
  leads-right t = let h = turn_of-says-right r.dom r.other e.other t in rw (h.0, h.1)

  pub leads-straight : turn_of r.dom r.other e.other ≡ Straight
      → leads r e ≡ ltb (square_length r) (square_length e)
  unfolding leads
  leads-straight t = let h = turn_of-says-straight r.dom r.other e.other t in rw (h.0, h.1)

  -- ---- by the halves

  pub earlier-halves : {a b : Bool} → a ≡ left r → b ≡ left e → earlier r e ≡ cond (a ⊕ b) b (leads r e)
  unfolding earlier
  earlier-halves p q = sym (ap₂ (λ x y. cond (x ⊕ y) y (leads r e)) p q)

  -- ---- by the dominating ends

  pub precedes-before : before r.dom e.dom ≡ true → precedes r e ≡ true
  unfolding precedes
  precedes-before h = rw h

  pub precedes-same : before r.dom e.dom ≡ false → same r.dom e.dom ≡ true → precedes r e ≡ earlier r e
  unfolding precedes
  precedes-same h g = rw (h, g)

  pub precedes-past : before r.dom e.dom ≡ false → same r.dom e.dom ≡ false → precedes r e ≡ false
  unfolding precedes
  precedes-past h g = rw (h, g)
