-- A left half stands for its segment: `of_segment` (specs/Segments.antt) in each case, as a program finds it.
--     of_segment-left    a left half: whether its segment passes
--     of_segment-right   a right half: no
--     standing           for `search`: both
-- Assumes nothing.
use mathlib.Core.Path.{◌≡◌, sym, ap, ◌∙◌}
use mathlib.Core.Bool.{Bool, true, false, ◌&&◌}
use Rattle.plane.specs.declared.Segment.{Segment}
use Rattle.record.specs.declared.Record.{Record}
use Rattle.record.specs.Order.{left}
use Rattle.segment.specs.Segments.{segment, of_segment}

module _ (q : Segment → Bool) (e : Record) where
  pub of_segment-left : {h b : Bool} {t : Segment} → h ≡ left e → h ≡ true → t ≡ segment e → b ≡ q t
      → b ≡ of_segment q e
  of_segment-left l y s d = d ∙ ap q s ∙ ap (λ h. h && q (segment e)) (sym y ∙ l)

  pub of_segment-right : {h : Bool} → h ≡ left e → h ≡ false → h ≡ of_segment q e
  of_segment-right l y = y ∙ ap (λ h. h && q (segment e)) (sym y ∙ l)

pub ruleset standing = (of_segment-left, of_segment-right)
