-- The walk over two charts a and b that writes their kept records: n of them are written, and those of the first from
-- record i on and of the second from record j on are left.
--     Writing           what the loop of `write` holds: what is left is ahead
--     left a b i j      how many records are left, kept or not
--     onward s i        the part of an array from record i on, as the language takes it
--     writing-none      at the beginning
-- and from which of the two heads is smaller:
--     room-first, room-second    what taking the next record asks
--     writing-first, writing-second, fewer-first, fewer-second    one record on
--     writing-end       where neither has a record left
--     writing           for `search`: what closes the goals of the loop
-- Assumes nothing.
use mathlib.Core.Path.{◌≡◌, sym, ap, ap₂, ◌∙◌, subst}
use mathlib.Core.List.{List}
use Prim.Native.Nat.{ℕ, ◌+◌, ◌-◌, ◌*◌, ◌<◌, ◌≤◌, zero-le}
use native.Mathlib.Omega.{arith}
use lib.IntN.{ℤ}
use lib.ListN.{length, take, drop, length-drop}
use lib.Seq.{take_all}
use Rattle.std.specs.Prelude.{Option, Some, None}
use Rattle.record.specs.declared.Record.{Record}
use Rattle.record.specs.Records.{width, record_at, record_count}
use Rattle.parts.specs.declared.Which.{Which}
use Rattle.parts.specs.declared.Which.TheVariants.{First, Second}
use Rattle.parts.specs.Parts.{head_of}
use Rattle.chart.specs.Regions.{Region}
use Rattle.combined.specs.Kept.{kept}
use Rattle.combined.specs.Results.{in_order}
use Rattle.combined.proofs.OrderedLaws.{in_order-length}
use Rattle.sides.specs.declared.Op.{Op}
use Rattle.sides.specs.Operations.{joining, both}
use Rattle.sides.specs.Kept.{kept_first, kept_second, side_marked}
use Rattle.join.specs.Joinings.{result_of}
use Rattle.join.specs.Steps.{written, Room, TookNext}
use Rattle.join.proofs.SizeLaws.{result-length}
use Rattle.join.proofs.StepLaws.{Ahead, ahead-all, ahead_none, ahead-room, ahead-next}
use Rattle.join.proofs.HeadLaws.{head_first, head-second, head-neither}
use Rattle.join.proofs.RestLaws.{rest_of, rest_all, rest-first, rest-second, rest-none}

abbrev AheadOf : Op → List ℤ → List ℤ → List ℤ → List ℤ → ℕ → List Record → Type 0
AheadOf op a b lent out n rs = Ahead (written op a b lent) (side_marked op a b) lent out n rs

pub record Writing (op : Op) (a b lent out : List ℤ) (i j n : ℕ) : Type 0 where
  pub first : i ≤ record_count a
  pub second : j ≤ record_count b
  pub ahead : Ahead (written op a b lent) (side_marked op a b) lent out n (rest_of op a b i j)

abbrev pub left : List ℤ → List ℤ → ℕ → ℕ → ℕ
left a b i j = record_count a - i + (record_count b - j)

abbrev pub onward : List ℤ → ℕ → List ℤ
onward s i = take (length s - width * i) (drop (width * i) s)

onward-is : (s : List ℤ) (i : ℕ) → onward s i ≡ drop (width * i) s
onward-is s i = take_all (length s - width * i) (drop (width * i) s) (omega (arith, length-drop (width * i) s))

smaller : (a b : List ℤ) (i j : ℕ) {h k : Option Which} → h ≡ head_of (onward a i) (onward b j) → h ≡ k
    → head_of (drop (width * i) a) (drop (width * j) b) ≡ k
smaller a b i j is e = ap₂ head_of (sym (onward-is a i)) (sym (onward-is b j)) ∙ sym is ∙ e

module _ {op : Op} {a b lent out : List ℤ} {i j n : ℕ} {h : Option Which} {v : Which}
    (w : Writing op a b lent out i j n) (is : h ≡ head_of (onward a i) (onward b j)) (some : h ≡ Some v) where
  pub fewer-first : v ≡ First → left a b (i + 1) j < left a b i j
  fewer-first e = omega (arith, (head_first a b i j (smaller a b i j is (some ∙ ap Some e))).0)

  pub fewer-second : v ≡ Second → left a b i (j + 1) < left a b i j
  fewer-second e = omega (arith, (head-second a b i j (smaller a b i j is (some ∙ ap Some e))).0)

module _ (op : Op) (a b lent : List ℤ) where
  pub writing-none : width * length (result_of op a b) ≤ length lent → Writing op a b lent lent 0 0 0
  writing-none h =
      let rs = kept (joining op) (both a b) in
      let size = in_order-length rs ∙ sym (result-length op a b) in
      let all = ahead-all (side_marked op a b) lent (in_order rs) (omega arith) in
      record {
        first = zero-le;
        second = zero-le;
        ahead = subst (AheadOf op a b lent lent 0) (sym (rest_all op a b)) all;
      }

  module _ {out : List ℤ} {i j n : ℕ} {h : Option Which} (first : Region a) (second : Region b)
      (w : Writing op a b lent out i j n) (is : h ≡ head_of (onward a i) (onward b j)) where
    -- what is ahead, by the smaller head
    ahead-is : {rs : List Record} → rest_of op a b i j ≡ rs → AheadOf op a b lent out n rs
    ahead-is e = subst (AheadOf op a b lent out n) e w.ahead

    pub room-first : {v : Which} → h ≡ Some v → v ≡ First → Room (kept_first op a b) (record_at a i) out n
    room-first some e =
        ahead-room _ (side_marked op a b) lent out n (kept_first op a b) (record_at a i) (rest_of op a b (i + 1) j)
        (ahead-is (rest-first op a b first second i j (smaller a b i j is (some ∙ ap Some e))))

    pub writing-first : {next : List ℤ} {m : ℕ} {v : Which} → h ≡ Some v → v ≡ First
        → TookNext First op a b i out n next m → Writing op a b lent next (i + 1) j m
    writing-first some e took =
        let head = smaller a b i j is (some ∙ ap Some e) in
        record {
          first = omega (arith, (head_first a b i j head).0);
          second = w.second;
          ahead = ahead-next _ (side_marked op a b) lent out n (kept_first op a b) (record_at a i)
              (rest_of op a b (i + 1) j) (ahead-is (rest-first op a b first second i j head)) took;
        }

    pub room-second : {v : Which} → h ≡ Some v → v ≡ Second → Room (kept_second op a b) (record_at b j) out n
    room-second some e =
        ahead-room _ (side_marked op a b) lent out n (kept_second op a b) (record_at b j) (rest_of op a b i (j + 1))
        (ahead-is (rest-second op a b first second i j (smaller a b i j is (some ∙ ap Some e))))

    pub writing-second : {next : List ℤ} {m : ℕ} {v : Which} → h ≡ Some v → v ≡ Second
        → TookNext Second op a b j out n next m → Writing op a b lent next i (j + 1) m
    writing-second some e took =
        let head = smaller a b i j is (some ∙ ap Some e) in
        record {
          first = w.first;
          second = omega (arith, (head-second a b i j head).0);
          ahead = ahead-next _ (side_marked op a b) lent out n (kept_second op a b) (record_at b j)
              (rest_of op a b i (j + 1)) (ahead-is (rest-second op a b first second i j head)) took;
        }

    pub writing-end : h ≡ None → out ≡ written op a b lent
    writing-end e =
        let past = head-neither a b i j (smaller a b i j is e) in
        ahead_none (ahead-is (rest-none op a b i j past.0 past.1))

pub ruleset writing = (
  writing-none,
  fewer-first,
  fewer-second,
  room-first,
  writing-first,
  room-second,
  writing-second,
  writing-end,
)
