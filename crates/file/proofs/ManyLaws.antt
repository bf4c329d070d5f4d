-- Records of a chart file that take as many bytes as a record can: four numbers of three bytes, and a mark.
--     many_bytes n       n of them as bytes
--     many_numbers n     as the array gets them
--     many-length        they have 13 * n bytes
--     many-bytes         all of them below 256
--     records-taken      they are taken, from any place of a file where they stand to the place 13 * n on
-- Assumes nothing.
use mathlib.Core.Path.{◌≡◌, refl, sym, ap, ◌∙◌}
use mathlib.Core.Bool.{true}
use mathlib.Core.List.{List, [], ◌∷◌}
use Prim.Native.Nat.{ℕ, zero, suc, ◌+◌, ◌*◌, ◌%◌, ◌<◌}
use native.Mathlib.Omega.{arith}
use lib.Dec.{ltb}
use lib.IntN.{ℤ, pos, negsuc}
use lib.ListN.{length, drop}
use lib.Seq.{drop-drop}
use borrow.Author.Tests.{eq-eqb, ne_eqb}
use Rattle.counts.specs.Count.{all}
use Rattle.record.specs.Records.{width}
use Rattle.number.specs.Numbers.{signed, number_in}
use Rattle.file.specs.Fields.{put, coordinate_for, number_for, field, field_in, field_at}
use Rattle.number.specs.Groups.{first_group}
use Rattle.file.specs.Files.{taken, onto, after, fields}
use Rattle.number.proofs.NumberLaws.{number_in-groups}

-- 255 255 3 is 65,535, as which -32,768 is written
unfoldable pub many_bytes : ℕ → List ℕ
many_bytes zero = []
many_bytes (suc n) =
    255 ∷ 255 ∷ 3 ∷ 255 ∷ 255 ∷ 3 ∷ 255 ∷ 255 ∷ 3 ∷ 255 ∷ 255 ∷ 3 ∷ 1 ∷ many_bytes n

-- -32,768 four times and the mark 1
unfoldable pub many_numbers : ℕ → List ℤ
many_numbers zero = []
many_numbers (suc n) = negsuc 32767 ∷ negsuc 32767 ∷ negsuc 32767 ∷ negsuc 32767 ∷ pos 1 ∷ many_numbers n

-- 13 bytes a record
pub many-length : (n : ℕ) → length (many_bytes n) ≡ 13 * n
unfolding many_bytes
many-length zero = refl
many-length (suc n) = omega (arith, many-length n)

-- each fits a byte
pub many-bytes : (n : ℕ) → all (λ b. ltb b 256) (many_bytes n) ≡ true
unfolding many_bytes all
many-bytes zero = refl
many-bytes (suc n) = many-bytes n

-- ---- they are taken

module _ (s bs : List ℕ) (k at : ℕ) where
  -- a coordinate, and the bytes after it
  coordinate-taken : k % width < 4 → drop at s ≡ 255 ∷ 255 ∷ 3 ∷ bs
      → (field_at s k at ≡ put (negsuc 32767) (at + 3)) × (drop (at + 3) s ≡ bs)
  unfolding first_group field number_for coordinate_for signed
  coordinate-taken l e = (
    ap (λ bs. field_in k at (number_in bs at)) e
        ∙ rw (number_in-groups (255 ∷ 255 ∷ 3 ∷ bs) at, ne_eqb (k % width) 4 (λ h. omega arith)),
    sym (drop-drop 3 at s) ∙ ap (drop 3) e,
  )

  -- a mark, and the bytes after it
  mark-taken : k % width ≡ 4 → drop at s ≡ 1 ∷ bs
      → (field_at s k at ≡ put (pos 1) (at + 1)) × (drop (at + 1) s ≡ bs)
  unfolding first_group field number_for
  mark-taken h e = (
    ap (λ bs. field_in k at (number_in bs at)) e ∙ rw (number_in-groups (1 ∷ bs) at, eq-eqb (k % width) 4 h),
    sym (drop-drop 1 at s) ∙ ap (drop 1) e,
  )

-- a number that is taken, before others that are
fields-first : (s : List ℕ) (k m at : ℕ) {z : ℤ} {next : ℕ} {zs : List ℤ} {end : ℕ} → field_at s k at ≡ put z next
    → fields s (suc k) m next ≡ taken zs end → fields s k (suc m) at ≡ taken (z ∷ zs) end
unfolding fields
fields-first s k m at {z} e h = ap (λ x. after x (fields s (suc k) m)) e ∙ ap (onto z) h

-- one record before n others
record-taken : (s : List ℕ) (i m n at end : ℕ) → drop at s ≡ many_bytes (suc n)
    → ((next : ℕ) → next ≡ at + 13 → drop next s ≡ many_bytes n
    → fields s (width * suc i) m next ≡ taken (many_numbers n) end)
    → fields s (width * i) (suc (suc (suc (suc (suc m))))) at ≡ taken (many_numbers (suc n)) end
unfolding many_bytes many_numbers
record-taken s i m n at end e rest =
    let k = width * i in
    let a = coordinate-taken s _ k at (omega arith) e in
    let b = coordinate-taken s _ (suc k) (at + 3) (omega arith) a.1 in
    let c = coordinate-taken s _ (suc (suc k)) (at + 3 + 3) (omega arith) b.1 in
    let d = coordinate-taken s _ (suc (suc (suc k))) (at + 3 + 3 + 3) (omega arith) c.1 in
    let f = mark-taken s _ (suc (suc (suc (suc k)))) (at + 3 + 3 + 3 + 3) (omega arith) d.1 in
    let p : suc (suc (suc (suc (suc k)))) ≡ width * suc i = omega arith in
    let others = ap (λ j. fields s j m (at + 3 + 3 + 3 + 3 + 1)) p ∙ rest _ (omega arith) f.1 in
    fields-first s k _ at a.0
    (fields-first s (suc k) _ (at + 3) b.0
    (fields-first s (suc (suc k)) _ (at + 3 + 3) c.0
    (fields-first s (suc (suc (suc k))) _ (at + 3 + 3 + 3) d.0
    (fields-first s (suc (suc (suc (suc k)))) m (at + 3 + 3 + 3 + 3) f.0 others))))

-- n records, the first of them record i
pub records-taken : (s : List ℕ) (i n at end : ℕ) → drop at s ≡ many_bytes n → end ≡ at + 13 * n
    → fields s (width * i) (width * n) at ≡ taken (many_numbers n) end
unfolding many_numbers fields
records-taken s i zero at end e h = ap (taken []) (omega arith)
records-taken s i (suc n) at end e h =
    let five : width * suc n ≡ suc (suc (suc (suc (suc (width * n))))) = omega arith in
    ap (λ m. fields s (width * i) m at) five
    ∙ record-taken s i (width * n) n at end e
    (λ next p r. records-taken s (suc i) n next end r (omega arith))
