-- When a promise settles its answer. Pre and Post are the promise as the source states it, for n lifetimes, the
-- arguments ps and the result r: what is asked of the arguments, and what is said of the result and of the parameters
-- at exit.
--     Open n ps Pre             nothing is asked: whatever is passed is allowed
--     Settled n ps r Pre Post   nothing is asked, and any two outcomes v and w of one call that Post allows coincide
--     SamePart p q              p and q are one part: its numbers, the array it lies in, and its place
--     SettledPart n ps r Pre Post      nothing is asked, and any two outcomes are one part
--     SettledLent n ps r B lent Pre Post    nothing is asked, any two outcomes coincide, and so does what is then lent
--                               back, a B
-- Assumes nothing.
use mathlib.Core.Path.{◌≡◌}
use mathlib.Core.List.{List}
use Prim.Native.Nat.{ℕ}
use denote.Ref.{Bor}
use lib.IntN.{ℤ}
use contract.Lifetimes.{Lfts}
use denote.Triple.Clauses.{AtExit}
use borrow.Fn.Kinds.{ParamKind, ResultKind, ended_of, res_t, Dens, In, Out}

abbrev pub Open : (n : ℕ) (ps : List (ParamKind n)) → In n ps → Type 0
Open n ps Pre = (κs : Lfts n) (a : Dens κs ps) → Pre κs a

abbrev pub Settled : (n : ℕ) (ps : List (ParamKind n)) (r : ResultKind n) → In n ps → Out n ps r → Type 0
Settled n ps r Pre Post =
    Open n ps Pre
    × ((κs : Lfts n) (a : Dens κs ps) (v w : (res_t r κs).Denot) (s t : AtExit (ended_of n ps r) κs)
    → Post κs a v s → Post κs a w t → v ≡ w)

abbrev pub SamePart : Bor (List ℤ) → Bor (List ℤ) → Type 0
SamePart p q = (p.now ≡ q.now) × (p.ref_ptr.0 ≡ q.ref_ptr.0) × (p.ref_ptr.1 ≡ q.ref_ptr.1)

abbrev pub SettledPart : (n : ℕ) (ps : List (ParamKind n)) (r : ResultKind n) → In n ps
    → ((κs : Lfts n) → Dens κs ps → Bor (List ℤ) → AtExit (ended_of n ps r) κs → Type 0) → Type 0
SettledPart n ps r Pre Post =
    Open n ps Pre
    × ((κs : Lfts n) (a : Dens κs ps) (p q : Bor (List ℤ)) (s t : AtExit (ended_of n ps r) κs)
    → Post κs a p s → Post κs a q t → SamePart p q)

abbrev pub SettledLent : (n : ℕ) (ps : List (ParamKind n)) (r : ResultKind n) (B : Type 0)
    → ((κs : Lfts n) → AtExit (ended_of n ps r) κs → B) → In n ps → Out n ps r → Type 0
SettledLent n ps r B lent Pre Post =
    Open n ps Pre
    × ((κs : Lfts n) (a : Dens κs ps) (v w : (res_t r κs).Denot) (s t : AtExit (ended_of n ps r) κs)
    → Post κs a v s → Post κs a w t → (v ≡ w) × (lent κs s ≡ lent κs t))
