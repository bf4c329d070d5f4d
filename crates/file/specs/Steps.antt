-- What the first pass over a file's numbers finds.
--     is_taken t    they can be taken
--     end_of t      where they end, or the refusal
-- Assumes nothing.
use Rattle.std.specs.Prelude.{Bool, true, false, ℕ, Result, Ok, Err}
use Rattle.file.specs.declared.FileRefusal.{FileRefusal}
use Rattle.file.specs.Files.{Taken, taken, refused}

abbrev pub is_taken : Taken → Bool
is_taken (taken zs at) = true
is_taken (refused r) = false

abbrev pub end_of : Taken → Result ℕ FileRefusal
end_of (taken zs at) = Ok at
end_of (refused r) = Err r
