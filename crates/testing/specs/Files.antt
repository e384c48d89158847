-- What opening a file answers: the file, or -1.
use Rattle.std.specs.Prelude.{◌≡◌, ℤ, pos, negsuc, Result, Ok, Err}

abbrev pub Opened : {F : Type 0} → Result F ℤ → Type 0
Opened (Ok file) = Unit {0}
Opened (Err (pos n)) = ⊥
Opened (Err (negsuc k)) = k ≡ 0
