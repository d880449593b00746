-- The entries that a call pushes to a list.
use Rattle.std.specs.Prelude.{◌≡◌, List, ◌++◌, drop, length}

-- the entries of the new list after those of the old one
abbrev pub added : {T : Type 0} → List T → List T → List T
added old new = drop (length old) new

-- the new list is the old one with more entries, maybe none, at its end
abbrev pub IsLonger : {T : Type 0} → List T → List T → Type 0
IsLonger old new = old ++ added old new ≡ new
