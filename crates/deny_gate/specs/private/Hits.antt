-- Hits as they are gathered.
use Rattle.std.specs.Prelude.{◌≡◌, List, Contains}
use Rattle.deny_base.specs.declared.entry.Hit.{Hit}

-- two hits of the same entry are equal
abbrev pub IsOneEach : List Hit → Type 0
IsOneEach hits = (one other : Hit) → Contains hits one → Contains hits other → one.entry ≡ other.entry → one ≡ other
