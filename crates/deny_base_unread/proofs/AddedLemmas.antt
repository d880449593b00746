-- The entries that several calls push to a list.
use Rattle.std.proofs.Common.{◌≡◌, List, ◌++◌, length, drop, sym, ap, ◌∙◌, append_assoc}
use Rattle.std.proofs.Math.Seq.{drop-append_seam}
use Rattle.deny_base_unread.specs.Added.{IsLonger, added}

pub added_is : {T : Type 0} (old more new : List T) → new ≡ old ++ more → added old new ≡ more
added_is old more new is = ap (drop (length old)) is ∙ drop-append_seam old more

pub longer_is : {T : Type 0} (old more new : List T) → new ≡ old ++ more → IsLonger old new
longer_is old more new is = ap (λ xs. old ++ xs) (added_is old more new is) ∙ sym is

both_added : {T : Type 0} (old mid new : List T) → IsLonger old mid → IsLonger mid new
    → new ≡ old ++ (added old mid ++ added mid new)
both_added old mid new first second =
    sym second ∙ ap (λ xs. xs ++ added mid new) (sym first) ∙ append_assoc old (added old mid) (added mid new)

-- two calls push the entries of the first, and then those of the second
pub added_then : {T : Type 0} (old mid new : List T) → IsLonger old mid → IsLonger mid new
    → added old new ≡ added old mid ++ added mid new
added_then old mid new first second =
    added_is old (added old mid ++ added mid new) new (both_added old mid new first second)

pub longer_then : {T : Type 0} (old mid new : List T) → IsLonger old mid → IsLonger mid new → IsLonger old new
longer_then old mid new first second =
    longer_is old (added old mid ++ added mid new) new (both_added old mid new first second)
