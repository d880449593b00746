-- Entries for what was not read: their order, and the entry for a crate, purpose and path.
use Rattle.std.specs.Prelude.{ℕ, Bool, true, false, List, [], ◌∷◌, Option}
use Rattle.std.specs.Option.{option_cmp}
use Rattle.std.specs.List.{list_any}
use Rattle.std.specs.Ordering.{eq_by_cmp, nat_cmp, on, then_cmp}
use Rattle.std.specs.Cmp.Lexicographic.{slice_cmp}
use Rattle.std.specs.declared.cmp.Ordering.{Ordering}
use Rattle.deny_base.specs.declared.span.Kid.{Kid}
use Rattle.deny_base.specs.Purpose.{purpose_cmp}
use Rattle.deny_base.specs.declared.purpose.Purpose.{Purpose}
use Rattle.deny_base.specs.declared.unread.Unread.{Unread}

abbrev pub kid_cmp : Kid → Kid → Ordering
kid_cmp = on (λ kid. kid.0) (slice_cmp nat_cmp)

-- entries are ordered by crate, those of no crate first, then by path and purpose
abbrev pub unread_cmp : Unread → Unread → Ordering
unread_cmp =
    then_cmp (on (λ u. u.krate) (option_cmp kid_cmp))
    (then_cmp (on (λ u. u.path) (slice_cmp nat_cmp)) (on (λ u. u.purpose) purpose_cmp))

-- the entry for this crate, purpose and path
abbrev pub asked : Option Kid → Purpose → List ℕ → Unread
asked krate purpose path = record { krate = krate; path = path; purpose = purpose }

-- the entry alone, or no entry where the file was read
abbrev pub if_unread : Unread → Bool → List Unread
if_unread entry true = []
if_unread entry false = entry ∷ []

-- whether entries have one for this crate, purpose and path
unfoldable pub is_unread : List Unread → Option Kid → Purpose → List ℕ → Bool
is_unread us krate purpose path = list_any (λ u. eq_by_cmp unread_cmp (asked krate purpose path) u) us
