-- Groups: the crates of one name among which duplicates are looked for.
use Rattle.std.specs.Prelude.{ℕ, ◌==◌, ◌&&◌, ◌||◌, Bool, not, List, filter, length, if◌then◌else◌}
use Rattle.std.specs.List.{list_all, list_any}
use Rattle.deny_spec.specs.Facts.{Facts}
use Rattle.deny_spec.specs.Graph.{Crate, Graph, dependents}
use Rattle.deny_spec.specs.Match.{matches}
use Rattle.deny_spec.specs.Policy.{Policy}
use Rattle.deny_spec.specs.Text.{same_text}

unfoldable pub has_name : List ℕ → Crate → Bool
has_name name c = same_text c.name name

-- a skip matches the crate
unfoldable pub is_marked : Policy → Crate → Bool
is_marked p c = list_any (λ s. matches s.spec c) p.skip

-- the crate lies in a skipped tree
unfoldable pub is_in_skipped_tree : Policy → Facts → Crate → Bool
is_in_skipped_tree p facts c = list_any (λ t. facts.in_tree t c) p.skip_tree

-- whether a crate counts, and is not left out for a skipped tree that it lies in
unfoldable pub may_duplicate : Policy → Facts → Crate → Bool
may_duplicate p facts c = facts.counts c && (is_marked p c || not (is_in_skipped_tree p facts c))

unfoldable pub is_in_group : Policy → Facts → List ℕ → Crate → Bool
is_in_group p facts name c = has_name name c && may_duplicate p facts c

-- the crates of a name that count, without those of skipped trees that no skip matches
abbrev pub group : Policy → Graph → Facts → List ℕ → List Crate
group p g facts name = filter (is_in_group p facts name) g.crates

-- whether every direct dependent of a crate has the name, dev edges included: the crate is internal to the crates of
-- that name
unfoldable pub is_internal : Graph → List ℕ → Crate → Bool
is_internal g name c = list_all (has_name name) (dependents g c.place)

-- a group of several crates loses its internal ones
unfoldable pub reduced : Policy → Graph → Facts → List ℕ → List Crate
reduced p g facts name =
    if length (group p g facts name) == 1 then group p g facts name
    else filter (λ c. not (is_internal g name c)) (group p g facts name)

-- the crates of a reduced group that no skip matches
abbrev pub unmarked : Policy → Graph → Facts → List ℕ → List Crate
unmarked p g facts name = filter (λ c. not (is_marked p c)) (reduced p g facts name)
