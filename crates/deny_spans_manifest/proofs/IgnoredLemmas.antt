-- The kinds that a manifest ignores, by cases.
use Rattle.std.proofs.Common.{◌≡◌, ◌∙◌, [], ℕ, Bool, List, Option, ap, cond}
use Rattle.std.specs.Prelude.{◌==◌}
use Rattle.std.specs.List.{list_any}
use Rattle.std.specs.Option.{option_map_or}
use Rattle.deny_spans_manifest.specs.Ignored.{duplicates_in, ignored_at, ignored_in, unnamed_in, words_in}
use Rattle.deny_spec.specs.Graph.{Graph}
use Rattle.deny_toml.specs.value.Value.{Value}

-- the ignored kinds, by whether the crate is a member and by what its manifest lists
pub ignored_is : (g : Graph) (place : ℕ) (tree : Value) (b : Bool) (o : Option (List Value))
    → b ≡ list_any (λ member. member == place) g.members → o ≡ duplicates_in tree
    → cond b (option_map_or (λ listed. unnamed_in (words_in listed)) o []) [] ≡ ignored_at g place tree
unfolding ignored_at ignored_in
ignored_is g place tree b o is listed =
    ap (λ c. cond c (option_map_or (λ each. unnamed_in (words_in each)) o []) []) is
    ∙ ap (λ r. cond (list_any (λ member. member == place) g.members)
    (option_map_or (λ each. unnamed_in (words_in each)) r []) []) listed
