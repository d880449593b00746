-- The keys of a ban, by the places of the crates that it concerns and by the spans of its wrappers.
use Rattle.std.specs.Prelude.{◌++◌, ℕ, Bool, true, false, List, filter_map, map}
use Rattle.std.specs.List.{list_all, list_any}
use Rattle.deny_base_lists.specs.TextMap.{TextFinMap}
use Rattle.deny_base.specs.declared.code.Code.{Code}
use Rattle.deny_base.specs.declared.code.Code.TheVariants.{AllowedByWrapper, UnmatchedWrapper}
use Rattle.deny_base.specs.declared.key.Key.{Key}
use Rattle.deny_base.specs.declared.span.Span.{Span}
use Rattle.deny_spec.specs.Bans.{allowed_by_wrapper_keys_of, banned_keys_of, unmatched_wrapper_keys_of}
use Rattle.deny_spec.specs.Graph.{Crate, Graph, dependents}
use Rattle.deny_spec.specs.Keys.{dependent_key}
use Rattle.deny_spec.specs.Policy.{Ban, Policy}
use Rattle.deny_spec.specs.Wrappers.{same_span, unused_wrapper_keys_of}
use Rattle.deny_rules_match.specs.Wrappers.{has_span, span_of}

-- the keys of a ban, by all its rules
unfoldable pub keys_of_ban : Policy → Graph → Ban → List Key
keys_of_ban p g ban = banned_keys_of p g ban
    ++ (allowed_by_wrapper_keys_of p g ban
    ++ (unmatched_wrapper_keys_of p g ban
    ++ unused_wrapper_keys_of p g ban))

-- the name of each direct dependent of the crate at this place has a span
unfoldable pub is_waived_at : Graph → TextFinMap Span → ℕ → Bool
is_waived_at g spans place = list_all (has_span spans) (dependents g place)

-- the code of a direct dependent: of a wrapper, or of another
unfoldable pub reported_code : Bool → Code
reported_code true = AllowedByWrapper
reported_code false = UnmatchedWrapper

unfoldable pub reported_key : TextFinMap Span → Span → ℕ → Crate → Key
reported_key spans entry place parent = dependent_key (reported_code (has_span spans parent)) place entry parent.place

-- the keys of the direct dependents of the crate at this place
unfoldable pub reported_keys_at : Graph → TextFinMap Span → Span → ℕ → List Key
reported_keys_at g spans entry place = map (reported_key spans entry place) (dependents g place)

-- the spans of the wrappers among the direct dependents of the crate at this place
unfoldable pub hits_at : Graph → TextFinMap Span → ℕ → List Span
hits_at g spans place = filter_map (span_of spans) (dependents g place)

-- the span is one of the hits
unfoldable pub is_hit : List Span → Span → Bool
is_hit hits span = list_any (λ hit. same_span hit span) hits
