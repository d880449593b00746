-- Which wrappers are hit, and the keys of the others.
use Rattle.std.specs.Prelude.{◌&&◌, ◌==◌, Bool, false, not, List, filter, map}
use Rattle.std.specs.List.{list_any}
use Rattle.std.specs.Option.{option_map_or}
use Rattle.deny_base.specs.declared.code.Code.TheVariants.{UnusedWrapper}
use Rattle.deny_base.specs.declared.key.Key.{Key}
use Rattle.deny_base.specs.declared.span.Span.{Span}
use Rattle.deny_spec.specs.Bans.{concerns, wrapper_of}
use Rattle.deny_spec.specs.Graph.{Crate, Graph, dependents}
use Rattle.deny_spec.specs.Keys.{unused_key}
use Rattle.deny_spec.specs.Policy.{Ban, Policy, SpannedText}

abbrev pub same_span : Span → Span → Bool
same_span a b = (a.start == b.start) && (a.end == b.end)

-- a wrapper wraps a dependent where it is the first with the dependent's name in its entry
unfoldable pub wraps : List SpannedText → SpannedText → Crate → Bool
wraps wrappers w parent = option_map_or (λ first. same_span first.span w.span) (wrapper_of wrappers parent) false

-- a crate that the entry concerns has a dependent that the wrapper wraps
unfoldable pub hits_wrapper : Policy → Graph → Ban → SpannedText → Crate → Bool
hits_wrapper p g ban w c = concerns p g ban c && list_any (wraps ban.wrappers w) (dependents g c.place)

unfoldable pub is_hit_wrapper : Policy → Graph → Ban → SpannedText → Bool
is_hit_wrapper p g ban w = list_any (hits_wrapper p g ban w) g.crates

unfoldable pub unused_wrapper_keys_of : Policy → Graph → Ban → List Key
unused_wrapper_keys_of p g ban = map (λ w. unused_key UnusedWrapper w.span)
    (filter (λ w. not (is_hit_wrapper p g ban w)) ban.wrappers)
