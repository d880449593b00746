-- Hits of skips, skipped trees and wrappers, each with its first witness: by the crate's place, then the dependent's.
use Rattle.std.specs.Prelude.{List, Option, ◌++◌, find, filter_map, option_map, option_and_then}
use Rattle.std.specs.List.{flat_map}
use Rattle.deny_base.specs.declared.entry.EntryKind.{EntryKind}
use Rattle.deny_base.specs.declared.entry.EntryKind.TheVariants.{Skip, SkipRoot, Wrapper}
use Rattle.deny_base.specs.declared.entry.Hit.{Hit}
use Rattle.deny_base.specs.declared.entry.Witness.{Witness}
use Rattle.deny_base.specs.declared.entry.Witness.TheVariants.{Krate, Parent}
use Rattle.deny_base.specs.declared.span.Span.{Span}
use Rattle.deny_spec.specs.Facts.{Facts}
use Rattle.deny_spec.specs.Graph.{Crate, Graph, dependents, kid_of}
use Rattle.deny_spec.specs.Match.{matches}
use Rattle.deny_spec.specs.Policy.{Ban, Entry, Policy, Root, SpannedText}
use Rattle.deny_spec.specs.Skips.{is_skipped}
use Rattle.deny_spec.specs.Wrappers.{hits_wrapper, wraps}

abbrev pub hit_of : EntryKind → Span → Witness → Hit
hit_of kind span witness = record { entry = record { kind = kind; range = span }; witness = witness }

unfoldable pub skip_hit : Graph → Facts → Entry → Option Hit
skip_hit g facts s = option_map (λ c. hit_of Skip s.spec.span (Krate (kid_of c))) (find (is_skipped facts s) g.crates)

unfoldable pub root_hit : Graph → Root → Option Hit
root_hit g t = option_map (λ c. hit_of SkipRoot t.spec.span (Krate (kid_of c))) (find (matches t.spec) g.crates)

-- the hit of a wrapper by the first dependent of a crate that it wraps
unfoldable pub wrapper_hit_at : Graph → Ban → SpannedText → Crate → Option Hit
wrapper_hit_at g ban w c = option_map (λ parent. hit_of Wrapper w.span (Parent (kid_of c) (kid_of parent)))
    (find (wraps ban.wrappers w) (dependents g c.place))

unfoldable pub wrapper_hit : Policy → Graph → Ban → SpannedText → Option Hit
wrapper_hit p g ban w = option_and_then (wrapper_hit_at g ban w) (find (hits_wrapper p g ban w) g.crates)

-- one hit for each skip, skipped tree and wrapper that is hit
abbrev pub all_hits : Policy → Graph → Facts → List Hit
all_hits p g facts = filter_map (skip_hit g facts) p.skip
    ++ (filter_map (root_hit g) p.skip_tree
    ++ flat_map (λ ban. filter_map (wrapper_hit p g ban) ban.wrappers) p.deny)
