-- The order of crates.
use Rattle.std.specs.Cmp.Lexicographic.{slice_cmp}
use Rattle.std.specs.Option.{option_cmp}
use Rattle.std.specs.Ordering.{nat_cmp, on, then_cmp}
use Rattle.std.specs.declared.cmp.Ordering.{Ordering}
use Rattle.deny_krates_metadata.specs.declared.package.MetadataPackage.{MetadataPackage}
use Rattle.deny_krates_graph.specs.declared.graph.Rank.{Rank}

-- the order of ranks: by name, version text, source text (none first) and id
abbrev pub rank_cmp : Rank → Rank → Ordering
rank_cmp =
    then_cmp (on (λ r. r.name) (slice_cmp nat_cmp)) (then_cmp (on (λ r. r.version) (slice_cmp nat_cmp))
    (then_cmp (on (λ r. r.source) (option_cmp (slice_cmp nat_cmp))) (on (λ r. r.id) (slice_cmp nat_cmp))))

abbrev pub rank_of : MetadataPackage → Rank
rank_of p = record { name = p.name; version = p.version; source = p.source; id = p.id }

abbrev pub package_cmp : MetadataPackage → MetadataPackage → Ordering
package_cmp = on rank_of rank_cmp
