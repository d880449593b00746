-- Worked cases of registries by their names.
use Rattle.std.proofs.Common.{◌≡◌, List, ℕ, [], ◌∷◌, Bool, true, false, Option, Some, None, codes, refl}
use Rattle.url.proofs.OnLiterals.{url_on_literals}
use Rattle.deny_krates.specs.Source.{addressed, after, crates_io_of, known_or, prefixed, source_of}
use Rattle.deny_spec.specs.Graph as model
use Rattle.deny_spans_workspace.specs.Agreement.{is_registered}
use Rattle.deny_spans_workspace.specs.Registries.{has_prefix, is_same_source, source_of_registry, source_text_of}
use Rattle.deny_spans_workspace.specs.declared.registries.Registry.{Registry}

plain_address : source_text_of (codes "https://r.org/i") ≡ codes "registry+https://r.org/i"
unfolding source_text_of has_prefix
plain_address = refl

sparse_address : source_text_of (codes "sparse+https://r.org/i") ≡ codes "sparse+https://r.org/i"
unfolding source_text_of has_prefix
sparse_address = refl

abbrev registry : List ℕ → List ℕ → Registry
registry name address = record { name = name; address = address }

-- two registries of one name, a sparse one, and one whose address does not parse
abbrev known : List Registry
known = registry (codes "a") (codes "https://r.org/i") ∷ registry (codes "a") (codes "https://s.org/i")
    ∷ registry (codes "s") (codes "sparse+https://r.org/i/") ∷ registry (codes "bad") (codes "r.org") ∷ []

abbrev comes_from_registry : List ℕ → Option model.Source → Bool
comes_from_registry name source = is_registered (source_of_registry known name) source

the_first : comes_from_registry (codes "a") (Some (model.Registry (codes "https://r.org/i"))) ≡ true
unfolding url_on_literals source_of_registry source_text_of has_prefix source_of known_or crates_io_of addressed
    prefixed
    after is_same_source
the_first = refl

not_the_second : comes_from_registry (codes "a") (Some (model.Registry (codes "https://s.org/i"))) ≡ false
unfolding url_on_literals source_of_registry source_text_of has_prefix source_of known_or crates_io_of addressed
    prefixed
    after is_same_source
not_the_second = refl

of_another_kind : comes_from_registry (codes "s") (Some (model.Registry (codes "https://r.org/i/"))) ≡ false
unfolding url_on_literals source_of_registry source_text_of has_prefix source_of known_or crates_io_of addressed
    prefixed
    after is_same_source
of_another_kind = refl

not_known : comes_from_registry (codes "b") (Some (model.Registry (codes "https://r.org/i"))) ≡ false
unfolding source_of_registry
not_known = refl

-- an address that does not parse is no crate's source, not even of a crate without one
not_read : comes_from_registry (codes "bad") None ≡ false
unfolding url_on_literals source_of_registry source_text_of has_prefix source_of known_or crates_io_of addressed
    prefixed
    after
not_read = refl
