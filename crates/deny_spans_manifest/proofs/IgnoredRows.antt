-- Worked cases of the kinds that manifests ignore.
use Rattle.std.proofs.Common.{◌≡◌, [], ◌∷◌, true, false, codes, refl, rules}
use Rattle.deny_base.specs.Edge.{kind_number}
use Rattle.deny_base.specs.declared.edge.DepKind.TheVariants.{Build, Dev, Normal}
use Rattle.deny_spans_manifest.proofs.Cases.{array, flag}
use Rattle.deny_spans_manifest.specs.Ignored.{ignored_at, ignored_in, is_among, unnamed_in, words_in}
use Rattle.deny_spec.specs.Graph.{Graph}
use Rattle.deny_toml.specs.value.Content.{the_lemmas}
use Rattle.deny_toml.specs.value.Value.{Value}

-- all kinds but those that are listed
all_but_normal : unnamed_in (codes "" ∷ []) ≡ Dev ∷ Build ∷ []
all_but_normal = refl

all_but_two : unnamed_in (codes "build" ∷ codes "dev" ∷ []) ≡ Normal ∷ []
all_but_two = refl

all_kinds : unnamed_in [] ≡ Normal ∷ Dev ∷ Build ∷ []
all_kinds = refl

-- a word of no kind names none
another_word : unnamed_in (codes "normal" ∷ codes "dev" ∷ []) ≡ Normal ∷ Build ∷ []
another_word = refl

-- an element that is no text is passed over, and a list of them alone names no kind
no_words : words_in (flag 10 true ∷ array 11 [] ∷ []) ≡ []
no_words = search (rules, the_lemmas)

-- only a member ignores any
one_member : Graph
one_member = record { root = []; crates = []; members = 1 ∷ []; edges = []; target_edges = [] }

by_a_member : (tree : Value) → ignored_at one_member 1 tree ≡ ignored_in tree
unfolding ignored_at one_member
by_a_member tree = refl

by_another : (tree : Value) → ignored_at one_member 0 tree ≡ []
unfolding ignored_at one_member
by_another tree = refl

among : is_among (Dev ∷ Build ∷ []) Build ≡ true
unfolding is_among kind_number
among = refl

not_among : is_among (Dev ∷ Build ∷ []) Normal ≡ false
unfolding is_among kind_number
not_among = refl
