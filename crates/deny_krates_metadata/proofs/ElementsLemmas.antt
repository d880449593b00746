-- The elements of an array, read from an index on.
use Rattle.std.proofs.Common.{◌≡◌, ◌<◌, ◌+◌, ℕ, List, [], ◌∷◌, Result, Ok, length, drop, refl, add-one}
use Rattle.std.specs.Prelude.{slice_index_or}
use Rattle.std.specs.Fmt.{decimal}
use Rattle.std.proofs.Math.Seq.{drop-cons, drop-length}
use Rattle.serde_json.specs.Data.{Data}
use Rattle.deny_krates_metadata.specs.private.Borrowed.{view, items_view}
use Rattle.json.specs.declared.value.Value.{Value}
use Rattle.deny_krates_metadata.specs.Elements.{elements_from, part_of}
use Rattle.deny_base_lists.specs.Reader.{◌>>=◌}
use Rattle.deny_krates_metadata.specs.declared.fault.MetadataFault.{MetadataFault}

pub next_element : {A B : Type 0} (read : List ℕ → Data → Result A MetadataFault) (path : List ℕ)
    (items : List (Value B)) (i : ℕ) (v : Value B)
    → i < length items → v ≡ slice_index_or items i v
    → elements_from read path i (items_view (drop i items))
    ≡ read (part_of path (decimal i)) (view v)
    >>= (λ x. elements_from read path (i + 1) (items_view (drop (i + 1) items)) >>= (λ xs. Ok (x ∷ xs)))
unfolding elements_from
next_element read path items i v inside is = rw (drop-cons items i v inside, ← is, add-one) refl

pub no_more_elements : {A B : Type 0} (read : List ℕ → Data → Result A MetadataFault) (path : List ℕ)
    (items : List (Value B)) (i : ℕ)
    → i ≡ length items → elements_from read path i (items_view (drop i items)) ≡ Ok []
unfolding elements_from
no_more_elements read path items i is = rw (is, drop-length) refl
