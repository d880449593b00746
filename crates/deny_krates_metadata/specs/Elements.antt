-- Readers of a value's members and elements. The path of a value joins names and indices by dots; the root's
-- path is the empty text.
use Rattle.std.specs.Prelude.{ℕ, ◌+◌, ◌++◌, List, [], ◌∷◌, Bool, Option, Some, None, Result, Ok, Err, is_some}
use Rattle.std.specs.Prelude.{option_and_then, if◌then◌else◌}
use Rattle.std.specs.Fmt.{decimal}
use Rattle.serde_json.specs.Data.{Data, Items, no_items, item}
use Rattle.serde_json.specs.Find.{get, as_null, as_bool, as_str, as_array, as_object}
use Rattle.deny_krates_metadata.specs.Member.{name_of}
use Rattle.deny_base_lists.specs.Reader.{◌>>=◌}
use Rattle.deny_krates_metadata.specs.declared.fault.MetadataFault.{MetadataFault}
use Rattle.deny_krates_metadata.specs.declared.fault.MetadataFault.TheVariants.{Shape}
use Rattle.deny_krates_metadata.specs.declared.member.MetadataMember.{MetadataMember}

unfoldable pub part_of : List ℕ → List ℕ → List ℕ
part_of [] name = name
part_of (c ∷ cs) name = (c ∷ cs) ++ (46 ∷ name)

abbrev pub path_to : List ℕ → MetadataMember → List ℕ
path_to path m = part_of path (name_of m)

-- a reading that is required, or the fault at the path of its value
unfoldable pub required : {A : Type 0} → List ℕ → Option A → Result A MetadataFault
required path None = Err (Shape path)
required path (Some x) = Ok x

-- the value of a member, unless it is missing or null
unfoldable pub given : Option Data → Option Data
given None = None
given (Some d) = if is_some (as_null d) then None else Some d

unfoldable pub object_at : List ℕ → Data → Result (Unit {0}) MetadataFault
object_at path d = if is_some (as_object d) then Ok tt else Err (Shape path)

unfoldable pub text_at : List ℕ → Data → Result (List ℕ) MetadataFault
text_at path d = required path (as_str d)

unfoldable pub text_member : List ℕ → MetadataMember → Data → Result (List ℕ) MetadataFault
text_member path m d = required (path_to path m) (option_and_then as_str (get (name_of m) d))

-- the text of a member that may be missing or null
unfoldable pub optional_text_of : List ℕ → Option Data → Result (Option (List ℕ)) MetadataFault
optional_text_of path None = Ok None
optional_text_of path (Some d) = do
  text ← text_at path d
  Ok (Some text)

unfoldable pub optional_text : List ℕ → MetadataMember → Data → Result (Option (List ℕ)) MetadataFault
optional_text path m d = optional_text_of (path_to path m) (given (get (name_of m) d))

-- the flag of a member, with a default where it is missing or null
unfoldable pub flag_given : List ℕ → Bool → Option Data → Result Bool MetadataFault
flag_given path default None = Ok default
flag_given path default (Some d) = required path (as_bool d)

unfoldable pub flag_member : List ℕ → MetadataMember → Bool → Data → Result Bool MetadataFault
flag_member path m default d = flag_given (path_to path m) default (given (get (name_of m) d))

unfoldable pub array_member : List ℕ → MetadataMember → Data → Result Items MetadataFault
array_member path m d = required (path_to path m) (option_and_then as_array (get (name_of m) d))

unfoldable pub object_itself : Data → Option Data
object_itself d = if is_some (as_object d) then Some d else None

unfoldable pub object_member : List ℕ → MetadataMember → Data → Result Data MetadataFault
object_member path m d = required (path_to path m) (option_and_then object_itself (get (name_of m) d))

-- each element in turn, where the first has this index
unfoldable pub elements_from : {A : Type 0} → (List ℕ → Data → Result A MetadataFault) → List ℕ → ℕ → Items
    → Result (List A) MetadataFault
elements_from read path index no_items = Ok []
elements_from read path index (item d ds) = do
  x ← read (part_of path (decimal index)) d
  xs ← elements_from read path (index + 1) ds
  Ok (x ∷ xs)

unfoldable pub each_member : {A : Type 0} → (List ℕ → Data → Result A MetadataFault) → List ℕ → MetadataMember → Data
    → Result (List A) MetadataFault
each_member read path m d = do
  items ← array_member path m d
  elements_from read (path_to path m) 0 items

-- the elements of a member that may be missing or null
unfoldable pub optional_items : List ℕ → Option Data → Result Items MetadataFault
optional_items path None = Ok no_items
optional_items path (Some d) = required path (as_array d)

unfoldable pub each_optional : {A : Type 0} → (List ℕ → Data → Result A MetadataFault) → List ℕ → MetadataMember → Data
    → Result (List A) MetadataFault
each_optional read path m d = do
  items ← optional_items (path_to path m) (given (get (name_of m) d))
  elements_from read (path_to path m) 0 items

unfoldable pub texts_at : List ℕ → Data → Result (List (List ℕ)) MetadataFault
texts_at path d = do
  items ← required path (as_array d)
  elements_from text_at path 0 items

unfoldable pub texts_given : List ℕ → Option Data → Result (Option (List (List ℕ))) MetadataFault
texts_given path None = Ok None
texts_given path (Some d) = do
  texts ← texts_at path d
  Ok (Some texts)

-- an array of texts that may be missing or null
unfoldable pub optional_texts : List ℕ → MetadataMember → Data → Result (Option (List (List ℕ))) MetadataFault
optional_texts path m d = texts_given (path_to path m) (given (get (name_of m) d))
