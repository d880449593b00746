-- Sources of packages, parsed from their texts.
use Rattle.std.specs.Prelude.{ℕ, List, [], ◌∷◌, true, false, Option, Some, None, codes, drop, length, nat_eq}
use Rattle.std.specs.Prelude.{option_map, unwrap_or, if◌then◌else◌}
use Rattle.std.specs.List.{starts_with}
use Rattle.std.specs.Result.{result_ok}
use Rattle.std.specs.Str.{is_utf8}
use Rattle.form_urlencoded.specs.Form.{decode, raw_pairs}
use Rattle.url.specs.Parser.{parse_url}
use Rattle.url.specs.Parts.{Parts}
use Rattle.deny_spec.specs.Text.{same_text}
use Rattle.deny_krates_sources.specs.declared.source.GitSpec.{GitSpec}
use Rattle.deny_krates_sources.specs.declared.source.GitSpec.TheVariants.{Any, Branch, Tag, Rev}
use Rattle.deny_krates_sources.specs.declared.source.GitReference.{GitReference}
use Rattle.deny_krates_sources.specs.declared.source.Source.{Source}
use Rattle.deny_krates_sources.specs.declared.source.Source.TheVariants.{CratesIo, Registry, Sparse, Git}

-- the rest of a text that begins with a prefix
unfoldable pub after : List ℕ → List ℕ → Option (List ℕ)
after prefix text = if starts_with nat_eq text prefix then Some (drop (length prefix) text) else None

-- a part of a query decoded, or as it is written where its decoding is no UTF-8
unfoldable pub form_text : List ℕ → List ℕ
form_text part = if is_utf8 (decode part) then decode part else part

-- the kind of reference that a part of this name gives, if any
unfoldable pub spec_of : List ℕ → Option GitSpec
spec_of name =
    if same_text name (codes "branch") then Some Branch
    else (if same_text name (codes "tag") then Some Tag
    else (if same_text name (codes "rev") then Some Rev else None))

unfoldable pub reference_or : Option GitSpec → List ℕ → GitReference → GitReference
reference_or None value later = later
reference_or (Some spec) value later = record { spec = spec; value = Some value }

-- the first part of a query that is named `branch`, `tag` or `rev` gives the reference
unfoldable pub reference_in : List (List ℕ × List ℕ) → GitReference
reference_in [] = record { spec = Any; value = None }
reference_in (part ∷ parts) = reference_or (spec_of (form_text part.0)) (form_text part.1) (reference_in parts)

abbrev pub reference_of : Parts → GitReference
reference_of url = reference_in (raw_pairs (unwrap_or url.query []))

-- the git source at an address, which is kept without its fragment
unfoldable pub git_source : Parts → Source
git_source url = Git (record url { fragment = None }) (reference_of url).spec (reference_of url).value

-- the source at the URL that a text is, if it is one
abbrev pub read_as : (Parts → Source) → List ℕ → Option Source
read_as kind address = option_map kind (result_ok (parse_url None address))

-- the texts by which the public registry is known
unfoldable pub crates_io_of : List ℕ → Option Source
crates_io_of text =
    if same_text text (codes "registry+https://github.com/rust-lang/crates.io-index") then Some (CratesIo false)
    else (if same_text text (codes "sparse+https://index.crates.io/") then Some (CratesIo true) else None)

-- the source at the URL after a prefix, where the text has the prefix, or else another source
unfoldable pub prefixed : (Parts → Source) → Option (List ℕ) → Option Source → Option Source
prefixed kind None others = others
prefixed kind (Some address) others = read_as kind address

unfoldable pub addressed : List ℕ → Option Source
addressed text =
    prefixed Registry (after (codes "registry+") text)
    (prefixed Sparse (after (codes "sparse+") text)
    (prefixed git_source (after (codes "git+") text) None))

unfoldable pub known_or : Option Source → Option Source → Option Source
known_or None others = others
known_or (Some source) others = Some source

-- the source that a text names
unfoldable pub source_of : List ℕ → Option Source
source_of text = known_or (crates_io_of text) (addressed text)
