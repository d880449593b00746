-- What one text, and one manifest, may add to the files before an error.
use Rattle.std.specs.Prelude.{◌≡◌, ◌++◌, ◌⊎◌, ℕ, List, [], Option}
use Rattle.std.specs.Option.{option_map_or}
use Rattle.deny_base.specs.declared.files.File.{File}
use Rattle.deny_base.specs.declared.unread.Unread.{Unread}
use Rattle.deny_base_disk.specs.Disk.{Files}
use Rattle.deny_base_lists.specs.Prefix.{Gains}
use Rattle.deny_spans.specs.Begun.{AreKept}
use Rattle.deny_spans.specs.ManifestScan.{text_file}

-- the file of a text, if there is a text and it is UTF-8, was added, or none was
abbrev pub MayHaveText : List ℕ → Option (List ℕ) → List File → List File → Type 0
MayHaveText path text old new = (new ≡ old) ⊎ (new ≡ old ++ option_map_or (text_file path) text [])

-- the files of these manifests, all of which were read, were added, or none was
abbrev pub MayHave : Option Files → List Unread → List File → List File → Type 0
MayHave told manifests old new = (new ≡ old) ⊎ Gains (λ files. AreKept told manifests files []) old new
