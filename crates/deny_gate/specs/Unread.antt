-- What a report lists as unread, by what it was wanted for.
use Rattle.std.specs.Prelude.{Bool, true, false, not, List, filter}
use Rattle.deny_base.specs.declared.purpose.Purpose.{Purpose}
use Rattle.deny_base.specs.declared.purpose.Purpose.TheVariants as purpose
use Rattle.deny_base.specs.declared.unread.Unread.{Unread}

abbrev pub is_for_manifest : Purpose → Bool
is_for_manifest purpose.Manifest = true
is_for_manifest purpose.Script = false
is_for_manifest purpose.List = false
is_for_manifest purpose.Header = false
is_for_manifest purpose.Sum = false

-- the entries for manifests
abbrev pub of_manifests : List Unread → List Unread
of_manifests us = filter (λ u. is_for_manifest u.purpose) us

-- the entries for files and folders of packages
abbrev pub of_packages : List Unread → List Unread
of_packages us = filter (λ u. not (is_for_manifest u.purpose)) us
