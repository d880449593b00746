-- What could not be read, and malformed manifests, as the lines of a report show them.
use Rattle.std.specs.Prelude.{List, ℕ, Option, None, Some, codes}
use Rattle.std.specs.Option.{option_map_or}
use Rattle.serde_json.specs.Data.{Data, null, string, member, no_members}
use Rattle.deny_base.specs.declared.span.Kid.{Kid}
use Rattle.deny_gate_json.specs.Diagnostics.{reports}
use Rattle.deny_krates.specs.Ids.{crate_of}
use Rattle.deny_spec.specs.Graph.{Crate, Graph, crate_text}
use Rattle.deny_base.specs.declared.purpose.Purpose.{Purpose}
use Rattle.deny_base.specs.declared.purpose.Purpose.TheVariants as purpose
use Rattle.deny_base.specs.declared.unread.Unread.{Unread}

abbrev pub purpose_word : Purpose → List ℕ
purpose_word purpose.Manifest = codes "manifest"
purpose_word purpose.Script = codes "script"
purpose_word purpose.List = codes "list"
purpose_word purpose.Header = codes "header"
purpose_word purpose.Sum = codes "sum"

-- the crate of an id, as `name = version`
abbrev pub named_crate : Crate → Data
named_crate c = string (crate_text c)

-- the crate that something was wanted for; null where it was wanted for none, or for an id that the graph has not
abbrev pub wanted_for : Graph → Option Kid → Data
wanted_for g None = null
wanted_for g (Some kid) = option_map_or named_crate (crate_of g kid.0) null

-- what could not be read, by the crate that it was wanted for, its path and its purpose
abbrev pub unread_value : Graph → Unread → Data
unread_value g u = reports (codes "unread")
    (member (codes "crate") (wanted_for g u.krate)
    (member (codes "path") (string u.path)
    (member (codes "purpose") (string (purpose_word u.purpose)) no_members)))

-- a malformed manifest by its path
abbrev pub malformed_value : List ℕ → Data
malformed_value path = reports (codes "malformed") (member (codes "path") (string path) no_members)
