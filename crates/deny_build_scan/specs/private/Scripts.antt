-- The entries for what was read of a build script.
use Rattle.std.specs.Prelude.{false, List, [], Option, None, Some}
use Rattle.std.specs.Option.{option_map_or}
use Rattle.deny_base.specs.declared.span.Kid.{Kid}
use Rattle.deny_spec.specs.declared.package.Seen.{Seen}
use Rattle.deny_spec.specs.Graph.{Target}
use Rattle.deny_build_scan.specs.Seen.{Gaps}
use Rattle.deny_build_scan.specs.private.Entries.{is_failed, noted}
use Rattle.deny_base.specs.Unread.{asked}
use Rattle.deny_base.specs.declared.purpose.Purpose.TheVariants as purpose
use Rattle.deny_base.specs.declared.unread.Unread.{Unread}

-- a script that failed has a gap
abbrev pub gaps_of_script : Option Seen → Gaps
gaps_of_script script = λ purpose path. option_map_or (λ seen. is_failed seen.found) script false

abbrev pub entries_of_script : Option Kid → Option Target → Option Seen → List Unread
entries_of_script krate None script = []
entries_of_script krate (Some target) None = []
entries_of_script krate (Some target) (Some seen) = noted (asked krate purpose.Script target.src_path) seen.found
