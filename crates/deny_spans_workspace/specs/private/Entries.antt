-- Shared entries as the code holds them.
use Rattle.std.specs.Prelude.{⊤, Option, Some, None}
use Rattle.deny_base.specs.declared.span.Span.{Span}
use Rattle.deny_toml.specs.value.Table.{Table}
use Rattle.deny_toml.specs.TreeOrder.{NamesAscend}
use Rattle.deny_spans_workspace.specs.DepSpec.{DepSpec}
use Rattle.deny_spans_workspace.specs.private.DepSpec.{dep_spec_view}
use Rattle.deny_spans_workspace.specs.declared.entries.SharedEntry.{SharedEntry as ReadEntry}
use Rattle.deny_spans_workspace.specs.declared.dep_spec.DepSpec.{DepSpec as ReadSpec}
use Rattle.deny_spans_workspace.specs.Entries.{SharedEntry}

-- the names of a table's keys ascend
abbrev pub Ascends : Option Table → Type 0
Ascends None = ⊤
Ascends (Some table) = NamesAscend table

-- a patch as definitions see it
abbrev pub patch_view : Span × ReadSpec → Span × DepSpec
patch_view patch = (patch.0, dep_spec_view patch.1)

-- an entry as definitions see it
abbrev pub entry_view : ReadEntry → SharedEntry
entry_view e = record {
  name = e.name;
  key = e.key;
  value = e.value;
  spec = dep_spec_view e.spec;
  patched = e.patched;
}
