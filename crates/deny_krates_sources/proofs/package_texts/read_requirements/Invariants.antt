use Rattle.std.proofs.Common.{◌≡◌, drop, map, take}
use Rattle.deny_krates_sources.specs.Checked.{requirement_reads}
use Rattle.deny_krates_sources.specs.PackageTexts.{parsed_requirement, requirement_view}
use Rattle.deny_base_lists.specs.Reader.{each_passes}
use Rattle.deny_krates_sources.proofs.package_texts.read_requirements.Given as goal

abbrev pub invariant-loop-declaration : goal.invariant-loop-declaration
invariant-loop-declaration l = record {
  passes : each_passes (requirement_reads l.id) l.declarations ≡ each_passes (requirement_reads l.id)
      (drop l.declaration-index l.declarations);
  read : map requirement_view l.read ≡ map parsed_requirement (take l.declaration-index l.declarations);
}
