use Rattle.std.proofs.Common.{◌≡◌, drop, map, take}
use Rattle.deny_krates_sources.specs.Checked.{requirements_read}
use Rattle.deny_krates_sources.specs.PackageTexts.{requirement_view, parsed_requirements}
use Rattle.deny_base_lists.specs.Reader.{each_passes}
use Rattle.deny_krates_sources.proofs.package_texts.requirements_of.Given as goal

abbrev pub invariant-loop-listed : goal.invariant-loop-listed
invariant-loop-listed l = record {
  passes : each_passes requirements_read l.packages ≡ each_passes requirements_read (drop l.listed-index l.packages);
  read : map (map requirement_view) l.read ≡ map parsed_requirements (take l.listed-index l.packages);
}
