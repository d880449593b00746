use Rattle.std.proofs.Common.{◌≡◌, drop, map, take}
use Rattle.deny_krates_sources.specs.Checked.{source_reads}
use Rattle.deny_krates_sources.specs.PackageTexts.{parsed_source}
use Rattle.deny_base_lists.specs.Reader.{each_passes}
use Rattle.deny_krates_sources.proofs.package_texts.sources_of.Given as goal

abbrev pub invariant-loop-listed : goal.invariant-loop-listed
invariant-loop-listed l = record {
  passes : each_passes source_reads l.packages ≡ each_passes source_reads (drop l.listed-index l.packages);
  read : l.read ≡ map parsed_source (take l.listed-index l.packages);
}
