use Rattle.std.proofs.Common.{◌≡◌, drop}
use Rattle.deny_krates_sources.specs.Checked.{manifest_path_reads}
use Rattle.deny_base_lists.specs.Reader.{each_passes}
use Rattle.deny_krates_sources.proofs.checked.check_manifest_paths.Given as goal

abbrev pub invariant-loop-listed : goal.invariant-loop-listed
invariant-loop-listed l = each_passes manifest_path_reads l.packages ≡ each_passes manifest_path_reads
    (drop l.listed-index l.packages)
