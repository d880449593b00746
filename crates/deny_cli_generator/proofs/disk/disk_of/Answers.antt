use Rattle.std.proofs.Common.{refl, sym, subst}
use Rattle.std.specs.FinMap.{get-empty}
use Rattle.std.specs.Prelude.{IsTrue, codes}
use Rattle.deny_base_disk.specs.MemoryDisk.{takes_file}
use Rattle.deny_base_disk.specs.SureDisk.{Sure}
use Rattle.deny_cli_generator.proofs.disk.disk_of.Goals as goal

pub put_file-requires : goal.put_file-requires
put_file-requires c = subst (λ (disk : Sure). IsTrue (takes_file disk.files (codes "/w/Cargo.toml")))
    (sym c.new-disk.ensures) (simp get-empty refl)

pub returns : goal.returns
returns c = rw c.new-disk.ensures at c.in_ok-put_file.ensures.ok
