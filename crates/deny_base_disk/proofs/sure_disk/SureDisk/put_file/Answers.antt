use Rattle.deny_base_disk.specs.Paths.{is_path}
use Rattle.std.proofs.lemmas.Bool.{and_parts}
use Rattle.deny_base_disk.proofs.PathsLemmas.{holds_put}
use Rattle.deny_base_disk.proofs.sure_disk.SureDisk.put_file.Goals as goal

pub invariant_of-self : goal.invariant_of-self
invariant_of-self c =
    holds_put c.put_at.result c.self.inside.files c.put_at.new.files c.args.path.now c.args.bytes.now
    c.self.invariant ((and_parts (is_path c.args.path.now) _ c.requires).0)
    c.put_at.ensures.ok c.put_at.ensures.err
