use Rattle.std.proofs.Common.{None}
use Rattle.deny_base.specs.Unread.{asked}
use Rattle.deny_base.specs.declared.purpose.Purpose.TheVariants as purpose
use Rattle.deny_spans.proofs.BegunLemmas.{have_bytes}
use Rattle.deny_spans.specs.Paths.{workspace_path}
use Rattle.deny_spans.proofs.workspace.alone.Goals as goal

pub returns-in-Some-clause-begun : goal.returns-in-Some-clause-begun
returns-in-Some-clause-begun g c =
    have_bytes (g.D.PackageFiles.seen c.args.disk.now).files c.of_bytes.result
    (asked None purpose.Manifest (workspace_path c.args.krates.now.root)) c.args.path c.as_str.result.now
    (λ bytes. bytes.items) c.in_ok-bytes.field-0 c.in-Some.bytes c.as_slice.result.now c.args.files.now
    c.of_bytes.new.files c.requires.path c.as_str.ensures c.in-Some.is c.as_slice.ensures.value
    c.in_ok-bytes.ensures.bytes c.in_ok-bytes.ensures.short c.of_bytes.ensures.begun
