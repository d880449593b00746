use Rattle.std.proofs.Common.{[], Option, Err, sym}
use Rattle.std.proofs.lemmas.List.{append-nil}
use Rattle.std.proofs.lemmas.Result.{IfOk-from_err}
use Rattle.std.specs.Option.{option_copied}
use Rattle.deny_base.specs.declared.span.Kid.{Kid}
use Rattle.deny_base_lists.proofs.Results.{on_err_always}
use Rattle.deny_base_unread.specs.Bound.{Folders}
use Rattle.deny_base.specs.Unread.{asked}
use Rattle.deny_base.specs.declared.purpose.Purpose.TheVariants.{Manifest}
use Rattle.deny_base_unread.proofs.BoundLemmas.{long_past}
use Rattle.deny_base_unread.proofs.CauseLemmas.{caused_by_bound, caused_by_call, caused_none}
use Rattle.deny_base_unread.proofs.ManifestLemmas.{caused_added, seen_read, seen_unread}
use Rattle.deny_base_unread.proofs.manifest.read_manifest.Goals as goal

pub returns-in-Ok-clause-seen : goal.returns-in-Ok-clause-seen
returns-in-Ok-clause-seen g c =
    seen_read (g.D.PackageFiles.seen c.args.disk.now).files c.args.unread.now (option_copied c.args.krate) Manifest
    c.args.path.now c.in-Ok.bytes.items c.in-Ok.ensures.bytes

pub returns-in-Ok-clause-caused : goal.returns-in-Ok-clause-caused
returns-in-Ok-clause-caused g c = λ folder.
    let us = c.args.unread.now in
    caused_added folder _ _ us us [] (sym (append-nil us)) (caused_none folder _ _ c.read_whole.ensures.later)

-- memory for the entry ran out
pub returns-in_err-put_entry-in-Err-Fault : goal.returns-in_err-put_entry-in-Err-Fault
returns-in_err-put_entry-in-Err-Fault g c =
    let r = c.from_residual.result in
    let err = c.from_residual.ensures.0 in
    record {
      bytes = IfOk-from_err r _ err;
      short = IfOk-from_err r _ err;
      unread = IfOk-from_err r _ err;
      caused = IfOk-from_err r _ err;
      seen = IfOk-from_err r _ err;
      once = c.read_whole.ensures.once;
      later = c.read_whole.ensures.later;
      no_memory = on_err_always r c.in_err-put_entry-in-Err-Fault.ensures.err;
    }

pub returns-in_err-put_entry-in-Err-Long : goal.returns-in_err-put_entry-in-Err-Long
returns-in_err-put_entry-in-Err-Long g c =
    let r = c.from_residual-in_err-put_entry-in-Err-Long.result in
    let err = c.from_residual-in_err-put_entry-in-Err-Long.ensures.0 in
    record {
      bytes = IfOk-from_err r _ err;
      short = IfOk-from_err r _ err;
      unread = IfOk-from_err r _ err;
      caused = IfOk-from_err r _ err;
      seen = IfOk-from_err r _ err;
      once = c.read_whole.ensures.once;
      later = c.read_whole.ensures.later;
      no_memory = on_err_always r c.in_err-put_entry-in-Err-Long.ensures.err;
    }

-- a read failed
pub returns-in_ok-put_entry-in-Err-Fault : goal.returns-in_ok-put_entry-in-Err-Fault
returns-in_ok-put_entry-in-Err-Fault g c =
    let old = g.D.PackageFiles.seen c.args.disk.now in
    let new = g.D.PackageFiles.seen c.read_whole.new.disk in
    let krate : Option Kid = option_copied c.args.krate in
    let behind = c.in_ok-put_entry-in-Err-Fault.ensures.ok in
    let failed = c.in-Err-Fault.ensures.fault (λ i. Err (c.in-Err-Fault.field-0-is i)) in
    record {
      bytes = tt;
      short = tt;
      unread = behind;
      caused = λ folder. caused_added folder old new c.args.unread.now c.put_entry.new.unread _ behind
          (caused_by_call folder old new (asked krate Manifest c.args.path.now) failed);
      seen = seen_unread old.files c.args.unread.now c.put_entry.new.unread krate Manifest c.args.path.now behind;
      once = c.read_whole.ensures.once;
      later = c.read_whole.ensures.later;
      no_memory = tt;
    }

-- the file is too long
pub returns-in_ok-put_entry-in-Err-Long : goal.returns-in_ok-put_entry-in-Err-Long
returns-in_ok-put_entry-in-Err-Long g c =
    let old = g.D.PackageFiles.seen c.args.disk.now in
    let new = g.D.PackageFiles.seen c.read_whole.new.disk in
    let krate : Option Kid = option_copied c.args.krate in
    let behind = c.in_ok-put_entry-in-Err-Long.ensures.ok in
    let long = λ (folder : Folders). long_past folder old new krate c.args.path.now
    (c.in-Err-Long.ensures.long_by_count (λ i. Err (c.in-Err-Long.field-0-is i)))
    (c.in-Err-Long.ensures.long_by_text (λ i. Err (c.in-Err-Long.field-0-is i))) in
    record {
      bytes = tt;
      short = tt;
      unread = behind;
      caused = λ folder. caused_added folder old new c.args.unread.now c.put_entry-in-Err-Long.new.unread _ behind
          (caused_by_bound folder old new (asked krate Manifest c.args.path.now) c.read_whole.ensures.later
          (long folder));
      seen = seen_unread old.files c.args.unread.now c.put_entry-in-Err-Long.new.unread krate Manifest
          c.args.path.now behind;
      once = c.read_whole.ensures.once;
      later = c.read_whole.ensures.later;
      no_memory = tt;
    }
