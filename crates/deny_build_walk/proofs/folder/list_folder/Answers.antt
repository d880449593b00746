use Rattle.std.proofs.Common.{◌++◌, ◌∙◌, Some, ap, refl}
use Rattle.std.proofs.lemmas.Result.{IfOk-from_err}
use Rattle.deny_base_lists.proofs.Results.{on_err_always}
use Rattle.deny_base.specs.Unread.{asked, if_unread}
use Rattle.deny_base.specs.declared.purpose.Purpose.TheVariants as purpose
use Rattle.deny_build_walk.proofs.folder.list_folder.Goals as goal

-- out of memory while listing
pub returns-in_err-listed : goal.returns-in_err-listed
returns-in_err-listed g c =
    let r = c.from_residual.result in
    let err = c.from_residual.ensures.0 in
    record {
      names = IfOk-from_err r _ err;
      fits = IfOk-from_err r _ err;
      entries = IfOk-from_err r _ err;
      listed = IfOk-from_err r _ err;
      once = c.list_within.ensures.once;
      faults = IfOk-from_err r _ err;
      unread = IfOk-from_err r _ err;
      unlisted = IfOk-from_err r _ err;
      later = c.list_within.ensures.later;
      no_memory = on_err_always r refl;
    }

-- out of memory while adding the entry
pub returns-in_err-note_unlisted : goal.returns-in_err-note_unlisted
returns-in_err-note_unlisted g c =
    let r = c.from_residual-in_err-note_unlisted.result in
    let err = c.from_residual-in_err-note_unlisted.ensures.0 in
    record {
      names = IfOk-from_err r _ err;
      fits = IfOk-from_err r _ err;
      entries = IfOk-from_err r _ err;
      listed = IfOk-from_err r _ err;
      once = c.list_within.ensures.once;
      faults = IfOk-from_err r _ err;
      unread = IfOk-from_err r _ err;
      unlisted = IfOk-from_err r _ err;
      later = c.list_within.ensures.later;
      no_memory = on_err_always r c.in_err-note_unlisted.ensures.err;
    }

pub returns : goal.returns
returns g c =
    let told = c.in_ok-listed.ensures in
    let before = c.args.unread.now in
    let missing = asked (Some c.args.krate.now) purpose.List c.args.path.now in
    record {
      names = told.names;
      fits = told.fits;
      entries = told.entries;
      listed = told.listed;
      once = c.list_within.ensures.once;
      faults = told.faults;
      unread = c.in_ok-note_unlisted.ensures.ok ∙ ap (λ got. before ++ if_unread missing got) c.is_ok.ensures.value;
      unlisted = told.unlisted;
      later = c.list_within.ensures.later;
      no_memory = tt;
    }
