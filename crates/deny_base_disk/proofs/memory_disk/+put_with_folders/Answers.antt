use Rattle.std.proofs.Common.{◌≡◌, sym, ◌∙◌, is_some, false, List, ℕ}
use Rattle.std.specs.FinMap as finite
use Rattle.deny_base_disk.specs.declared.disk.Place.TheVariants.{Folder}
use Rattle.deny_base_lists.proofs.TextMapLemmas.{remove-insert}
use Rattle.deny_base_disk.proofs.memory_disk.+put_with_folders.Goals as goal

-- the folder that was put is taken out again
pub returns-in-Err-clause-err : goal.returns-in-Err-clause-err
returns-in-Err-clause-err t c =
    let folder : List ℕ = c.in-Some.folder.now in
    let free : is_some (finite.get c.args.files.now folder) ≡ false =
    (λ i. is_some (finite.get c.args.files.now (sym c.as_str.ensures i))) ∙ sym c.if-contains_key.ensures in
    c.remove.ensures.after
    ∙ (λ i. finite.remove (c.in-Err.ensures.err i) (c.as_str-in-Err.ensures i))
    ∙ (λ i. finite.remove (c.in_ok-insert.ensures.ok i) folder)
    ∙ (λ i. finite.remove (finite.insert c.args.files.now (c.in_ok-clone.ensures.cases i) Folder) folder)
    ∙ remove-insert c.args.files.now folder Folder free
