-- The results of reading a manifest: its bytes and no entry, or one entry.
use Rattle.std.proofs.Common.{◌≡◌, ◌∙◌, ℕ, List, [], ◌∷◌, ◌++◌, Option, None, Some, sym, ap, subst}
use Rattle.std.specs.Prelude.{Contains, IfSome}
use Rattle.std.proofs.lemmas.List.{append-nil}
use Rattle.deny_base_lists.proofs.Members.{Contains-first, no_member}
use Rattle.deny_base_disk.specs.Disk.{Disk, Files, bytes_at}
use Rattle.deny_base.specs.declared.span.Kid.{Kid}
use Rattle.deny_base_unread.proofs.AddedLemmas.{added_is}
use Rattle.deny_base_unread.proofs.ViewLemmas.{text_read, text_unread}
use Rattle.deny_base_unread.specs.Added.{added}
use Rattle.deny_base_unread.specs.Bound.{Folders}
use Rattle.deny_base_unread.specs.Causes.{AreCaused}
use Rattle.deny_base.specs.Unread.{asked}
use Rattle.deny_base_unread.specs.View.{view_of}
use Rattle.deny_base.specs.declared.purpose.Purpose.{Purpose}
use Rattle.deny_base.specs.declared.unread.Unread.{Unread}

pub caused_added : (folder : Folders) (old new : Disk) (us vs more : List Unread) → vs ≡ us ++ more
    → AreCaused folder old new more → AreCaused folder old new (added us vs)
caused_added folder old new us vs more behind caused =
    subst (λ (own : List Unread). AreCaused folder old new own) (sym (added_is us more vs behind)) caused

pub seen_read : (told : Option Files) (us : List Unread) (krate : Option Kid) (purpose : Purpose) (path bytes : List ℕ)
    → IfSome told (λ files. bytes ≡ bytes_at files path)
    → IfSome told (λ files. Some bytes ≡ (view_of files (added us us) krate).text purpose path)
seen_read None us krate purpose path bytes whole = tt
seen_read (Some files) us krate purpose path bytes whole =
    let none : added us us ≡ [] = added_is us [] us (sym (append-nil us)) in
    ap (λ text. Some text) whole
    ∙ sym (text_read files (added us us) krate purpose path
    (λ there. no_member (asked krate purpose path)
    (subst (λ (own : List Unread). Contains own (asked krate purpose path)) none there)))

pub seen_unread : (told : Option Files) (us vs : List Unread) (krate : Option Kid) (purpose : Purpose) (path : List ℕ)
    → vs ≡ us ++ asked krate purpose path ∷ []
    → IfSome told (λ files. None ≡ (view_of files (added us vs) krate).text purpose path)
seen_unread None us vs krate purpose path behind = tt
seen_unread (Some files) us vs krate purpose path behind =
    sym (text_unread files (added us vs) krate purpose path
    (subst (λ (own : List Unread). Contains own (asked krate purpose path))
    (sym (added_is us (asked krate purpose path ∷ []) vs behind)) (Contains-first (asked krate purpose path) [])))
