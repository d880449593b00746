use Rattle.std.proofs.Common.{◌≡◌, inl, inr, ◌∙◌, ap, sym, Ok, Err, Some, None, Result, List, ℕ, true, false}
use Rattle.std.proofs.Common.{refl, subst}
use Rattle.std.specs.Prelude.{IfOk, IfErr}
use Rattle.std.specs.Str.{is_utf8}
use Rattle.std.proofs.lemmas.Str.{is_utf8-from_IsUtf8}
use Rattle.serde_json.specs.Read.{read}
use Rattle.serde_json.specs.View.{view}
use Rattle.serde_json.specs.declared.value.Value.{Value}
use Rattle.deny_krates_metadata.specs.Document.{json_at, json_of}
use Rattle.deny_base_lists.specs.Reader.{Fails, Gives, IsFault}
use Rattle.deny_krates_metadata.specs.declared.fault.MetadataFault.{MetadataFault}
use Rattle.deny_krates_metadata.specs.declared.fault.MetadataFault.TheVariants.{Json, Memory}
use Rattle.deny_base_lists.proofs.Texts.{is_utf8-false}
use Rattle.deny_krates_metadata.proofs.owned.json_in.Goals as goal

no_text : (bytes : List ℕ) → is_utf8 bytes ≡ false → json_at bytes ≡ Err Json
unfolding json_at
no_text bytes isnt = rw isnt refl

a_text : (bytes : List ℕ) → is_utf8 bytes ≡ true → json_at bytes ≡ json_of (read bytes)
unfolding json_at
a_text bytes is = rw is refl

answers : (bytes text : List ℕ) (result : Result Value MetadataFault) → is_utf8 bytes ≡ true → text ≡ bytes
    → IfOk result (λ v. read text ≡ Some (view v))
    → IfErr result (Fails Memory (λ e. (e ≡ Json) × (read text ≡ None)))
    → Gives Memory (λ v. json_at bytes ≡ Ok (view v)) (IsFault (json_at bytes)) result
unfolding json_of
answers bytes text (Ok v) utf8 same ok err = a_text bytes utf8 ∙ ap json_of (ap read (sym same) ∙ ok)
answers bytes text (Err e) utf8 same ok (inl memory) = inl memory
answers bytes text (Err e) utf8 same ok (inr (json, none)) =
    inr (subst (IsFault (json_at bytes)) (sym json) (a_text bytes utf8 ∙ ap json_of (ap read (sym same) ∙ none)))

pub returns-in-Err : goal.returns-in-Err
returns-in-Err c = inr (no_text _ (is_utf8-false _ c.in-Err.ensures.cases.0))

pub returns-in-Ok : goal.returns-in-Ok
returns-in-Ok c = answers _ _ c.value_of_text.result (is_utf8-from_IsUtf8 _ c.in-Ok.ensures.cases.1)
    c.in-Ok.ensures.cases.0 c.value_of_text.ensures.ok c.value_of_text.ensures.err
