use Rattle.std.proofs.Common.{◌≡◌, ap, sym, subst, ◌∙◌}
use Rattle.std.specs.Str.{IsUtf8}
use Rattle.std.proofs.lemmas.Str.{IsUtf8-from_ascii}
use Rattle.std.proofs.lemmas.Str.Ascii.{IsAscii-from_all}
use Rattle.form_urlencoded.specs.Form.{decode}
use Rattle.percent_encoding.specs.Iter.{decoded_bytes}
use Rattle.percent_encoding.specs.Percent.{percent_decode}
use Rattle.deny_base_lists.proofs.Results.{if_ok_then}
use Rattle.deny_krates_sources.proofs.SourceLemmas.{decoded_is, written_is, no_memory}
use Rattle.deny_krates_sources.proofs.source.decoded.Goals as goal

pub returns-in-Ok : goal.returns-in-Ok
returns-in-Ok c =
    let same : decoded_bytes c.percent_decode.result ≡ decode c.args.part.now = c.percent_decode.ensures.bytes ∙ ap
    percent_decode (c.as_slice.ensures.value ∙ c.in_ok-bytes.ensures) in
    if_ok_then c.from_str.result c.from_str.ensures
    (λ text is. decoded_is c.args.part.now text (subst IsUtf8 same c.in-Ok.ensures.ok_only_if_utf8)
    (is ∙ (c.as_str.ensures.value ∙ (c.in-Ok.ensures.value ∙ same))))

pub returns-in-Err-Utf8 : goal.returns-in-Err-Utf8
returns-in-Err-Utf8 c =
    let part = c.args.part.now in
    let same : decoded_bytes c.percent_decode.result ≡ decode part = c.percent_decode.ensures.bytes ∙ ap percent_decode
    (c.as_slice.ensures.value ∙ c.in_ok-bytes.ensures) in
    let utf8 = IsUtf8-from_ascii part (IsAscii-from_all part c.requires) in
    written_is part _ (λ u. no_memory _ _ c.in-Err-Utf8.field-0-is
    (c.in-Err-Utf8.ensures.utf8 (subst IsUtf8 (sym same) u)))
    (c.from_string.ensures ∙ c.in_ok-from_utf8_lossy-in-Err-Utf8.ensures.ok utf8)
