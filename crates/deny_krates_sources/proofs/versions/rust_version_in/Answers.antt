use Rattle.std.proofs.Common.{◌∙◌, ap, rules, sym}
use Rattle.deny_krates_sources.specs.Versions.{number_of}
use Rattle.deny_krates_sources.proofs.VersionsLemmas.{one_number, two_numbers, three_numbers, too_many}
use Rattle.deny_krates_sources.proofs.versions.rust_version_in.Goals as goal

pub returns-in_default : goal.returns-in_default
returns-in_default c =
    one_number c.args.text.now c.cut.result.0.now c.cut.result.1 c.written_number.result _ (search rules) c.cut.ensures
    (c.written_number.ensures ∙ ap number_of c.as_bytes.ensures.value) c.release.ensures

pub returns-in_default-rest : goal.returns-in_default-rest
returns-in_default-rest c =
    two_numbers c.args.text.now c.cut.result.0.now c.cut-2.result.0.now c.cut.result.1 c.cut-2.result.1 c.in-Some.rest
    c.written_number-in_default-rest.result c.written_number-in_default-rest-2.result _
    c.in-Some.is c.cut.ensures (search rules) c.cut-2.ensures
    (c.written_number-in_default-rest.ensures ∙ ap number_of c.as_bytes-in_default-rest.ensures.value)
    (c.written_number-in_default-rest-2.ensures ∙ ap number_of c.as_bytes-in_default-rest-2.ensures.value)
    c.release-in_default-rest.ensures

pub returns-then-is_some : goal.returns-then-is_some
returns-then-is_some c =
    too_many c.args.text.now c.cut.result.0.now c.cut-2.result.0.now c.cut-3.result.0.now c.cut.result.1
    c.cut-2.result.1 c.cut-3.result.1 c.in-Some.rest c.in-Some-rest.rest
    c.in-Some.is c.cut.ensures c.in-Some-rest.is c.cut-2.ensures (sym c.is_some.ensures ∙ c.if-is_some.true)
    c.cut-3.ensures

pub returns : goal.returns
returns c =
    three_numbers c.args.text.now c.cut.result.0.now c.cut-2.result.0.now c.cut-3.result.0.now c.cut.result.1
    c.cut-2.result.1 c.cut-3.result.1 c.in-Some.rest c.in-Some-rest.rest
    c.written_number-2.result c.written_number-3.result c.written_number-4.result _
    c.in-Some.is c.cut.ensures c.in-Some-rest.is c.cut-2.ensures (sym c.is_some.ensures ∙ c.if-is_some.false)
    c.cut-3.ensures (c.written_number-2.ensures ∙ ap number_of c.as_bytes-2.ensures.value)
    (c.written_number-3.ensures ∙ ap number_of c.as_bytes-3.ensures.value)
    (c.written_number-4.ensures ∙ ap number_of c.as_bytes-4.ensures.value) c.release-2.ensures
