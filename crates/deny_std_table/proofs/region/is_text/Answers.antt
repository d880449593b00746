use Rattle.std.proofs.Common.{◌∙◌, ap, arith, take, drop}
use Rattle.std.specs.Str.{is_utf8}
use Rattle.deny_std_table.proofs.SpanLemmas.{is_ok-utf8}
use Rattle.deny_std_table.proofs.region.is_text.Goals as goal

pub returns : goal.returns
returns c = c.is_ok.ensures.value ∙ is_ok-utf8 _ _ _ _ c.from_utf8.ensures.cases
    ∙ ap (λ n. is_utf8 (take n (drop c.args.span.at c.args.bytes.now))) (omega arith)
