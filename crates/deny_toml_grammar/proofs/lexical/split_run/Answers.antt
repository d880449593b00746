use Rattle.deny_toml_grammar.proofs.LexicalLaws.{IsCharBoundary-run}
use Rattle.deny_toml_grammar.proofs.lexical.split_run.Goals as goal

pub split_at-requires : goal.split_at-requires
split_at-requires c =
    rw (c.run_len.ensures.len, c.as_bytes.ensures.value) (IsCharBoundary-run c.args.class c.args.text.now c.utf8.text
    c.requires)
