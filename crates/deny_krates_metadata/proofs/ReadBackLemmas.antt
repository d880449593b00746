-- A value is read back from its text.
use Rattle.std.proofs.Common.{◌≡◌, ◌≤◌, ◌∙◌, [], Some, ap, append-nil, option_and_then, sym}
use Rattle.json.proofs.Printed.Tokens.{tokens-print}
use Rattle.json.proofs.Printed.Trees.{ArePrintable-json_tokens, value-json_tokens}
use Rattle.json.specs.Json as json
use Rattle.json.specs.Lex.{tokens}
use Rattle.json.specs.Tree as tree
use Rattle.serde_json.proofs.Texts.{print-outline}
use Rattle.serde_json.specs.Data.{Data}
use Rattle.serde_json.specs.Read.{max_depth, of_json, read}
use Rattle.serde_json.specs.Written.{compact_text, outline}
use Rattle.deny_krates_metadata.specs.private.Borrowed.{parsed}

pub tokens-compact_text : (value : Data) → tree.HasNumbers (outline value)
    → tokens (compact_text value) ≡ tree.json_tokens (outline value)
tokens-compact_text value numbers =
    ap tokens (sym (print-outline value))
    ∙ tokens-print (tree.json_tokens (outline value)) (ArePrintable-json_tokens (outline value) numbers)

parsed-compact_text : (value : Data) → tree.HasNumbers (outline value) → tree.depth (outline value) ≤ max_depth
    → parsed (compact_text value) ≡ Some (outline value)
parsed-compact_text value numbers shallow =
    let its_tokens = tree.json_tokens (outline value) in
    ap (option_and_then (λ p. json.if_last p.0 p.1))
    (ap (json.value max_depth) (tokens-compact_text value numbers ∙ sym (append-nil its_tokens))
    ∙ value-json_tokens (outline value) max_depth [] shallow)

-- the text of a value reads as the value where its outline does
pub read-compact_text : (value : Data) → tree.HasNumbers (outline value) → tree.depth (outline value) ≤ max_depth
    → read (compact_text value) ≡ of_json (outline value)
read-compact_text value numbers shallow = ap (option_and_then of_json) (parsed-compact_text value numbers shallow)
