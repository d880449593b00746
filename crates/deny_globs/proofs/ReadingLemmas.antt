-- The effect of each piece on a reading.
use Rattle.std.proofs.Common.{◌≡◌, List, [], ◌∷◌, ◌++◌, sym, ap, ◌∙◌}
use Rattle.deny_globs.specs.declared.token.Token.{Token}
use Rattle.deny_globs.specs.declared.token.Token.TheVariants.{Character}
use Rattle.deny_globs.specs.declared.reading.OpenBrace.{OpenBrace}
use Rattle.deny_globs.specs.declared.reading.GlobReading.{GlobReading}
use Rattle.deny_globs.specs.Characters.{comma}
use Rattle.deny_globs.specs.private.Reading.{itself, parts}
use Rattle.deny_globs.specs.private.Reading.{Parts}

pub part_none : (old : GlobReading) (left : List OpenBrace) (new : GlobReading) → (old.opened ≡ []) × (left ≡ [])
    → new ≡ record { opened = left; tokens = old.tokens ++ Character comma ∷ [] } → Parts old new
part_none old left new e h = itself e.0 (h
    ∙ ap (λ o. let r : GlobReading = record { opened = o; tokens = old.tokens ++ Character comma ∷ [] } in r) (e.1
    ∙ sym e.0))

pub part_some : (old : GlobReading) (outer : List OpenBrace) (brace : OpenBrace) (alternatives : List (List Token))
    (tokens : List Token) (opened : List OpenBrace) (rest : List Token) →
    old.opened ≡ outer ++ brace ∷ [] → alternatives ≡ brace.alternatives ++ tokens ∷ [] → tokens ≡ old.tokens
    → opened ≡ outer ++ record brace { alternatives = alternatives } ∷ [] → rest ≡ [] →
    Parts old (record { opened = opened; tokens = rest })
part_some old outer brace alternatives tokens opened rest w a t o r =
    let b : alternatives ≡ brace.alternatives ++ old.tokens ∷ [] = a ∙ ap (λ ts. brace.alternatives ++ ts ∷ []) t in
    let p : opened ≡ outer ++ record brace { alternatives = brace.alternatives ++ old.tokens ∷ [] } ∷ [] =
    o ∙ ap (λ l. outer ++ (let n : OpenBrace = record brace { alternatives = l } in n) ∷ []) b in
    parts outer brace w
    (ap (λ l. let n : GlobReading = record { opened = l; tokens = rest } in n) p
    ∙ ap (λ l. let n : GlobReading = record
    { opened = outer ++ record brace { alternatives = brace.alternatives ++ old.tokens ∷ [] } ∷ []; tokens = l } in
    n) r)
