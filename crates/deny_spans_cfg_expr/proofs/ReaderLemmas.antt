-- A reader accepts exactly the tokens of `cfg(..)` around an expression.
use Rattle.std.proofs.Common.{◌≡◌, ℕ, nat_eq, Bool, true, false, List, [], ◌∷◌, ◌++◌, Some, None, refl, sym, ◌∙◌, ap}
use Rattle.std.proofs.Common.{subst, append_assoc, append-nil, if◌then◌else◌, codes}
use Rattle.std.specs.Cmp.Lexicographic.{pointwise, same_text}
use Rattle.deny_spans_cfg_expr.specs.declared.token.CfgToken.{CfgToken}
use Rattle.deny_spans_cfg_expr.specs.declared.token.CfgToken.TheVariants.{Name, All, Any, Not, Quoted, Equals}
use Rattle.deny_spans_cfg_expr.specs.declared.token.CfgToken.TheVariants.{Comma, Open, Close}
use Rattle.deny_spans_cfg_expr.specs.declared.reader.Holder.{Holder}
use Rattle.deny_spans_cfg_expr.specs.declared.reader.Holder.TheVariants.{One, Several}
use Rattle.deny_spans_cfg_expr.specs.declared.reader.CfgPhase.{CfgPhase}
use Rattle.deny_spans_cfg_expr.specs.declared.reader.CfgPhase.TheVariants as phase
use Rattle.deny_spans_cfg_expr.specs.Grammar.{CfgTree, name, value, all, any, not, CfgTrees, IsExpression, is_name}
use Rattle.deny_spans_cfg_expr.specs.Grammar.{is_value, is_all}
use Rattle.deny_spans_cfg_expr.specs.Grammar.{is_any, is_not, AreArguments, no_more, last, comma, IsCfg}
use Rattle.deny_spans_cfg_expr.specs.private.Reader.{reader, start, at_key, at_head, at_expression, closed, at_argument}
use Rattle.deny_spans_cfg_expr.specs.private.Reader.{next_argument, at_whole, at_name, at_value, step, is_done, if_some}
use Rattle.deny_spans_cfg_expr.specs.private.Reader.{accepts}

-- ---- what is spelled is accepted

-- the tokens that may follow an expression
data Follows : List CfgToken → Type 0 where
  comma_first : (rest : List CfgToken) → Follows (Comma ∷ rest)
  close_first : (rest : List CfgToken) → Follows (Close ∷ rest)

name_then : {rest : List CfgToken} (brackets : List Holder) → Follows rest
    → accepts (reader brackets phase.Name) rest ≡ accepts (reader brackets phase.Whole) rest
unfolding step at_name at_whole
name_then brackets (comma_first rest) = refl
name_then brackets (close_first rest) = refl

-- an expression may begin where arguments begin
argument_first : {tokens : List CfgToken} {tree : CfgTree} (brackets : List Holder) (rest : List CfgToken)
    → IsExpression tokens tree
    → accepts (reader brackets phase.Argument) (tokens ++ rest)
    ≡ accepts (reader brackets phase.Expression) (tokens ++ rest)
unfolding step at_argument at_expression
argument_first brackets rest (is_name word) = refl
argument_first brackets rest (is_value word text) = refl
argument_first brackets rest (is_all tokens d) = refl
argument_first brackets rest (is_any tokens d) = refl
argument_first brackets rest (is_not tokens d) = refl

mutual
  unfolding step at_expression at_name at_value at_head at_argument at_whole closed next_argument

  expression_read : {tokens : List CfgToken} {tree : CfgTree} (brackets : List Holder) (rest : List CfgToken)
      → IsExpression tokens tree → Follows rest
      → accepts (reader brackets phase.Expression) (tokens ++ rest) ≡ accepts (reader brackets phase.Whole) rest
  expression_read brackets rest (is_name word) f = name_then brackets f
  expression_read brackets rest (is_value word text) f = refl
  expression_read brackets rest (is_all tokens d) f =
      ap (accepts (reader (Several ∷ brackets) phase.Argument)) (append_assoc tokens (Close ∷ []) rest)
      ∙ arguments_read brackets rest d
  expression_read brackets rest (is_any tokens d) f =
      ap (accepts (reader (Several ∷ brackets) phase.Argument)) (append_assoc tokens (Close ∷ []) rest)
      ∙ arguments_read brackets rest d
  expression_read brackets rest (is_not tokens d) f =
      ap (accepts (reader (One ∷ brackets) phase.Expression)) (append_assoc tokens (Close ∷ []) rest)
      ∙ expression_read (One ∷ brackets) (Close ∷ rest) d (close_first rest)

  arguments_read : {tokens : List CfgToken} {trees : CfgTrees} (brackets : List Holder) (rest : List CfgToken)
      → AreArguments tokens trees
      → accepts (reader (Several ∷ brackets) phase.Argument) (tokens ++ Close ∷ rest)
      ≡ accepts (reader brackets phase.Whole) rest
  arguments_read brackets rest no_more = refl
  arguments_read brackets rest (last tokens d) = argument_first (Several ∷ brackets) (Close ∷ rest) d
      ∙ expression_read (Several ∷ brackets) (Close ∷ rest) d (close_first rest)
  arguments_read brackets rest (comma tokens more d ds) =
      ap (accepts (reader (Several ∷ brackets) phase.Argument)) (append_assoc tokens (Comma ∷ more) (Close ∷ rest))
      ∙ (argument_first (Several ∷ brackets) (Comma ∷ (more ++ Close ∷ rest)) d
      ∙ (expression_read (Several ∷ brackets) (Comma ∷ (more ++ Close ∷ rest)) d (comma_first (more ++ Close ∷ rest))
      ∙ arguments_read brackets rest ds))

pub cfg_accepted : (tokens : List CfgToken) (tree : CfgTree) → IsCfg tokens tree → accepts start tokens ≡ true
unfolding step at_key at_head at_whole closed
cfg_accepted tokens tree d = ap (accepts start) d.around
    ∙ expression_read (One ∷ []) (Close ∷ []) d.expression (close_first [])

-- ---- what is accepted is spelled

-- the tokens complete an expression
data Prefix : CfgPhase → List CfgToken → Type 0 where
  of_whole : Prefix phase.Whole []
  of_name : Prefix phase.Name []
  of_equals : (text : List ℕ) → Prefix phase.Name (Equals ∷ Quoted text ∷ [])
  of_value : (text : List ℕ) → Prefix phase.Value (Quoted text ∷ [])
  of_one : (tokens : List CfgToken) {tree : CfgTree} → IsExpression tokens tree
      → Prefix (phase.Head One) (Open ∷ (tokens ++ Close ∷ []))
  of_several : (tokens : List CfgToken) {trees : CfgTrees} → AreArguments tokens trees
      → Prefix (phase.Head Several) (Open ∷ (tokens ++ Close ∷ []))
  of_expression : {tokens : List CfgToken} (tree : CfgTree) → IsExpression tokens tree → Prefix phase.Expression tokens
  of_argument : {tokens : List CfgToken} (tree : CfgTree) → IsExpression tokens tree → Prefix phase.Argument tokens
  of_key : {tokens : List CfgToken} (tree : CfgTree) → IsCfg tokens tree → Prefix phase.Key tokens

-- the tokens between an expression and the end of its parenthesis
data Behind : Holder → List CfgToken → Type 0 where
  nothing : (holder : Holder) → Behind holder []
  others : (tokens : List CfgToken) {trees : CfgTrees} → AreArguments tokens trees → Behind Several (Comma ∷ tokens)

-- the tokens close the open parentheses, after an expression
data Closes : List Holder → List CfgToken → Type 0 where
  end : Closes [] []
  close : {holder : Holder} {outer : List Holder} (prefix rest : List CfgToken) → Behind holder prefix
      → Closes outer rest
      → Closes (holder ∷ outer) (prefix ++ Close ∷ rest)

-- the tokens complete what a reader has begun
data Completes : CfgPhase → List Holder → List CfgToken → Type 0 where
  by_prefix : {p : CfgPhase} {brackets : List Holder} (prefix rest : List CfgToken) → Prefix p prefix
      → Closes brackets rest
      → Completes p brackets (prefix ++ rest)
  at_once : {holder : Holder} {outer : List Holder} (rest : List CfgToken) → Closes outer rest
      → Completes phase.Argument (holder ∷ outer) (Close ∷ rest)

closes_from : {brackets : List Holder} (xs ys : List CfgToken) → xs ≡ ys → Closes brackets xs → Closes brackets ys
closes_from {brackets} xs ys e d = let P : List CfgToken → Type 0 = λ x. Closes brackets x in subst P e d

completes_from : {p : CfgPhase} {brackets : List Holder} (xs ys : List CfgToken) → xs ≡ ys → Completes p brackets xs
    → Completes p brackets ys
completes_from {p} {brackets} xs ys e d = let P : List CfgToken → Type 0 = λ x. Completes p brackets x in subst P e d

as_closes : {brackets : List Holder} {tokens : List CfgToken} → Completes phase.Whole brackets tokens
    → Closes brackets tokens
as_closes (by_prefix prefix rest of_whole d) = d

-- an expression, and the tokens that close the parentheses
data HasExpression : List Holder → List CfgToken → Type 0 where
  has : {brackets : List Holder} (prefix rest : List CfgToken) (tree : CfgTree) → IsExpression prefix tree
      → Closes brackets rest → HasExpression brackets (prefix ++ rest)

to_expression : {brackets : List Holder} {tokens : List CfgToken} → HasExpression brackets tokens
    → Completes phase.Expression brackets tokens
to_expression (has prefix rest tree d c) = by_prefix prefix rest (of_expression tree d) c

to_argument : {brackets : List Holder} {tokens : List CfgToken} → HasExpression brackets tokens
    → Completes phase.Argument brackets tokens
to_argument (has prefix rest tree d c) = by_prefix prefix rest (of_argument tree d) c

after_name : {brackets : List Holder} {tokens : List CfgToken} (word : List ℕ) → Completes phase.Name brackets tokens
    → HasExpression brackets (Name word ∷ tokens)
after_name word (by_prefix prefix rest of_name c) = has (Name word ∷ []) rest (name word) (is_name word) c
after_name word (by_prefix prefix rest (of_equals text) c) =
    has (Name word ∷ Equals ∷ Quoted text ∷ []) rest (value word text) (is_value word text) c

after_all : {brackets : List Holder} {tokens : List CfgToken} → Completes (phase.Head Several) brackets tokens
    → HasExpression brackets (All ∷ tokens)
after_all (by_prefix prefix rest (of_several tokens {trees = trees} d) c) =
    has (All ∷ Open ∷ (tokens ++ Close ∷ [])) rest (all trees) (is_all tokens d) c

after_any : {brackets : List Holder} {tokens : List CfgToken} → Completes (phase.Head Several) brackets tokens
    → HasExpression brackets (Any ∷ tokens)
after_any (by_prefix prefix rest (of_several tokens {trees = trees} d) c) =
    has (Any ∷ Open ∷ (tokens ++ Close ∷ [])) rest (any trees) (is_any tokens d) c

after_not : {brackets : List Holder} {tokens : List CfgToken} → Completes (phase.Head One) brackets tokens
    → HasExpression brackets (Not ∷ tokens)
after_not (by_prefix prefix rest (of_one tokens {tree = tree} d) c) =
    has (Not ∷ Open ∷ (tokens ++ Close ∷ [])) rest (not tree) (is_not tokens d) c

-- one expression in its parenthesis
one_enclosed : {brackets : List Holder} {tree : CfgTree} (prefix rest : List CfgToken) → IsExpression prefix tree
    → Closes (One ∷ brackets) rest → Completes (phase.Head One) brackets (Open ∷ (prefix ++ rest))
one_enclosed prefix rest d (close behind after (nothing holder) c) =
    completes_from _ _ (ap (λ x. Open ∷ x) (append_assoc prefix (Close ∷ []) after))
    (by_prefix (Open ∷ (prefix ++ Close ∷ [])) after (of_one prefix d) c)

head_one : {brackets : List Holder} {tokens : List CfgToken} → Completes phase.Expression (One ∷ brackets) tokens
    → Completes (phase.Head One) brackets (Open ∷ tokens)
head_one (by_prefix prefix rest (of_expression tree d) c) = one_enclosed prefix rest d c

-- arguments in their parenthesis
enclosed : {brackets : List Holder} {trees : CfgTrees} (tokens rest whole : List CfgToken) → AreArguments tokens trees
    → Closes brackets rest → tokens ++ Close ∷ rest ≡ whole → Completes (phase.Head Several) brackets (Open ∷ whole)
enclosed tokens rest whole d c e =
    completes_from _ _ (ap (λ x. Open ∷ x) (append_assoc tokens (Close ∷ []) rest ∙ e))
    (by_prefix (Open ∷ (tokens ++ Close ∷ [])) rest (of_several tokens d) c)

several_enclosed : {brackets : List Holder} {tree : CfgTree} (prefix rest : List CfgToken) → IsExpression prefix tree
    → Closes (Several ∷ brackets) rest → Completes (phase.Head Several) brackets (Open ∷ (prefix ++ rest))
several_enclosed prefix rest d (close behind after (nothing holder) c) =
    enclosed prefix after (prefix ++ Close ∷ after) (last prefix d) c refl
several_enclosed prefix rest d (close behind after (others tokens ds) c) =
    enclosed (prefix ++ Comma ∷ tokens) after (prefix ++ Comma ∷ (tokens ++ Close ∷ after)) (comma prefix tokens d ds) c
    (append_assoc prefix (Comma ∷ tokens) (Close ∷ after))

head_several : {brackets : List Holder} {tokens : List CfgToken} → Completes phase.Argument (Several ∷ brackets) tokens
    → Completes (phase.Head Several) brackets (Open ∷ tokens)
head_several (by_prefix prefix rest (of_argument tree d) c) = several_enclosed prefix rest d c
head_several (at_once rest c) = enclosed [] rest (Close ∷ rest) no_more c refl

after_equals : {brackets : List Holder} {tokens : List CfgToken} → Completes phase.Value brackets tokens
    → Completes phase.Name brackets (Equals ∷ tokens)
after_equals (by_prefix prefix rest (of_value text) c) = by_prefix (Equals ∷ Quoted text ∷ []) rest (of_equals text) c

-- one more argument, after a comma
more_closes : {brackets : List Holder} {tree : CfgTree} (prefix rest : List CfgToken) → IsExpression prefix tree
    → Closes (Several ∷ brackets) rest → Closes (Several ∷ brackets) (Comma ∷ (prefix ++ rest))
more_closes prefix rest d (close behind after (nothing holder) c) =
    close (Comma ∷ prefix) after (others prefix (last prefix d)) c
more_closes prefix rest d (close behind after (others tokens ds) c) =
    closes_from _ _ (ap (λ x. Comma ∷ x) (append_assoc prefix (Comma ∷ tokens) (Close ∷ after)))
    (close (Comma ∷ (prefix ++ Comma ∷ tokens)) after (others (prefix ++ Comma ∷ tokens) (comma prefix tokens d ds)) c)

after_comma : {brackets : List Holder} {tokens : List CfgToken} → Completes phase.Argument (Several ∷ brackets) tokens
    → Closes (Several ∷ brackets) (Comma ∷ tokens)
after_comma (by_prefix prefix rest (of_argument tree d) c) = more_closes prefix rest d c
after_comma (at_once rest c) = close (Comma ∷ []) rest (others [] no_more) c

after_key : {brackets : List Holder} {tokens : List CfgToken} (word : List ℕ) → word ≡ codes "cfg"
    → Completes (phase.Head One) brackets tokens → Completes phase.Key brackets (Name word ∷ tokens)
after_key word e (by_prefix prefix rest (of_one tokens {tree = tree} d) c) =
    by_prefix (Name word ∷ Open ∷ (tokens ++ Close ∷ [])) rest
    (of_key tree (record {
      inner = tokens;
      expression = d;
      around = ap (λ w. Name w ∷ Open ∷ (tokens ++ Close ∷ [])) e;
    })) c

-- what the tokens complete, from each reader on
abbrev Goes : List CfgToken → Type 0
Goes tokens = (brackets : List Holder) (p : CfgPhase) → accepts (reader brackets p) tokens ≡ true
    → Completes p brackets tokens

key_word : (word : List ℕ) (tokens : List CfgToken) (brackets : List Holder) → Goes tokens → (t : Bool)
    → pointwise nat_eq word (codes "cfg") ≡ t
    → if_some (λ after. accepts after tokens) (if t then Some (reader brackets (phase.Head One)) else None) ≡ true
    → Completes phase.Key brackets (Name word ∷ tokens)
key_word word tokens brackets go true same e =
    after_key word (same_text word (codes "cfg") (sym same)) (go brackets (phase.Head One) e)
key_word word tokens brackets go false same e = absurd (cc e)

closed_by : (tokens : List CfgToken) (brackets : List Holder) → Goes tokens
    → if_some (λ after. accepts after tokens) (closed brackets) ≡ true → Closes brackets (Close ∷ tokens)
unfolding closed
closed_by tokens [] go e = absurd (cc e)
closed_by tokens (holder ∷ outer) go e = close [] tokens (nothing holder) (as_closes (go outer phase.Whole e))

comma_by : (tokens : List CfgToken) (brackets : List Holder) → Goes tokens
    → if_some (λ after. accepts after tokens) (next_argument brackets) ≡ true → Closes brackets (Comma ∷ tokens)
unfolding next_argument
comma_by tokens [] go e = absurd (cc e)
comma_by tokens (One ∷ outer) go e = absurd (cc e)
comma_by tokens (Several ∷ outer) go e = after_comma (go (Several ∷ outer) phase.Argument e)

closed_argument : (tokens : List CfgToken) (brackets : List Holder) → Goes tokens
    → if_some (λ after. accepts after tokens) (closed brackets) ≡ true
    → Completes phase.Argument brackets (Close ∷ tokens)
unfolding closed
closed_argument tokens [] go e = absurd (cc e)
closed_argument tokens (holder ∷ outer) go e = at_once tokens (as_closes (go outer phase.Whole e))

at_end : (p : CfgPhase) (brackets : List Holder) → is_done (reader brackets p) ≡ true → Completes p brackets []
at_end phase.Whole [] e = by_prefix [] [] of_whole end
at_end phase.Whole (holder ∷ outer) e = absurd (cc e)
at_end p brackets e = absurd (cc e)

one_step : (p : CfgPhase) (token : CfgToken) (tokens : List CfgToken) (brackets : List Holder) → Goes tokens
    → accepts (reader brackets p) (token ∷ tokens) ≡ true → Completes p brackets (token ∷ tokens)
unfolding step at_key at_head at_expression at_argument at_name at_value at_whole
one_step phase.Key (Name word) tokens brackets go e = key_word word tokens brackets go _ refl e
one_step (phase.Head One) Open tokens brackets go e = head_one (go (One ∷ brackets) phase.Expression e)
one_step (phase.Head Several) Open tokens brackets go e = head_several (go (Several ∷ brackets) phase.Argument e)
one_step phase.Expression (Name word) tokens brackets go e = to_expression (after_name word (go brackets phase.Name e))
one_step phase.Expression All tokens brackets go e = to_expression (after_all (go brackets (phase.Head Several) e))
one_step phase.Expression Any tokens brackets go e = to_expression (after_any (go brackets (phase.Head Several) e))
one_step phase.Expression Not tokens brackets go e = to_expression (after_not (go brackets (phase.Head One) e))
one_step phase.Argument (Name word) tokens brackets go e = to_argument (after_name word (go brackets phase.Name e))
one_step phase.Argument All tokens brackets go e = to_argument (after_all (go brackets (phase.Head Several) e))
one_step phase.Argument Any tokens brackets go e = to_argument (after_any (go brackets (phase.Head Several) e))
one_step phase.Argument Not tokens brackets go e = to_argument (after_not (go brackets (phase.Head One) e))
one_step phase.Argument Close tokens brackets go e = closed_argument tokens brackets go e
one_step phase.Name Equals tokens brackets go e = after_equals (go brackets phase.Value e)
one_step phase.Name Comma tokens brackets go e = by_prefix [] (Comma ∷ tokens) of_name (comma_by tokens brackets go e)
one_step phase.Name Close tokens brackets go e = by_prefix [] (Close ∷ tokens) of_name (closed_by tokens brackets go e)
one_step phase.Value (Quoted text) tokens brackets go e =
    by_prefix (Quoted text ∷ []) tokens (of_value text) (as_closes (go brackets phase.Whole e))
one_step phase.Whole Comma tokens brackets go e = by_prefix [] (Comma ∷ tokens) of_whole (comma_by tokens brackets go e)
one_step phase.Whole Close tokens brackets go e =
    by_prefix [] (Close ∷ tokens) of_whole (closed_by tokens brackets go e)
one_step p token tokens brackets go e = absurd (cc e)

completes : (tokens : List CfgToken) → Goes tokens
completes [] = λ brackets p e. at_end p brackets e
completes (token ∷ tokens) = λ brackets p e. one_step p token tokens brackets (completes tokens) e

key_whole : {tokens : List CfgToken} → Completes phase.Key [] tokens → (tree : CfgTree) × IsCfg tokens tree
key_whole (by_prefix prefix rest (of_key tree d) end) = let P : List CfgToken → Type 0 = λ x. IsCfg x tree in
    (tree, subst P (sym (append-nil prefix)) d)

pub accepted_cfg : (tokens : List CfgToken) → accepts start tokens ≡ true → (tree : CfgTree) × IsCfg tokens tree
accepted_cfg tokens e = key_whole (completes tokens [] phase.Key e)
