-- Where lists of arguments break off, by the form that they fill.
use Rattle.std.proofs.Common.{◌≡◌, ℕ, ◌+◌, ◌<◌, ◌≤◌, ◌++◌, ◌∙◌, List, [], ◌∷◌, Option, Some, None, length, take, drop}
use Rattle.std.proofs.Common.{codes, ap, refl, sym, subst, arith}
use Rattle.std.specs.Prelude.{◌&&◌, Bool, true, false, IfSome, nat_le, option_map, ⊤, String, option_and_then}
use Rattle.std.specs.Prelude.{slice_index_or, string_bytes, if◌then◌else◌}
use Rattle.std.specs.Str.Parse.{digits_value}
use Rattle.deny_spec.specs.Text.{same_text}
use Rattle.std.specs.declared.alloc.Global.{Global}
use Rattle.std.proofs.Common.{add-one}
use Rattle.std.proofs.Math.Seq.{take-suc}
use Rattle.std.proofs.lemmas.List.{map-append, take-append-drop, take-map, take_all}
use Rattle.std.proofs.lemmas.Bool.{leb-true}
use Rattle.std.proofs.lemmas.Option.{none-some}
use Rattle.deny_cfg_entries.specs.declared.day.Day.{Day}
use Rattle.deny_spans_workspace.specs.declared.registries.Registry.{Registry}
use Rattle.deny_cli.specs.Registries.{registries_in}
use Rattle.deny_cli.specs.Arguments.{PartialArguments, Command, Form, begun, nothing, checking, check_of, generate}
use Rattle.deny_cli.specs.private.Arguments.{AsksForFew}
use Rattle.deny_cli.specs.Arguments.{generating, generating_some, count_of, is_plain, leads_with_zero, most_crates}
use Rattle.deny_cli.specs.Arguments.{names_file, path_added, step, filled, command_of, asked_by, Asks, IsAccepted}
use Rattle.deny_cli.specs.Arguments.{GoesOn}
use Rattle.deny_cli.specs.Arguments.{IsUsageAt, option_added, texts}

-- ---- each form can be filled

abbrev a_path : List ℕ
a_path = 97 ∷ []

-- a form is that of a command once some arguments follow
record IsFillable (form : Form) : Type 0 where
  pub rest : List (List ℕ)
  pub command : List Registry → Command
  pub fills : (registries : List Registry)
      → option_and_then (command_of registries) (filled (Some form) rest) ≡ Some (command registries)

fillable_check : (policy metadata replacements home : Option (List ℕ)) (today : Option Day)
    → IsFillable (checking (record {
      policy = policy;
      metadata = metadata;
      replacements = replacements;
      home = home;
      today = today;
    }))
unfolding step names_file
fillable_check None None replacements home today =
    record { rest = a_path ∷ a_path ∷ []; command = λ registries. _; fills = λ registries. refl }
fillable_check None (Some metadata) replacements home today =
    record { rest = a_path ∷ []; command = λ registries. _; fills = λ registries. refl }
fillable_check (Some policy) None replacements home today =
    record { rest = a_path ∷ []; command = λ registries. _; fills = λ registries. refl }
fillable_check (Some policy) (Some metadata) replacements home today =
    record { rest = []; command = λ registries. _; fills = λ registries. refl }

fillable : (form : Form) → IsFillable form
unfolding step names_file count_of is_plain leads_with_zero
fillable nothing =
    record { rest = codes "check" ∷ a_path ∷ a_path ∷ []; command = λ registries. _; fills = λ registries. refl }
fillable (checking asked) = fillable_check asked.policy asked.metadata asked.replacements asked.home asked.today
fillable (generating None) =
    record { rest = codes "0" ∷ []; command = λ registries. generate 0; fills = λ registries. refl }
fillable (generating (Some crates)) =
    record { rest = []; command = λ registries. generate crates; fills = λ registries. refl }

-- ---- arguments one after another

filled_none : (arguments : List (List ℕ)) → filled None arguments ≡ None
filled_none [] = refl
filled_none (argument ∷ arguments) = filled_none arguments

filled_append : (form : Option Form) (xs ys : List (List ℕ))
    → filled form (xs ++ ys) ≡ filled (filled form xs) ys
filled_append form [] ys = refl
filled_append form (x ∷ xs) ys = filled_append (option_and_then (λ before. step before x) form) xs ys

-- arguments that fill a form are the beginning of an accepted list
goes_on : (arguments : List (List ℕ)) (form : Form) → filled (Some nothing) arguments ≡ Some form → GoesOn arguments
unfolding asked_by
goes_on arguments form is =
    let more = fillable form in
    let registries = registries_in (arguments ++ more.rest) in (
      more.rest,
      (
        more.command registries,
        ap (option_and_then (command_of registries)) (filled_append (Some nothing) arguments more.rest
            ∙ ap (λ (f : Option Form). filled f more.rest) is)
            ∙ more.fills registries,
      ),
    )

-- arguments that fill no form are not the beginning of an accepted list
breaks_off : (arguments : List (List ℕ)) → filled (Some nothing) arguments ≡ None → ¬ GoesOn arguments
unfolding asked_by
breaks_off arguments is on =
    let none : filled (Some nothing) (arguments ++ on.0) ≡ None = filled_append (Some nothing) arguments on.0
    ∙ (ap (λ (f : Option Form). filled f on.0) is ∙ filled_none on.0) in
    none-some on.1.0 (sym (ap (option_and_then (command_of (registries_in (arguments ++ on.0)))) none) ∙ on.1.1)

pub filled_more : (arguments : List (List ℕ)) (form : Form) (argument : List ℕ)
    → filled (Some nothing) arguments ≡ Some form
    → filled (Some nothing) (arguments ++ argument ∷ []) ≡ step form argument
filled_more arguments form argument is = filled_append (Some nothing) arguments (argument ∷ [])
    ∙ ap (λ (f : Option Form). filled f (argument ∷ [])) is

-- the arguments up to one, and that one
pub texts_more : (arguments : List (String Global)) (at : ℕ) (argument : String Global) → at < length arguments
    → argument ≡ slice_index_or arguments at argument
    → take (at + 1) (texts arguments) ≡ take at (texts arguments) ++ string_bytes argument ∷ []
texts_more arguments at argument inside is =
    rw (
      take-map string_bytes (at + 1) arguments,
      take-map string_bytes at arguments,
      add-one,
      take-suc arguments at argument inside,
      ← is,
    )
    (map-append string_bytes (take at arguments) (argument ∷ []))

-- ---- the index at which a usage stops

goes_on_anywhere : (arguments : List (List ℕ)) (n : ℕ) → IsAccepted arguments → GoesOn (take n arguments)
goes_on_anywhere arguments n accepted =
    let P : List (List ℕ) → Type 0 = λ ws. IsAccepted ws in
    (drop n arguments, subst P (sym (take-append-drop n arguments)) accepted)

-- an argument that may not stand where it does stops a usage there
pub usage_here : (arguments : List (List ℕ)) (at : ℕ) (form : Form) (argument : List ℕ) → at < length arguments
    → filled (Some nothing) (take at arguments) ≡ Some form → take (at + 1) arguments ≡ take at arguments ++ argument
    ∷ []
    → step form argument ≡ None → IsUsageAt arguments at
usage_here arguments at form argument inside is next stops =
    let none : filled (Some nothing) (take (at + 1) arguments) ≡ None = ap (filled (Some nothing)) next
    ∙ (filled_more (take at arguments) form argument is ∙ stops) in
    let ends = breaks_off (take (at + 1) arguments) none in
    record {
      refused = λ accepted. ends (goes_on_anywhere arguments (at + 1) accepted);
      within = omega (arith, inside);
      before = goes_on (take at arguments) form is;
      here = λ _. ends;
    }

-- arguments that end too early stop a usage at their end
pub usage_at_end : (arguments : List (List ℕ)) (form : Form) → filled (Some nothing) arguments ≡ Some form
    → command_of (registries_in arguments) form ≡ None → IsUsageAt arguments (length arguments)
unfolding asked_by
usage_at_end arguments form is missing = record {
  refused = λ accepted. none-some accepted.0
      (sym (ap (option_and_then (command_of (registries_in arguments))) is ∙ missing) ∙ accepted.1);
  within = omega arith;
  before = subst (λ (ws : List (List ℕ)). GoesOn ws) (sym (take_all (length arguments) arguments (omega arith)))
      (goes_on arguments form is);
  here = λ more. absurd (omega (arith, more));
}

pub asks_by : (arguments : List (List ℕ)) (form : Form) (command : Command)
    → filled (Some nothing) arguments ≡ Some form
    → command_of (registries_in arguments) form ≡ Some command → Asks arguments command
unfolding asked_by
asks_by arguments form command is full = ap (option_and_then (command_of (registries_in arguments))) is ∙ full

-- ---- there is one command

pub one_command : (arguments : List (List ℕ)) (a b : Command) → Asks arguments a → Asks arguments b → a ≡ b
one_command arguments a b this that = let both : Some a ≡ Some b = sym this ∙ that in cc both

-- ---- no more crates are asked for than are allowed

-- a form asks for no more crates than are allowed
abbrev IsFew : Form → Type 0
IsFew nothing = ⊤
IsFew (checking asked) = ⊤
IsFew (generating None) = ⊤
IsFew (generating (Some crates)) = crates ≤ most_crates

few_first : (is_check is_generate : Bool)
    → IfSome (if is_check then Some (checking begun) else if is_generate then Some (generating None) else None) IsFew
few_first true is_generate = tt
few_first false true = tt
few_first false false = tt

few_checking : (added : Option PartialArguments) → IfSome (option_map checking added) IsFew
few_checking None = tt
few_checking (Some added) = tt

few_by : (crates : ℕ) (few : Bool) → nat_le crates most_crates ≡ few
    → IfSome (option_map generating_some (if few then Some crates else None)) IsFew
few_by crates true is = leb-true crates most_crates is
few_by crates false is = tt

few_if : (plain : Bool) (crates : ℕ)
    → IfSome (option_map generating_some (if plain && nat_le crates most_crates then Some crates else None)) IsFew
few_if false crates = tt
few_if true crates = few_by crates (nat_le crates most_crates) refl

few_after : (form : Form) (argument : List ℕ) → IfSome (step form argument) IsFew
unfolding step count_of
few_after nothing argument = few_first (same_text argument (codes "check")) (same_text argument (codes "generate"))
few_after (checking asked) argument =
    few_checking (if names_file argument then path_added asked argument else option_added asked argument)
few_after (generating None) argument = few_if (is_plain argument) (digits_value 10 argument)
few_after (generating (Some crates)) argument = tt

few_filled : (form : Option Form) (arguments : List (List ℕ)) → IfSome form IsFew → IfSome (filled form arguments) IsFew
few_filled form [] few = few
few_filled None (argument ∷ arguments) few = few_filled None arguments tt
few_filled (Some form) (argument ∷ arguments) few = few_filled (step form argument) arguments (few_after form argument)

few_check : (registries : List Registry) (today : Option Day) (home policy metadata replacements : Option (List ℕ))
    → IfSome (check_of registries home today policy metadata replacements) AsksForFew
few_check registries today home None metadata replacements = tt
few_check registries today home (Some policy) None replacements = tt
few_check registries today home (Some policy) (Some metadata) replacements = tt

few_of : (registries : List Registry) (form : Option Form) → IfSome form IsFew
    → IfSome (option_and_then (command_of registries) form) AsksForFew
few_of registries None few = tt
few_of registries (Some nothing) few = tt
few_of registries (Some (checking asked)) few =
    few_check registries asked.today asked.home asked.policy asked.metadata asked.replacements
few_of registries (Some (generating None)) few = tt
few_of registries (Some (generating (Some crates))) few = few

pub asks_for_few : (arguments : List (List ℕ)) (command : Command) → Asks arguments command → AsksForFew command
unfolding asked_by
asks_for_few arguments command asks =
    subst (λ (c : Option Command). IfSome c AsksForFew) asks
    (few_of (registries_in arguments) (filled (Some nothing) arguments) (few_filled (Some nothing) arguments tt))
