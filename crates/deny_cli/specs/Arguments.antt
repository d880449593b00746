-- The arguments of a run: the command that they ask for, which lists are accepted, and where the others break off.
use Rattle.std.specs.Prelude.{◌≡◌, ℕ, ◌+◌, ◌<◌, ◌≤◌, ◌==◌, ◌&&◌, Bool, false, not, nat_le, List, [], ◌∷◌, ◌++◌, Option}
use Rattle.std.specs.Prelude.{Some, None, is_none, is_some, option_map, option_and_then, length, take, map, codes}
use Rattle.std.specs.Prelude.{String, string_bytes, if◌then◌else◌}
use Rattle.std.specs.Char.{is_ascii_digit}
use Rattle.std.specs.List.{list_all}
use Rattle.std.specs.Str.Parse.{digits_value}
use Rattle.std.specs.declared.alloc.Global.{Global}
use Rattle.deny_base.specs.declared.check.Which.{Which}
use Rattle.deny_base.specs.declared.check.Which.TheVariants.{Policy, Metadata, Replacements}
use Rattle.deny_spec.specs.Text.{same_text}
use Rattle.deny_cfg_entries.specs.declared.day.Day.{Day}
use Rattle.deny_spans_workspace.specs.declared.registries.Registry.{Registry}
use Rattle.deny_cli.specs.Home.{home_of}
use Rattle.deny_cli.specs.Registries.{registries_in, registry_of}
use Rattle.deny_cli.specs.Today.{today_of}

-- the arguments as texts
abbrev pub texts : List (String Global) → List (List ℕ)
texts arguments = map string_bytes arguments

-- whether an argument can name a file: it is not empty, and does not begin with a dash
unfoldable pub names_file : List ℕ → Bool
names_file [] = false
names_file (byte ∷ bytes) = not (byte == 45)

-- the most crates that can be asked for
abbrev pub most_crates : ℕ
most_crates = 20000

-- whether a zero stands before other bytes
unfoldable pub leads_with_zero : List ℕ → Bool
leads_with_zero [] = false
leads_with_zero (only ∷ []) = false
leads_with_zero (first ∷ second ∷ others) = first == 48

-- whether an argument is a number in digits alone, without a leading zero before others
unfoldable pub is_plain : List ℕ → Bool
is_plain argument = not (length argument == 0) && (list_all is_ascii_digit argument && not (leads_with_zero argument))

-- the number of crates that an argument asks for
unfoldable pub count_of : List ℕ → Option ℕ
count_of argument =
    if is_plain argument && nat_le (digits_value 10 argument) most_crates then Some (digits_value 10 argument) else None

-- ---- commands

-- the arguments of a check: the paths of its policy and metadata, that of a table of replacements, if one is named,
-- the home, if one is named, the registries that manifests may name, and the day of which the policy is judged, if one
-- is named
pub record CheckArguments : Type 0 where
  pub policy : List ℕ
  pub metadata : List ℕ
  pub replacements : Option (List ℕ)
  pub home : Option (List ℕ)
  pub registries : List Registry
  pub today : Option Day

pub data Command : Type 0 where
  check : CheckArguments → Command
  -- generates so many crates, and checks them
  generate : ℕ → Command

-- the path of an input; none of an input that the command does not read
abbrev pub path_of : Command → Which → Option (List ℕ)
path_of (check asked) Policy = Some asked.policy
path_of (check asked) Metadata = Some asked.metadata
path_of (check asked) Replacements = asked.replacements
path_of (generate crates) which = None

-- the day of which the policy of a command is judged; that of a generated one is judged of none
abbrev pub day_of : Command → Option Day
day_of (check asked) = asked.today
day_of (generate crates) = None

-- ---- commands as far as arguments were read

pub record PartialArguments : Type 0 where
  pub policy : Option (List ℕ)
  pub metadata : Option (List ℕ)
  pub replacements : Option (List ℕ)
  pub home : Option (List ℕ)
  pub today : Option Day

pub data Form : Type 0 where
  nothing : Form
  checking : PartialArguments → Form
  -- the number of crates, where an argument gave it
  generating : Option ℕ → Form

-- a check without arguments yet
abbrev pub begun : PartialArguments
begun = record { policy = None; metadata = None; replacements = None; home = None; today = None }

-- a path is that of the first input without one
abbrev pub path_added : PartialArguments → List ℕ → Option PartialArguments
path_added asked path =
    if is_none asked.policy then Some (record asked { policy = Some path })
    else if is_none asked.metadata then Some (record asked { metadata = Some path })
    else if is_none asked.replacements then Some (record asked { replacements = Some path })
    else None

-- the form of a number of crates to generate
abbrev pub generating_some : ℕ → Form
generating_some crates = generating (Some crates)

-- the home of an argument, which is named at most once
abbrev pub home_added : PartialArguments → List ℕ → Option PartialArguments
home_added asked argument = if is_none asked.home
    then option_map (λ home. record asked { home = Some home }) (home_of argument) else None

-- the day of an argument, which is named at most once
abbrev pub today_added : PartialArguments → List ℕ → Option PartialArguments
today_added asked argument = if is_none asked.today
    then option_map (λ today. record asked { today = Some today }) (today_of argument) else None

-- Options come before the paths: each names a registry, a home or a day. Registries may be named repeatedly, so the
-- form does not hold them.
abbrev pub option_added : PartialArguments → List ℕ → Option PartialArguments
option_added asked argument =
    if is_some asked.policy then None
    else if is_some (registry_of argument) then Some asked
    else if is_some (home_of argument) then home_added asked argument
    else today_added asked argument

-- a form with one more argument; none where the argument may not stand there
unfoldable pub step : Form → List ℕ → Option Form
step nothing argument =
    if same_text argument (codes "check") then Some (checking begun)
    else if same_text argument (codes "generate") then Some (generating None)
    else None
step (checking asked) argument =
    option_map checking (if names_file argument then path_added asked argument else option_added asked argument)
step (generating None) argument = option_map generating_some (count_of argument)
step (generating (Some crates)) argument = None

abbrev pub filled : Option Form → List (List ℕ) → Option Form
filled form [] = form
filled form (argument ∷ arguments) = filled (option_and_then (λ before. step before argument) form) arguments

-- a check whose policy and metadata have paths
abbrev pub check_of : List Registry → Option (List ℕ) → Option Day → Option (List ℕ) → Option (List ℕ)
    → Option (List ℕ) → Option Command
check_of registries home today None metadata replacements = None
check_of registries home today (Some policy) None replacements = None
check_of registries home today (Some policy) (Some metadata) replacements = Some (check (record {
  policy = policy;
  metadata = metadata;
  replacements = replacements;
  home = home;
  registries = registries;
  today = today;
}))

-- the command of a form and the registries that options name; none where something is missing
abbrev pub command_of : List Registry → Form → Option Command
command_of registries nothing = None
command_of registries (checking asked) =
    check_of registries asked.home asked.today asked.policy asked.metadata asked.replacements
command_of registries (generating crates) = option_map generate crates

-- ---- which arguments are accepted

-- the command of arguments: that of the form they fill, with the registries that options among them name, in order
unfoldable pub asked_by : List (List ℕ) → Option Command
asked_by arguments = option_and_then (command_of (registries_in arguments)) (filled (Some nothing) arguments)

abbrev pub Asks : List (List ℕ) → Command → Type 0
Asks arguments command = asked_by arguments ≡ Some command

abbrev pub IsAccepted : List (List ℕ) → Type 0
IsAccepted arguments = (command : Command) × Asks arguments command

-- an accepted list begins with the arguments
abbrev pub GoesOn : List (List ℕ) → Type 0
GoesOn arguments = (rest : List (List ℕ)) × IsAccepted (arguments ++ rest)

-- the arguments are not accepted, and `at` is the index of the first at which no accepted list goes on, or their count
-- where one goes on at each
pub record IsUsageAt (arguments : List (List ℕ)) (at : ℕ) : Type 0 where
  pub refused : ¬ IsAccepted arguments
  pub within : at ≤ length arguments
  pub before : GoesOn (take at arguments)
  pub here : at < length arguments → ¬ GoesOn (take (at + 1) arguments)
