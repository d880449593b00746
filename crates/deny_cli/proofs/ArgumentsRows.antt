-- Worked cases of arguments: the commands that lists of arguments ask for, and the lists that are accepted.
use Rattle.std.proofs.Common.{◌≡◌, [], ◌∷◌, Some, None, codes, pos, refl}
use Rattle.jiff_core.specs.Calendar.{day_count, days_from_civil, days_of_months, days_of_years}
use Rattle.deny_cfg_entries.specs.Day.{day_in, day_of, has_form, is_day}
use Rattle.deny_cfg_entries.specs.RustVersion.{number_in}
use Rattle.deny_cli.specs.Home.{home_of}
use Rattle.deny_cli.specs.Options.{behind}
use Rattle.deny_cli.specs.Registries.{registries_in, registry_of}
use Rattle.deny_cli.specs.Today.{day_numbered, today_of}
use Rattle.deny_cli.specs.Arguments.{check, generate, asked_by, count_of, is_plain, leads_with_zero, names_file, step}

pub asks_for_two : asked_by (codes "check" ∷ codes "deny.toml" ∷ codes "metadata.json" ∷ [])
    ≡ Some (check (record {
      policy = codes "deny.toml";
      metadata = codes "metadata.json";
      replacements = None;
      home = None;
      registries = [];
      today = None;
    }))
unfolding asked_by step names_file home_of registries_in registry_of today_of behind
asks_for_two = refl

pub asks_for_three : asked_by (codes "check" ∷ codes "a" ∷ codes "b" ∷ codes "c" ∷ [])
    ≡ Some (check (record {
      policy = codes "a";
      metadata = codes "b";
      replacements = Some (codes "c");
      home = None;
      registries = [];
      today = None;
    }))
unfolding asked_by step names_file home_of registries_in registry_of today_of behind
asks_for_three = refl

pub asks_for_too_few : asked_by (codes "check" ∷ codes "deny.toml" ∷ []) ≡ None
unfolding asked_by step names_file home_of registries_in registry_of today_of behind
asks_for_too_few = refl

pub asks_for_too_many : asked_by (codes "check" ∷ codes "a" ∷ codes "b" ∷ codes "c" ∷ codes "d" ∷ []) ≡ None
unfolding asked_by step names_file home_of registries_in registry_of today_of behind
asks_for_too_many = refl

pub asks_by_an_option : asked_by (codes "check" ∷ codes "-a" ∷ codes "b" ∷ []) ≡ None
unfolding asked_by step names_file home_of registries_in registry_of today_of behind
asks_by_an_option = refl

pub asks_for_no_name : asked_by (codes "check" ∷ codes "a" ∷ [] ∷ []) ≡ None
unfolding asked_by step names_file home_of registries_in registry_of today_of behind
asks_for_no_name = refl

pub asks_for_another : asked_by (codes "checks" ∷ codes "a" ∷ codes "b" ∷ []) ≡ None
unfolding asked_by step names_file home_of registries_in registry_of today_of behind
asks_for_another = refl

-- ---- generated crates

pub asks_for_four : asked_by (codes "generate" ∷ codes "4" ∷ []) ≡ Some (generate 4)
unfolding asked_by step count_of is_plain leads_with_zero
asks_for_four = refl

pub asks_for_none : asked_by (codes "generate" ∷ codes "0" ∷ []) ≡ Some (generate 0)
unfolding asked_by step count_of is_plain leads_with_zero
asks_for_none = refl

pub asks_for_the_most : asked_by (codes "generate" ∷ codes "20000" ∷ []) ≡ Some (generate 20000)
unfolding asked_by step count_of is_plain leads_with_zero
asks_for_the_most = refl

pub asks_for_more : asked_by (codes "generate" ∷ codes "20001" ∷ []) ≡ None
unfolding asked_by step count_of is_plain leads_with_zero
asks_for_more = refl

pub asks_behind_a_zero : asked_by (codes "generate" ∷ codes "04" ∷ []) ≡ None
unfolding asked_by step count_of is_plain leads_with_zero
asks_behind_a_zero = refl

pub asks_behind_a_plus : asked_by (codes "generate" ∷ codes "+4" ∷ []) ≡ None
unfolding asked_by step count_of is_plain leads_with_zero
asks_behind_a_plus = refl

pub asks_for_no_number : asked_by (codes "generate" ∷ [] ∷ []) ≡ None
unfolding asked_by step count_of is_plain leads_with_zero
asks_for_no_number = refl

pub asks_for_two_numbers : asked_by (codes "generate" ∷ codes "4" ∷ codes "4" ∷ []) ≡ None
unfolding asked_by step count_of is_plain leads_with_zero
asks_for_two_numbers = refl

pub asks_without_a_number : asked_by (codes "generate" ∷ []) ≡ None
unfolding asked_by step
asks_without_a_number = refl

-- ---- registries

-- the first `=` behind the prefix divides the name from the address
pub names_a_registry : registry_of (codes "--registry=a=b=c")
    ≡ Some (record { name = codes "a"; address = codes "b=c" })
unfolding registry_of behind
names_a_registry = refl

pub names_no_name : registry_of (codes "--registry==u") ≡ None
unfolding registry_of behind
names_no_name = refl

pub names_no_address : registry_of (codes "--registry=n=") ≡ None
unfolding registry_of behind
names_no_address = refl

pub divides_nothing : registry_of (codes "--registry=n") ≡ None
unfolding registry_of behind
divides_nothing = refl

pub names_nothing : registry_of (codes "--registry=") ≡ None
unfolding registry_of behind
names_nothing = refl

pub names_in_parts : registry_of (codes "--registry") ≡ None
unfolding registry_of behind
names_in_parts = refl

pub is_another_option : registry_of (codes "--home=/c") ≡ None
unfolding registry_of behind
is_another_option = refl

-- ---- a home

pub names_a_home : home_of (codes "--home=/c=d") ≡ Some (codes "/c=d")
unfolding home_of behind
names_a_home = refl

pub names_no_path : home_of (codes "--home=") ≡ None
unfolding home_of behind
names_no_path = refl

pub names_no_home : home_of (codes "--registry=a=b") ≡ None
unfolding home_of behind
names_no_home = refl

-- ---- options before the paths

-- registries keep their order, and a registry may be named twice
pub asks_with_registries :
    asked_by (codes "check" ∷ codes "--registry=b=u" ∷ codes "--registry=a=v" ∷ codes "p" ∷ codes "m" ∷ [])
    ≡ Some (check (record {
      policy = codes "p";
      metadata = codes "m";
      replacements = None;
      home = None;
      registries = record { name = codes "b"; address = codes "u" } ∷ record { name = codes "a"; address = codes "v" }
          ∷ [];
      today = None;
    }))
unfolding asked_by step names_file home_of registries_in registry_of today_of behind
asks_with_registries = refl

pub asks_behind_a_path : asked_by (codes "check" ∷ codes "p" ∷ codes "--registry=a=v" ∷ codes "m" ∷ []) ≡ None
unfolding asked_by step names_file home_of registries_in registry_of today_of behind
asks_behind_a_path = refl

pub asks_behind_all : asked_by (codes "check" ∷ codes "p" ∷ codes "m" ∷ codes "--registry=a=v" ∷ []) ≡ None
unfolding asked_by step names_file home_of registries_in registry_of today_of behind
asks_behind_all = refl

pub asks_without_paths : asked_by (codes "check" ∷ codes "--registry=a=v" ∷ []) ≡ None
unfolding asked_by step names_file home_of registries_in registry_of today_of behind
asks_without_paths = refl

pub asks_before_check : asked_by (codes "--registry=a=v" ∷ codes "check" ∷ codes "p" ∷ codes "m" ∷ []) ≡ None
unfolding asked_by step names_file home_of registries_in registry_of today_of behind
asks_before_check = refl

pub asks_of_a_number : asked_by (codes "generate" ∷ codes "--registry=a=v" ∷ codes "4" ∷ []) ≡ None
unfolding asked_by step count_of is_plain leads_with_zero registries_in registry_of behind
asks_of_a_number = refl

pub asks_of_a_number_at_home : asked_by (codes "generate" ∷ codes "--home=/c" ∷ codes "4" ∷ []) ≡ None
unfolding asked_by step count_of is_plain leads_with_zero registries_in registry_of behind
asks_of_a_number_at_home = refl

pub asks_for_a_home : asked_by (codes "check" ∷ codes "--home=/c" ∷ codes "p" ∷ codes "m" ∷ [])
    ≡ Some (check (record {
      policy = codes "p";
      metadata = codes "m";
      replacements = None;
      home = Some (codes "/c");
      registries = [];
      today = None;
    }))
unfolding asked_by step names_file home_of registries_in registry_of today_of behind
asks_for_a_home = refl

-- a home may be named between registries
pub asks_for_both :
    asked_by (codes "check" ∷ codes "--registry=b=u" ∷ codes "--home=/c" ∷ codes "--registry=a=v" ∷ codes "p"
    ∷ codes "m" ∷ codes "t" ∷ [])
    ≡ Some (check (record {
      policy = codes "p";
      metadata = codes "m";
      replacements = Some (codes "t");
      home = Some (codes "/c");
      registries = record { name = codes "b"; address = codes "u" } ∷ record { name = codes "a"; address = codes "v" }
          ∷ [];
      today = None;
    }))
unfolding asked_by step names_file home_of registries_in registry_of today_of behind
asks_for_both = refl

pub asks_for_two_homes :
    asked_by (codes "check" ∷ codes "--home=/c" ∷ codes "--home=/c" ∷ codes "p" ∷ codes "m" ∷ []) ≡ None
unfolding asked_by step names_file home_of registries_in registry_of today_of behind
asks_for_two_homes = refl

pub asks_for_an_empty_home : asked_by (codes "check" ∷ codes "--home=" ∷ codes "p" ∷ codes "m" ∷ []) ≡ None
unfolding asked_by step names_file home_of registries_in registry_of today_of behind
asks_for_an_empty_home = refl

pub asks_for_a_home_late : asked_by (codes "check" ∷ codes "p" ∷ codes "--home=/c" ∷ codes "m" ∷ []) ≡ None
unfolding asked_by step names_file home_of registries_in registry_of today_of behind
asks_for_a_home_late = refl

-- ---- a day

pub names_a_day : today_of (codes "--today=2026-01-31") ≡ Some (day_numbered (pos 20_484))
unfolding today_of behind day_in has_form number_in day_of is_day days_from_civil day_count days_of_years
    days_of_months
names_a_day = refl

-- a day that the calendar does not have
pub names_no_day : today_of (codes "--today=2026-02-30") ≡ None
unfolding today_of behind day_in has_form number_in day_of is_day
names_no_day = refl

pub names_an_empty_day : today_of (codes "--today=") ≡ None
unfolding today_of behind day_in has_form
names_an_empty_day = refl

pub names_a_home_only : today_of (codes "--home=2026-01-31") ≡ None
unfolding today_of behind
names_a_home_only = refl

-- a day may be named between a registry and a home
pub asks_for_a_day :
    asked_by (codes "check" ∷ codes "--registry=a=v" ∷ codes "--today=2026-01-31" ∷ codes "--home=/c" ∷ codes "p"
    ∷ codes "m" ∷ [])
    ≡ Some (check (record {
      policy = codes "p";
      metadata = codes "m";
      replacements = None;
      home = Some (codes "/c");
      registries = record { name = codes "a"; address = codes "v" } ∷ [];
      today = Some (day_numbered (pos 20_484));
    }))
unfolding asked_by step names_file home_of registries_in registry_of today_of behind day_in has_form number_in day_of
    is_day days_from_civil day_count days_of_years days_of_months
asks_for_a_day = refl

pub asks_for_two_days :
    asked_by (codes "check" ∷ codes "--today=2026-01-31" ∷ codes "--today=2026-01-31" ∷ codes "p" ∷ codes "m" ∷ [])
    ≡ None
unfolding asked_by step names_file home_of registries_in registry_of today_of behind day_in has_form number_in day_of
    is_day days_from_civil day_count days_of_years days_of_months
asks_for_two_days = refl

pub asks_for_no_day : asked_by (codes "check" ∷ codes "--today=2026-02-30" ∷ codes "p" ∷ codes "m" ∷ []) ≡ None
unfolding asked_by step names_file home_of registries_in registry_of today_of behind day_in has_form number_in day_of
    is_day
asks_for_no_day = refl

pub asks_for_a_day_late :
    asked_by (codes "check" ∷ codes "p" ∷ codes "--today=2026-01-31" ∷ codes "m" ∷ []) ≡ None
unfolding asked_by step names_file home_of registries_in registry_of today_of behind
asks_for_a_day_late = refl
