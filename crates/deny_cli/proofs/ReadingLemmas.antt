-- Readings that stop a run: of which input, and that it was asked for.
use Rattle.std.proofs.Common.{◌≡◌, ◌≤◌, ◌^◌, ℕ, List, [], Option, None, Some, Result, Ok, Err, refl, sym, subst, arith}
use Rattle.std.specs.Prelude.{IfErr, IfSome, IsErrAnd, option_map, ⊤}
use Rattle.deny_base_disk.specs.Count.{RoseBy}
use Rattle.deny_base_disk.specs.Disk.{Disk, Files, FailedAt, IsLater, bytes_at}
use Rattle.deny_base.specs.declared.check.Which.{Which}
use Rattle.deny_base.specs.declared.check.Which.TheVariants.{Policy, Metadata, Replacements}
use Rattle.deny_base_disk.specs.declared.disk.Call.TheVariants as call
use Rattle.deny_gate.specs.Gating.{InputTexts}
use Rattle.deny_cli.specs.Causes.{AreShortBefore, IsAskedFor, IsFaultAt, IsFirstLong, IsLong, IsLongAt, IsLongThere}
use Rattle.deny_cli.specs.Causes.{IsReadAt, IsReadIfNamed, IsShort, known_inputs, inputs_at}
use Rattle.deny_cli.specs.private.Causes.{IsReadStop, StopsCommand}
use Rattle.deny_cli.specs.Arguments.{CheckArguments, check, path_of}
use Rattle.deny_cli.specs.declared.outcome.Outcome.{Outcome}
use Rattle.deny_cli.specs.declared.outcome.Outcome.TheVariants.{Done, Usage, Read, Long, Gate, Write, Memory}

-- ---- counts and files of a disk that is later

rose_since : (n before between after : ℕ) → before ≤ between → RoseBy n between after → RoseBy n before after
rose_since n before between after later rose = omega (arith, later, rose)

failed_since : (old between new : Disk) (path : List ℕ) → IsLater old between → FailedAt between new call.Read path
    → FailedAt old new call.Read path
failed_since old between new path later failed = record {
  faults = rose_since 1 old.faults between.faults new.faults later.faults failed.faults;
  faults_at = rose_since 1 (old.faults_at call.Read path) (between.faults_at call.Read path)
      (new.faults_at call.Read path) (later.faults_at call.Read path) failed.faults_at;
}

-- a property of the files that a disk tells, by two others
both_known : {P Q R : Files → Type 0} (told : Option Files) → ((files : Files) → P files → Q files → R files)
    → IfSome told P → IfSome told Q → IfSome told R
both_known None by p q = tt
both_known (Some files) by p q = by files p q

-- what was read on a later disk is there on the earlier one
pub read_since : (old between : Disk) (path text : List ℕ) → IsLater old between → IsReadAt between path text
    → IsReadAt old path text
read_since old between path text later read = record {
  whole = subst (λ (f : Option Files). IfSome f (λ files. text ≡ bytes_at files path)) later.files read.whole;
  short = read.short;
}

pub read_if_named_since : (old between : Disk) (path text : Option (List ℕ)) → IsLater old between
    → IsReadIfNamed between path text → IsReadIfNamed old path text
read_if_named_since old between None text later read = read
read_if_named_since old between (Some path) None later read = read
read_if_named_since old between (Some path) (Some text) later read = read_since old between path text later read

-- ---- inputs that are asked for

-- a text that was read is short on the disk
short_there : (told : Option Files) (path text : List ℕ) → IfSome told (λ files. text ≡ bytes_at files path)
    → IsShort text → IfSome told (λ files. IsShort (bytes_at files path))
short_there None path text whole short = tt
short_there (Some files) path text whole short = subst (λ (t : List ℕ). IsShort t) whole short

always : (told : Option Files) → IfSome told (λ files. ⊤)
always None = tt
always (Some files) = tt

-- a property of the inputs on a disk that tells its files is one of the inputs that are known
are_known : (told : Option Files) (asked : CheckArguments) (P : InputTexts → Type 0)
    → IfSome told (λ files. P (inputs_at files asked))
    → IfSome (known_inputs told (check asked)) P
are_known None asked P is = tt
are_known (Some files) asked P is = is

are_there : (told : Option Files) (asked : CheckArguments) (P : InputTexts → Type 0)
    → IfSome (known_inputs told (check asked)) P
    → IfSome told (λ files. P (inputs_at files asked))
are_there None asked P is = tt
are_there (Some files) asked P is = is

pub policy_asked_for : (old : Disk) (asked : CheckArguments) → IsAskedFor old (check asked) Policy asked.policy
policy_asked_for old asked = record {
  is_its_path = refl;
  before = are_known old.files asked (λ texts. AreShortBefore texts Policy) (always old.files);
}

pub metadata_asked_for : (old : Disk) (asked : CheckArguments) (policy : List ℕ) → IsReadAt old asked.policy policy
    → IsAskedFor old (check asked) Metadata asked.metadata
metadata_asked_for old asked policy read = record {
  is_its_path = refl;
  before = are_known old.files asked (λ texts. AreShortBefore texts Metadata)
      (short_there old.files asked.policy policy read.whole read.short);
}

pub replacements_asked_for : (old between : Disk) (asked : CheckArguments) (policy metadata path : List ℕ)
    → asked.replacements ≡ Some path → IsLater old between → IsReadAt old asked.policy policy
    → IsReadAt between asked.metadata metadata → IsAskedFor old (check asked) Replacements path
replacements_asked_for old between asked policy metadata path named later first second =
    let whole = subst (λ (f : Option Files). IfSome f (λ files. metadata ≡ bytes_at files asked.metadata)) later.files
    second.whole in
    record {
      is_its_path = named;
      before = are_known old.files asked (λ texts. AreShortBefore texts Replacements)
          (both_known {P = λ files. IsShort (bytes_at files asked.policy)}
          {Q = λ files. IsShort (bytes_at files asked.metadata)}
          {R = λ files. AreShortBefore (inputs_at files asked) Replacements} old.files (λ files p q. (p, q))
          (short_there old.files asked.policy policy first.whole first.short)
          (short_there old.files asked.metadata metadata whole second.short));
    }

-- ---- a reading that stops a run

-- a long input behind short ones is the first
first_long : (files : Files) (asked : CheckArguments) (which : Which) (path : List ℕ)
    → path_of (check asked) which ≡ Some path
    → AreShortBefore (inputs_at files asked) which → IsLong (bytes_at files path)
    → IsFirstLong (inputs_at files asked) which
first_long files asked Policy path is before long =
    let same : asked.policy ≡ path = cc is in
    subst (λ (p : List ℕ). IsLong (bytes_at files p)) (sym same) long
first_long files asked Metadata path is before long =
    let same : asked.metadata ≡ path = cc is in
    (before, subst (λ (p : List ℕ). IsLong (bytes_at files p)) (sym same) long)
first_long files asked Replacements path is before long = (
  before.0,
  before.1,
  subst (λ (p : Option (List ℕ)). IsLongThere (option_map (bytes_at files) p)) (sym is) long,
)

first_reported : (old : Disk) (asked : CheckArguments) (which : Which) (path : List ℕ)
    → IsAskedFor old (check asked) which path
    → IfSome old.files (λ files. IsLong (bytes_at files path))
    → IfSome (known_inputs old.files (check asked)) (λ texts. IsFirstLong texts which)
first_reported old asked which path named long =
    are_known old.files asked (λ texts. IsFirstLong texts which)
    (both_known {P = λ files. AreShortBefore (inputs_at files asked) which} {Q = λ files. IsLong (bytes_at files path)}
    {R = λ files. IsFirstLong (inputs_at files asked) which} old.files
    (λ files before is. first_long files asked which path named.is_its_path before is)
    (are_there old.files asked (λ texts. AreShortBefore texts which) named.before) long)

stops : (old between new : Disk) (asked : CheckArguments) (which : Which) (path : List ℕ) (outcome : Outcome)
    → IsLater old between → IsAskedFor old (check asked) which path → IsReadStop between new which path outcome
    → StopsCommand old new (check asked) outcome []
stops old between new asked which path (Read found) later named stop =
    subst (λ (w : Which). IsFaultAt old new (check asked) w) (sym stop.0) (record {
      path = path;
      asked_for = named;
      failed = failed_since old between new path later stop.1;
    })
stops old between new asked which path (Long found) later named stop =
    subst (λ (w : Which). IsLongAt old new (check asked) w) (sym stop.0) (record {
      path = path;
      asked_for = named;
      given = rose_since (2 ^ 28) old.given between.given new.given later.given stop.1;
      first = first_reported old asked which path named
          (subst (λ (f : Option Files). IfSome f (λ files. IsLong (bytes_at files path))) later.files stop.2);
    })
stops old between new asked which path (Done report) later named stop = absurd stop
stops old between new asked which path (Usage at) later named stop = absurd stop
stops old between new asked which path (Gate error) later named stop = absurd stop
stops old between new asked which path (Write report) later named stop = absurd stop
stops old between new asked which path Memory later named stop = tt

-- a reading that stops a run stops the command, where it is handed on
pub handed_on : {T : Type 0} (old between new : Disk) (asked : CheckArguments) (which : Which) (path : List ℕ)
    (result : Result T Outcome) (outcome : Outcome) → IsErrAnd result (λ handed. handed ≡ outcome)
    → IsLater old between → IsAskedFor old (check asked) which path → IsReadStop between new which path outcome
    → IfErr result (λ handed. StopsCommand old new (check asked) handed [])
handed_on old between new asked which path (Ok inputs) outcome is later named stop = absurd is
handed_on old between new asked which path (Err handed) outcome is later named stop =
    subst (λ (o : Outcome). StopsCommand old new (check asked) o []) (sym is)
    (stops old between new asked which path outcome later named stop)
