-- The requirement `=1.0.0`, as semver reads it: a list of one comparator, wherever it is in memory.
use Rattle.std.proofs.Common.{◌∷◌, [], None, Some, arith, codes, refl}
use denote.RawPtr.{null_ptr}
use Rattle.std.specs.declared.alloc.Global.{Global}
use Rattle.semver.specs.declared.Op.TheVariants as op
use Rattle.semver.specs.declared.Comparator.{Comparator}
use Rattle.semver.specs.declared.VersionReq.{VersionReq}
use Rattle.semver.proofs.OnLiterals.{semver_on_literals}
use Rattle.deny_cfg_entries.specs.Requirement.{IsReadIn, requirement_in}

abbrev exact_one : Comparator
exact_one = record { op = op.Exact; major = 1; minor = Some 0; patch = Some 0; pre = record { identifier = None } }

abbrev heap : Global
heap = record { memory = record { seal = tt } }

abbrev pub only_one : VersionReq
only_one = record {
  comparators = record {
    ptr = null_ptr;
    len = 1;
    cap = 1;
    alloc = heap;
    items = exact_one ∷ [];
    ok = (refl, omega arith);
    small = omega arith;
  };
}

pub read_only_one : IsReadIn (Some (codes "=1.0.0")) (Some only_one)
unfolding requirement_in semver_on_literals
read_only_one = refl
