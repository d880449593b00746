-- Worked cases: checksums, by computing.
use Rattle.std.proofs.Common.{◌≡◌, Ok, codes, sym, ap}
use Rattle.sha2.specs.Sha256.{sha256}
use Rattle.sha2.proofs.Facts256.{digest_of_abc_256}
use Rattle.deny_cfg_tables.specs.Checksum.{checksum_in}

-- a file that holds `abc`
checksum_of_abc : checksum_in (codes "ba7816bf8f01cfea414140de5dae2223b00361a396177a9cb410ff61f20015ad")
    ≡ Ok (sha256 (codes "abc"))
unfolding checksum_in
checksum_of_abc = ap Ok (sym digest_of_abc_256)
