use Rattle.std.proofs.Common.{arith, ◌≤◌, length, take}
use Rattle.std.specs.Prelude.{encode_utf8_all}
use Rattle.deny_globs.proofs.Bytes.{bytes_before, bytes_of_all}
use Rattle.deny_globs.proofs.glob.byte_of.Goals as goal

pub bytes_in-requires : goal.bytes_in-requires
bytes_in-requires c =
    let h : length (encode_utf8_all (take c.args.number c.args.characters.now)) ≤ length c.args.text.now = bytes_before
    c.args.text.now c.args.characters.now c.args.number c.utf8.text c.requires in
    omega arith

pub returns : goal.returns
returns c = bytes_of_all c.args.text.now c.args.characters.now c.args.number c.utf8.text c.requires
    c.if-number-characters.false
