use Rattle.std.proofs.Common.{◌≡◌, subst, sym, ◌∙◌}
use Rattle.std.specs.Str.{IsUtf8}
use Rattle.std.proofs.lemmas.Str.{IsUtf8-from_ascii}
use Rattle.hex.specs.Hex.{encode_lower, lower_digits}
use Rattle.hex.proofs.HexLemmas.{IsAscii-encode_with}
use Rattle.deny_cfg_tables.proofs.ChecksumLaws.{on_ok, ascii_digits}
use Rattle.deny_cfg_tables.proofs.bans.cfg.checksum.ChecksumDisplay.fmt.Goals as goal

pub unreachable-requires-in-Err : goal.unreachable-requires-in-Err
unreachable-requires-in-Err g c =
    let written : c.encode_to_slice.new.output ≡ encode_lower c.args.self.now.0 =
    on_ok c.encode_to_slice.result _ (sym c.is_err.ensures.value ∙ c.if-is_err.false)
    c.encode_to_slice.ensures.written in
    c.in-Err.ensures.cases.0
    (subst IsUtf8 (sym written)
    (IsUtf8-from_ascii _ (IsAscii-encode_with lower_digits c.args.self.now.0 ascii_digits)))
