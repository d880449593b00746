use Rattle.std.proofs.Common.{refl, ap, ◌∙◌}
use Rattle.std.specs.Prelude.{Err}
use Rattle.deny_cfg_tables.specs.Checksum.{checksum_in}
use Rattle.deny_cfg_tables.specs.declared.bans.cfg.checksum.ChecksumParseError.TheVariants.{InvalidValue}
use Rattle.deny_cfg_tables.proofs.ChecksumLaws.{wrong_length, decoded_text, decoded_ok, decoded_err, names, named}
use Rattle.deny_cfg_tables.proofs.bans.cfg.checksum.ChecksumFromStr.from_str.Goals as goal

pub returns-then-text-ne64 : goal.returns-then-text-ne64
returns-then-text-ne64 c = wrong_length c.args.text.now c.if-text-ne64.true

pub returns-in-Ok : goal.returns-in-Ok
returns-in-Ok c =
    decoded_ok _ _ c.decode_to_slice.new.out _ (checksum_in c.args.text.now) c.in-Ok.ensures.value refl
    (decoded_text c.args.text.now c.if-text-ne64.false)

pub bad_character-requires : goal.bad_character-requires
bad_character-requires c =
    let is =
    decoded_err _ _ c.decode_to_slice.new.out c.in-Err.error (checksum_in c.args.text.now) c.in-Err.ensures.value
    refl (decoded_text c.args.text.now c.if-text-ne64.false) in
    names c.in-Err.error (checksum_in c.args.text.now) is

pub returns-in-Err : goal.returns-in-Err
returns-in-Err c =
    let is =
    decoded_err _ _ c.decode_to_slice.new.out c.in-Err.error (checksum_in c.args.text.now) c.in-Err.ensures.value
    refl (decoded_text c.args.text.now c.if-text-ne64.false) in
    ap (λ b. Err (InvalidValue b)) c.bad_character.ensures ∙ named c.in-Err.error (checksum_in c.args.text.now) is
