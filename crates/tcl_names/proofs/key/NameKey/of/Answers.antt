use Rattle.std.proofs.Common.{sym, ap, ◌∙◌}
use Rattle.tcl_names.specs.Keys.{has_key, key_of}
use Rattle.tcl_names.proofs.Keys.{no_key, the_key}
use Rattle.tcl_names.proofs.key.NameKey.of.Goals as goal

pub returns-then-not-has_key : goal.returns-then-not-has_key
returns-then-not-has_key c = no_key c.args.name.now (ap has_key (sym c.as_bytes-bytes.ensures.value) ∙ sym c.has_key.ensures ∙ c.if-not-has_key.true)

pub returns : goal.returns
returns c =
    let bytes = c.as_bytes-bytes.ensures.value in
    the_key c.packed.result c.as_bytes-bytes.result.now c.packed.ensures.packed (sym c.has_key.ensures ∙ c.if-not-has_key.false) ∙ ap key_of bytes
