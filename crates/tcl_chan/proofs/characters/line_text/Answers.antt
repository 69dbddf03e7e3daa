use Rattle.std.proofs.Common.{subst}
use Rattle.bstr.specs.Utf8.{IsLastPiece}
use Rattle.std.specs.Rc.{rc_str_bytes}
use Rattle.tcl_chan.specs.Ahead.{IsLineOf}
use Rattle.tcl_chan.proofs.Gets.{line-return, line-plain, on_ok, char_is, char_is_not, some_bytes}
use Rattle.tcl_chan.proofs.characters.line_text.Goals as goal

pub returns-then-eq-clause-text : goal.returns-then-eq-clause-text
returns-then-eq-clause-text c =
    let bytes = c.args.bytes.now in
    let size = c.decode_last-last.result.1 in
    let is = char_is c.decode_last-last.result.0 c.if-eq.ensures in
    on_ok c.lossy_text.result _ (λ text. IsLineOf bytes (rc_str_bytes text))
    (λ text. line-return bytes (rc_str_bytes text) size
    (subst (λ o. IsLastPiece bytes (record { char = o; size = size })) is (c.decode_last-last.ensures.last (some_bytes bytes _ is (λ e. ((c.decode_last-last.ensures.empty e).0, tt))))))
    c.lossy_text.ensures.text

pub returns-clause-text : goal.returns-clause-text
returns-clause-text c =
    let bytes = c.args.bytes.now in
    on_ok c.lossy_text-2.result _ (λ text. IsLineOf bytes (rc_str_bytes text))
    (λ text. line-plain bytes (rc_str_bytes text) c.decode_last-last.result.0 c.decode_last-last.result.1 c.decode_last-last.ensures.last
    (char_is_not c.decode_last-last.result.0 c.if-eq.ensures))
    c.lossy_text-2.ensures.text
