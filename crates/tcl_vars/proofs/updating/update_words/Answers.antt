use Rattle.std.proofs.Common.{Err, sym, ap, ◌∙◌}
use Rattle.tcl_chars.specs.Texts.{text_of}
use Rattle.tcl_pages.specs.Texts.{Text}
use Rattle.tcl_pages.specs.Usage.{usage_text}
use Rattle.tcl_vars.proofs.UpdateLemmas.{words_refused, page_refused}
use Rattle.tcl_vars.proofs.updating.update_words.Goals as goal

pub returns-then-not-fits : goal.returns-then-not-fits
returns-then-not-fits c =
    rw c.failure.ensures
    (page_refused c.args.dialect c.args.page c.args.words.now (text_of c.in_ok-message.message) c.args.frames.now
    (words_refused c.args.page c.args.words.now (c.fits.ensures.no c.if-not-fits.true) ∙ ap (λ (t : Text). Err t) (sym (c.in_ok-message.ensures ∙ ap usage_text c.usage_of.ensures))))
