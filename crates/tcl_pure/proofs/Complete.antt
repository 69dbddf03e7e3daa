-- `info complete` by its one word.
use Rattle.std.proofs.Common.{◌≡◌, List, [], ◌∷◌, Ok, refl}
use Rattle.tcl_chars.specs.Texts.{literal}
use Rattle.tcl_words.specs.Complete.{is_complete}
use Rattle.tcl_pages.specs.Answers.{◌>>=◌}
use Rattle.tcl_pages.specs.Arguments.{one_argument}
use Rattle.tcl_pages.specs.Results.{truth_text}
use Rattle.tcl_meaning.specs.Pure.{info_complete}
use Rattle.tcl_pages.specs.Texts.{Text}

pub of_one_word : (ws : List Text) → info_complete ws ≡ (one_argument (literal "info complete command") ws >>= λ t. Ok (truth_text (is_complete t)))
of_one_word [] = refl
of_one_word (t ∷ []) = refl
of_one_word (t ∷ u ∷ ws) = refl
