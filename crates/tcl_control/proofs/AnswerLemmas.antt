-- What pages ask for whose answers are judged: switch(n), return(n).
use Rattle.std.proofs.Common.{◌≡◌, Bool, false, List, [], ◌∷◌, Some, Ok, Err, ap, ◌∙◌, refl}
use Rattle.std.specs.Prelude.{Option}
use Rattle.tcl_chars.specs.declared.numbers.Dialect.{Dialect}
use Rattle.tcl_steps.specs.Asked.{at_once}
use Rattle.tcl_control.specs.Switching.{body_among, body_behind, switch_body}
use Rattle.tcl_list.specs.Elements.{elements_of}
use Rattle.tcl_meaning.specs.Asking.{Asks, done}
use Rattle.tcl_meaning.specs.CodePages.{return_page}
use Rattle.tcl_meaning.specs.Codes.{return_of, return_shape}
use Rattle.tcl_meaning.specs.Completions.{Completion, failure}
use Rattle.tcl_meaning.specs.Control.{body_asks, switch_among, switch_of, switch_page}
use Rattle.tcl_meaning.specs.Shapes.{Switch, switch_words, paired, last_checked, chosen}
use Rattle.tcl_meaning.specs.Tasks.{Done}
use Rattle.tcl_meaning.specs.Value.{◌>>=◌, judged}
use Rattle.tcl_pages.specs.Answers.{Answer, ◌>>=◌ as andthen}
use Rattle.tcl_pages.specs.Texts.{Text}

-- ---- switch

abbrev asks_body : Answer (Option Text) → Asks
asks_body body = judged body >>= body_asks

checked_asks : (globs : Bool) (t : Text) (ps : List (Text × Text)) (r : Answer (Unit {0})) → (judged r >>= λ _. body_asks (chosen globs t ps)) ≡ asks_body (andthen r (λ _. Ok (chosen globs t ps)))
checked_asks globs t ps (Ok u) = refl
checked_asks globs t ps (Err m) = refl

paired_asks : (globs : Bool) (t : Text) (r : Answer (List (Text × Text)))
    → (judged r >>= λ ps. judged (last_checked ps) >>= λ _. body_asks (chosen globs t ps)) ≡ asks_body (andthen r (λ ps. andthen (last_checked ps) (λ _. Ok (chosen globs t ps))))
paired_asks globs t (Ok ps) = checked_asks globs t ps (last_checked ps)
paired_asks globs t (Err m) = refl

list_asks : (globs : Bool) (t : Text) (r : Answer (List Text)) → (judged r >>= λ ws. switch_among globs t ws) ≡ asks_body (andthen r (body_among globs t))
list_asks globs t (Ok ws) = paired_asks globs t (paired ws)
list_asks globs t (Err m) = refl

behind_asks : (globs : Bool) (ws : List Text) → switch_of globs ws ≡ asks_body (body_behind globs ws)
behind_asks globs [] = refl
behind_asks globs (t ∷ []) = refl
behind_asks globs (t ∷ list ∷ []) = list_asks globs t (elements_of list)
behind_asks globs (t ∷ a ∷ b ∷ ws) = paired_asks globs t (paired (a ∷ b ∷ ws))

words_ask : (r : Answer Switch) → (judged r >>= λ s. switch_of s.globs s.words) ≡ asks_body (andthen r (λ s. body_behind s.globs s.words))
words_ask (Ok s) = behind_asks s.globs s.words
words_ask (Err m) = refl

switch_is : (ws : List Text) → switch_page ws ≡ asks_body (switch_body ws)
unfolding switch_page
switch_is ws = words_ask (switch_words false ws)

pub switch_asks : (ws : List Text) (body : Option Text) → switch_body ws ≡ Ok body → switch_page ws ≡ body_asks body
switch_asks ws body e = switch_is ws ∙ ap asks_body e

pub switch_fails : (ws : List Text) (m : Text) → switch_body ws ≡ Err m → at_once (switch_page ws) ≡ Some (Done (failure m))
switch_fails ws m e = ap at_once (switch_is ws ∙ ap asks_body e)

-- ---- return

abbrev asks_end : Answer Completion → Asks
asks_end c = judged c >>= done

return_asks : (dialect : Dialect) (ws : List Text) → return_page dialect ws ≡ asks_end (return_of dialect (return_shape ws))
unfolding return_page
return_asks dialect ws = refl

pub return_ends : (dialect : Dialect) (ws : List Text) (c : Completion) → return_of dialect (return_shape ws) ≡ Ok c → at_once (return_page dialect ws) ≡ Some (Done c)
return_ends dialect ws c e = ap at_once (return_asks dialect ws ∙ ap asks_end e)

pub return_fails : (dialect : Dialect) (ws : List Text) (m : Text) → return_of dialect (return_shape ws) ≡ Err m → at_once (return_page dialect ws) ≡ Some (Done (failure m))
return_fails dialect ws m e = ap at_once (return_asks dialect ws ∙ ap asks_end e)
