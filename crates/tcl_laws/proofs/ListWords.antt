-- The words of a written list are its elements.
use Rattle.std.proofs.Common.{◌≡◌, ℕ, List, [], ◌∷◌, ◌++◌, Option, Some, None, option_map, Ok, refl, ap, ◌∙◌, subst}
use Rattle.tcl_words.specs.Parts.{Part, text, escape, var, elem_, bracket, Shape}
use Rattle.tcl_list.specs.Elements.{elements_of}
use Rattle.tcl_laws.specs.OneCommand.{plain_value, AreWords}
use Rattle.tcl_list.specs.Written.{written}
use Rattle.tcl_laws.proofs.OneCommand.{one_command, next_command}
use Rattle.tcl_list.proofs.OneList.{reading_is_spelling}
use Rattle.tcl_list.proofs.Spelled.{written_is_spelled}
use Rattle.tcl_pages.specs.Texts.{Text}
use Rattle.tcl_meaning.specs.Effects.{Prog, on_got, exec}
use Rattle.tcl_meaning.specs.Script.{Run}
use Rattle.tcl_meaning.specs.Substitution.{pieces_text, expanded, words_text}
use Rattle.tcl_meaning.specs.Tasks.{Task}
use Rattle.tcl_meaning.specs.Value.{Value, ◌>>=◌, give, judged, on_value}
use Rattle.tcl_meaning.proofs.Runs.{exec_bind}
use Rattle.tcl_laws.specs.ListWords.{WordsGive, WordsAreElements, NextWordsAreElements, ExpandsToElements}

-- ---- pieces

-- the program does nothing but give what the pieces say by themselves
abbrev Says : Option Text → Prog Task (Value Text) → Type 0
Says None p = Unit {0}
Says (Some t) p = p ≡ give t

one_more : (front : Text) (o : Option Text) (p : Prog Task (Value Text)) → Says o p → Says (option_map (λ t. front ++ t) o) (p >>= λ more. give (front ++ more))
one_more front None p h = tt
one_more front (Some t) p h = ap (λ (q : Prog Task (Value Text)). q >>= λ more. give (front ++ more)) h

pieces_say : (depth : ℕ) (ps : List Part) → Says (plain_value ps) (pieces_text depth ps)
pieces_say depth [] = refl
pieces_say depth (text s ∷ ps) = one_more s.text (plain_value ps) (pieces_text depth ps) (pieces_say depth ps)
pieces_say depth (escape s c ∷ ps) = one_more (c ∷ []) (plain_value ps) (pieces_text depth ps) (pieces_say depth ps)
pieces_say depth (var s name ∷ ps) = tt
pieces_say depth (elem_ s name index ∷ ps) = tt
pieces_say depth (bracket s script ∷ ps) = tt

-- ---- words

pub words_say : (depth : ℕ) (ws : List Shape) (es : List Text) → AreWords ws es → words_text depth ws ≡ give es
words_say depth [] [] h = refl
words_say depth [] (e ∷ es) h = absurd h
words_say depth (w ∷ ws) [] h = absurd h
words_say depth (w ∷ ws) (e ∷ es) h =
    let word : pieces_text depth w.pieces ≡ give e = subst (λ o. Says o (pieces_text depth w.pieces)) h.0.value (pieces_say depth w.pieces) in
    ap (λ (p : Prog Task (Value Text)). p >>= λ t. expanded w.expands t >>= λ new. words_text depth ws >>= λ more. give (new ++ more)) word
    ∙ ap (λ b. expanded b e >>= λ new. words_text depth ws >>= λ more. give (new ++ more)) h.0.single
    ∙ ap (λ (p : Prog Task (Value (List Text))). p >>= λ more. give ((e ∷ []) ++ more)) (words_say depth ws es h.1)

words_give : (ws : List Shape) (es : List Text) → AreWords ws es → WordsGive ws es
words_give ws es h dialect depth s = ap (λ p. exec (Run dialect) p s) (words_say depth ws es h)

pub words_are_elements : WordsAreElements
words_are_elements size levels nested e es = let c = one_command size levels nested e es in (c.0, c.1, words_give c.0 (e ∷ es) c.2)

pub next_words_are_elements : NextWordsAreElements
next_words_are_elements size levels nested e es rest h = let c = next_command size levels nested e es rest h in (c.0, c.1, words_give c.0 (e ∷ es) c.2)

-- ---- expansion

reads_back : (es : List Text) → elements_of (written es) ≡ Ok es
reads_back es = (reading_is_spelling (written es) es).1 (written_is_spelled es)

pub expands_to_elements : ExpandsToElements
expands_to_elements dialect depth w ws es s t b h =
    let rest : Text → Prog Task (Value (List Text)) = λ x. expanded w.expands x >>= λ new. words_text depth ws >>= λ more. give (new ++ more) in
    exec_bind (Run dialect) (pieces_text depth w.pieces) (on_value rest) s
    ∙ ap (λ g. on_got g (λ v u. exec (Run dialect) (on_value rest v) u)) h
    ∙ ap (λ x. exec (Run dialect) (expanded x (written es) >>= λ new. words_text depth ws >>= λ more. give (new ++ more)) t) b
    ∙ ap (λ r. exec (Run dialect) (judged r >>= λ new. words_text depth ws >>= λ more. give (new ++ more)) t) (reads_back es)
