-- The moves of a reading that goes on, as the code finds them.
use Rattle.std.proofs.Common.{◌≡◌, ℕ, suc, ◌-◌, ◌<◌, Bool, true, false, not, ◌&&◌, ◌==◌, List, [], ◌∷◌, ◌++◌, Option, Some, None, Result, Ok, refl, sym, ap, subst, ◌∙◌, arith, inl, inr}
use Rattle.std.specs.Prelude.{if◌then◌else◌, is_some}
use Rattle.std.proofs.lemmas.Bool.{cases_Bool, eqb-true, not-true}
use Rattle.std.proofs.lemmas.List.{append-nil}
use Rattle.tcl_chars.specs.Place.{begins, tail}
use Rattle.tcl_chars.specs.Reading.{◌>>=◌, turns, all_turns}
use Rattle.tcl_words.specs.declared.blanks.Gap.TheVariants as gap
use Rattle.tcl_words.specs.declared.fault.Syntax.{Syntax}
use Rattle.tcl_words.specs.declared.fault.Syntax.TheVariants.{AfterBrace, AfterQuote}
use Rattle.tcl_words.specs.declared.front.Kind.{Kind}
use Rattle.tcl_words.specs.declared.front.Kind.TheVariants as kind
use Rattle.tcl_words.specs.declared.front.Mode.{Mode}
use Rattle.tcl_words.specs.declared.word.Form.{Form}
use Rattle.tcl_words.specs.declared.word.Form.TheVariants as form
use Rattle.tcl_words.specs.declared.moves.At.TheVariants as place
use Rattle.tcl_words.specs.declared.moves.Move.{Move}
use Rattle.tcl_words.specs.declared.moves.Move.TheVariants as move
use Rattle.tcl_words.specs.Complete.{ends_open}
use Rattle.tcl_words.specs.Parts.{Part}
use Rattle.tcl_words.specs.Waiting.{is_firm, is_settled, has_more, Script, mode_in, commands_then, words_then, behind, word_ends, pieces_then, braces_then, form_then, at_then, in_bracket, Moves, Forms, Behind, Ended}
use Rattle.tcl_words.specs.Words.{after_blanks, after_gaps, ends_word, begins_variable, marked, ends_pieces, kind_of, at_brace, form_of, after_command, pieces_at, piece_at, closing, inner_at}
use Rattle.tcl_words.proofs.Forward.{inner_inside}
use Rattle.tcl_words.proofs.GoesOn.{then_more, then_done, pieces_shrink, command_begins, commands_end, words_end, word_begins, marked_begins, plain_moves, bracket_opens}
use Rattle.tcl_words.proofs.Longer.{blanks_longer, gaps_longer, ends_longer}
use Rattle.tcl_words.proofs.LongerKinds.{kind_longer}
use Rattle.tcl_words.proofs.LongerPieces.{firm_some, piece_kept}
use Rattle.tcl_words.proofs.LongerTurns.{Open, KeptTurn}
use Rattle.tcl_words.proofs.LongerWords.{inner_nested, command_longer}

tail_on : (t y : List ℕ) → has_more t ≡ true → tail (t ++ y) ≡ tail t ++ y
tail_on [] y h = absurd cc
tail_on (c ∷ t) y h = refl

ends_on : (nested b : Bool) (s : Script) (t y : List ℕ) → s.nested ≡ nested → is_firm t ≡ true → ends_word nested t ≡ b → ends_word s.nested (t ++ y) ≡ b
ends_on nested b s t y n f e = ap (λ x. ends_word x (t ++ y)) n ∙ ends_longer nested t y f ∙ e

-- ---- between commands

gaps_on : (cs rest y : List ℕ) → rest ≡ after_gaps gap.Between cs → is_firm rest ≡ true → after_gaps gap.Between (cs ++ y) ≡ rest ++ y
gaps_on cs rest y e f = gaps_longer gap.Between cs y (ap is_firm (sym e) ∙ f) ∙ ap (λ (t : List ℕ). t ++ y) (sym e)

pub commands_go : (nested : Bool) (cs rest : List ℕ) → rest ≡ after_gaps gap.Between cs → is_firm rest ≡ true → ends_word nested rest ≡ false
    → (levels size : ℕ) (s : Script) (y : List ℕ) → s.levels ≡ levels → s.nested ≡ nested → at_then size place.Commands s (cs ++ y) ≡ at_then size place.Words s (rest ++ y)
unfolding at_then
commands_go nested cs rest e f open_ levels size s y l n = command_begins size s (cs ++ y) (rest ++ y) (gaps_on cs rest y e f) (ends_on nested false s rest y n f open_)

closing_at : (t : List ℕ) (k : List ℕ → Result (List ℕ) Syntax) → has_more t ≡ true → (closing t >>= k) ≡ k t
closing_at [] k h = absurd cc
closing_at (c ∷ t) k h = refl

some_on : (t y : List ℕ) → has_more t ≡ true → has_more (t ++ y) ≡ true
some_on [] y h = absurd cc
some_on (c ∷ t) y h = refl

pub commands_close : (nested : Bool) (cs rest after : List ℕ) → rest ≡ after_gaps gap.Between cs → is_firm rest ≡ true → ends_word nested rest ≡ true → after ≡ tail rest
    → (levels size : ℕ) (s : Script) (quoted : Bool) (y : List ℕ) → nested ≡ true → at_then size place.Commands (in_bracket size quoted s) (cs ++ y) ≡ at_then size (place.Pieces quoted) s (after ++ y)
unfolding at_then
commands_close nested cs rest after e f ends is levels size s quoted y n =
    let has = firm_some rest f in
    commands_end size (in_bracket size quoted s) (cs ++ y) (rest ++ y) (gaps_on cs rest y e f) (ends_on nested true (in_bracket size quoted s) rest y (sym n) f ends)
    ∙ closing_at (rest ++ y) (λ close. pieces_then size quoted s (tail close)) (some_on rest y has)
    ∙ ap (pieces_then size quoted s) (tail_on rest y has ∙ ap (λ (t : List ℕ). t ++ y) (sym is))

pub commands_stop : (cs rest : List ℕ) → rest ≡ after_gaps gap.Between cs → rest ≡ [] → (levels size : ℕ) (s : Script) (nested : Bool) → s.nested ≡ nested → at_then size place.Commands s cs ≡ s.next []
unfolding at_then
commands_stop cs rest e none levels size s nested n = commands_end size s cs [] (sym e ∙ none) refl

-- ---- between words

blanks_on : (cs rest y : List ℕ) → rest ≡ after_blanks cs → is_firm rest ≡ true → after_blanks (cs ++ y) ≡ rest ++ y
blanks_on cs rest y e f = blanks_longer cs y (ap is_firm (sym e) ∙ f) ∙ ap (λ (t : List ℕ). t ++ y) (sym e)

pub words_stop : (nested : Bool) (cs rest after : List ℕ) → rest ≡ after_blanks cs → is_firm rest ≡ true → ends_word nested rest ≡ true → after ≡ after_command rest
    → (levels size : ℕ) (s : Script) (y : List ℕ) → s.levels ≡ levels → s.nested ≡ nested → at_then size place.Words s (cs ++ y) ≡ at_then size place.Commands s (after ++ y)
unfolding at_then
words_stop nested cs rest after e f ends is levels size s y l n =
    words_end size s (cs ++ y) (rest ++ y) (blanks_on cs rest y e f) (ends_on nested true s rest y n f ends)
    ∙ ap (commands_then size s) (command_longer rest y (firm_some rest f) ∙ ap (λ (t : List ℕ). t ++ y) (sym is))

begun : (size : ℕ) (s : Script) (cs rest : List ℕ) → after_blanks cs ≡ rest → has_more rest ≡ true → ends_word s.nested rest ≡ false → marked s.nested rest ≡ false → words_then size s cs ≡ form_then size s rest
begun size s cs [] e h open_ m = absurd cc
begun size s cs (c ∷ t) e h open_ m = word_begins size s cs c t e open_ m

-- by what the form asks for
by_form : (levels : ℕ) (nested : Bool) (cs t : List ℕ) (m : Move) → ((size : ℕ) (s : Script) (y : List ℕ) → s.nested ≡ nested → words_then size s (cs ++ y) ≡ form_then size s (t ++ y)) → Forms t m → Moves levels nested place.Words cs m
unfolding at_then
by_form levels nested cs t (move.Goes then_ rest) h f = λ size s y l n. h size s y n ∙ f size s y
by_form levels nested cs t (move.Opens quoted rest) h f = absurd f
by_form levels nested cs t (move.Closes rest) h f = absurd f
by_form levels nested cs t move.Ends h f = absurd f
by_form levels nested cs t move.Open h f = absurd f
by_form levels nested cs t move.Unknown h f = tt

pub unmarked_go : (nested : Bool) (cs rest : List ℕ) (m : Move) → rest ≡ after_blanks cs → is_firm rest ≡ true → ends_word nested rest ≡ false → ((y : List ℕ) → marked nested (rest ++ y) ≡ false) → Forms rest m
    → (levels : ℕ) → Moves levels nested place.Words cs m
unmarked_go nested cs rest m e f open_ mark forms levels =
    by_form levels nested cs rest m
    (λ size s y n. begun size s (cs ++ y) (rest ++ y) (blanks_on cs rest y e f) (some_on rest y (firm_some rest f)) (ends_on nested false s rest y n f open_) (ap (λ x. marked x (rest ++ y)) n ∙ mark y))
    forms

both_true : (a b : Bool) → (a && b) ≡ true → (a ≡ true) × (b ≡ true)
both_true true b h = (refl, h)
both_true false b h = absurd cc

-- a mark, and the word behind it
behind_mark : (nested : Bool) (t : List ℕ) → marked nested t ≡ true → (c : ℕ) × (u : List ℕ) × (t ≡ 123 ∷ 42 ∷ 125 ∷ c ∷ u)
behind_mark nested [] h = absurd cc
behind_mark nested (a ∷ []) h = absurd (let e = (both_true _ false h).1 in cc)
behind_mark nested (a ∷ b ∷ []) h = absurd (let e = (both_true _ false h).1 in cc)
behind_mark nested (a ∷ b ∷ d ∷ []) h = absurd (let e = (both_true _ false h).1 in cc)
behind_mark nested (a ∷ b ∷ d ∷ c ∷ u) h =
    let (front, open_) = both_true ((a == 123 && b == 42) && d == 125) (not (ends_word nested (c ∷ u))) h in
    let (two, third) = both_true (a == 123 && b == 42) (d == 125) front in
    let (one, second) = both_true (a == 123) (b == 42) two in
    let x : a ≡ 123 = eqb-true a 123 one in
    let y : b ≡ 42 = eqb-true b 42 second in
    let z : d ≡ 125 = eqb-true d 125 third in
    (c, u, cc)

marked_at : (size : ℕ) (s : Script) (cs rest y : List ℕ) (c : ℕ) (u : List ℕ) → rest ≡ 123 ∷ 42 ∷ 125 ∷ c ∷ u → after_blanks cs ≡ rest ++ y → ends_word s.nested (rest ++ y) ≡ false → marked s.nested (rest ++ y) ≡ true
    → words_then size s cs ≡ form_then size s (tail (tail (tail rest)) ++ y)
marked_at size s cs rest y c u e b open_ mark =
    let same : rest ++ y ≡ 123 ∷ 42 ∷ 125 ∷ c ∷ (u ++ y) = ap (λ (t : List ℕ). t ++ y) e in
    let P : List ℕ → Type 0 = λ t. ends_word s.nested t ≡ false in
    let Q : List ℕ → Type 0 = λ t. marked s.nested t ≡ true in
    marked_begins size s cs c (u ++ y) (b ∙ same) (subst P same open_) (subst Q same mark) ∙ ap (λ (t : List ℕ). form_then size s (tail (tail (tail t)) ++ y)) (sym e)

pub marked_go : (nested : Bool) (cs rest : List ℕ) (m : Move) → rest ≡ after_blanks cs → is_firm rest ≡ true → ends_word nested rest ≡ false → ((y : List ℕ) → marked nested (rest ++ y) ≡ true) → Forms (tail (tail (tail rest))) m
    → (levels : ℕ) → Moves levels nested place.Words cs m
marked_go nested cs rest m e f open_ mark forms levels =
    let P : List ℕ → Type 0 = λ t. marked nested t ≡ true in
    let (c, u, shape) = behind_mark nested rest (subst P (append-nil rest) (mark [])) in
    by_form levels nested cs (tail (tail (tail rest))) m
    (λ size s y n. marked_at size s (cs ++ y) rest y c u shape (blanks_on cs rest y e f) (ends_on nested false s rest y n f open_) (ap (λ x. marked x (rest ++ y)) n ∙ mark y))
    forms

-- ---- by the form of a word

formed : (size : ℕ) → Script → Form → List ℕ → Result (List ℕ) Syntax
formed size s form.Braced cs = braces_then size false 0 s (tail cs)
formed size s form.Quoted cs = pieces_then size true s (tail cs)
formed size s form.Bare cs = pieces_then size false s cs

form_is : (size : ℕ) (s : Script) (cs : List ℕ) → form_then size s cs ≡ formed size s (form_of cs) cs
unfolding formed
form_is size s cs = chosen (begins 123 cs) (begins 34 cs)
  where
    chosen : (a b : Bool) → (if a then braces_then size false 0 s (tail cs) else if b then pieces_then size true s (tail cs) else pieces_then size false s cs) ≡ formed size s (if a then form.Braced else if b then form.Quoted else form.Bare) cs
    chosen true b = refl
    chosen false true = refl
    chosen false false = refl

form_on : (cs y : List ℕ) → has_more cs ≡ true → form_of (cs ++ y) ≡ form_of cs
form_on [] y h = absurd cc
form_on (c ∷ cs) y h = refl

form_at : (size : ℕ) (s : Script) (cs y : List ℕ) (f : Form) → has_more cs ≡ true → form_of cs ≡ f → form_then size s (cs ++ y) ≡ formed size s f (cs ++ y)
form_at size s cs y f h e = form_is size s (cs ++ y) ∙ ap (λ x. formed size s x (cs ++ y)) (form_on cs y h ∙ e)

pub braced_form : (cs rest : List ℕ) → has_more cs ≡ true → form_of cs ≡ form.Braced → rest ≡ tail cs → (size : ℕ) (s : Script) (y : List ℕ) → form_then size s (cs ++ y) ≡ at_then size (place.Braces false 0) s (rest ++ y)
unfolding at_then formed
braced_form cs rest h f is size s y = form_at size s cs y form.Braced h f ∙ ap (braces_then size false 0 s) (tail_on cs y h ∙ ap (λ (t : List ℕ). t ++ y) (sym is))

pub quoted_form : (cs rest : List ℕ) → has_more cs ≡ true → form_of cs ≡ form.Quoted → rest ≡ tail cs → (size : ℕ) (s : Script) (y : List ℕ) → form_then size s (cs ++ y) ≡ at_then size (place.Pieces true) s (rest ++ y)
unfolding at_then formed
quoted_form cs rest h f is size s y = form_at size s cs y form.Quoted h f ∙ ap (pieces_then size true s) (tail_on cs y h ∙ ap (λ (t : List ℕ). t ++ y) (sym is))

pub bare_form : (cs : List ℕ) → has_more cs ≡ true → form_of cs ≡ form.Bare → (size : ℕ) (s : Script) (y : List ℕ) → form_then size s (cs ++ y) ≡ at_then size (place.Pieces false) s (cs ++ y)
unfolding at_then formed
bare_form cs h f size s y = form_at size s cs y form.Bare h f

-- ---- behind a word

pub behind_go : (nested : Bool) (rest : List ℕ) → is_firm rest ≡ true → ends_word nested rest ≡ true
    → (size : ℕ) (s : Script) (m : Syntax) (y : List ℕ) → s.nested ≡ nested → behind size m s (rest ++ y) ≡ at_then size place.Words s (rest ++ y)
unfolding at_then
behind_go nested rest f ends size s m y n = rw (ends_on nested true s rest y n f ends) refl

-- ---- in braces

pub braces_open : (cs : List ℕ) (hidden : Bool) (depth : ℕ) → cs ≡ [] → (levels size : ℕ) (s : Script) (nested : Bool) → s.nested ≡ nested → ends_open (at_then size (place.Braces hidden depth) s cs) ≡ true
unfolding at_then at_brace
braces_open cs hidden depth e levels size s nested n = ap (λ (t : List ℕ). ends_open (braces_then size hidden depth s t)) e

-- a character in braces
pub brace_step : (cs rest : List ℕ) (c : ℕ) (hidden below : Bool) (depth inside : ℕ) → cs ≡ c ∷ rest → ((t : List ℕ) → at_brace hidden depth (c ∷ t) ≡ at_brace below inside t)
    → (levels size : ℕ) (s : Script) (y : List ℕ) (nested : Bool) → s.levels ≡ levels → s.nested ≡ nested → at_then size (place.Braces hidden depth) s (cs ++ y) ≡ at_then size (place.Braces below inside) s (rest ++ y)
unfolding at_then
brace_step cs rest c hidden below depth inside e step levels size s y nested l n =
    ap (λ (t : List ℕ). braces_then size hidden depth s (t ++ y)) e ∙ ap (λ (r : Result (List ℕ) Syntax). r >>= λ close. behind size AfterBrace s (tail close)) (step (rest ++ y))

-- the brace that ends the word
brace_end : (cs rest : List ℕ) (c : ℕ) (hidden : Bool) (depth size : ℕ) (s : Script) (y : List ℕ) → cs ≡ c ∷ rest → hidden ≡ false → c ≡ 125 → depth ≡ 0 → at_then size (place.Braces hidden depth) s (cs ++ y) ≡ behind size AfterBrace s (rest ++ y)
unfolding at_then at_brace
brace_end cs rest c hidden depth size s y e h is d = rw (e, h, is, d) refl

pub brace_word : (cs rest : List ℕ) (c : ℕ) (hidden : Bool) (depth : ℕ) (nested : Bool) (m : Move) → cs ≡ c ∷ rest → (not hidden && c == 125 && depth == 0) ≡ true → Behind nested rest m → (levels : ℕ) → Moves levels nested (place.Braces hidden depth) cs m
brace_word cs rest c hidden depth nested (move.Goes then_ left) e h b levels =
    let (front, third) = both_true (not hidden && c == 125) (depth == 0) h in
    let (first, second) = both_true (not hidden) (c == 125) front in
    λ size s y l n. brace_end cs rest c hidden depth size s y e (not-true hidden first) (eqb-true c 125 second) (eqb-true depth 0 third) ∙ b size s AfterBrace y n
brace_word cs rest c hidden depth nested (move.Opens quoted left) e h b levels = absurd b
brace_word cs rest c hidden depth nested (move.Closes left) e h b levels = absurd b
brace_word cs rest c hidden depth nested move.Ends e h b levels = absurd b
brace_word cs rest c hidden depth nested move.Open e h b levels = absurd b
brace_word cs rest c hidden depth nested move.Unknown e h b levels = tt

pub positive : (n : ℕ) → 0 < n → n ≡ 0 → ⊥
positive n h e = omega arith

-- ---- in pieces

pub quotes_open : (cs : List ℕ) (quoted : Bool) → cs ≡ [] → quoted ≡ true → (size : ℕ) (s : Script) (nested : Bool) → s.nested ≡ nested → ends_open (at_then size (place.Pieces quoted) s cs) ≡ true
unfolding at_then pieces_at piece_at all_turns turns kind_of
quotes_open cs quoted e q size s nested n = rw (e, q) refl

kind_on : (nested quoted : Bool) (s : Script) (c : ℕ) (rest y : List ℕ) (k : Kind) → s.nested ≡ nested → is_settled c rest ≡ true → kind_of (mode_in nested quoted) (c ∷ rest) ≡ k → kind_of (mode_in s.nested quoted) (c ∷ (rest ++ y)) ≡ k
kind_on nested quoted s c rest y k n f e = ap (λ x. kind_of (mode_in x quoted) (c ∷ (rest ++ y))) n ∙ kind_longer (mode_in nested quoted) c rest y f ∙ e

pub plain_goes : (nested quoted : Bool) (cs rest : List ℕ) (c : ℕ) → cs ≡ c ∷ rest → kind_of (mode_in nested quoted) cs ≡ kind.Plain → is_settled c rest ≡ true
    → (levels size : ℕ) (s : Script) (y : List ℕ) → s.levels ≡ levels → s.nested ≡ nested → at_then size (place.Pieces quoted) s (cs ++ y) ≡ at_then size (place.Pieces quoted) s (rest ++ y)
unfolding at_then
plain_goes nested quoted cs rest c e k f levels size s y l n =
    ap (λ (t : List ℕ). pieces_then size quoted s (t ++ y)) e
    ∙ plain_moves size s (mode_in s.nested quoted) (word_ends size quoted s) c (rest ++ y) (kind_on nested quoted s c rest y kind.Plain n f (ap (kind_of (mode_in nested quoted)) (sym e) ∙ k))

bracket_settled : (t : List ℕ) → is_settled 91 t ≡ true
bracket_settled [] = refl
bracket_settled (d ∷ []) = refl
bracket_settled (d ∷ e ∷ t) = refl

no_opening : (a b d : Bool) → (if a then kind.Ends else if b then kind.Backslashed else if d then kind.Variable else kind.Plain) ≡ kind.Opening → ⊥
no_opening true b d e = absurd cc
no_opening false true d e = absurd cc
no_opening false false true e = absurd cc
no_opening false false false e = absurd cc

-- only a bracket opens one
opening_is : (m : Mode) (c : ℕ) (t : List ℕ) → kind_of m (c ∷ t) ≡ kind.Opening → c ≡ 91
unfolding kind_of
opening_is m c t e = elim (cases_Bool (c == 91)) [
  | inl here ↦ eqb-true c 91 here
  | inr other ↦ absurd (no_opening (ends_pieces m (c ∷ t)) (c == 92) (c == 36 && begins_variable t) (rw other at e))
]

pub opening_goes : (nested quoted : Bool) (cs rest : List ℕ) (c levels : ℕ) → cs ≡ c ∷ rest → kind_of (mode_in nested quoted) cs ≡ kind.Opening → 0 < levels
    → (size : ℕ) (s : Script) (y : List ℕ) → s.levels ≡ levels → s.nested ≡ nested → at_then size (place.Pieces quoted) s (cs ++ y) ≡ at_then size place.Commands (in_bracket size quoted s) (rest ++ y)
unfolding at_then
opening_goes nested quoted cs rest c levels e k more size s y l n =
    let m = mode_in nested quoted in
    let here : kind_of m (c ∷ rest) ≡ kind.Opening = ap (kind_of m) (sym e) ∙ k in
    let is : c ≡ 91 = opening_is m c rest here in
    let P : ℕ → Type 0 = λ x. kind_of m (x ∷ rest) ≡ kind.Opening in
    let below : s.levels ≡ suc (levels - 1) = omega arith in
    ap (λ (t : List ℕ). pieces_then size quoted s (t ++ y)) (e ∙ ap (λ (x : ℕ). x ∷ rest) is)
    ∙ bracket_opens size s quoted (rest ++ y) (levels - 1) below (kind_on nested quoted s 91 rest y kind.Opening n (bracket_settled rest) (subst P is here))

-- a piece that is read at once, or the end of the word
module _ (n : ℕ) (nested quoted : Bool) (t rest : List ℕ) (size : ℕ) (s : Script) (y : List ℕ) where
  kept_piece : (found : Option Part) (levels : ℕ) → s.levels ≡ levels → s.nested ≡ nested → piece_at n (inner_at n levels) (mode_in nested quoted) t ≡ Ok (found, rest)
      → KeptTurn {A = Part} Open y t (Ok (found, rest)) (piece_at size (inner_at size s.levels) (mode_in s.nested quoted) (t ++ y))
  kept_piece found levels l b e =
      let P : ℕ → Bool → Type 0 = λ x z. piece_at n (inner_at n x) (mode_in z quoted) t ≡ Ok (found, rest) in
      let here : P s.levels s.nested = subst (λ z. P s.levels z) (sym b) (subst (λ x. P x nested) (sym l) e) in
      let Q : Result (Option Part × List ℕ) Syntax → Type 0 = λ r. KeptTurn {A = Part} Open y t r (piece_at size (inner_at size s.levels) (mode_in s.nested quoted) (t ++ y)) in
      subst Q here (piece_kept n size y (inner_at n s.levels) (inner_at size s.levels) (inner_inside n s.levels) (inner_inside size s.levels) (inner_nested n size y s.levels) (mode_in s.nested quoted) t)

  pub piece_goes : (found : Option Part) (levels : ℕ) → piece_at n (inner_at n levels) (mode_in nested quoted) t ≡ Ok (found, rest) → is_some found ≡ true → is_firm rest ≡ true → s.levels ≡ levels → s.nested ≡ nested
      → at_then size (place.Pieces quoted) s (t ++ y) ≡ at_then size (place.Pieces quoted) s (rest ++ y)
  unfolding at_then pieces_at
  piece_goes (Some p) levels e h f l b =
      let (z, same) = kept_piece (Some p) levels l b e f in
      then_more (piece_at size (inner_at size s.levels) (mode_in s.nested quoted)) (pieces_shrink size s (mode_in s.nested quoted)) (word_ends size quoted s) (t ++ y) z (rest ++ y) same
  piece_goes None levels e h f l b = absurd cc

  pub word_goes : (found : Option Part) (levels : ℕ) → piece_at n (inner_at n levels) (mode_in nested quoted) t ≡ Ok (found, rest) → is_some found ≡ false → has_more rest ≡ true → s.levels ≡ levels → s.nested ≡ nested
      → at_then size (place.Pieces quoted) s (t ++ y) ≡ word_ends size quoted s (rest ++ y)
  unfolding at_then pieces_at
  word_goes (Some p) levels e h f l b = absurd cc
  word_goes None levels e h f l b =
      then_done (piece_at size (inner_at size s.levels) (mode_in s.nested quoted)) (pieces_shrink size s (mode_in s.nested quoted)) (word_ends size quoted s) (t ++ y) (rest ++ y) (kept_piece None levels l b e f)

pub quote_ended : (nested quoted : Bool) (rest after : List ℕ) (m : Move) → quoted ≡ true → after ≡ tail rest → has_more rest ≡ true → Behind nested after m → Ended nested quoted rest m
quote_ended nested quoted rest after (move.Goes then_ left) q is h b = (
  h,
  λ size s y n.
      ap (λ x. word_ends size x s (rest ++ y)) q ∙ ap (behind size AfterQuote s) (tail_on rest y h ∙ ap (λ (t : List ℕ). t ++ y) (sym is)) ∙ b size s AfterQuote y n,
)
quote_ended nested quoted rest after (move.Opens marked left) q is h b = absurd b
quote_ended nested quoted rest after (move.Closes left) q is h b = absurd b
quote_ended nested quoted rest after move.Ends q is h b = absurd b
quote_ended nested quoted rest after move.Open q is h b = absurd b
quote_ended nested quoted rest after move.Unknown q is h b = tt

pub bare_ended : (nested quoted : Bool) (rest : List ℕ) → quoted ≡ false → (size : ℕ) (s : Script) (y : List ℕ) → s.nested ≡ nested → word_ends size quoted s (rest ++ y) ≡ at_then size place.Words s (rest ++ y)
unfolding at_then
bare_ended nested quoted rest q size s y n = ap (λ x. word_ends size x s (rest ++ y)) q

pub word_ended : (n levels : ℕ) (nested quoted : Bool) (t rest : List ℕ) (found : Option Part) (m : Move) → piece_at n (inner_at n levels) (mode_in nested quoted) t ≡ Ok (found, rest) → is_some found ≡ false → Ended nested quoted rest m
    → Moves levels nested (place.Pieces quoted) t m
word_ended n levels nested quoted t rest found (move.Goes then_ left) e h b = λ size s y l k. word_goes n nested quoted t rest size s y found levels e h b.0 l k ∙ b.1 size s y k
word_ended n levels nested quoted t rest found (move.Opens marked left) e h b = absurd b
word_ended n levels nested quoted t rest found (move.Closes left) e h b = absurd b
word_ended n levels nested quoted t rest found move.Ends e h b = absurd b
word_ended n levels nested quoted t rest found move.Open e h b = absurd b
word_ended n levels nested quoted t rest found move.Unknown e h b = tt
