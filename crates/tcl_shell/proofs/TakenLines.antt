-- A text is taken line by line.
use Rattle.std.proofs.Common.{◌≡◌, ℕ, Bool, true, false, List, [], ◌∷◌, ◌++◌, Option, Some, None, IfSome, refl, sym, ap, ◌∙◌, append_assoc, append-nil}
use Rattle.std.specs.Prelude.{cond, ◌==◌, ◌&&◌, option_map, if◌then◌else◌}
use Rattle.std.specs.Rc.{rc_str_bytes}
use Rattle.std.specs.Str.{chars}
use Rattle.std.specs.declared.alloc.Global.{Global}
use Rattle.std.specs.declared.rc.RcStr.{RcStr}
use Rattle.std.proofs.lemmas.Bool.{eqb-true}
use Rattle.tcl_chan.specs.Characters.{input_chars, line_taken, text_before, or_empty, Took}
use Rattle.tcl_chan.specs.Sources.{TakesLine}
use Rattle.tcl_chars.specs.Characters.{newline}
use Rattle.tcl_words.specs.Complete.{is_complete}
use Rattle.tcl_pages.specs.Texts.{Text}
use Rattle.tcl_shell.specs.Session.{Taken, taken_behind, first_text}
use Rattle.tcl_shell.specs.Turns.{unless_ended, line_behind, TakenBy}

-- ---- what is taken behind a line

-- with what a line is, or what is taken behind it
abbrev by_line : Taken → Taken
by_line l = if l.met_end then l else if is_complete l.text then l else taken_behind l.text l.left

abbrev behind : Text → Took (Option Text) → Taken
behind t took = record { text = t ++ (or_empty took.text ++ unless_ended took.left.met_end); left = took.left.chars; met_end = took.left.met_end }

a_character : (b : Bool) (t : Text) (c : ℕ) (cs : Text) → (c == newline) ≡ b → taken_behind (t ++ c ∷ []) cs ≡ by_line (line_behind (t ++ c ∷ []) cs)
    → (if b && is_complete (t ++ c ∷ []) then (record { text = t ++ c ∷ []; left = cs; met_end = false }) else taken_behind (t ++ c ∷ []) cs)
    ≡ by_line (behind t (cond b (record { text = Some []; left = record { chars = cs; met_end = false } }) (text_before c (line_taken cs false))))
a_character true t c cs e h = ap (λ (x : ℕ). by_line (record { text = t ++ x ∷ []; left = cs; met_end = false })) (eqb-true c newline e)
a_character false t c cs e h =
    let took = line_taken cs false in
    h ∙ ap (λ (x : Text). by_line (record { text = x; left = took.left.chars; met_end = took.left.met_end })) (append_assoc t (c ∷ []) (or_empty took.text ++ unless_ended took.left.met_end))

goes_by_lines : (t cs : Text) → taken_behind t cs ≡ by_line (line_behind t cs)
unfolding taken_behind line_taken
goes_by_lines t [] = ap (λ (x : Text). record { text = x; left = []; met_end = true }) (sym (append-nil t))
goes_by_lines t (c ∷ cs) = a_character (c == newline) t c cs refl (goes_by_lines (t ++ c ∷ []) cs)

-- ---- a line of a world

pub took_line : (u : Option (List ℕ)) (t : Text) (line after : Option (List ℕ)) (met met' : Bool) (t' : Text) → met ≡ false → IfSome u (λ bytes. TakesLine bytes met line after met')
    → t' ≡ t ++ (or_empty (option_map chars line) ++ unless_ended met') → TakenBy (line_behind t) (option_map input_chars u) t' (option_map input_chars after) met'
took_line None t line after met met' t' e h is = tt
took_line (Some bytes) t line after met met' t' e h is =
    let cs = input_chars bytes in
    let rest = input_chars h.rest in
    let words = ap (λ (x : Option Text). t ++ (or_empty x ++ unless_ended met')) (sym h.reads) ∙ sym is in (
      rest,
      ap (option_map input_chars) h.left,
      ap (behind t) (ap (line_taken cs) (sym e) ∙ h.taken) ∙ ap (λ (x : Text). record { text = x; left = rest; met_end = met' }) words,
    )

none_taken : (b : Bool) (c : ℕ) (took : Took (Option Text)) (cs : Text) (met : Bool) → (cond b (record { text = Some []; left = record { chars = cs; met_end = met } }) (text_before c took)).text ≡ None → ⊥
none_taken true c took cs met e = absurd cc
none_taken false c took cs met e = absurd cc

none_ended : (cs : Text) (met : Bool) → (line_taken cs met).text ≡ None → (line_taken cs met).left.met_end ≡ true
unfolding line_taken
none_ended [] met e = refl
none_ended (c ∷ cs) met e = absurd (none_taken (c == 10) c (line_taken cs met) cs met e)

-- nothing was left
pub took_none : (u : Option (List ℕ)) (t : Text) (line : Option (RcStr Global)) (after : Option (List ℕ)) (met met' : Bool) → line ≡ None → met ≡ false → IfSome u (λ bytes. TakesLine bytes met (option_map rc_str_bytes line) after met')
    → TakenBy (line_behind t) (option_map input_chars u) t (option_map input_chars after) met'
took_none None t line after met met' n e h = tt
took_none (Some bytes) t line after met met' n e h =
    let none : h.chars ≡ None = sym h.reads ∙ ap (λ (x : Option (RcStr Global)). option_map chars (option_map rc_str_bytes x)) n in
    let ended : met' ≡ true = sym (ap (λ (x : Took (Option Text)). x.left.met_end) h.taken) ∙ none_ended (input_chars bytes) met (ap (λ (x : Took (Option Text)). x.text) h.taken ∙ none) in
    took_line (Some bytes) t (option_map rc_str_bytes line) after met met' t e h
    (sym (ap (λ (x : Option (RcStr Global)). t ++ (or_empty (option_map chars (option_map rc_str_bytes x)) ++ unless_ended met')) n ∙ ap (λ (x : Bool). t ++ unless_ended x) ended ∙ append-nil t))

-- a line that was taken alone, and was written behind a text
pub taken_alone : (t fresh line t' : Text) (now now' : Option Text) (met : Bool) → fresh ≡ [] → TakenBy (line_behind fresh) now line now' met → t' ≡ t ++ line → TakenBy (line_behind t) now t' now' met
taken_alone t fresh line t' None now' met f h e = tt
taken_alone t fresh line t' (Some cs) now' met f (rest, after, same) e =
    let alone : line_behind [] cs ≡ record { text = line; left = rest; met_end = met } = ap (λ (x : Text). line_behind x cs) (sym f) ∙ same in (
      rest,
      after,
      ap (λ (x : Taken). record { text = t ++ x.text; left = x.left; met_end = x.met_end }) alone ∙ ap (λ (x : Text). record { text = x; left = rest; met_end = met }) (sym e),
    )

-- ---- the lines taken so far

abbrev pub Gathering : Option Text → Text → Option Text → Type 0
Gathering None t now = Unit {0}
Gathering (Some cs) t now = (rest : Text) × (now ≡ Some rest) × (first_text cs ≡ taken_behind t rest)

pub gathering_first : (o : Option Text) (t : Text) → t ≡ [] → Gathering o t o
gathering_first None t e = tt
gathering_first (Some cs) t e = (cs, refl, ap (λ (x : Text). taken_behind x cs) (sym e))

line_is : (t rest t' rest' : Text) (met : Bool) → line_behind t rest ≡ record { text = t'; left = rest'; met_end = met } → taken_behind t rest ≡ by_line (record { text = t'; left = rest'; met_end = met })
line_is t rest t' rest' met e = goes_by_lines t rest ∙ ap by_line e

goes_on : (t' rest' : Text) (met b : Bool) → met ≡ false → is_complete t' ≡ b → b ≡ false → by_line (record { text = t'; left = rest'; met_end = met }) ≡ taken_behind t' rest'
goes_on t' rest' met b m e k =
    let one = ap (λ (x : Bool). by_line (record { text = t'; left = rest'; met_end = x })) m in
    one ∙ ap (λ (x : Bool). if x then (record { text = t'; left = rest'; met_end = false }) else taken_behind t' rest') (e ∙ k)

stops_ended : (t' rest' : Text) (met : Bool) → met ≡ true → by_line (record { text = t'; left = rest'; met_end = met }) ≡ record { text = t'; left = rest'; met_end = met }
stops_ended t' rest' true m = refl
stops_ended t' rest' false m = absurd cc

stops_whole : (t' rest' : Text) (met : Bool) → is_complete t' ≡ true → by_line (record { text = t'; left = rest'; met_end = met }) ≡ record { text = t'; left = rest'; met_end = met }
stops_whole t' rest' true e = refl
stops_whole t' rest' false e = ap (λ (x : Bool). if x then (record { text = t'; left = rest'; met_end = false }) else taken_behind t' rest') e

-- what the line was taken from
told_line : (f : Text → Taken) (now : Option Text) (rest t' : Text) (now' : Option Text) (met : Bool) → now ≡ Some rest → TakenBy f now t' now' met → (rest' : Text) × (now' ≡ Some rest') × (f rest ≡ record { text = t'; left = rest'; met_end = met })
told_line f None rest t' now' met e h = absurd cc
told_line f (Some cs) rest t' now' met e h = let same : cs ≡ rest = cc in (h.0, h.1, ap f (sym same) ∙ h.2)

pub gathering_more : (o : Option Text) (t : Text) (now : Option Text) (t' : Text) (now' : Option Text) (met : Bool) → Gathering o t now → TakenBy (line_behind t) now t' now' met → met ≡ false → is_complete t' ≡ false → Gathering o t' now'
gathering_more None t now t' now' met g h m k = tt
gathering_more (Some cs) t now t' now' met g h m k =
    let l = told_line (line_behind t) now g.0 t' now' met g.1 h in
    (l.0, l.1, g.2 ∙ line_is t g.0 t' l.0 met l.2 ∙ goes_on t' l.0 met false m k refl)

pub gathering_ended : (o : Option Text) (t : Text) (now : Option Text) (t' : Text) (now' : Option Text) (met : Bool) → Gathering o t now → TakenBy (line_behind t) now t' now' met → met ≡ true → TakenBy first_text o t' now' met
gathering_ended None t now t' now' met g h m = tt
gathering_ended (Some cs) t now t' now' met g h m =
    let l = told_line (line_behind t) now g.0 t' now' met g.1 h in
    (l.0, l.1, g.2 ∙ line_is t g.0 t' l.0 met l.2 ∙ stops_ended t' l.0 met m)

pub gathering_whole : (o : Option Text) (t : Text) (now : Option Text) (t' : Text) (now' : Option Text) (met : Bool) → Gathering o t now → TakenBy (line_behind t) now t' now' met → is_complete t' ≡ true → TakenBy first_text o t' now' met
gathering_whole None t now t' now' met g h k = tt
gathering_whole (Some cs) t now t' now' met g h k =
    let l = told_line (line_behind t) now g.0 t' now' met g.1 h in
    (l.0, l.1, g.2 ∙ line_is t g.0 t' l.0 met l.2 ∙ stops_whole t' l.0 met k)
