-- The loops of a text, among its commands and in its code.
use Rattle.std.proofs.Common.{◌≡◌, ◌+◌, ◌<◌, ◌≤◌, ℕ, suc, Bool, true, false, cond, not, ◌&&◌, List, [], ◌∷◌, ◌++◌, length, drop, take, map, ◌-◌, codes, Some, refl, sym, ap, ◌∙◌, subst, append-nil, arith}
use Rattle.std.specs.Prelude.{option_map}
use Rattle.std.proofs.lemmas.Bool.{and_parts, false≢true, not-true}
use Rattle.std.proofs.lemmas.List.Sums.{sum_by-append}
use Rattle.std.specs.Str.{chars}
use Rattle.tcl_chars.specs.Place.{bytes}
use Rattle.tcl_chars.specs.Texts.{literal, same_text}
use Rattle.tcl_chars.proofs.Literals.{is_ascii_text, literal_chars}
use Rattle.tcl_chars.proofs.Same.{text_is}
use Rattle.tcl_words.specs.First.{none, malformed, command, first_command, most_levels}
use Rattle.tcl_words.specs.Parts.{Part, text, escape, var, elem_, bracket, Stretch, Shape}
use Rattle.tcl_words.specs.Spelling.{Inside, Body, Word, Words, Command}
use Rattle.tcl_words.specs.declared.fault.Syntax.{Syntax}
use Rattle.tcl_words.specs.declared.word.Form.{Form}
use Rattle.tcl_words.proofs.OneReading.{command_is_spelled}
use Rattle.tcl_pages.specs.Texts.{Text}
use Rattle.tcl_code.specs.Guards.{inlined_of, name_of}
use Rattle.tcl_code.specs.Instructions.{Instruction}
use Rattle.tcl_code.specs.Turns.{turns_of}
use Rattle.tcl_code.specs.declared.inlined.Change.{Change}
use Rattle.tcl_code.specs.declared.inlined.Change.TheVariants as change
use Rattle.tcl_code.specs.declared.inlined.Inlined.{Inlined}
use Rattle.tcl_code.specs.declared.inlined.Inlined.TheVariants as inlined
use Rattle.tcl_compile.specs.Changes.{IsChange}
use Rattle.tcl_compile.specs.Returns.{IsReturn}
use Rattle.tcl_compile.specs.Switches.{IsMarked, IsSwitch}
use Rattle.tcl_compile.specs.declared.switching.SwitchForm.{SwitchForm}
use Rattle.tcl_compile.specs.Eaches.{AreEachWords, each_command}
use Rattle.tcl_compile.specs.Fragments.{Plain}
use Rattle.tcl_compile.specs.Literals.{spelled, IsStretch, IsLiteral, AllLiteral}
use Rattle.tcl_compile.specs.Whiles.{ReadsAs, is_bare, is_braced, is_only, names_while, is_braced_word, is_while, whiles, HasTurns, IsWhile}
use Rattle.tcl_compile.proofs.Clauses.{rest_is}
use Rattle.tcl_compile.proofs.LiteralWords.{all_plain}
use Rattle.tcl_compile.proofs.Turns.{turns_append}

-- ---- texts

-- pieces spell one text
one_text : (ps : List Part) (t u : Text) → spelled ps ≡ Some t → spelled ps ≡ Some u → t ≡ u
one_text ps t u e f = go (sym e ∙ f)
  where
    go : Some t ≡ Some u → t ≡ u
    go q = cc

-- ---- braced words are literal

abbrev IsSpelled : List Part → Type 0
IsSpelled ps = (t : Text) × (spelled ps ≡ Some t)

abbrev EachSpelled : List Shape → Type 0
EachSpelled [] = Unit {0}
EachSpelled (w ∷ ws) = (is_braced w.form ≡ true → IsSpelled w.pieces) × EachSpelled ws

inside_spelled : (size : ℕ) (cs : List ℕ) (ps : List Part) → Inside size cs ps → IsSpelled ps
inside_spelled size _ _ Inside.nothing = ([], refl)
inside_spelled size _ _ (Inside.verbatim c cs s rest ps h u w k) = let a = inside_spelled size rest ps k in (s.text ++ a.0, ap (option_map (λ t. s.text ++ t)) a.1)
inside_spelled size _ _ (Inside.one_space cs s ps w k) = let a = inside_spelled size _ ps k in (_, ap (option_map (λ t. _ ∷ t)) a.1)

body_spelled : (size levels : ℕ) (nested : Bool) (cs : List ℕ) (f : Form) (ps : List Part) (rest : List ℕ) → Body size levels nested cs f ps rest → is_braced f ≡ true → IsSpelled ps
body_spelled size _ _ _ _ _ _ (Body.braced levels nested cs inside ps rest e b i) h = inside_spelled _ inside ps i
body_spelled size _ _ _ _ _ _ (Body.quoted levels nested cs ps rest k) h = absurd cc
body_spelled size _ _ _ _ _ _ (Body.bare levels nested cs ps rest n q k) h = absurd cc

word_spelled : (size levels : ℕ) (nested : Bool) (cs : List ℕ) (w : Shape) (rest : List ℕ) → Word size levels nested cs w rest → is_braced w.form ≡ true → IsSpelled w.pieces
word_spelled size _ _ _ _ _ (Word.without_mark levels nested cs f ps rest b stop) h = body_spelled size levels nested cs f ps rest b h
word_spelled size _ _ _ _ _ (Word.behind_mark levels nested cs f ps rest on b stop) h = body_spelled size levels nested cs f ps rest b h

words_spelled : (size levels : ℕ) (nested : Bool) (cs : List ℕ) (ws : List Shape) (rest : List ℕ) → Words size levels nested cs ws rest → EachSpelled ws
words_spelled size _ _ _ _ _ (Words.blanks_alone levels nested cs rest b) = tt
words_spelled size _ _ _ _ _ (Words.word levels nested cs here w after ws rest b on x k) = (word_spelled size levels nested here w after x, words_spelled size levels nested after ws rest k)

command_spelled : (size levels : ℕ) (nested : Bool) (cs : List ℕ) (ws : List Shape) (rest : List ℕ) → Command size levels nested cs ws rest → EachSpelled ws
command_spelled size _ _ _ _ _ (Command.command levels nested cs here ws stop rest s h on k e) = words_spelled size levels nested here ws stop k

-- ---- `while {..} {..}`

one_stretch : (t : Text) (ps : List Part) → is_only t ps ≡ true → (s : Stretch) × (ps ≡ text s ∷ []) × (s.text ≡ t)
one_stretch t [] h = absurd cc
one_stretch t (text s ∷ []) h = (s, refl, text_is s.text t h)
one_stretch t (text s ∷ p ∷ ps) h = absurd cc
one_stretch t (escape s c ∷ ps) h = absurd cc
one_stretch t (var s name ∷ ps) h = absurd cc
one_stretch t (elem_ s name index ∷ ps) h = absurd cc
one_stretch t (bracket s script ∷ ps) h = absurd cc

stretch_literal : (w : Shape) (s : Stretch) → w.expands ≡ false → w.pieces ≡ text s ∷ [] → IsLiteral w s.text
stretch_literal w s e f = (e, ap spelled f ∙ ap Some (append-nil s.text))

named : (w : Shape) → names_while w ≡ true → IsStretch w × IsLiteral w (name_of inlined.While)
named w h =
    let a = and_parts (is_bare w.form && not w.expands) (is_only (name_of inlined.While) w.pieces) h in
    let b = and_parts (is_bare w.form) (not w.expands) a.0 in
    let plain = not-true w.expands b.1 in
    let s = one_stretch (name_of inlined.While) w.pieces a.1 in
    ((s.0, plain, s.1), subst (IsLiteral w) s.2 (stretch_literal w s.0 plain s.1))

braced : (w : Shape) → is_braced_word w ≡ true → (is_braced w.form ≡ true → IsSpelled w.pieces) → (t : Text) × IsLiteral w t
braced w h k = let a = and_parts (is_braced w.form) (not w.expands) h in let t = k a.0 in (t.0, (not-true w.expands a.1, t.1))

is_loop : (ws : List Shape) → EachSpelled ws → is_while ws ≡ true → IsWhile ws
is_loop [] k h = absurd cc
is_loop (name ∷ []) k h = absurd cc
is_loop (name ∷ test ∷ []) k h = absurd cc
is_loop (name ∷ test ∷ body ∷ []) k h =
    let a = and_parts (names_while name && is_braced_word test) (is_braced_word body) h in
    let b = and_parts (names_while name) (is_braced_word test) a.0 in
    let n = named name b.0 in
    let t = braced test b.1 k.1.0 in
    let u = braced body a.1 k.1.1.0 in
    (t.0, u.0, n.0, (n.1, (t.1, (u.1, tt))))
is_loop (name ∷ test ∷ body ∷ w ∷ ws) k h = absurd cc

first_loop : (t rest : Text) (ws : List Shape) → first_command most_levels t ≡ command ws rest → is_while ws ≡ true → IsWhile ws
first_loop t rest ws e = is_loop ws (command_spelled (bytes t) most_levels false t ws rest ((command_is_spelled (bytes t) most_levels false t ws rest).0 e))

-- ---- its words, and those of other commands

pub loop_plain : (ws : List Shape) → IsWhile ws → Plain ws
loop_plain [] h = absurd h
loop_plain (name ∷ ws) h = all_plain (name ∷ ws) (name_of inlined.While ∷ h.0 ∷ h.1 ∷ []) h.3

differs : (a : List ℕ) → is_ascii_text a ≡ true → same_text a (codes "while") ≡ false → chars a ≡ literal "while" → ⊥
differs a h d e = false≢true (sym d ∙ ap (λ t. same_text t (codes "while")) (sym (literal_chars a h) ∙ e ∙ literal_chars (codes "while") refl))

-- no other command has its name
name_alone : (p : Inlined) → name_of p ≡ name_of inlined.While → p ≡ inlined.While
name_alone inlined.Set e = absurd (differs (codes "set") refl refl e)
name_alone inlined.Incr e = absurd (differs (codes "incr") refl refl e)
name_alone inlined.Expr e = absurd (differs (codes "expr") refl refl e)
name_alone inlined.If e = absurd (differs (codes "if") refl refl e)
name_alone inlined.While e = refl
name_alone inlined.For e = absurd (differs (codes "for") refl refl e)
name_alone inlined.Foreach e = absurd (differs (codes "foreach") refl refl e)
name_alone inlined.Lmap e = absurd (differs (codes "lmap") refl refl e)
name_alone inlined.Switch e = absurd (differs (codes "switch") refl refl e)
name_alone inlined.Return e = absurd (differs (codes "return") refl refl e)
name_alone inlined.Break e = absurd (differs (codes "break") refl refl e)
name_alone inlined.Continue e = absurd (differs (codes "continue") refl refl e)

-- words that begin with a command's name are of no other
pub loop_named : (p : Inlined) (w : Shape) (ws : List Shape) → IsLiteral w (name_of p) → IsWhile (w ∷ ws) → p ≡ inlined.While
loop_named p w ws n h = name_alone p (one_text w.pieces (name_of p) (name_of inlined.While) n.1 h.3.0.1)

changes_no_loop : (k : Change) → inlined_of k ≡ inlined.While → ⊥
changes_no_loop change.Set e = cc
changes_no_loop change.Incr e = cc

each_no_loop : (gathers : Bool) → each_command gathers ≡ inlined.While → ⊥
each_no_loop true e = cc
each_no_loop false e = cc

pub no_change : (k : Change) (name : Text) (ws : List Shape) → IsChange k name ws → IsWhile ws → ⊥
no_change k name [] c h = c
no_change k name (w0 ∷ []) c h = c
no_change k name (w0 ∷ w1 ∷ []) c h = c
no_change k name (w0 ∷ w1 ∷ w2 ∷ []) c h = changes_no_loop k (loop_named (inlined_of k) w0 (w1 ∷ w2 ∷ []) c.0 h)
no_change k name (w0 ∷ w1 ∷ w2 ∷ w ∷ ws) c h = c

pub no_each : (gathers : Bool) (names : List Text) (body : Text) (ws : List Shape) → AreEachWords gathers names body ws → IsWhile ws → ⊥
no_each gathers names body [] e h = e
no_each gathers names body (w ∷ ws) e h = each_no_loop gathers (loop_named (each_command gathers) w ws e.0 h)

return_no_loop : inlined.Return ≡ inlined.While → ⊥
return_no_loop e = cc

pub no_return : (ws : List Shape) → IsReturn ws → IsWhile ws → ⊥
no_return [] r h = r
no_return (w0 ∷ []) r h = r
no_return (w0 ∷ w ∷ []) r h = return_no_loop (loop_named inlined.Return w0 (w ∷ []) r.0 h)
no_return (w0 ∷ w ∷ x ∷ ws) r h = r

switch_no_loop : inlined.Switch ≡ inlined.While → ⊥
switch_no_loop e = cc

pub no_switch : (f : SwitchForm) (ws : List Shape) → IsSwitch f ws → IsWhile ws → ⊥
no_switch f ws is h = go f.marked ws is.0 h
  where
    go : (marked : Bool) (ws : List Shape) → IsMarked marked ws → IsWhile ws → ⊥
    go false [] m h = m
    go false (w0 ∷ []) m h = m
    go false (w0 ∷ w ∷ []) m h = m
    go false (w0 ∷ w ∷ w1 ∷ []) m h = switch_no_loop (loop_named inlined.Switch w0 (w ∷ w1 ∷ []) m.0 h)
    go false (w0 ∷ w ∷ w1 ∷ x ∷ ws) m h = m
    go true [] m h = m
    go true (w0 ∷ []) m h = m
    go true (w0 ∷ k ∷ []) m h = m
    go true (w0 ∷ k ∷ w ∷ []) m h = m
    go true (w0 ∷ k ∷ w ∷ w1 ∷ []) m h = switch_no_loop (loop_named inlined.Switch w0 (k ∷ w ∷ w1 ∷ []) m.0 h)
    go true (w0 ∷ k ∷ w ∷ w1 ∷ x ∷ ws) m h = m

all_long : (ws : List Shape) (ts : List Text) → AllLiteral ws ts → length ts ≡ length ws
all_long [] [] h = refl
all_long [] (t ∷ ts) h = absurd h
all_long (w ∷ ws) [] h = absurd h
all_long (w ∷ ws) (t ∷ ts) h = ap suc (all_long ws ts h.1)

-- two words stand behind the name
pub loop_long : {A : Type 0} (f : A → Shape) (xs : List A) (ts : List Text) → IsWhile (map f xs) → AllLiteral (map f (take (length xs - 1) (drop 1 xs))) ts → length ts ≡ 2
loop_long f [] ts h k = absurd h
loop_long f (x ∷ xs) ts h k = all_long (map f xs) ts (subst (λ l. AllLiteral (map f l) ts) (rest_is 1 (x ∷ xs)) k) ∙ sym (all_long (map f xs) (h.0 ∷ h.1 ∷ []) h.3.1)

-- ---- the commands of a text

one_counts : (b : Bool) (n : ℕ) → (b ≡ true → 0 < n) → cond b 1 0 ≤ n
one_counts true n h = h refl
one_counts false n h = omega arith

pub turns_command : (now rest : Text) (ws : List Shape) (c more : List Instruction) → first_command most_levels now ≡ command ws rest → (IsWhile ws → 0 < turns_of c) → HasTurns rest more → HasTurns now (c ++ more)
turns_command now rest ws c more e h k [] r = omega arith
turns_command now rest ws c more e h k (vs ∷ wss) r =
    let both : (vs ≡ ws) × (r.0 ≡ rest) = same_command vs ws r.0 rest (sym r.1 ∙ e) in
    let first : cond (is_while vs) 1 0 ≤ turns_of c = one_counts (is_while vs) (turns_of c) (λ q. h (first_loop now rest ws e (sym (ap is_while both.0) ∙ q))) in
    let behind : whiles wss ≤ turns_of more = k wss (subst (λ t. ReadsAs t wss) both.1 r.2) in
    let count : whiles (vs ∷ wss) ≡ whiles (vs ∷ []) + whiles wss = sum_by-append (λ us. cond (is_while us) 1 0) (vs ∷ []) wss in
    omega (arith, count, first, behind, turns_append c more)
  where
    same_command : (vs us : List Shape) (a b : Text) → command vs a ≡ command us b → (vs ≡ us) × (a ≡ b)
    same_command vs us a b q = (cc, cc)

pub turns_none : (now rest : Text) (c : List Instruction) → first_command most_levels now ≡ none rest → HasTurns now c
turns_none now rest c e [] r = omega arith
turns_none now rest c e (ws ∷ wss) r = absurd (no (sym e ∙ r.1))
  where
    no : none rest ≡ command ws r.0 → ⊥
    no q = cc

pub turns_malformed : (now : Text) (m : Syntax) (c : List Instruction) → first_command most_levels now ≡ malformed m → HasTurns now c
turns_malformed now m c e [] r = omega arith
turns_malformed now m c e (ws ∷ wss) r = absurd (no (sym e ∙ r.1))
  where
    no : malformed m ≡ command ws r.0 → ⊥
    no q = cc
