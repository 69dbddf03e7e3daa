-- The commands of literal words that are inlined.
use Rattle.std.specs.Prelude.{◌≡◌, ◌<◌, ◌≤◌, ◌+◌, ℕ, suc, Bool, true, false, List, [], ◌∷◌, ◌++◌, length, map, Option, Some, None, option_map}
use Rattle.std.specs.Str.{chars}
use Rattle.tcl_chars.specs.declared.numbers.Dialect.{Dialect}
use Rattle.tcl_chars.specs.Texts.{literal}
use Rattle.tcl_words.specs.Parts.{Shape}
use Rattle.tcl_pages.specs.Texts.{Text}
use Rattle.tcl_meaning.specs.Asking.{Asks, ask}
use Rattle.tcl_meaning.specs.Control.{next_clause, while_next, for_next}
use Rattle.tcl_meaning.specs.Effects.{Here, Prog}
use Rattle.tcl_meaning.specs.Shapes.{if_shape, is_word}
use Rattle.tcl_meaning.specs.Completions.{Completion}
use Rattle.tcl_meaning.specs.Pages.{page_asks}
use Rattle.tcl_meaning.specs.Script.{page_in}
use Rattle.tcl_meaning.specs.Tasks.{Task, Run, Nothing}
use Rattle.tcl_code.specs.Guards.{name_of, page_of}
use Rattle.tcl_code.specs.Instructions.{Instruction, Skip, Body, Again, Collect}
use Rattle.tcl_code.specs.declared.inlined.Inlined.{Inlined}
use Rattle.tcl_code.specs.declared.inlined.Inlined.TheVariants as inlined
use Rattle.tcl_code.specs.Turns.{turns_of}
use Rattle.tcl_compile.specs.Emitted.{CommandCode, ScriptCode}
use Rattle.tcl_compile.specs.Inlining.{Makes, asking}
use Rattle.tcl_compile.specs.Literals.{IsLiteral, AllLiteral}
use Rattle.tcl_compile.specs.declared.inlining.Clause.{Clause}
use Rattle.tcl_compile.specs.declared.inlining.Joint.{Joint}
use Rattle.tcl_compile.specs.declared.inlining.Joint.TheVariants as joint
use Rattle.tcl_compile.specs.declared.inlining.ForTexts.{ForTexts}
use Rattle.tcl_compile.specs.declared.inlining.Form.{Form}
use Rattle.tcl_compile.specs.declared.inlining.Form.TheVariants as form

-- ---- the words of an `if`

-- a clause, and no `then`, stands in front
abbrev pub HasClause : List Text → Type 0
HasClause (test ∷ body ∷ ts) = is_word (literal "then") body ≡ false
HasClause _ = ⊥

-- what stands behind a clause
abbrev pub IsJoint : Joint → List Text → Type 0
IsJoint joint.Nothing ts = ts ≡ []
IsJoint joint.Else (t ∷ body ∷ []) = (is_word (literal "elseif") t ≡ false) × (is_word (literal "else") t ≡ true)
IsJoint joint.Elseif (t ∷ ts) = is_word (literal "elseif") t ≡ true
IsJoint joint.Other ts = Unit {0}
IsJoint _ _ = ⊥

abbrev pub clause_of : Clause → Text × Text
clause_of c = (chars c.test.now, chars c.body.now)

abbrev pub most_clauses : ℕ
most_clauses = 64

-- ---- forms

-- the command of a form
abbrev pub command_of : Form → Inlined
command_of form.Break = inlined.Break
command_of form.Continue = inlined.Continue
command_of (form.Increment name) = inlined.Incr
command_of (form.Expr t) = inlined.Expr
command_of (form.If clauses otherwise) = inlined.If
command_of (form.While test body) = inlined.While
command_of (form.For w) = inlined.For

-- the texts behind the command's name are those of a form
abbrev pub IsForm : Form → List Text → Type 0
IsForm form.Break ts = ts ≡ []
IsForm form.Continue ts = ts ≡ []
IsForm (form.Increment name) ts = ts ≡ chars name.now ∷ []
IsForm (form.Expr t) ts = ts ≡ chars t.now ∷ []
IsForm (form.If clauses otherwise) ts = (if_shape ts ≡ Some (record { clauses = map clause_of clauses.items; otherwise = option_map (λ t. chars t.now) otherwise })) × (length clauses.items ≤ most_clauses)
IsForm (form.While test body) ts = ts ≡ chars test.now ∷ chars body.now ∷ []
IsForm (form.For w) ts = ts ≡ chars w.start.now ∷ chars w.test.now ∷ chars w.next.now ∷ chars w.body.now ∷ []

-- of this command
abbrev pub IsFormOf : Inlined → Form → List Text → Type 0
IsFormOf p f ts = (command_of f ≡ p) × IsForm f ts

-- the words are the command's name, and the texts of its form
abbrev pub HasForm : Form → List Shape → Type 0
HasForm f ws = (ts : List Text) × AllLiteral ws (name_of (command_of f) ∷ ts) × IsForm f ts

-- the first word is the command's name
abbrev pub IsNamed : Inlined → List Shape → Type 0
IsNamed p [] = ⊥
IsNamed p (w ∷ ws) = IsLiteral w (name_of p)

-- ---- texts of at most n characters

abbrev pub ClausesAreShort : ℕ → List (Text × Text) → Type 0
ClausesAreShort n [] = Unit {0}
ClausesAreShort n (c ∷ cs) = (length c.0 ≤ n) × (length c.1 ≤ n) × ClausesAreShort n cs

abbrev pub OtherwiseIsShort : ℕ → Option Text → Type 0
OtherwiseIsShort n None = Unit {0}
OtherwiseIsShort n (Some t) = length t ≤ n

-- the scripts and expressions of a form, and few clauses
abbrev pub FormIsShort : ℕ → Form → Type 0
FormIsShort n (form.Expr t) = length (chars t.now) ≤ n
FormIsShort n (form.If clauses otherwise) = (length clauses.items ≤ most_clauses) × ClausesAreShort n (map clause_of clauses.items) × OtherwiseIsShort n (option_map (λ t. chars t.now) otherwise)
FormIsShort n (form.While test body) = (length (chars test.now) ≤ n) × (length (chars body.now) ≤ n)
FormIsShort n (form.For w) = (length (chars w.start.now) ≤ n) × (length (chars w.test.now) ≤ n) × (length (chars w.next.now) ≤ n) × (length (chars w.body.now) ≤ n)
FormIsShort n _ = Unit {0}

-- ---- code

-- what the page of a command does with texts
abbrev pub page_does : Dialect → Inlined → List Text → ℕ → Prog Task Completion
page_does dialect p ts d = page_in dialect d (page_asks dialect (page_of p) ts)

-- that of a `while` has a turn back
abbrev pub TurnsBack : Form → List Instruction → Type 0
TurnsBack f c = command_of f ≡ inlined.While → 0 < turns_of c

-- the code of a form, behind its guard
abbrev pub PageCode : Dialect → Form → List Instruction → Type 0
PageCode dialect f c = TurnsBack f c × ((ts : List Text) → IsForm f ts → Makes dialect c (page_does dialect (command_of f) ts))

-- and with the guard, and the call beside it
abbrev pub InlinedCode : Dialect → Form → List Shape → List Instruction → Type 0
InlinedCode dialect f ws c = TurnsBack f c × CommandCode dialect ws c

-- of a body whose completion is that of its command
abbrev pub BodyCode : Dialect → Text → List Instruction → Type 0
BodyCode dialect body c = (n : ℕ) → Makes dialect c (asking dialect (suc n) (ask (Run Here body Nothing)))

-- of the clauses of an `if`, and what is run if none holds
abbrev pub ClausesCode : Dialect → List (Text × Text) → Option Text → List Instruction → Type 0
ClausesCode dialect clauses otherwise c = Makes dialect c (asking dialect (suc (length clauses)) (next_clause clauses otherwise))

-- ---- loops with a condition: a `while`, or a `for` with what it runs between turns

-- a loop's body ends, and its result may be gathered
abbrev pub body_end : Bool → Instruction
body_end true = Collect
body_end false = Again

-- a body in a loop of the code, whose `continue` may be for the loop around it, and whose result may be gathered
abbrev pub bodied : Bool → Bool → List Instruction → List Instruction
bodied passes gathers b = Body passes (length b + 1) ∷ (b ++ body_end gathers ∷ [])

abbrev pub BodiedCode : Dialect → Bool → Bool → Text → List Instruction → Type 0
BodiedCode dialect passes gathers body c = (b : List Instruction) × (c ≡ bodied passes gathers b) × ScriptCode dialect body b

-- of a turn, where `break` in its body leads past what is run between turns
abbrev pub TurnCode : Dialect → Option Text → Text → List Instruction → Type 0
TurnCode dialect None body c = BodiedCode dialect false false body c
TurnCode dialect (Some next) body c = (b : List Instruction) × (n : List Instruction) × (c ≡ b ++ Skip (length n) ∷ n) × BodiedCode dialect false false body b × BodiedCode dialect true false next n

-- what such a loop asks for before each turn
abbrev pub next_test : Dialect → Option Text → Text → Text → Asks
next_test dialect None test body = while_next dialect test body
next_test dialect (Some next) test body = for_next dialect test next body

-- of such a loop, from its first condition on
abbrev pub LoopCode : Dialect → Option Text → Text → Text → List Instruction → Type 0
LoopCode dialect next test body c = Makes dialect c (asking dialect 1 (next_test dialect next test body))

-- with its turn back
abbrev pub LoopMade : Dialect → Option Text → Text → Text → List Instruction → Type 0
LoopMade dialect next test body c = (0 < turns_of c) × LoopCode dialect next test body c

-- of a `for`
abbrev pub ForCode : Dialect → ForTexts → List Instruction → Type 0
ForCode dialect w c = Makes dialect c (page_does dialect inlined.For (chars w.start.now ∷ chars w.test.now ∷ chars w.next.now ∷ chars w.body.now ∷ []))
