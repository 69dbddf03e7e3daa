-- When a text is spelled by tokens, said by its parts rather than by a reader: expr(n), Operands and Operators.
use Rattle.std.specs.Prelude.{◌≡◌, ◌≢◌, ℕ, ◌≤◌, ◌-◌, Bool, true, false, List, [], ◌∷◌, ◌++◌, length, Some, None, ◌⊎◌}
use Rattle.std.specs.List.{list_all}
use Rattle.tcl_chars.specs.Characters.{open_paren}
use Rattle.tcl_chars.specs.Classes.{is_list_space}
use Rattle.tcl_chars.specs.Place.{bytes, place}
use Rattle.tcl_chars.specs.Truth.{truth_of}
use Rattle.tcl_chars.specs.declared.numbers.Dialect.{Dialect}
use Rattle.tcl_words.specs.declared.fault.Syntax.{Syntax}
use Rattle.tcl_words.specs.Faults.{BadOperand}
use Rattle.tcl_words.specs.First.{begins_operand, most_levels}
use Rattle.tcl_words.specs.Parts.{Stretch, Shape}
use Rattle.tcl_words.specs.Spelling.{OperandWord}
use Rattle.tcl_expr.specs.declared.state.Wanted.{Wanted}
use Rattle.tcl_expr.specs.declared.state.Wanted.TheVariants as wanted
use Rattle.tcl_expr.specs.declared.token.UnaryOp.{UnaryOp}
use Rattle.tcl_expr.specs.declared.token.BinaryOp.{BinaryOp}
use Rattle.tcl_expr.specs.declared.token.Function.{Function}
use Rattle.tcl_expr.specs.declared.token.Symbol.{Symbol}
use Rattle.tcl_expr.specs.Expr.{literal, word}
use Rattle.tcl_expr.specs.ExprFault.{ExprFault}
use Rattle.tcl_expr.specs.Faults.{Opened, wants_operand, open_at, after, wanted_after, lowest}
use Rattle.tcl_expr.specs.Texts.{unary_text, binary_text, function_text, symbol_text}
use Rattle.tcl_expr.specs.Token.{Token, Operand, Malformed, Bareword, Call, UnknownCall, Unary, Open, Binary, Stray}
use Rattle.tcl_expr.specs.Tokens.{minus, is_run_char, begins_run, begins_digit, begins_letter, says_something, symbol_token}

-- ---- parts of a text

abbrev pub begins_space : List ℕ → Bool
begins_space [] = false
begins_space (c ∷ cs) = is_list_space c

-- white space, as much as there is, and then the text `here`
pub record IsGap (cs here : List ℕ) : Type 0 where
  pub space : List ℕ
  pub joined : cs ≡ space ++ here
  pub blank : list_all is_list_space space ≡ true
  pub ends : begins_space here ≡ false

-- the stretch s of a text of `size` bytes, and then the rest
pub record IsFront (size : ℕ) (here : List ℕ) (s : Stretch) (rest : List ℕ) : Type 0 where
  pub joined : here ≡ s.text ++ rest
  pub start : s.start ≡ place size here

-- letters, digits, `_` and `.`, one at least
pub record IsRun (run : List ℕ) : Type 0 where
  pub some : begins_run run ≡ true
  pub all : list_all is_run_char run ≡ true

-- where an operand is wanted, a `-` directly before a digit is part of the run
pub record IsSigned (run : List ℕ) : Type 0 where
  pub behind : List ℕ
  pub joined : run ≡ minus ∷ behind
  pub digit : begins_digit behind ≡ true
  pub all : list_all is_run_char behind ≡ true

-- a run, whole
pub record IsOperandRun (size : ℕ) (here : List ℕ) (s : Stretch) (rest : List ℕ) : Type 0 where
  pub front : IsFront size here s rest
  pub run : IsRun s.text ⊎ IsSigned s.text
  pub whole : begins_run rest ≡ false

-- a run that begins with a letter names a function where a `(` follows, after white space too
pub record IsCalled (name rest behind : List ℕ) : Type 0 where
  pub letter : begins_letter name ≡ true
  pub gap : IsGap rest (open_paren ∷ behind)

abbrev pub IsNotCalled : List ℕ → List ℕ → Type 0
IsNotCalled name rest = (behind : List ℕ) → IsCalled name rest behind → ⊥

-- no operator or mark of more than n characters stands in front
abbrev pub NoLonger : List ℕ → ℕ → Type 0
NoLonger here n = (y : Symbol) (behind : List ℕ) → here ≡ symbol_text y ++ behind → length (symbol_text y) ≤ n

abbrev pub NoSymbol : List ℕ → Type 0
NoSymbol here = (y : Symbol) (behind : List ℕ) → here ≢ symbol_text y ++ behind

-- an operator or a mark that is no run, the longest that stands there
pub record IsSymbol (y : Symbol) (here rest : List ℕ) : Type 0 where
  pub joined : here ≡ symbol_text y ++ rest
  pub no_run : begins_run here ≡ false
  pub longest : NoLonger here (length (symbol_text y))

-- ---- tokens

-- Where an operand is wanted: the token that begins `here`, and the rest behind it. The text is the end of one of `size`
-- bytes, and in an operand brackets and indices may stand in one another `levels` deep.
pub data SpellsOperand (dialect : Dialect) (size levels : ℕ) (here : List ℕ) : Token → List ℕ → Type 0 where
  -- a function of this name, or of none
  call : (f : Function) (s : Stretch) (rest behind : List ℕ)
      → IsOperandRun size here s rest → IsCalled s.text rest behind → s.text ≡ function_text f
      → SpellsOperand dialect size levels here (Call f s) behind
  unknown_call : (s : Stretch) (rest behind : List ℕ)
      → IsOperandRun size here s rest → IsCalled s.text rest behind → ((f : Function) → s.text ≢ function_text f)
      → SpellsOperand dialect size levels here (UnknownCall s) behind
  -- any other run is a number, one too large too, or a truth word, or else a bareword
  number : (s : Stretch) (rest : List ℕ)
      → IsOperandRun size here s rest → IsNotCalled s.text rest → says_something (truth_of dialect s.text) ≡ true
      → SpellsOperand dialect size levels here (Operand (literal s)) rest
  other_run : (s : Stretch) (rest : List ℕ)
      → IsOperandRun size here s rest → IsNotCalled s.text rest → says_something (truth_of dialect s.text) ≡ false
      → SpellsOperand dialect size levels here (Bareword s) rest
  -- a word in quotes or braces, a bracket or a variable, or its fault
  quoted : (w : Shape) (rest : List ℕ)
      → begins_operand here ≡ true → OperandWord size levels here w rest
      → SpellsOperand dialect size levels here (Operand (word w)) rest
  malformed : (m : Syntax)
      → begins_operand here ≡ true → BadOperand size levels here m
      → SpellsOperand dialect size levels here (Malformed m) []
  parenthesis : (rest : List ℕ)
      → here ≡ open_paren ∷ rest
      → SpellsOperand dialect size levels here Open rest
  -- a unary operator; a `-` directly before a digit and the `!` of `!=` are none
  unary : (u : UnaryOp) (rest : List ℕ)
      → here ≡ unary_text u ++ rest → (minus ∷ rest ≡ here → begins_digit rest ≡ false) → NoLonger here 1
      → SpellsOperand dialect size levels here (Unary u) rest
  -- an operator that is not also a unary one, or a mark
  symbol : (y : Symbol) (rest : List ℕ)
      → IsSymbol y here rest → ((u : UnaryOp) → symbol_text y ≢ unary_text u)
      → SpellsOperand dialect size levels here (symbol_token y) rest
  -- a character that begins none of these
  other_character : (c : ℕ) (s : Stretch) (rest : List ℕ)
      → IsFront size here s rest → s.text ≡ c ∷ []
      → begins_run here ≡ false → begins_operand here ≡ false → c ≢ open_paren → ((u : UnaryOp) → s.text ≢ unary_text u) → NoSymbol here
      → SpellsOperand dialect size levels here (Bareword s) rest

-- Where an operator is wanted.
pub data SpellsOperator (here : List ℕ) : Token → List ℕ → Type 0 where
  -- `eq ne in ni` as whole runs
  word_operator : (op : BinaryOp) (rest : List ℕ)
      → here ≡ binary_text op ++ rest → IsRun (binary_text op) → begins_run rest ≡ false
      → SpellsOperator here (Binary op) rest
  symbol : (y : Symbol) (rest : List ℕ)
      → IsSymbol y here rest
      → SpellsOperator here (symbol_token y) rest
  -- another run, or another character
  other_run : (run rest : List ℕ)
      → here ≡ run ++ rest → IsRun run → begins_run rest ≡ false → ((op : BinaryOp) → run ≢ binary_text op)
      → SpellsOperator here Stray rest
  other_character : (c : ℕ) (rest : List ℕ)
      → here ≡ c ∷ rest → begins_run here ≡ false → NoSymbol here
      → SpellsOperator here Stray rest

-- whether an operand is wanted or an operator
abbrev pub Spells : Bool → Dialect → ℕ → ℕ → List ℕ → Token → List ℕ → Type 0
Spells true dialect size levels here t rest = SpellsOperand dialect size levels here t rest
Spells false dialect size levels here t rest = SpellsOperator here t rest

-- The tokens of the end cs of a text of `size` bytes, where this is wanted and that is open: white space and one token
-- after another, up to the end or to the first that has a fault.
pub data AreTokens (dialect : Dialect) (size : ℕ) : Wanted → List Opened → List ℕ → List Token → Type 0 where
  none : (p : Wanted) (os : List Opened) (cs : List ℕ)
      → list_all is_list_space cs ≡ true
      → AreTokens dialect size p os cs []
  faulty : (p : Wanted) (os : List Opened) (cs here rest : List ℕ) (t : Token) (m : ExprFault)
      → IsGap cs here → Spells (wants_operand p) dialect size (most_levels - length os) here t rest → lowest p os (Some t) ≡ Some m
      → AreTokens dialect size p os cs (t ∷ [])
  next : (p : Wanted) (os : List Opened) (cs here rest : List ℕ) (t : Token) (ts : List Token)
      → IsGap cs here → Spells (wants_operand p) dialect size (most_levels - length os) here t rest → lowest p os (Some t) ≡ None
      → AreTokens dialect size (wanted_after t) (after t (open_at p t os)) rest ts
      → AreTokens dialect size p os cs (t ∷ ts)

-- the tokens of a text
abbrev pub IsSpelled : Dialect → List ℕ → List Token → Type 0
IsSpelled dialect text ts = AreTokens dialect (bytes text) wanted.Start [] text ts
