-- What the parts of an expression's code do, and what is emitted. In a dialect of numbers.
use Rattle.std.specs.Prelude.{◌≡◌, ℕ, ◌+◌, true, false, List, ◌++◌, length, Option, Some, None, Bool}
use Rattle.tcl_chars.specs.declared.numbers.Dialect.{Dialect}
use Rattle.tcl_expr.specs.Expr.{Leaf, literal, word, Expr, operand, group, call, unary, power, chain, choice, Rest, last, next, Args, no_args, arg, argument_count}
use Rattle.tcl_expr.specs.declared.token.BinaryOp.{BinaryOp}
use Rattle.tcl_expr.specs.declared.token.BinaryOp.TheVariants as binary
use Rattle.tcl_expr.specs.declared.token.Function.{Function}
use Rattle.tcl_words.specs.First.{most_levels}
use Rattle.tcl_words.specs.Parts.{Shape, parts_of}
use Rattle.tcl_meaning.specs.Operators.{operator, function_answer}
use Rattle.tcl_pages.specs.Texts.{Text}
use Rattle.tcl_meaning.specs.State.{State}
use Rattle.tcl_meaning.specs.Effects.{Prog, exec}
use Rattle.tcl_meaning.specs.Expressions.{tree_text, rest_text, args_text, applied, expression}
use Rattle.tcl_meaning.specs.Nesting.{PartsNest}
use Rattle.tcl_meaning.specs.Script.{Run}
use Rattle.tcl_meaning.specs.Tasks.{Task}
use Rattle.tcl_meaning.specs.Value.{Value, ◌>>=◌, judged}
use Rattle.tcl_code.specs.Instructions.{Instruction}
use Rattle.tcl_code.specs.Machine.{Texts, Stack, with_text, text_at, spot}
use Rattle.tcl_code.specs.Valid.{shape}
use Rattle.tcl_code.specs.Parts.{Fits, HasAt, LandsValue, Does}
use Rattle.tcl_compile.specs.Fragments.{stacked}
use Rattle.tcl_compile.specs.Within.{PartsWithin}

-- the truth value of a left operand by which an operator is decided
abbrev pub decided_by : BinaryOp → Option Bool
decided_by binary.And = Some false
decided_by binary.Or = Some true
decided_by _ = None

-- the arguments that are left, behind those that are there, and their function's answer
abbrev pub args_value : Dialect → Function → ℕ → Texts → Args → Prog Task (Value Text)
args_value dialect f d ts es = args_text dialect d es >>= λ more. judged (function_answer dialect f (ts ++ more))

module _ (dialect : Dialect) where
  -- these instructions put what a program makes of the text on top in its place
  pub record Changes (c : List Instruction) (g : ℕ → Text → Prog Task (Value Text)) : Type 0 where
    pub from : (code : List Instruction) (at : ℕ) (t : Text) (stack : Stack) (d : ℕ) (s : State) → HasAt code at c → LandsValue dialect code stack.loops (spot at (with_text t stack) d) s (text_at (at + length c) stack d) (exec (Run dialect) (g d t) s)
    pub fits : (h l d p o : ℕ) → Fits c (shape (h + 1) l d p o) (shape (h + 1) l d p o)

  -- these evaluate the arguments that are left of n, and apply the function
  pub record Applies (f : Function) (n : ℕ) (c : List Instruction) (es : Args) : Type 0 where
    pub from : (code : List Instruction) (at : ℕ) (ts : Texts) (stack : Stack) (d : ℕ) (s : State) → length ts + argument_count es ≡ n → HasAt code at c → LandsValue dialect code stack.loops (spot at (stacked ts stack) d) s (text_at (at + length c) stack d) (exec (Run dialect) (args_value dialect f d ts es) s)
    pub adds : (h k l d p o : ℕ) → k + argument_count es ≡ n → Fits c (shape (h + k) l d p o) (shape (h + 1) l d p o)

-- the code of a tree
abbrev pub TreeCode : Dialect → Expr → List Instruction → Type 0
TreeCode dialect e c = Does dialect c (λ d. tree_text dialect d e)

-- of an operator and its right operand, where the left one's text is there; and of several
abbrev pub StepCode : Dialect → BinaryOp → Expr → List Instruction → Type 0
StepCode dialect o e c = Changes dialect c (λ d a. applied dialect (operator dialect o) a (tree_text dialect d e))

abbrev pub RestCode : Dialect → Rest → List Instruction → Type 0
RestCode dialect r c = Changes dialect c (λ d a. rest_text dialect d a r)

-- of arguments that are left of n, and their function
abbrev pub ArgsLeft : Dialect → Function → ℕ → Args → List Instruction → Type 0
ArgsLeft dialect f n es c = Applies dialect f n c es

-- ---- the words of operands

-- array indices stand in one another no deeper than may be, and scripts in brackets have at most n characters
abbrev pub WordIsRead : ℕ → Shape → Type 0
WordIsRead n w = PartsNest most_levels (parts_of w.pieces) × PartsWithin n (parts_of w.pieces)

abbrev pub LeafIsRead : ℕ → Leaf → Type 0
LeafIsRead n (literal s) = Unit {0}
LeafIsRead n (word w) = WordIsRead n w

abbrev mutual
  -- so for all words of a tree
  pub TreeIsRead : ℕ → Expr → Type 0
  TreeIsRead n (operand x) = LeafIsRead n x
  TreeIsRead n (group e) = TreeIsRead n e
  TreeIsRead n (call f name es) = ArgsAreRead n es
  TreeIsRead n (unary u e) = TreeIsRead n e
  TreeIsRead n (power e f) = TreeIsRead n e × TreeIsRead n f
  TreeIsRead n (chain level e r) = TreeIsRead n e × RestIsRead n r
  TreeIsRead n (choice c e f) = TreeIsRead n c × TreeIsRead n e × TreeIsRead n f

  pub RestIsRead : ℕ → Rest → Type 0
  RestIsRead n last = Unit {0}
  RestIsRead n (next o e r) = TreeIsRead n e × RestIsRead n r

  pub ArgsAreRead : ℕ → Args → Type 0
  ArgsAreRead n no_args = Unit {0}
  ArgsAreRead n (arg e es) = TreeIsRead n e × ArgsAreRead n es

-- ---- whole expressions

-- the code of an expression, or of the fault that it has
abbrev pub ExpressionCode : Dialect → Text → List Instruction → Type 0
ExpressionCode dialect t c = Does dialect c (λ d. expression dialect d t)
