-- The value of an expression: expr(n). Operands are substituted as words are, and what isn't needed isn't evaluated. In a
-- dialect of numbers.
use Rattle.std.specs.Prelude.{ℕ, Bool, true, false, not, List, [], ◌∷◌, Result, Ok, Err}
use Rattle.tcl_chars.specs.declared.numbers.Dialect.{Dialect}
use Rattle.tcl_expr.specs.Expr.{Leaf, literal, word, Expr, operand, group, call, unary, power, chain, choice, Rest, last, next, Args, no_args, arg}
use Rattle.tcl_expr.specs.ExprFault.{ExprFault}
use Rattle.tcl_expr.specs.Machine.{expression_of}
use Rattle.tcl_expr.specs.Texts.{fault_text}
use Rattle.tcl_pages.specs.Texts.{Text}
use Rattle.tcl_meaning.specs.Completions.{failure}
use Rattle.tcl_meaning.specs.Effects.{Prog}
use Rattle.tcl_meaning.specs.Tasks.{Task}
use Rattle.tcl_meaning.specs.Value.{Value, ◌>>=◌, give, fail, judged}
use Rattle.tcl_chars.specs.Messages.{truth_value}
use Rattle.tcl_meaning.specs.Operators.{Operator, lazy, eager, operator, truth_answer, unary_answer, power_answer, function_answer, final_answer}
use Rattle.tcl_pages.specs.Results.{truth_text}
use Rattle.tcl_meaning.specs.Substitution.{pieces_text}

-- a program with a text for its value, or another one
abbrev pub either : Bool → Prog Task (Value Text) → Prog Task (Value Text) → Prog Task (Value Text)
either true p q = p
either false p q = q

abbrev pub is_same : Bool → Bool → Bool
is_same true b = b
is_same false b = not b

abbrev pub leaf_text : ℕ → Leaf → Prog Task (Value Text)
leaf_text d (literal s) = give s.text
leaf_text d (word w) = pieces_text d w.pieces

module _ (dialect : Dialect) where
  abbrev pub truth : Text → Prog Task (Value Bool)
  truth t = judged (truth_value dialect t)

  -- an operator's answer, where the left operand's text is there, and the right one's comes by a program
  abbrev pub applied : Operator → Text → Prog Task (Value Text) → Prog Task (Value Text)
  applied (lazy decided) a right = do
    holds ← truth a
    either (is_same holds decided) (give (truth_text decided)) (right >>= λ b. judged (truth_answer dialect b))
  applied (eager answer) a right = do
    b ← right
    judged (answer a b)

  abbrev mutual
    pub tree_text : ℕ → Expr → Prog Task (Value Text)
    tree_text d (operand x) = leaf_text d x
    tree_text d (group e) = tree_text d e
    tree_text d (call f name es) = do
      ts ← args_text d es
      judged (function_answer dialect f ts)
    tree_text d (unary u e) = do
      a ← tree_text d e
      judged (unary_answer dialect u a)
    tree_text d (power e f) = do
      a ← tree_text d e
      b ← tree_text d f
      judged (power_answer dialect a b)
    tree_text d (chain level e r) = do
      a ← tree_text d e
      rest_text d a r
    tree_text d (choice c e f) = do
      t ← tree_text d c
      holds ← truth t
      either holds (tree_text d e) (tree_text d f)

    -- operators of one level, of which the left one is the first
    pub rest_text : ℕ → Text → Rest → Prog Task (Value Text)
    rest_text d a last = give a
    rest_text d a (next o e r) = do
      b ← applied (operator dialect o) a (tree_text d e)
      rest_text d b r

    -- arguments, from left to right
    pub args_text : ℕ → Args → Prog Task (Value (List Text))
    args_text d no_args = give []
    args_text d (arg e es) = do
      t ← tree_text d e
      ts ← args_text d es
      give (t ∷ ts)

  abbrev pub parsed_text : ℕ → Result Expr ExprFault → Prog Task (Value Text)
  parsed_text d (Ok e) = do
    t ← tree_text d e
    judged (final_answer dialect t)
  parsed_text d (Err fault) = fail (failure (fault_text fault))

  -- the value of a text that is an expression; it is parsed whole before anything is evaluated
  unfoldable pub expression : ℕ → Text → Prog Task (Value Text)
  expression d t = parsed_text d (expression_of dialect t)
