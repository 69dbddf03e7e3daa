-- What operators and functions answer of the texts of their operands: expr(n), mathfunc(n). In a dialect of numbers.
use Rattle.std.specs.Prelude.{suc, pos, negsuc, ℤ, Bool, true, false, not, ◌||◌, List, [], ◌∷◌, Result, Ok, Err, if◌then◌else◌}
use Rattle.std.specs.declared.cmp.Ordering.{Ordering}
use Rattle.std.specs.Ordering.{nat_cmp, int_cmp, is_eq, is_ne, is_lt, is_gt, is_le, is_ge}
use Rattle.std.specs.Cmp.Lexicographic.{slice_cmp}
use Rattle.tcl_chars.specs.Arith.{exact, exact_unary, ranged}
use Rattle.tcl_chars.specs.Truth.{truth_of}
use Rattle.tcl_chars.specs.Whole.{whole_of}
use Rattle.tcl_chars.specs.declared.arithmetic.Op.{Op}
use Rattle.tcl_chars.specs.declared.arithmetic.Op.TheVariants as op
use Rattle.tcl_chars.specs.declared.arithmetic.UnOp.{UnOp}
use Rattle.tcl_chars.specs.declared.arithmetic.UnOp.TheVariants as un
use Rattle.tcl_chars.specs.declared.numbers.Dialect.{Dialect}
use Rattle.tcl_chars.specs.declared.numbers.Whole.{Whole}
use Rattle.tcl_chars.specs.declared.numbers.Whole.TheVariants as whole
use Rattle.tcl_chars.specs.Texts.{literal}
use Rattle.tcl_list.specs.Elements.{elements_of}
use Rattle.tcl_expr.specs.declared.token.UnaryOp.{UnaryOp}
use Rattle.tcl_expr.specs.declared.token.UnaryOp.TheVariants as unary
use Rattle.tcl_expr.specs.declared.token.BinaryOp.{BinaryOp}
use Rattle.tcl_expr.specs.declared.token.BinaryOp.TheVariants as binary
use Rattle.tcl_expr.specs.declared.token.Function.{Function}
use Rattle.tcl_expr.specs.declared.token.Function.TheVariants as function
use Rattle.tcl_expr.specs.Texts.{unary_text, binary_text}
use Rattle.tcl_pages.specs.Answers.{Answer, ◌>>=◌}
use Rattle.tcl_pages.specs.Results.{truth_text, in_decimal}
use Rattle.tcl_chars.specs.Messages.{about, too_large, whole_or, truth_or, number, truth_value}
use Rattle.tcl_pages.specs.Texts.{Text, same_text, number_text}

-- an operand that is to be a number or a truth value, and isn't
abbrev pub non_numeric : Text → Text
non_numeric operator = about (literal "can't use non-numeric string as operand of") operator (literal "")

-- ---- comparison

-- how two numbers or texts stand to one another: a number too large is an error if both are number texts
abbrev pub compared : Text → Text → Whole → Whole → Answer Ordering
compared a b (whole.Number x) (whole.Number y) = Ok (int_cmp x y)
compared a b (whole.Number x) whole.TooLarge = Err too_large
compared a b whole.TooLarge (whole.Number y) = Err too_large
compared a b whole.TooLarge whole.TooLarge = Err too_large
compared a b _ _ = Ok (slice_cmp nat_cmp a b)

abbrev pub is_in : Text → List Text → Bool
is_in t [] = false
is_in t (e ∷ es) = same_text t e || is_in t es

-- ---- kinds of operators

pub data Operator : Type 0 where
  -- what a left operand of this truth value has decided
  lazy : (decided : Bool) → Operator
  -- of both texts
  eager : (Text → Text → Answer Text) → Operator

-- ---- functions

abbrev pub absolute : ℤ → ℤ
absolute (pos n) = pos n
absolute (negsuc n) = pos (suc n)

abbrev pub larger : ℤ → ℤ → ℤ
larger a b = if is_lt (int_cmp a b) then b else a

abbrev pub smaller : ℤ → ℤ → ℤ
smaller a b = if is_lt (int_cmp b a) then b else a

-- the answer of a function of one number
abbrev pub of_first : (ℤ → Answer Text) → List ℤ → Answer Text
of_first f [] = Ok []
of_first f (z ∷ zs) = f z

-- the greatest or the least, by which of two is chosen
abbrev pub best : (ℤ → ℤ → ℤ) → ℤ → List ℤ → ℤ
best choose z [] = z
best choose z (y ∷ ys) = best choose (choose z y) ys

abbrev pub of_all : (ℤ → ℤ → ℤ) → List ℤ → Answer Text
of_all choose [] = Ok []
of_all choose (z ∷ zs) = Ok (number_text (best choose z zs))

module _ (dialect : Dialect) where
  -- the number that an operand of an operator is
  abbrev pub operand_number : Text → Text → Answer ℤ
  operand_number operator t = whole_or (non_numeric operator) (whole_of dialect t)

  -- Both operands are evaluated, and then tested, the left one first.
  abbrev pub arithmetic : Op → Text → Text → Text → Answer Text
  arithmetic o operator a b = do
    x ← operand_number operator a
    y ← operand_number operator b
    in_decimal (ranged (exact o x y))

  abbrev pub arithmetic_unary : UnOp → Text → Text → Answer Text
  arithmetic_unary o operator a = do
    x ← operand_number operator a
    in_decimal (ranged (Ok (exact_unary o x)))

  abbrev pub comparison : (Ordering → Bool) → Text → Text → Answer Text
  comparison holds a b = do
    o ← compared a b (whole_of dialect a) (whole_of dialect b)
    Ok (truth_text (holds o))

  abbrev pub membership : (Bool → Bool) → Text → Text → Answer Text
  membership holds a b = do
    es ← elements_of b
    Ok (truth_text (holds (is_in a es)))

  -- the truth value of a text, as 1 or 0
  abbrev pub truth_answer : Text → Answer Text
  truth_answer t = do
    b ← truth_value dialect t
    Ok (truth_text b)

  -- expr(n), Operators
  abbrev pub unary_answer : UnaryOp → Text → Answer Text
  unary_answer unary.Minus a = arithmetic_unary un.Minus (unary_text unary.Minus) a
  unary_answer unary.Plus a = arithmetic_unary un.Plus (unary_text unary.Plus) a
  unary_answer unary.Flip a = arithmetic_unary un.BitNot (unary_text unary.Flip) a
  unary_answer unary.Not a = do
    b ← truth_or (non_numeric (unary_text unary.Not)) (truth_of dialect a)
    Ok (truth_text (not b))

  -- `**`
  abbrev pub power_answer : Text → Text → Answer Text
  power_answer a b = arithmetic op.Pow (literal "**") a b

  -- What an operator does with the text of its left operand. `&&` and `||` go by its truth value: at a false one `&&` has its
  -- answer, at a true one `||`, and else the answer is the right operand's truth value. The others take both texts.
  abbrev pub operator : BinaryOp → Operator
  operator binary.And = lazy false
  operator binary.Or = lazy true
  operator binary.Times = eager (arithmetic op.Mul (binary_text binary.Times))
  operator binary.Divide = eager (arithmetic op.Div (binary_text binary.Divide))
  operator binary.Remainder = eager (arithmetic op.Mod (binary_text binary.Remainder))
  operator binary.Add = eager (arithmetic op.Add (binary_text binary.Add))
  operator binary.Subtract = eager (arithmetic op.Sub (binary_text binary.Subtract))
  operator binary.ShiftLeft = eager (arithmetic op.Shl (binary_text binary.ShiftLeft))
  operator binary.ShiftRight = eager (arithmetic op.Shr (binary_text binary.ShiftRight))
  operator binary.BitAnd = eager (arithmetic op.BitAnd (binary_text binary.BitAnd))
  operator binary.BitXor = eager (arithmetic op.BitXor (binary_text binary.BitXor))
  operator binary.BitOr = eager (arithmetic op.BitOr (binary_text binary.BitOr))
  operator binary.Less = eager (comparison is_lt)
  operator binary.Greater = eager (comparison is_gt)
  operator binary.LessEqual = eager (comparison is_le)
  operator binary.GreaterEqual = eager (comparison is_ge)
  operator binary.Equal = eager (comparison is_eq)
  operator binary.NotEqual = eager (comparison is_ne)
  operator binary.TextEqual = eager (λ a b. Ok (truth_text (same_text a b)))
  operator binary.TextNotEqual = eager (λ a b. Ok (truth_text (not (same_text a b))))
  operator binary.In = eager (membership (λ x. x))
  operator binary.NotIn = eager (membership not)

  -- the numbers of all arguments, the left one first
  abbrev pub numbers : List Text → Answer (List ℤ)
  numbers [] = Ok []
  numbers (t ∷ ts) = do
    z ← number dialect t
    zs ← numbers ts
    Ok (z ∷ zs)

  abbrev pub truth_of_first : List Text → Answer Text
  truth_of_first [] = Ok []
  truth_of_first (t ∷ ts) = truth_answer t

  -- mathfunc(n)
  abbrev pub function_answer : Function → List Text → Answer Text
  function_answer function.Abs ts = numbers ts >>= of_first (λ z. in_decimal (ranged (Ok (absolute z))))
  function_answer function.Bool ts = truth_of_first ts
  function_answer function.Int ts = numbers ts >>= of_first (λ z. Ok (number_text z))
  function_answer function.Wide ts = numbers ts >>= of_first (λ z. Ok (number_text z))
  function_answer function.Max ts = numbers ts >>= of_all larger
  function_answer function.Min ts = numbers ts >>= of_all smaller

  -- The value of a whole expression: a number is answered in decimal, and any other text unchanged.
  abbrev pub last_step : Text → Whole → Answer Text
  last_step t (whole.Number z) = Ok (number_text z)
  last_step t whole.TooLarge = Err too_large
  last_step t whole.Not = Ok t

  abbrev pub final_answer : Text → Answer Text
  final_answer t = last_step t (whole_of dialect t)
