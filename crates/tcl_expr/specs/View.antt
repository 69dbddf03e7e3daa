-- Tokens, trees, faults and stacks as the definitions see them.
use Rattle.std.specs.Prelude.{List, [], ◌∷◌, map, Option, option_map}
use Rattle.tcl_words.specs.Parts.{stretch_of, shape_of}
use Rattle.tcl_expr.specs.declared.fault.ExprSyntax.{ExprSyntax}
use Rattle.tcl_expr.specs.declared.fault.ExprSyntax.TheVariants as syntax
use Rattle.tcl_expr.specs.declared.token.BinaryOp.{BinaryOp}
use Rattle.tcl_expr.specs.declared.token.Leaf.{Leaf as CodeLeaf}
use Rattle.tcl_expr.specs.declared.token.Leaf.TheVariants as leaf
use Rattle.tcl_expr.specs.declared.token.Token.{Token as CodeToken}
use Rattle.tcl_expr.specs.declared.token.Token.TheVariants as token
use Rattle.tcl_expr.specs.declared.tree.Tree.{Tree, fold-Tree}
use Rattle.tcl_expr.specs.declared.tree.Tree.TheOpen.{Tree-F}
use Rattle.tcl_expr.specs.declared.frame.Frame.{Frame}
use Rattle.tcl_expr.specs.declared.frame.Frame.TheVariants as frame
use Rattle.tcl_expr.specs.Expr.{Leaf, literal, word, Expr, operand, group, call, unary, power, chain, choice}
use Rattle.tcl_expr.specs.ExprFault.{ExprFault}
use Rattle.tcl_expr.specs.ExprFault as fault
use Rattle.tcl_expr.specs.Machine.{Step, rest_of, args_of, Held, in_unary, in_power, in_chain, in_second, in_third, in_group, in_call}
use Rattle.tcl_expr.specs.Token.{Token, Operand, Malformed, Bareword, Call, UnknownCall, Unary, Open, Stray}
use Rattle.tcl_expr.specs.Tokens.{symbol_token}

abbrev pub leaf_of : CodeLeaf → Leaf
leaf_of (leaf.Literal s) = literal (stretch_of s)
leaf_of (leaf.Word w) = word (shape_of w)

abbrev pub token_of : CodeToken → Token
token_of (token.Operand x) = Operand (leaf_of x)
token_of (token.Malformed m) = Malformed m
token_of (token.Bareword s) = Bareword (stretch_of s)
token_of (token.Call f s) = Call f (stretch_of s)
token_of (token.UnknownCall s) = UnknownCall (stretch_of s)
token_of (token.Unary u) = Unary u
token_of token.Open = Open
token_of (token.Symbol s) = symbol_token s
token_of token.Stray = Stray

-- a fault without where it lies in memory
abbrev pub fault_view : ExprSyntax → ExprFault
fault_view syntax.Empty = fault.Empty
fault_view (syntax.BareWord s) = fault.BareWord (stretch_of s)
fault_view syntax.MissingOperand = fault.MissingOperand
fault_view syntax.MissingOperator = fault.MissingOperator
fault_view syntax.Parenthesis = fault.Parenthesis
fault_view (syntax.UnknownFunction s) = fault.UnknownFunction (stretch_of s)
fault_view (syntax.ArgumentCount s many) = fault.ArgumentCount (stretch_of s) many
fault_view syntax.Nesting = fault.Nesting
fault_view (syntax.Words m) = fault.Words m

abbrev pub optional_fault : Option ExprSyntax → Option ExprFault
optional_fault = option_map fault_view

abbrev pub tree_step : Tree-F Expr → Expr
tree_step (Tree-F.Operand x) = operand (leaf_of x)
tree_step (Tree-F.Group e) = group e.value
tree_step (Tree-F.Call f s es) = call f (stretch_of s) (args_of es.items)
tree_step (Tree-F.Unary u e) = unary u e.value
tree_step (Tree-F.Power e f) = power e.value f.value
tree_step (Tree-F.Chain q e r) = chain q e.value (rest_of r.items)
tree_step (Tree-F.Choice c e f) = choice c.value e.value f.value

-- a tree without where it lies in memory
abbrev pub view : Tree → Expr
view = fold-Tree Expr tree_step

abbrev pub step_of : BinaryOp × Tree → Step
step_of p = (p.0, view p.1)

abbrev pub held_of : Frame → Held
held_of (frame.Unary u) = in_unary u
held_of (frame.Power e) = in_power (view e.value)
held_of (frame.Chain q e xs o) = in_chain q (view e.value) (map step_of xs.items) o
held_of (frame.Second c) = in_second (view c.value)
held_of (frame.Third c e) = in_third (view c.value) (view e.value)
held_of frame.Paren = in_group
held_of (frame.Call f s es) = in_call f (stretch_of s) (map view es.items)

-- the last frame first
unfoldable pub onto : List Frame → List Held → List Held
onto [] s = s
onto (f ∷ fs) s = onto fs (held_of f ∷ s)

unfoldable pub stack_of : List Frame → List Held
stack_of fs = onto fs []
