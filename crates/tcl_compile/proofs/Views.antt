-- A tree of the code, seen as the definition's.
use Rattle.std.proofs.Common.{rules, ◌≡◌, ℕ, ap, ◌∙◌, subst, map, List, Some, Result, Ok}
use Rattle.std.specs.Prelude.{MatchResult, Vec, Box}
use Rattle.std.specs.declared.alloc.Global.{Global}
use Rattle.tcl_words.specs.declared.word.Span.{Span}
use Rattle.tcl_words.specs.Parts.{stretch_of}
use Rattle.tcl_expr.specs.declared.token.BinaryOp.{BinaryOp}
use Rattle.tcl_expr.specs.declared.token.Function.{Function}
use Rattle.tcl_expr.specs.declared.token.UnaryOp.{UnaryOp}
use Rattle.tcl_expr.specs.declared.token.Leaf.{Leaf}
use Rattle.tcl_expr.specs.declared.tree.Tree.{Tree, the_lemmas}
use Rattle.tcl_expr.specs.declared.tree.Tree as code
use Rattle.tcl_expr.specs.Expr.{operand, group, call, unary, power, chain, choice}
use Rattle.tcl_expr.specs.Machine.{rest_of, args_of}
use Rattle.tcl_expr.specs.View.{fault_view, leaf_of, step_of, view}
use Rattle.tcl_chars.specs.declared.numbers.Dialect.{Dialect}
use Rattle.tcl_expr.specs.declared.fault.ExprSyntax.{ExprSyntax}
use Rattle.tcl_expr.specs.Faults.{expr_fault}
use Rattle.tcl_expr.specs.Grammar.{IsTree}
use Rattle.tcl_expr.specs.Tokens.{tokens}

operand_view : (x : Leaf) → view (code.Operand x) ≡ operand (leaf_of x)
operand_view x = search (rules, the_lemmas)

group_view : (e : Box Tree Global) → view (code.Group e) ≡ group (view e.value)
group_view e = search (rules, the_lemmas)

call_view : (f : Function) (s : Span) (es : Vec Tree Global) → view (code.Call f s es) ≡ call f (stretch_of s) (args_of (map view es.items))
call_view f s es = search (rules, the_lemmas)

unary_view : (u : UnaryOp) (e : Box Tree Global) → view (code.Unary u e) ≡ unary u (view e.value)
unary_view u e = search (rules, the_lemmas)

power_view : (e f : Box Tree Global) → view (code.Power e f) ≡ power (view e.value) (view f.value)
power_view e f = search (rules, the_lemmas)

chain_view : (q : ℕ) (e : Box Tree Global) (r : Vec (BinaryOp × Tree) Global) → view (code.Chain q e r) ≡ chain q (view e.value) (rest_of (map step_of r.items))
chain_view q e r = search (rules, the_lemmas)

choice_view : (c e f : Box Tree Global) → view (code.Choice c e f) ≡ choice (view c.value) (view e.value) (view f.value)
choice_view c e f = search (rules, the_lemmas)

-- ---- by what a tree is

pub is_operand : (t : Tree) (x : Leaf) → t ≡ code.Operand x → view t ≡ operand (leaf_of x)
is_operand t x e = ap view e ∙ operand_view x

pub is_group : (t : Tree) (e : Box Tree Global) → t ≡ code.Group e → view t ≡ group (view e.value)
is_group t e h = ap view h ∙ group_view e

pub is_call : (t : Tree) (f : Function) (s : Span) (es : Vec Tree Global) → t ≡ code.Call f s es → view t ≡ call f (stretch_of s) (args_of (map view es.items))
is_call t f s es h = ap view h ∙ call_view f s es

pub is_unary : (t : Tree) (u : UnaryOp) (e : Box Tree Global) → t ≡ code.Unary u e → view t ≡ unary u (view e.value)
is_unary t u e h = ap view h ∙ unary_view u e

pub is_power : (t : Tree) (e f : Box Tree Global) → t ≡ code.Power e f → view t ≡ power (view e.value) (view f.value)
is_power t e f h = ap view h ∙ power_view e f

pub is_chain : (t : Tree) (q : ℕ) (e : Box Tree Global) (r : Vec (BinaryOp × Tree) Global) → t ≡ code.Chain q e r → view t ≡ chain q (view e.value) (rest_of (map step_of r.items))
is_chain t q e r h = ap view h ∙ chain_view q e r

pub is_choice : (t : Tree) (c e f : Box Tree Global) → t ≡ code.Choice c e f → view t ≡ choice (view c.value) (view e.value) (view f.value)
is_choice t c e f h = ap view h ∙ choice_view c e f

-- ---- what the parser of expressions answers

pub parsed_tree : (dialect : Dialect) (t : List ℕ) (r : Result Tree ExprSyntax) (x : Tree) → MatchResult r (λ y. IsTree (tokens dialect t) (view y)) (λ m. expr_fault (tokens dialect t) ≡ Some (fault_view m)) → r ≡ Ok x → IsTree (tokens dialect t) (view x)
parsed_tree dialect t r x h e = subst (λ (q : Result Tree ExprSyntax). MatchResult q (λ y. IsTree (tokens dialect t) (view y)) (λ m. expr_fault (tokens dialect t) ≡ Some (fault_view m))) e h
