-- How operators and functions are spelled: what is read is the longest that stands there.
use Rattle.std.proofs.Common.{◌≡◌, ◌≢◌, ℕ, ◌≤◌, true, false, List, [], ◌∷◌, ◌++◌, length, Option, Some, None, refl, sym, ap, subst, ◌∙◌, arith}
use Rattle.std.specs.Prelude.{◌==◌, ◌&&◌, IfSome, codes}
use Rattle.std.proofs.lemmas.Bool.{and_parts, eqb-true}
use Rattle.tcl_chars.proofs.Same.{text_is}
use Rattle.tcl_chars.specs.Texts.{same_text}
use Rattle.tcl_expr.specs.declared.token.UnaryOp.{UnaryOp}
use Rattle.tcl_expr.specs.declared.token.BinaryOp.{BinaryOp}
use Rattle.tcl_expr.specs.declared.token.BinaryOp.TheVariants as binary
use Rattle.tcl_expr.specs.declared.token.Function.{Function}
use Rattle.tcl_expr.specs.declared.token.Function.TheVariants as function
use Rattle.tcl_expr.specs.declared.token.Symbol.{Symbol}
use Rattle.tcl_expr.specs.declared.token.Symbol.TheVariants as symbol
use Rattle.tcl_expr.specs.Spelling.{IsSymbol, NoLonger, NoSymbol}
use Rattle.tcl_expr.specs.Texts.{binary_text, function_text, symbol_text}
use Rattle.tcl_expr.specs.Tokens.{equals, is_run_char, begins_run, function_of, word_operator, two, one, with_rest, or_one, symbol_at, prefix}
use Rattle.tcl_expr.proofs.LongestFronts.{branch, no_clash}

-- ---- functions and the operators that are runs

pub function_named : (cs : List ℕ) → IfSome (function_of cs) (λ f. cs ≡ function_text f)
function_named cs =
    let P : Option Function → Type 0 = λ o. IfSome o (λ f. cs ≡ function_text f) in
    branch P (same_text cs (codes "abs")) _ _ (λ e. text_is cs _ e) (λ _. branch P (same_text cs (codes "bool")) _ _ (λ e. text_is cs _ e)
    (λ _. branch P (same_text cs (codes "int")) _ _ (λ e. text_is cs _ e) (λ _. branch P (same_text cs (codes "wide")) _ _ (λ e. text_is cs _ e)
    (λ _. branch P (same_text cs (codes "max")) _ _ (λ e. text_is cs _ e) (λ _. branch P (same_text cs (codes "min")) _ _ (λ e. text_is cs _ e) (λ _. tt))))))

pub function_found : (f : Function) → function_of (function_text f) ≡ Some f
function_found function.Abs = refl
function_found function.Bool = refl
function_found function.Int = refl
function_found function.Wide = refl
function_found function.Max = refl
function_found function.Min = refl

pub no_function : (cs : List ℕ) (o : Option Function) → function_of cs ≡ o → ((f : Function) → cs ≢ function_text f) → o ≡ None
no_function cs None e n = refl
no_function cs (Some f) e n = let P : Option Function → Type 0 = λ o. IfSome o (λ f. cs ≡ function_text f) in absurd (n f (subst P e (function_named cs)))

pub word_named : (cs : List ℕ) → IfSome (word_operator cs) (λ op. cs ≡ binary_text op)
word_named cs =
    let P : Option BinaryOp → Type 0 = λ o. IfSome o (λ op. cs ≡ binary_text op) in
    branch P (same_text cs (codes "eq")) _ _ (λ e. text_is cs _ e) (λ _. branch P (same_text cs (codes "ne")) _ _ (λ e. text_is cs _ e)
    (λ _. branch P (same_text cs (codes "in")) _ _ (λ e. text_is cs _ e) (λ _. branch P (same_text cs (codes "ni")) _ _ (λ e. text_is cs _ e) (λ _. tt))))

pub word_found : (op : BinaryOp) → begins_run (binary_text op) ≡ true → word_operator (binary_text op) ≡ Some op
word_found binary.TextEqual r = refl
word_found binary.TextNotEqual r = refl
word_found binary.In r = refl
word_found binary.NotIn r = refl
word_found _ r = absurd cc

pub no_word : (cs : List ℕ) (o : Option BinaryOp) → word_operator cs ≡ o → ((op : BinaryOp) → cs ≢ binary_text op) → o ≡ None
no_word cs None e n = refl
no_word cs (Some op) e n = let P : Option BinaryOp → Type 0 = λ o. IfSome o (λ op. cs ≡ binary_text op) in absurd (n op (subst P e (word_named cs)))

-- ---- operators and marks that are no runs

pub pair : (c d a b : ℕ) → ((c == a) && (d == b)) ≡ true → c ∷ d ∷ [] ≡ a ∷ b ∷ []
pair c d a b e = let k = and_parts (c == a) (d == b) e in ap (λ z. z ∷ d ∷ []) (eqb-true c a k.0) ∙ ap (λ z. a ∷ z ∷ []) (eqb-true d b k.1)

pub lone : (c a : ℕ) → (c == a) ≡ true → c ∷ [] ≡ a ∷ []
lone c a e = ap (λ z. z ∷ []) (eqb-true c a e)

pub two_text : (c d : ℕ) → IfSome (two c d) (λ y. c ∷ d ∷ [] ≡ symbol_text y)
two_text c d =
    let P : Option Symbol → Type 0 = λ o. IfSome o (λ y. c ∷ d ∷ [] ≡ symbol_text y) in
    branch P ((c == 42) && (d == 42)) _ _ (pair c d 42 42) (λ _. branch P ((c == 60) && (d == 60)) _ _ (pair c d 60 60)
    (λ _. branch P ((c == 62) && (d == 62)) _ _ (pair c d 62 62) (λ _. branch P ((c == 60) && (d == equals)) _ _ (pair c d 60 61)
    (λ _. branch P ((c == 62) && (d == equals)) _ _ (pair c d 62 61) (λ _. branch P ((c == equals) && (d == equals)) _ _ (pair c d 61 61)
    (λ _. branch P ((c == 33) && (d == equals)) _ _ (pair c d 33 61) (λ _. branch P ((c == 38) && (d == 38)) _ _ (pair c d 38 38)
    (λ _. branch P ((c == 124) && (d == 124)) _ _ (pair c d 124 124) (λ _. tt)))))))))

pub one_text : (c : ℕ) → IfSome (one c) (λ y. c ∷ [] ≡ symbol_text y)
one_text c =
    let P : Option Symbol → Type 0 = λ o. IfSome o (λ y. c ∷ [] ≡ symbol_text y) in
    branch P (c == 42) _ _ (lone c 42) (λ _. branch P (c == 47) _ _ (lone c 47) (λ _. branch P (c == 37) _ _ (lone c 37)
    (λ _. branch P (c == 43) _ _ (lone c 43) (λ _. branch P (c == 45) _ _ (lone c 45) (λ _. branch P (c == 60) _ _ (lone c 60)
    (λ _. branch P (c == 62) _ _ (lone c 62) (λ _. branch P (c == 38) _ _ (lone c 38) (λ _. branch P (c == 94) _ _ (lone c 94)
    (λ _. branch P (c == 124) _ _ (lone c 124) (λ _. branch P (c == 63) _ _ (lone c 63) (λ _. branch P (c == 58) _ _ (lone c 58)
    (λ _. branch P (c == 44) _ _ (lone c 44) (λ _. branch P (c == 41) _ _ (lone c 41) (λ _. tt))))))))))))))

pub one_front : (o : Option Symbol) (c : ℕ) (rest : List ℕ) → IfSome o (λ y. c ∷ [] ≡ symbol_text y) → IfSome (with_rest o rest) (λ x. c ∷ rest ≡ symbol_text x.0 ++ x.1)
one_front None c rest h = tt
one_front (Some y) c rest h = ap (λ (z : List ℕ). z ++ rest) h

pub two_front : (o : Option Symbol) (c d : ℕ) (cs : List ℕ) → IfSome o (λ y. c ∷ d ∷ [] ≡ symbol_text y) → IfSome (or_one o c d cs) (λ x. c ∷ d ∷ cs ≡ symbol_text x.0 ++ x.1)
two_front (Some y) c d cs h = ap (λ (z : List ℕ). z ++ cs) h
two_front None c d cs h = one_front (one c) c (d ∷ cs) (one_text c)

pub symbol_front : (here : List ℕ) → IfSome (symbol_at here) (λ x. here ≡ symbol_text x.0 ++ x.1)
symbol_front [] = tt
symbol_front (c ∷ []) = one_front (one c) c [] (one_text c)
symbol_front (c ∷ d ∷ cs) = two_front (two c d) c d cs (two_text c d)

-- how a symbol is spelled: by one character, by two, or as a run
pub data Kind (y : Symbol) : Type 0 where
  one_char : (c : ℕ) → symbol_text y ≡ c ∷ [] → one c ≡ Some y → Kind y
  two_chars : (c d : ℕ) → symbol_text y ≡ c ∷ d ∷ [] → two c d ≡ Some y → ((cs : List ℕ) → prefix c (d ∷ cs) ≡ None) → Kind y
  run : (c : ℕ) (cs : List ℕ) → symbol_text y ≡ c ∷ cs → is_run_char c ≡ true → Kind y

pub binary_kind : (op : BinaryOp) → Kind (symbol.Binary op)
binary_kind binary.Times = one_char 42 refl refl
binary_kind binary.Divide = one_char 47 refl refl
binary_kind binary.Remainder = one_char 37 refl refl
binary_kind binary.Add = one_char 43 refl refl
binary_kind binary.Subtract = one_char 45 refl refl
binary_kind binary.Less = one_char 60 refl refl
binary_kind binary.Greater = one_char 62 refl refl
binary_kind binary.BitAnd = one_char 38 refl refl
binary_kind binary.BitXor = one_char 94 refl refl
binary_kind binary.BitOr = one_char 124 refl refl
binary_kind binary.ShiftLeft = two_chars 60 60 refl refl (λ cs. refl)
binary_kind binary.ShiftRight = two_chars 62 62 refl refl (λ cs. refl)
binary_kind binary.LessEqual = two_chars 60 61 refl refl (λ cs. refl)
binary_kind binary.GreaterEqual = two_chars 62 61 refl refl (λ cs. refl)
binary_kind binary.Equal = two_chars 61 61 refl refl (λ cs. refl)
binary_kind binary.NotEqual = two_chars 33 61 refl refl (λ cs. refl)
binary_kind binary.And = two_chars 38 38 refl refl (λ cs. refl)
binary_kind binary.Or = two_chars 124 124 refl refl (λ cs. refl)
binary_kind binary.TextEqual = run 101 _ refl refl
binary_kind binary.TextNotEqual = run 110 _ refl refl
binary_kind binary.In = run 105 _ refl refl
binary_kind binary.NotIn = run 110 _ refl refl

pub kind_of : (y : Symbol) → Kind y
kind_of (symbol.Binary op) = binary_kind op
kind_of symbol.Power = two_chars 42 42 refl refl (λ cs. refl)
kind_of symbol.Question = one_char 63 refl refl
kind_of symbol.Colon = one_char 58 refl refl
kind_of symbol.Comma = one_char 44 refl refl
kind_of symbol.Close = one_char 41 refl refl

pub some_length : (y : Symbol) → Kind y → 1 ≤ length (symbol_text y)
some_length y (one_char c t e) = omega (arith, ap length t)
some_length y (two_chars c d t e n) = omega (arith, ap length t)
some_length y (run c cs t e) = omega (arith, ap length t)

-- what stands at the front of `here`, its text being known
pub at_front : (here text behind : List ℕ) (y : Symbol) → here ≡ symbol_text y ++ behind → symbol_text y ≡ text → here ≡ text ++ behind
at_front here text behind y e t = e ∙ ap (λ (z : List ℕ). z ++ behind) t

pub two_read : (c d : ℕ) (y : Symbol) (rest : List ℕ) → two c d ≡ Some y → symbol_at (c ∷ d ∷ rest) ≡ Some (y, rest)
two_read c d y rest e = ap (λ o. or_one o c d rest) e

pub run_clash : (here cs : List ℕ) (c : ℕ) → here ≡ c ∷ cs → is_run_char c ≡ true → begins_run here ≡ false → ⊥
run_clash here cs c e r n = no_clash (is_run_char c) r (ap begins_run (sym e) ∙ n)

pub first_symbol : Symbol → Option (Symbol × List ℕ) → Symbol
first_symbol y None = y
first_symbol y (Some x) = x.0

pub same_length : (o : Option (Symbol × List ℕ)) (z y : Symbol) (a b : List ℕ) → o ≡ Some (z, a) → o ≡ Some (y, b) → length (symbol_text z) ≤ length (symbol_text y)
unfolding first_symbol
same_length o z y a b d e =
    let same : z ≡ y = sym (ap (first_symbol z) d) ∙ ap (first_symbol z) e in
    let n : length (symbol_text z) ≡ length (symbol_text y) = ap (λ w. length (symbol_text w)) same in
    omega (arith, n)

-- what is read is the longest
pub longest : (here : List ℕ) (z : Symbol) (behind : List ℕ) (y : Symbol) (rest : List ℕ) → Kind z → here ≡ symbol_text z ++ behind → begins_run here ≡ false → symbol_at here ≡ Some (y, rest) → length (symbol_text z) ≤ length (symbol_text y)
longest here z behind y rest (one_char c t k) j n e = omega (arith, ap length t, some_length y (kind_of y))
longest here z behind y rest (two_chars c d t k p) j n e = same_length (symbol_at here) z y behind rest (ap symbol_at (at_front here (c ∷ d ∷ []) behind z j t) ∙ two_read c d z behind k) e
longest here z behind y rest (run c cs t r) j n e = absurd (run_clash here (cs ++ behind) c (at_front here (c ∷ cs) behind z j t) r n)

pub symbol_spelled : (here : List ℕ) (y : Symbol) (rest : List ℕ) → begins_run here ≡ false → symbol_at here ≡ Some (y, rest) → IsSymbol y here rest
symbol_spelled here y rest n e =
    let P : Option (Symbol × List ℕ) → Type 0 = λ o. IfSome o (λ x. here ≡ symbol_text x.0 ++ x.1) in
    record {
      joined = subst P e (symbol_front here);
      no_run = n;
      longest = λ z behind f. longest here z behind y rest (kind_of z) f n e;
    }

-- the longest is read
pub single_of : (o : Option Symbol) (c d : ℕ) (ds : List ℕ) (y : Symbol) → IfSome o (λ z. c ∷ d ∷ [] ≡ symbol_text z) → one c ≡ Some y → NoLonger (c ∷ d ∷ ds) 1 → or_one o c d ds ≡ Some (y, d ∷ ds)
single_of None c d ds y h e w = ap (λ o. with_rest o (d ∷ ds)) e
single_of (Some z) c d ds y h e w =
    let n : 2 ≡ length (symbol_text z) = ap length h in
    let le : length (symbol_text z) ≤ 1 = w z ds (ap (λ (z : List ℕ). z ++ ds) h) in
    absurd (omega (arith, n, le))

pub single : (c : ℕ) (rest : List ℕ) (y : Symbol) → one c ≡ Some y → NoLonger (c ∷ rest) 1 → symbol_at (c ∷ rest) ≡ Some (y, rest)
single c [] y e w = ap (λ o. with_rest o []) e
single c (d ∷ ds) y e w = single_of (two c d) c d ds y (two_text c d) e w

pub symbol_read : (here : List ℕ) (y : Symbol) (rest : List ℕ) → Kind y → here ≡ symbol_text y ++ rest → begins_run here ≡ false → NoLonger here (length (symbol_text y)) → symbol_at here ≡ Some (y, rest)
symbol_read here y rest (one_char c t k) j n w =
    let f = at_front here (c ∷ []) rest y j t in
    ap symbol_at f ∙ single c rest y k (λ z behind g. let le = w z behind (f ∙ g) in omega (arith, le, ap length t))
symbol_read here y rest (two_chars c d t k p) j n w = ap symbol_at (at_front here (c ∷ d ∷ []) rest y j t) ∙ two_read c d y rest k
symbol_read here y rest (run c cs t r) j n w = absurd (run_clash here (cs ++ rest) c (at_front here (c ∷ cs) rest y j t) r n)

pub symbol_is : (here : List ℕ) (y : Symbol) (rest : List ℕ) → IsSymbol y here rest → symbol_at here ≡ Some (y, rest)
symbol_is here y rest i = symbol_read here y rest (kind_of y) i.joined i.no_run i.longest

-- none is read where none stands, and only there
pub none_stands : (here : List ℕ) (o : Option (Symbol × List ℕ)) → symbol_at here ≡ o → NoSymbol here → o ≡ None
none_stands here None e n = refl
none_stands here (Some x) e n = let P : Option (Symbol × List ℕ) → Type 0 = λ o. IfSome o (λ x. here ≡ symbol_text x.0 ++ x.1) in absurd (n x.0 x.1 (subst P e (symbol_front here)))

pub not_none : (o : Option (Symbol × List ℕ)) (x : Symbol × List ℕ) → o ≡ Some x → o ≡ None → ⊥
not_none o x e f = absurd cc

pub or_one_some : (o : Option Symbol) (c d : ℕ) (ds : List ℕ) (y : Symbol) → one c ≡ Some y → or_one o c d ds ≡ None → ⊥
or_one_some (Some z) c d ds y e f = absurd cc
or_one_some None c d ds y e f = not_none _ (y, d ∷ ds) (ap (λ o. with_rest o (d ∷ ds)) e) f

pub single_seen : (c : ℕ) (rest : List ℕ) (y : Symbol) → one c ≡ Some y → symbol_at (c ∷ rest) ≡ None → ⊥
single_seen c [] y e f = not_none _ (y, []) (ap (λ o. with_rest o []) e) f
single_seen c (d ∷ ds) y e f = or_one_some (two c d) c d ds y e f

pub symbol_seen : (here : List ℕ) (y : Symbol) (behind : List ℕ) → Kind y → here ≡ symbol_text y ++ behind → begins_run here ≡ false → symbol_at here ≡ None → ⊥
symbol_seen here y behind (one_char c t k) j n e = single_seen c behind y k (ap symbol_at (sym (at_front here (c ∷ []) behind y j t)) ∙ e)
symbol_seen here y behind (two_chars c d t k p) j n e = not_none _ (y, behind) (ap symbol_at (at_front here (c ∷ d ∷ []) behind y j t) ∙ two_read c d y behind k) e
symbol_seen here y behind (run c cs t r) j n e = run_clash here (cs ++ behind) c (at_front here (c ∷ cs) behind y j t) r n

pub none_there : (here : List ℕ) → begins_run here ≡ false → symbol_at here ≡ None → NoSymbol here
none_there here n e y behind f = symbol_seen here y behind (kind_of y) f n e

-- a longer operator is no unary one
unfoldable pub prefix_of : List ℕ → Option UnaryOp
prefix_of [] = None
prefix_of (c ∷ cs) = prefix c cs

pub none_prefix : (o : Option UnaryOp) (u : UnaryOp) → o ≡ None → o ≡ Some u → ⊥
none_prefix o u e f = absurd cc

pub unary_longest : (here : List ℕ) (y : Symbol) (behind : List ℕ) (u : UnaryOp) → Kind y → here ≡ symbol_text y ++ behind → begins_run here ≡ false → prefix_of here ≡ Some u → length (symbol_text y) ≤ 1
unfolding prefix_of
unary_longest here y behind u (one_char c t k) j n e = omega (arith, ap length t)
unary_longest here y behind u (two_chars c d t k p) j n e = absurd (none_prefix (prefix_of here) u (ap prefix_of (at_front here (c ∷ d ∷ []) behind y j t) ∙ p behind) e)
unary_longest here y behind u (run c cs t r) j n e = absurd (run_clash here (cs ++ behind) c (at_front here (c ∷ cs) behind y j t) r n)
