-- What the parser of commands answers, and pieces seen as parts.
use Rattle.std.proofs.Common.{rules, ◌≡◌, ℕ, zero, suc, List, [], ◌∷◌, get_or, drop, map, refl, sym, ap, ◌∙◌, subst}
use Rattle.std.specs.Prelude.{Vec}
use Rattle.std.specs.declared.alloc.Global.{Global}
use Rattle.std.specs.Str.{chars}
use Rattle.tcl_words.specs.Parts.{part_of, text, escape, var, elem_, bracket, parts_of, stretch_of, Shape, shape_of}
use Rattle.tcl_words.specs.declared.word.Span.{Span}
use Rattle.tcl_words.specs.declared.word.Piece.{Piece, Elem, the_lemmas}
use Rattle.tcl_words.specs.declared.word.Piece as piece
use Rattle.tcl_words.specs.First.{First, none, malformed, command, IsParsed}
use Rattle.tcl_words.specs.declared.fault.Syntax.{Syntax}
use Rattle.tcl_words.specs.declared.word.Word.{Word}
use Rattle.tcl_words.specs.declared.word.Parsed.{Parsed}
use Rattle.tcl_words.specs.declared.word.Parsed.TheVariants as parsed
use Rattle.tcl_words.proofs.Verbatim.{escape_seen, text_seen}

abbrev Words : Type 0
Words = Vec Word Global

pub record HasEnd (f : First) : Type 0 where
  pub rest : List ℕ
  pub is : f ≡ none rest

end_of : (bs : List ℕ) (at : ℕ) (f : First) → IsParsed bs (parsed.End at) f → HasEnd f
end_of bs at (none rest) h = record { rest = rest; is = refl }
end_of bs at (malformed m) h = absurd h
end_of bs at (command ws rest) h = absurd h

pub parsed_end : (bs : List ℕ) (p : Parsed) (at : ℕ) (f : First) → IsParsed bs p f → p ≡ parsed.End at → HasEnd f
parsed_end bs p at f h e = end_of bs at f (subst (λ q. IsParsed bs q f) e h)

bad_of : (bs : List ℕ) (m : Syntax) (f : First) → IsParsed bs (parsed.Bad m) f → f ≡ malformed m
bad_of bs m (none rest) h = absurd h
bad_of bs m (malformed n) h = ap malformed (sym h)
bad_of bs m (command ws rest) h = absurd h

pub parsed_bad : (bs : List ℕ) (p : Parsed) (m : Syntax) (f : First) → IsParsed bs p f → p ≡ parsed.Bad m → f ≡ malformed m
parsed_bad bs p m f h e = bad_of bs m f (subst (λ q. IsParsed bs q f) e h)

pub record HasCommand (bs : List ℕ) (shapes : List Shape) (at : ℕ) (f : First) : Type 0 where
  pub rest : List ℕ
  pub is : f ≡ command shapes rest
  pub left : chars (drop at bs) ≡ rest

command_of : (bs : List ℕ) (words : Words) (at : ℕ) (f : First) → IsParsed bs (parsed.Command words at) f → HasCommand bs (map shape_of words.items) at f
command_of bs words at (none rest) h = absurd h
command_of bs words at (malformed n) h = absurd h
command_of bs words at (command shapes rest) h = record { rest = rest; is = ap (λ x. command x rest) (sym h.0); left = h.1.left }

pub parsed_command : (bs : List ℕ) (p : Parsed) (words : Words) (at : ℕ) (f : First) → IsParsed bs p f → p ≡ parsed.Command words at → HasCommand bs (map shape_of words.items) at f
parsed_command bs p words at f h e = command_of bs words at f (subst (λ q. IsParsed bs q f) e h)

-- ---- lists seen through a function

pub map_at : {A B : Type 0} (f : A → B) (xs : List A) (i : ℕ) (x : A) → x ≡ get_or xs i x → f x ≡ get_or (map f xs) i (f x)
map_at f [] i x e = refl
map_at f (y ∷ ys) zero x e = ap f e
map_at f (y ∷ ys) (suc i) x e = map_at f ys i x e

var_part : (s name : Span) → part_of (piece.Var s name) ≡ var (stretch_of s) (stretch_of name)
var_part s name = search (rules, the_lemmas)

bracket_part : (s script : Span) → part_of (piece.Bracket s script) ≡ bracket (stretch_of s) (stretch_of script)
bracket_part s script = search (rules, the_lemmas)

pub part-text : (p : Piece) (s : Span) → p ≡ piece.Text s → part_of p ≡ text (stretch_of s)
part-text p s e = ap part_of e ∙ text_seen s

pub part-escape : (p : Piece) (s : Span) (c : ℕ) → p ≡ piece.Escape s c → part_of p ≡ escape (stretch_of s) c
part-escape p s c e = ap part_of e ∙ escape_seen s c

pub part-var : (p : Piece) (s name : Span) → p ≡ piece.Var s name → part_of p ≡ var (stretch_of s) (stretch_of name)
part-var p s name e = ap part_of e ∙ var_part s name

pub part-bracket : (p : Piece) (s script : Span) → p ≡ piece.Bracket s script → part_of p ≡ bracket (stretch_of s) (stretch_of script)
part-bracket p s script e = ap part_of e ∙ bracket_part s script

elem_part : (whole name : Span) (index : Vec Piece Global) → part_of (Elem whole name index) ≡ elem_ (stretch_of whole) (stretch_of name) (parts_of (map part_of index.items))
elem_part whole name index = search (rules, the_lemmas)

-- an element among the pieces is one among the parts
pub part-elem : (p : Piece) (whole name : Span) (index : Vec Piece Global) → p ≡ Elem whole name index → part_of p ≡ elem_ (stretch_of whole) (stretch_of name) (parts_of (map part_of index.items))
part-elem p whole name index e = ap part_of e ∙ elem_part whole name index
