-- Texts, as contracts and definitions write them. A text is the list of its characters.
use Prim.Native.String.{String}
use Rattle.std.specs.Prelude.{ℕ, Bool, nat_eq, List, codes}
use Rattle.std.specs.Cmp.Lexicographic.{pointwise, slice_cmp}
use Rattle.std.specs.Ordering.{nat_cmp}
use Rattle.std.specs.declared.cmp.Ordering.{Ordering}
use Rattle.std.specs.Rc.{rc_str_bytes}
use Rattle.std.specs.Str.{chars}
use Rattle.std.specs.declared.rc.RcStr.{RcStr}

-- Of a text that the code writes out. A definition says `literal "set"` where the code has "set", and the two are the same
-- with no proof. Where a proof has to see the characters, `literal_chars` of proofs/Literals gives them, for ASCII alone.
abbrev pub literal : String → List ℕ
literal text = chars (codes text)

-- of a shared text
abbrev pub text_of : {Z : Type 0} → RcStr Z → List ℕ
text_of s = chars (rc_str_bytes s)

-- are the texts the same
abbrev pub same_text : List ℕ → List ℕ → Bool
same_text = pointwise nat_eq

-- the order of texts: the first difference decides, by code points, and a beginning comes before what it begins
abbrev pub by_code_point : List ℕ → List ℕ → Ordering
by_code_point = slice_cmp nat_cmp
