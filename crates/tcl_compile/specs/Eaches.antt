-- `foreach` and `lmap`, inlined.
use Rattle.std.specs.Prelude.{◌≡◌, ◌<◌, ◌+◌, ℕ, Bool, true, false, List, [], ◌∷◌, ◌++◌, length, map, drop, Ok}
use Rattle.tcl_chars.specs.declared.numbers.Dialect.{Dialect}
use Rattle.tcl_list.specs.Elements.{elements_of}
use Rattle.tcl_list.specs.Texts as texts
use Rattle.tcl_words.specs.Parts.{Shape}
use Rattle.tcl_pages.specs.Texts.{Text}
use Rattle.tcl_meaning.specs.Completions.{Completion}
use Rattle.tcl_meaning.specs.Effects.{Prog, exec}
use Rattle.tcl_meaning.specs.Script.{Run}
use Rattle.tcl_meaning.specs.State.{State}
use Rattle.tcl_meaning.specs.Tasks.{Task}
use Rattle.tcl_code.specs.Guards.{name_of}
use Rattle.tcl_code.specs.Instructions.{Instruction, Push, Gather, TakeFirst, Listed, Write}
use Rattle.tcl_code.specs.Machine.{Stack, with_result, result_at, spot}
use Rattle.tcl_code.specs.Parts.{Fits, HasAt, Lands}
use Rattle.tcl_code.specs.Valid.{shape}
use Rattle.tcl_code.specs.declared.inlined.Inlined.{Inlined}
use Rattle.tcl_code.specs.declared.inlined.Inlined.TheVariants as inlined
use Rattle.tcl_compile.specs.Forms.{page_does}
use Rattle.tcl_compile.specs.Fragments.{words_value, stacked}
use Rattle.tcl_compile.specs.Literals.{IsLiteral, text_of}
use Rattle.tcl_compile.specs.declared.each.EachForm.{EachForm}

-- that of a loop over lists; `lmap` gathers what its turns result in
abbrev pub each_command : Bool → Inlined
each_command true = inlined.Lmap
each_command false = inlined.Foreach

-- ---- words

-- the names are the elements of their list, and there is one
abbrev pub AreNames : Text → List Text → Type 0
AreNames list names = (elements_of list ≡ Ok names) × (0 < length names)

-- a literal word that is a list of these names
abbrev pub IsNameList : Shape → List Text → Type 0
IsNameList w names = (list : Text) × IsLiteral w list × AreNames list names

-- behind the command's name: lists of names, which are these together, each with a word behind it, and the body
abbrev pub AreListWords : List Text → Text → List Shape → Type 0
AreListWords names body [] = ⊥
AreListWords names body (w ∷ []) = (names ≡ []) × IsLiteral w body
AreListWords names body (w0 ∷ w1 ∷ ws) = (ns : List Text) × (more : List Text) × (names ≡ ns ++ more) × IsNameList w0 ns × AreListWords more body ws

abbrev pub AreEachWords : Bool → List Text → Text → List Shape → Type 0
AreEachWords gathers names body [] = ⊥
AreEachWords gathers names body (w ∷ ws) = IsLiteral w (name_of (each_command gathers)) × (0 < length names) × AreListWords names body ws

abbrev pub IsEach : EachForm → List Shape → Type 0
IsEach f ws = AreEachWords f.gathers (map texts.text_of f.names.items) (text_of f.body) ws

-- ---- texts of words

-- that of a literal word is its own
abbrev pub AreTexts : List Shape → List Text → Type 0
AreTexts [] [] = Unit {0}
AreTexts (w ∷ ws) (t ∷ ts) = ((u : Text) → IsLiteral w u → t ≡ u) × AreTexts ws ts
AreTexts _ _ = ⊥

-- lists of names, which are these together, each with a text behind it, and the body
abbrev pub AreListTexts : List Text → Text → List Text → Type 0
AreListTexts names body [] = ⊥
AreListTexts names body (t ∷ []) = (names ≡ []) × (t ≡ body)
AreListTexts names body (list ∷ t ∷ ts) = (ns : List Text) × (more : List Text) × (names ≡ ns ++ more) × AreNames list ns × AreListTexts more body ts

abbrev pub AreEachTexts : Bool → List Text → Text → List Text → Type 0
AreEachTexts gathers names body [] = ⊥
AreEachTexts gathers names body (t ∷ ts) = (t ≡ name_of (each_command gathers)) × (0 < length names) × AreListTexts names body ts

-- ---- code

-- a list of results begins, if they are gathered
abbrev pub each_begin : Bool → List Instruction
each_begin true = Gather ∷ []
each_begin false = []

-- the text of what the loop answers: the list of them, or nothing
abbrev pub each_end : Bool → Instruction
each_end true = Listed
each_end false = Push []

-- each name gets the next element
abbrev pub takes : List Text → List Instruction
takes [] = []
takes (n ∷ ns) = TakeFirst ∷ Write n ∷ takes ns

module _ (dialect : Dialect) where
  -- these substitute the words that are left of n, where the texts of those in front are there, and do the command
  pub record Tells (n : ℕ) (all : List Shape) (c : List Instruction) (ws : List Shape) : Type 0 where
    pub from : (code : List Instruction) (at : ℕ) (front : List Shape) (ts : List Text) (r : Completion) (stack : Stack) (d : ℕ) (s : State) → all ≡ front ++ ws → AreTexts front ts → length ts + length ws ≡ n → HasAt code at c
        → Lands dialect code stack.loops (spot at (stacked ts (with_result r stack)) d) s (result_at (at + length c) stack d) (exec (Run dialect) (words_value dialect d ts ws) s)
    pub pays : (h k l d p o : ℕ) → k + length ws ≡ n → Fits c (shape (h + k) l d (p + 1) o) (shape h l d p o)

  -- these do what a program does with the n texts on top, of which P holds, in place of the script's last completion
  pub record UsesAll (n : ℕ) (P : List Text → Type 0) (c : List Instruction) (f : ℕ → List Text → Prog Task Completion) : Type 0 where
    pub from : (code : List Instruction) (at : ℕ) (ts : List Text) (last : Completion) (stack : Stack) (d : ℕ) (s : State) → P ts → length ts ≡ n → HasAt code at c → Lands dialect code stack.loops (spot at (stacked ts (with_result last stack)) d) s (result_at (at + length c) stack d) (exec (Run dialect) (f d ts) s)
    pub fits : (h l d p o : ℕ) → Fits c (shape (h + n) l d p o) (shape h l d p o)

-- the words that are left of a command
abbrev pub TextsLeft : Dialect → List Shape → List Shape → List Instruction → Type 0
TextsLeft dialect all ws c = Tells dialect (length all) all c ws

-- of such a loop of n words, behind its guard, where the texts of the words are there
abbrev pub EachCode : Dialect → Bool → ℕ → List Text → Text → List Instruction → Type 0
EachCode dialect gathers n names body c = UsesAll dialect n (AreEachTexts gathers names body) c (λ d ts. page_does dialect (each_command gathers) (drop 1 ts) d)
