-- What the parts of a script's code do. In a dialect of numbers.
use Rattle.std.specs.Prelude.{◌≡◌, ℕ, ◌+◌, ◌≤◌, Bool, true, false, List, [], ◌∷◌, ◌++◌, length}
use Rattle.std.specs.List.{concat}
use Rattle.tcl_chars.specs.declared.numbers.Dialect.{Dialect}
use Rattle.tcl_words.specs.Parts.{Part, Shape}
use Rattle.tcl_pages.specs.Texts.{Text}
use Rattle.tcl_meaning.specs.declared.code.Code.TheVariants as ending
use Rattle.tcl_meaning.specs.Completions.{Completion, code_now}
use Rattle.tcl_meaning.specs.State.{State}
use Rattle.tcl_meaning.specs.Effects.{Prog, exec, ◌>>=◌ as andthen}
use Rattle.tcl_meaning.specs.Script.{Run, most_depth, with_words}
use Rattle.tcl_meaning.specs.Substitution.{pieces_text, words_text}
use Rattle.tcl_meaning.specs.Tasks.{Task, Script}
use Rattle.tcl_meaning.specs.Value.{Value, ◌>>=◌, give, behind}
use Rattle.tcl_code.specs.Instructions.{Instruction, Push, Gather, Add, AddAll, CallGathered}
use Rattle.tcl_code.specs.Machine.{Texts, Stack, stack_of, with_result, text_at, result_at, spot}
use Rattle.tcl_code.specs.Valid.{shape}
use Rattle.tcl_code.specs.Parts.{Fits, Keeps, HasAt, LandsValue, Lands}

-- ---- stacks

-- texts above those that are there, the newest on top
abbrev pub onto : Texts → Texts → Texts
onto [] stack = stack
onto (t ∷ ts) stack = onto ts (t ∷ stack)

abbrev pub stacked : Texts → Stack → Stack
stacked ts stack = stack_of (onto ts stack.texts) stack.lists stack.results stack.loops

-- a list of words is there
abbrev pub gathered : Texts → Stack → Stack
gathered ts stack = stack_of stack.texts (ts ∷ stack.lists) stack.results stack.loops

-- ---- what is left

-- the pieces that are left, behind texts that are there
abbrev pub pieces_value : ℕ → Texts → List Part → Prog Task (Value Text)
pieces_value d ts ps = behind (concat ts) (pieces_text d ps)

-- a word that is there, or all elements of its text
abbrev pub adding : Bool → Instruction
adding true = AddAll
adding false = Add

-- the call of the command whose words are the elements of a list
abbrev pub call_of_list : Text → List Instruction
call_of_list list = Gather ∷ Push list ∷ AddAll ∷ CallGathered ∷ []

-- no word has `{*}` in front
abbrev pub Plain : List Shape → Type 0
Plain [] = Unit {0}
Plain (w ∷ ws) = (w.expands ≡ false) × Plain ws

module _ (dialect : Dialect) where
  -- the words that are left, behind words that are there, and their command
  abbrev pub words_value : ℕ → Texts → List Shape → Prog Task Completion
  words_value d ts ws = andthen (words_text d ws >>= λ more. give (ts ++ more)) (with_words dialect d)

  -- ---- parts

  -- these instructions substitute the pieces that are left of n, and join all
  pub record Joins (n : ℕ) (c : List Instruction) (ps : List Part) : Type 0 where
    pub from : (code : List Instruction) (at : ℕ) (ts : Texts) (stack : Stack) (d : ℕ) (s : State) → length ts + length ps ≡ n → HasAt code at c → LandsValue dialect code stack.loops (spot at (stacked ts stack) d) s (text_at (at + length c) stack d) (exec (Run dialect) (pieces_value d ts ps) s)
    pub adds : (h k l d p o : ℕ) → k + length ps ≡ n → Fits c (shape (h + k) l d p o) (shape (h + 1) l d p o)

  -- these substitute the words that are left of n, and run the command
  pub record Calls (n : ℕ) (c : List Instruction) (ws : List Shape) : Type 0 where
    pub from : (code : List Instruction) (at : ℕ) (ts : Texts) (r : Completion) (stack : Stack) (d : ℕ) (s : State) → length ts + length ws ≡ n → HasAt code at c → Lands dialect code stack.loops (spot at (stacked ts (with_result r stack)) d) s (result_at (at + length c) stack d) (exec (Run dialect) (words_value d ts ws) s)
    pub pays : (h k l d p o : ℕ) → k + length ws ≡ n → Fits c (shape (h + k) l d (p + 1) o) (shape h l d p o)

  -- these substitute the words that are left, add them to the newest list of words, and run the command
  pub record Gathers (c : List Instruction) (ws : List Shape) : Type 0 where
    pub from : (code : List Instruction) (at : ℕ) (ts : Texts) (r : Completion) (stack : Stack) (d : ℕ) (s : State) → HasAt code at c → Lands dialect code stack.loops (spot at (gathered ts (with_result r stack)) d) s (result_at (at + length c) stack d) (exec (Run dialect) (words_value d ts ws) s)
    pub pays : (h l d p o : ℕ) → Fits c (shape h (l + 1) d (p + 1) o) (shape h l d p o)

  -- these do the commands of a text, in place of the script's last completion, which is ok
  pub record Follows (c : List Instruction) (t : Text) : Type 0 where
    pub from : (code : List Instruction) (at : ℕ) (last : Completion) (stack : Stack) (d : ℕ) (s : State) → code_now last ≡ ending.Ok → d ≤ most_depth → HasAt code at c → Lands dialect code stack.loops (spot at (with_result last stack) d) s (result_at (at + length c) stack d) (Run dialect (Script d last t) s)
    pub keeps : Keeps c

-- ---- code that grows

-- it has grown by a part of which P holds
abbrev pub Grown : (List Instruction → Type 0) → List Instruction → List Instruction → Type 0
Grown P old new = (c : List Instruction) × (new ≡ old ++ c) × P c

-- it has grown by a part behind which a part with R makes one with P
abbrev pub Leads : (List Instruction → Type 0) → (List Instruction → Type 0) → List Instruction → List Instruction → Type 0
Leads R P old new = Grown (λ c. (more : List Instruction) → R more → P (c ++ more)) old new

-- behind the beginning of a list of words
abbrev pub Begun : (List Instruction → Type 0) → List Instruction → Type 0
Begun P old = (c : List Instruction) × (c ≡ old ++ Gather ∷ []) × P c
