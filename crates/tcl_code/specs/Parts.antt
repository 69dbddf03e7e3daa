-- Parts of a code: which shapes they lead between, and what they do wherever they stand. In a dialect of numbers.
use Rattle.std.specs.Prelude.{◌≡◌, ℕ, ◌+◌, ◌≤◌, List, [], ◌∷◌, length, Some, slice_get}
use Rattle.tcl_chars.specs.declared.numbers.Dialect.{Dialect}
use Rattle.tcl_pages.specs.Texts.{Text}
use Rattle.tcl_meaning.specs.Completions.{Completion}
use Rattle.tcl_meaning.specs.State.{State}
use Rattle.tcl_meaning.specs.Effects.{Got, Gives, Broke, Exits, Untold, Prog, exec}
use Rattle.tcl_meaning.specs.Script.{Run}
use Rattle.tcl_meaning.specs.Tasks.{Task}
use Rattle.tcl_meaning.specs.Value.{Value, Has, Fails}
use Rattle.tcl_code.specs.Instructions.{Instruction}
use Rattle.tcl_code.specs.Machine.{Loop, Stack, with_result, Spot, spot, text_at, result_at, Next, Outcome, Ended, thrown, landed, exec_code}
use Rattle.tcl_code.specs.Valid.{Shape, shape, IsFine, ways_of, EachWay, IsInside, target, bare, Valid}

-- ---- shapes

-- These instructions, wherever they stand, find what they need from one shape on, lead to one another or just behind
-- the last, and agree with a table of shapes, which there is another one.
pub record Fits (c : List Instruction) (s t : Shape) : Type 0 where
  pub at : ℕ → Shape
  pub starts : at 0 ≡ s
  pub ends : at (length c) ≡ t
  pub each : (n : ℕ) (i : Instruction) → slice_get c n ≡ Some i → IsFine i (at n) × EachWay (λ k u. IsInside n (length c) k × (at (target n k) ≡ u)) (ways_of i (at n))

-- they leave one text more
abbrev pub Adds : List Instruction → Type 0
Adds c = (h l d p o : ℕ) → Fits c (shape h l d p o) (shape (h + 1) l d p o)

-- or as many
abbrev pub Keeps : List Instruction → Type 0
Keeps c = (h l d p o : ℕ) → Fits c (shape h l d p o) (shape h l d p o)

-- or as many, and a command less that is paid for
abbrev pub Pays : List Instruction → Type 0
Pays c = (h l d p o : ℕ) → Fits c (shape h l d (p + 1) o) (shape h l d p o)

-- a code that fits from nothing to a result is valid
abbrev pub FitsIsValid : Type 0
FitsIsValid = (code : List Instruction) → Fits code bare bare → Valid code

-- ---- what they do

-- the instructions stand in the code at this place
abbrev pub HasAt : List Instruction → ℕ → List Instruction → Type 0
HasAt code at [] = Unit {0}
HasAt code at (i ∷ is) = (slice_get code at ≡ Some i) × HasAt code (at + 1) is

-- a value comes to a spot; what stands in its place is thrown, where these loops' bodies run
abbrev pub value_landed : {A : Type 0} → Next → List Loop → (A → Spot) → Got (Value A) → Outcome
value_landed next os to (Gives (Has a) s) = next (to a) s
value_landed next os to (Gives (Fails c) s) = thrown next os c s
value_landed next os to (Broke r) = Ended (Broke r)
value_landed next os to (Exits n r) = Ended (Exits n r)
value_landed next os to (Untold c) = Ended (Untold c)

module _ (dialect : Dialect) where
  -- from one spot the machine comes to what a program gives, and its value to another spot, where these loops' bodies run
  pub record LandsValue {A : Type 0} (code : List Instruction) (os : List Loop) (p : Spot) (s : State) (to : A → Spot) (got : Got (Value A)) : Type 0 where
    pub by : (k : ℕ) → (j : ℕ) × (k ≤ j) × (exec_code dialect code j p s ≡ value_landed (exec_code dialect code k) os to got)

  -- the same, where a command's completion comes to it
  pub record Lands (code : List Instruction) (os : List Loop) (p : Spot) (s : State) (to : Completion → Spot) (got : Got Completion) : Type 0 where
    pub by : (k : ℕ) → (j : ℕ) × (k ≤ j) × (exec_code dialect code j p s ≡ landed (exec_code dialect code k) os to got)

  -- These instructions, wherever they stand, do what the program of the depth does, and leave its text on the stack; from
  -- each shape they lead to that with one text more.
  pub record Does (c : List Instruction) (f : ℕ → Prog Task (Value Text)) : Type 0 where
    pub from : (code : List Instruction) (at : ℕ) (stack : Stack) (d : ℕ) (s : State) → HasAt code at c → LandsValue code stack.loops (spot at stack d) s (text_at (at + length c) stack d) (exec (Run dialect) (f d) s)
    pub adds : Adds c

  -- these do what a command of the depth does that has been paid for, in place of the script's last completion
  pub record Runs (c : List Instruction) (f : ℕ → Prog Task Completion) : Type 0 where
    pub from : (code : List Instruction) (at : ℕ) (last : Completion) (stack : Stack) (d : ℕ) (s : State) → HasAt code at c → Lands code stack.loops (spot at (with_result last stack) d) s (result_at (at + length c) stack d) (exec (Run dialect) (f d) s)
    pub pays : Pays c
