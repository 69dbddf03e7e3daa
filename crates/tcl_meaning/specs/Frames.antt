-- Frames: the variables of the global script and of each procedure that runs. proc(n), uplevel(n), upvar(n).
use Rattle.std.specs.Prelude.{ℕ, zero, suc, ◌==◌, List, [], ◌∷◌, Option, Some, None, if◌then◌else◌}
use Rattle.std.specs.FinMap as map
use Rattle.tcl_names.specs.Named.{Named}
use Rattle.tcl_pages.specs.Texts.{Text}

-- A variable holds a text, or it is an array of texts: array(n), DESCRIPTION.
pub data Variable : Type 0 where
  text : Text → Variable
  array : Named Text → Variable

abbrev pub Variables : Type 0
Variables = Named Variable

-- The variable as a whole, its element of an index, or an element of an element, which never holds anything.
pub data Part : Type 0 where
  whole : Part
  element : Text → Part
  deeper : Part

-- a place for a text: a frame, a name in it, and which part of the variable is meant
pub record Spot : Type 0 where
  pub frame : ℕ
  pub name : Text
  pub part : Part

-- A frame has the frame that called it, a level, which is the count of its callers, its variables, and the names in it
-- that are links to other places.
pub record Frame : Type 0 where
  pub caller : ℕ
  pub level : ℕ
  pub variables : Variables
  pub links : Named Spot

-- the frame of the global variables
abbrev pub global_frame : Variables → Frame
global_frame vs = record { caller = 0; level = 0; variables = vs; links = map.empty }

-- ---- frames by their places in the list, the global one first

abbrev pub frame_at : List Frame → ℕ → Frame
frame_at [] i = global_frame map.empty
frame_at (f ∷ fs) zero = f
frame_at (f ∷ fs) (suc i) = frame_at fs i

abbrev pub set_frame : List Frame → ℕ → Frame → List Frame
set_frame [] i g = []
set_frame (f ∷ fs) zero g = g ∷ fs
set_frame (f ∷ fs) (suc i) g = f ∷ set_frame fs i g

-- ---- levels

-- so many callers up, or the frame of this level: uplevel(n)
pub data Level : Type 0 where
  up : ℕ → Level
  at : ℕ → Level

-- the frame i, its caller, that one's caller, and so on, n of them behind it
abbrev pub chain_of : ℕ → List Frame → ℕ → List ℕ
chain_of zero fs i = i ∷ []
chain_of (suc n) fs i = i ∷ chain_of n fs (frame_at fs i).caller

-- the frame i and all its callers
abbrev pub chain : List Frame → ℕ → List ℕ
chain fs i = chain_of (frame_at fs i).level fs i

abbrev pub nth : ℕ → List ℕ → Option ℕ
nth n [] = None
nth zero (i ∷ is) = Some i
nth (suc n) (i ∷ is) = nth n is

-- the one among these frames whose level is n
abbrev pub of_level : List Frame → ℕ → List ℕ → Option ℕ
of_level fs n [] = None
of_level fs n (i ∷ is) = if (frame_at fs i).level == n then Some i else of_level fs n is

-- the frame that a level means for the frame i, if it is i or one of its callers
abbrev pub frame_of_level : List Frame → ℕ → Level → Option ℕ
frame_of_level fs i (up k) = nth k (chain fs i)
frame_of_level fs i (at n) = of_level fs n (chain fs i)
