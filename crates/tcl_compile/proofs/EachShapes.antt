-- The shapes of an inlined `foreach` or `lmap`.
use Rattle.std.proofs.Common.{◌≡◌, ℕ, ◌+◌, ◌-◌, ◌<◌, ◌≤◌, Bool, true, false, List, [], ◌∷◌, ◌++◌, length, refl, sym, ap, ◌∙◌, subst, arith, append_assoc, length-append, ⊎_elim}
use Rattle.std.proofs.lemmas.Bool.{cases_lt}
use Rattle.tcl_pages.specs.Texts.{Text}
use Rattle.tcl_code.specs.Instructions.{Instruction, Push, Gather, Deal, TakeFirst, SkipEmpty, DropList, Listed, Write, Answer, Skip, Turn}
use Rattle.tcl_code.specs.Parts.{Fits}
use Rattle.tcl_code.specs.Valid.{shape}
use Rattle.tcl_code.specs.declared.shape.Shape.{Shape as Standing}
use Rattle.tcl_code.proofs.Placing.{Stands, Placed, placed_joined, placed_fits, fits_placed}
use Rattle.tcl_code.proofs.Shapes.{fits_one, fits_none, fits_joined}
use Rattle.tcl_compile.specs.Eaches.{each_end, takes}
use Rattle.tcl_compile.proofs.Eaching.{dealt_code, each_code}
use Rattle.tcl_compile.proofs.Bodies.{Opens, piece, piece_front, piece_back, stands_at}

pub takes_fit : (names : List Text) (h l d p o : ℕ) → Fits (takes names) (shape h (l + 1) d p o) (shape h (l + 1) d p o)
takes_fit [] h l d p o = fits_none (shape h (l + 1) d p o)
takes_fit (n ∷ ns) h l d p o =
    fits_joined (TakeFirst ∷ []) (Write n ∷ takes ns) (shape h (l + 1) d p o) (shape (h + 1) (l + 1) d p o) (shape h (l + 1) d p o)
    (fits_one TakeFirst (shape h (l + 1) d p o) (shape (h + 1) (l + 1) d p o) _ (omega arith) refl (ap (λ m. shape m (l + 1) d p o) (omega arith)))
    (fits_joined (Write n ∷ []) (takes ns) (shape (h + 1) (l + 1) d p o) (shape h (l + 1) d p o) (shape h (l + 1) d p o)
    (fits_one (Write n) (shape (h + 1) (l + 1) d p o) (shape h (l + 1) d p o) _ (omega arith) refl (ap (λ m. shape m (l + 1) d p o) (omega arith)))
    (takes_fit ns h l d p o))

answer_fits : (h l d p o : ℕ) → Fits (Answer ∷ []) (shape (h + 1) l d p o) (shape h l d p o)
answer_fits h l d p o = fits_one Answer (shape (h + 1) l d p o) (shape h l d p o) _ (omega arith) refl (ap (λ m. shape m l d p o) (omega arith))

-- the turns, to where the list is dropped
abbrev turns_code : List Instruction → List Instruction → List Instruction
turns_code ts c = Skip (length ts + length c + 1) ∷ (ts ++ (c ++ Skip 2 ∷ SkipEmpty 1 ∷ Turn (length ts + length c + 2) ∷ DropList ∷ []))

module _ (ts c : List Instruction) (h l d p o : ℕ) (x : Fits ts (shape h (l + 1) d p o) (shape h (l + 1) d p o)) (y : Opens c (shape h (l + 1) d p o)) where
  abbrev Base : Standing
  Base = shape h (l + 1) d p o

  abbrev Less : Standing
  Less = shape h l d p o

  last : ℕ → Standing
  last = piece 3 (λ n. Base) (λ n. Less)

  behind_names : ℕ → Standing
  behind_names = piece (length c + 1) y.shapes last

  table : ℕ → Standing
  table = piece 1 (λ n. Base) (piece (length ts) x.at behind_names)

  abbrev count : ℕ
  count = length ts + length c + 5

  in_front : (n : ℕ) → n ≡ 0 → table n ≡ Base
  unfolding table
  in_front n e = piece_front 1 (λ n. Base) (piece (length ts) x.at behind_names) n (omega arith)

  behind : (n k : ℕ) → n ≡ length ts + 1 + k → table n ≡ behind_names k
  unfolding table
  behind n k e = piece_back 1 (λ n. Base) (piece (length ts) x.at behind_names) (length ts + k) n (omega arith) ∙ piece_back (length ts) x.at behind_names k (length ts + k) refl

  in_turn : (n m : ℕ) → n ≡ length ts + 1 + m → m ≤ length c → table n ≡ y.shapes m
  unfolding behind_names
  in_turn n m e le = behind n m e ∙ piece_front (length c + 1) y.shapes last m (omega arith)

  among_names : (n m : ℕ) → n ≡ 1 + m → m < length ts → table n ≡ x.at m
  unfolding table
  among_names n m e lt = piece_back 1 (λ n. Base) (piece (length ts) x.at behind_names) m n e ∙ piece_front (length ts) x.at behind_names m lt

  in_names : (n m : ℕ) → n ≡ 1 + m → m ≤ length ts → table n ≡ x.at m
  in_names n m e le = ⊎_elim (λ lt. among_names n m e lt) (λ ge. let z : length ts ≡ m = omega arith in in_turn n 0 (omega arith) (omega arith) ∙ y.starts ∙ sym x.ends ∙ ap x.at z) (cases_lt m (length ts))

  at_last : (n k : ℕ) → n ≡ length ts + length c + 2 + k → table n ≡ last k
  unfolding behind_names
  at_last n k e = behind n (length c + 1 + k) (omega arith) ∙ piece_back (length c + 1) y.shapes last k (length c + 1 + k) refl

  at_turn : (n k : ℕ) → n ≡ length ts + length c + 2 + k → k < 3 → table n ≡ Base
  unfolding last
  at_turn n k e lt = at_last n k e ∙ piece_front 3 (λ n. Base) (λ n. Less) k lt

  at_finish : (n : ℕ) → n ≡ length ts + length c + 5 → table n ≡ Less
  unfolding last
  at_finish n e = at_last n 3 (omega arith) ∙ piece_back 3 (λ n. Base) (λ n. Less) 0 3 refl

  turns_fit : Fits (turns_code ts c) Base Less
  turns_fit =
      let tail = Skip 2 ∷ SkipEmpty 1 ∷ Turn (length ts + length c + 2) ∷ DropList ∷ [] in
      let long = length-append ts (c ++ tail) in
      let long2 = length-append c tail in
      let size : count ≡ length (turns_code ts c) = omega (arith, long, long2) in
      let pc = 0 + 1 + length ts in
      let po = pc + length c in
      let on_drop : Stands table count (po + 1 + 1 + 1) DropList = stands_at table count (po + 1 + 1 + 1) DropList Base (at_turn (po + 1 + 1 + 1) 2 (omega arith) (omega arith)) (omega arith) ((omega arith, at_finish (po + 1 + 1 + 1 + 1 + 0) (omega arith) ∙ ap (λ m. shape h m d p o) (omega arith)), tt) in
      let on_turn : Stands table count (po + 1 + 1) (Turn (length ts + length c + 2)) = stands_at table count (po + 1 + 1) (Turn (length ts + length c + 2)) Base (at_turn (po + 1 + 1) 1 (omega arith) (omega arith)) tt ((omega arith, in_names (po + 1 + 1 - (length ts + length c + 2)) 0 (omega arith) (omega arith) ∙ x.starts), tt) in
      let on_more : Stands table count (po + 1) (SkipEmpty 1) = stands_at table count (po + 1) (SkipEmpty 1) Base (at_turn (po + 1) 0 (omega arith) (omega arith)) (omega arith) ((omega arith, at_turn (po + 1 + 1 + 0) 1 (omega arith) (omega arith)), ((omega arith, at_turn (po + 1 + 1 + 1) 2 (omega arith) (omega arith)), tt)) in
      let on_out : Stands table count po (Skip 2) = stands_at table count po (Skip 2) Base (in_turn po (length c) (omega arith) (omega arith) ∙ y.ends) tt ((omega arith, at_turn (po + 1 + 2) 2 (omega arith) (omega arith)), tt) in
      let of_body : Placed table count pc (c ++ tail) = placed_joined table count pc c tail (y.placed table count pc (omega arith) (λ n le. in_turn (pc + n) n (omega arith) le) (at_turn (pc + length c + 1) 0 (omega arith) (omega arith))) (on_out, (on_more, (on_turn, (on_drop, tt)))) in
      let of_names : Placed table count (0 + 1) (ts ++ (c ++ tail)) = placed_joined table count (0 + 1) ts (c ++ tail) (placed_fits table count ts Base Base x (0 + 1) (omega arith) (λ m le. in_names (0 + 1 + m) m (omega arith) le)) of_body in
      let on_skip : Stands table count 0 (Skip (length ts + length c + 1)) = stands_at table count 0 (Skip (length ts + length c + 1)) Base (in_front 0 refl) tt ((omega arith, at_turn (0 + 1 + (length ts + length c + 1)) 0 (omega arith) (omega arith)), tt) in
      fits_placed table count (turns_code ts c) Base Less size (in_front 0 refl) (at_finish (length (turns_code ts c)) (omega (arith, long, long2))) (on_skip, of_names)

  abbrev Tail : List Instruction
  Tail = Skip 2 ∷ SkipEmpty 1 ∷ Turn (length ts + length c + 2) ∷ DropList ∷ []

  module _ (gathers : Bool) (s : Standing) (e : Fits (each_end gathers ∷ Answer ∷ []) Less s) where
    abbrev ends : List Instruction
    ends = each_end gathers ∷ Answer ∷ []

    -- from where the turns begin
    abbrev behind_list : List Instruction
    behind_list = Skip (length ts + length c + 1) ∷ (ts ++ (c ++ Skip 2 ∷ SkipEmpty 1 ∷ Turn (length ts + length c + 2) ∷ DropList ∷ each_end gathers ∷ Answer ∷ []))

    joined : turns_code ts c ++ ends ≡ behind_list
    joined = ap (λ z. Skip (length ts + length c + 1) ∷ z) (append_assoc ts (c ++ Tail) ends ∙ ap (λ z. ts ++ z) (append_assoc c Tail ends))

    dealt_fits : (n : ℕ) → Fits (dealt_code gathers n ts c) (shape (h + n) l d p o) s
    dealt_fits n =
        fits_joined (Deal n ∷ []) behind_list (shape (h + n) l d p o) Base s
        (fits_one (Deal n) (shape (h + n) l d p o) Base _ (omega arith) refl (ap (λ m. shape m (l + 1) d p o) (omega arith)))
        (subst (λ c. Fits c Base s) joined (fits_joined (turns_code ts c) ends Base Less s turns_fit e))

-- where the names and the body are of these shapes in lists of lists
pub each_fits : (gathers : Bool) (n : ℕ) (ts c : List Instruction) (h l d p o : ℕ) → ((k : ℕ) → Fits ts (shape h (k + 1) d p o) (shape h (k + 1) d p o)) → ((k : ℕ) → Opens c (shape h (k + 1) d p o)) → Fits (each_code gathers n ts c) (shape (h + n) l d p o) (shape h l d p o)
each_fits true n ts c h l d p o x y =
    fits_joined (Gather ∷ []) (dealt_code true n ts c) (shape (h + n) l d p o) (shape (h + n) (l + 1) d p o) (shape h l d p o) (fits_one Gather (shape (h + n) l d p o) (shape (h + n) (l + 1) d p o) _ tt refl (ap (λ m. shape (h + n) m d p o) (omega arith)))
    (dealt_fits ts c h (l + 1) d p o (x (l + 1)) (y (l + 1)) true (shape h l d p o)
    (fits_joined (Listed ∷ []) (Answer ∷ []) (shape h (l + 1) d p o) (shape (h + 1) l d p o) (shape h l d p o) (fits_one Listed (shape h (l + 1) d p o) (shape (h + 1) l d p o) _ (omega arith) refl (ap (λ m. shape (h + 1) m d p o) (omega arith))) (answer_fits h l d p o)) n)
each_fits false n ts c h l d p o x y =
    dealt_fits ts c h l d p o (x l) (y l) false (shape h l d p o)
    (fits_joined (Push [] ∷ []) (Answer ∷ []) (shape h l d p o) (shape (h + 1) l d p o) (shape h l d p o) (fits_one (Push []) (shape h l d p o) (shape (h + 1) l d p o) _ tt refl (ap (λ m. shape m l d p o) (omega arith))) (answer_fits h l d p o)) n
