-- Frames and their variables, kept apart.
use Rattle.std.proofs.Common.{◌≡◌, ℕ, zero, suc, ◌-◌, ◌<◌, List, [], ◌∷◌, ◌++◌, length, take, get_or, Option, None, Some, Result, Ok, Err, OnOk, refl, sym, ap, subst, ◌∙◌, arith}
use Rattle.std.specs.Prelude.{slice_set, IfOk, IfErr, IfSome, ◌==◌, if◌then◌else◌}
use Rattle.std.specs.FinMap as map
use Rattle.tcl_pages.specs.Texts.{Text}
use Rattle.tcl_meaning.specs.declared.refusal.Refusal.{Refusal}
use Rattle.tcl_meaning.specs.Frames.{Variable, Variables, Part, whole, Spot, Frame, frame_at, set_frame, Level, up, at, chain_of, chain, nth, of_level, frame_of_level}
use Rattle.tcl_meaning.specs.Arrays.{whole_array, array_of, spot_named}
use Rattle.tcl_meaning.specs.SeenPages.{is_there, is_there_at, names_of, frame_names}
use Rattle.tcl_meaning.specs.Links.{links_of, destination, spot_in, home}
use Rattle.tcl_meaning.specs.Names.{Name, divided_name}
use Rattle.tcl_meaning.specs.State.{Commands, Store, Change, with_call, active_frame}
use Rattle.tcl_meaning.specs.Variables.{spot_of, variable_at, missing, get_part, get, put_part, stored, put_change, remove_part, removed, remove_change}
use Rattle.tcl_frames.specs.Standing.{Standing, store_of, applied, after, with_put, with_variables, joined, called, left}
use Rattle.tcl_frames.specs.Written.{or_else, stored_in, with_text, variables_of, variable_in, with_frame_of, stored_at, removed_at, with_text_at, with_text_in}
use Rattle.tcl_frames.specs.Edits.{edit_part, edit_change}
use Rattle.tcl_frames.specs.declared.edit.Edit.{Edit}
use Rattle.tcl_frames.specs.Refusals.{Refuses}
use Rattle.tcl_frames.specs.declared.fault.VarFault.{VarFault}
use Rattle.tcl_frames.specs.declared.fault.VarFault.TheVariants as fault
use Rattle.tcl_frames.specs.NameSets.{with_names}
use Rattle.tcl_frames.proofs.NameSets.{together}
use Rattle.tcl_frames.proofs.Chains.{lead, destination_leads}

pub links_joined : (fs : List Frame) (vs : List Variables) → links_of (with_variables fs vs) ≡ links_of fs
links_joined [] vs = refl
links_joined (f ∷ fs) [] = refl
links_joined (f ∷ fs) (v ∷ vs) = ap (λ ls. f.links ∷ ls) (links_joined fs vs)

pub length_joined : (fs : List Frame) (vs : List Variables) → length (with_variables fs vs) ≡ length fs
length_joined [] vs = refl
length_joined (f ∷ fs) [] = refl
length_joined (f ∷ fs) (v ∷ vs) = ap suc (length_joined fs vs)

pub destination_joined : (fs : List Frame) (vs : List Variables) (p : Spot) → destination (with_variables fs vs) p ≡ destination fs p
destination_joined fs vs p = destination_leads (with_variables fs vs) p ∙ ap (λ ls. lead ls p) (links_joined fs vs) ∙ sym (destination_leads fs p)

-- a name leads where it did
pub spot_joined : (fs : List Frame) (vs : List Variables) (i : ℕ) (n : Name) → spot_in (with_variables fs vs) i n ≡ spot_in fs i n
spot_joined fs vs i n = destination_joined fs vs (record { frame = home i n; name = n.base; part = n.part })

-- the variables of a frame are there
pub variables_joined : (fs : List Frame) (vs : List Variables) (i : ℕ) → length fs ≡ length vs → (frame_at (with_variables fs vs) i).variables ≡ variables_of vs i
variables_joined [] [] i h = refl
variables_joined [] (v ∷ vs) i h = absurd (omega (arith, h))
variables_joined (f ∷ fs) [] i h = absurd (omega (arith, h))
variables_joined (f ∷ fs) (v ∷ vs) zero h = refl
variables_joined (f ∷ fs) (v ∷ vs) (suc i) h = variables_joined fs vs i (omega (arith, h))

-- and so are the links
pub frame_links : (fs : List Frame) (vs : List Variables) (i : ℕ) → (frame_at (with_variables fs vs) i).links ≡ (frame_at fs i).links
frame_links [] vs i = refl
frame_links (f ∷ fs) [] i = refl
frame_links (f ∷ fs) (v ∷ vs) zero = refl
frame_links (f ∷ fs) (v ∷ vs) (suc i) = frame_links fs vs i

-- and are changed there
pub changed_joined : (fs : List Frame) (vs : List Variables) (i : ℕ) (m : Variables) → length fs ≡ length vs
    → set_frame (with_variables fs vs) i (record (frame_at (with_variables fs vs) i) { variables = m }) ≡ with_variables fs (slice_set vs i m)
changed_joined [] [] i m h = refl
changed_joined [] (v ∷ vs) i m h = absurd (omega (arith, h))
changed_joined (f ∷ fs) [] i m h = absurd (omega (arith, h))
changed_joined (f ∷ fs) (v ∷ vs) zero m h = refl
changed_joined (f ∷ fs) (v ∷ vs) (suc i) m h = ap (λ l. record f { variables = v } ∷ l) (changed_joined fs vs i m (omega (arith, h)))

-- ---- one of them, by the code's list

pub variables_of-get : (vs : List Variables) (i : ℕ) (d : Variables) → i < length vs → variables_of vs i ≡ get_or vs i d
variables_of-get [] i d lt = absurd (omega arith)
variables_of-get (v ∷ vs) zero d lt = refl
variables_of-get (v ∷ vs) (suc i) d lt = variables_of-get vs i d (omega arith)

pub variables_here : (vs now : List Variables) (i : ℕ) (m : Variables) → vs ≡ now → m ≡ get_or vs i m → i < length now → variables_of now i ≡ m
variables_here vs now i m view is lt = ap (λ k. variables_of k i) (sym view) ∙ variables_of-get vs i m (subst (λ (k : List Variables). i < length k) (sym view) lt) ∙ sym is

-- the variables of a frame changed, as a definition answers it
pub done_at : {A E : Type 0} (r : Result A E) (vs now : List Variables) (i : ℕ) (m new : Variables) (answer : Variables → Result Variables Refusal) → vs ≡ now → variables_of now i ≡ m
    → OnOk r (answer m ≡ Ok new) → OnOk r (with_frame_of now i (answer (variables_of now i)) ≡ Ok (slice_set vs i new))
done_at (Ok x) vs now i m new answer view here h = ap (λ v. with_frame_of now i (answer v)) here ∙ ap (with_frame_of now i) h ∙ ap (λ (k : List Variables). Ok (slice_set k i new)) (sym view)
done_at (Err e) vs now i m new answer view here h = tt

-- ---- what a name means, among frames whose variables are kept apart

module _ (f : Standing) (vs : List Variables) (now : Standing) (view : joined f vs ≡ now) (even : length f.frames ≡ length vs) (cs : Commands) (name : Text) (p : Spot) (leads : p ≡ spot_in f.frames f.active (divided_name name)) where
  at_place : {A : Type 0} (g : Spot → Option Variable → A) → g (spot_of (store_of cs now) (divided_name name)) (variable_at (store_of cs now) (spot_of (store_of cs now) (divided_name name))) ≡ g p (variable_in vs p)
  at_place g =
      ap (λ (n : Standing). g (spot_of (store_of cs n) (divided_name name)) (variable_at (store_of cs n) (spot_of (store_of cs n) (divided_name name)))) (sym view)
      ∙ ap (λ q. g q (variable_at (store_of cs (joined f vs)) q)) (spot_joined f.frames vs f.active (divided_name name) ∙ sym leads)
      ∙ ap (λ v. g p (map.get v p.name)) (variables_joined f.frames vs p.frame even)

  pub get_joined : (miss : Refusal) → miss ≡ missing (divided_name name).part → get (store_of cs now) name ≡ get_part miss (variable_in vs p) p.part
  unfolding get
  get_joined miss e = at_place (λ q v. get_part (missing (divided_name name).part) v q.part) ∙ ap (λ x. get_part x (variable_in vs p) p.part) (sym e)

  pub array_joined : array_of (store_of cs now) name ≡ whole_array (variable_in vs p) p.part
  array_joined = at_place (λ q v. whole_array v q.part)

  pub there_joined : is_there_at (store_of cs now) (spot_named (store_of cs now) name) ≡ is_there (variable_in vs p) p.part
  there_joined = at_place (λ q v. is_there v q.part)

  pub put_joined : (t : Text) → put_change (store_of cs now) name t ≡ stored p (put_part (variable_in vs p) p.part t)
  unfolding put_change
  put_joined t = at_place (λ q v. stored q (put_part v q.part t))

  pub edit_joined : (e : Edit) → edit_change (store_of cs now) name e ≡ stored p (edit_part e (variable_in vs p) p.part)
  edit_joined e = at_place (λ q v. stored q (edit_part e v q.part))

  pub remove_joined : (miss : Refusal) → miss ≡ missing (divided_name name).part → remove_change (store_of cs now) name ≡ removed p (remove_part miss (variable_in vs p) p.part)
  unfolding remove_change
  remove_joined miss e = at_place (λ q v. removed q (remove_part (missing (divided_name name).part) v q.part)) ∙ ap (λ x. removed p (remove_part x (variable_in vs p) p.part)) (sym e)

-- what is told of a name of the active frame, which is not divided
abbrev told_here : {A : Type 0} → (Option Variable → Part → A) → Store → Text → A
told_here tell s name = let p = destination s.frames (record { frame = s.active; name = name; part = whole }) in tell (variable_at s p) p.part

pub here_joined : {A : Type 0} (tell : Option Variable → Part → A) (f : Standing) (vs : List Variables) (now : Standing) → joined f vs ≡ now → length f.frames ≡ length vs → (cs : Commands) (name : Text) (p : Spot)
    → p ≡ destination f.frames (record { frame = f.active; name = name; part = whole }) → told_here tell (store_of cs now) name ≡ tell (variable_in vs p) p.part
here_joined tell f vs now view even cs name p leads =
    let q : Spot = record { frame = f.active; name = name; part = whole } in
    ap (λ (n : Standing). told_here tell (store_of cs n) name) (sym view)
    ∙ ap (λ (k : Spot). tell (variable_at (store_of cs (joined f vs)) k) k.part) (destination_joined f.frames vs q ∙ sym leads)
    ∙ ap (λ v. tell (map.get v p.name) p.part) (variables_joined f.frames vs p.frame even)

-- the names of the active frame's variables and links
pub names_joined : (f : Standing) (vs : List Variables) (now : Standing) → joined f vs ≡ now → length f.frames ≡ length vs → (cs : Commands)
    → with_names (with_names map.empty (names_of (frame_at f.frames f.active).links)) (names_of (variables_of vs f.active)) ≡ frame_names (active_frame (store_of cs now))
names_joined f vs now view even cs =
    let fs = with_variables f.frames vs in
    let i = f.active in
    together (names_of (variables_of vs i)) (names_of (frame_at f.frames i).links)
    ∙ ap (λ m. map.from_entries (names_of m ++ names_of (frame_at f.frames i).links)) (sym (variables_joined f.frames vs i even))
    ∙ ap (λ m. map.from_entries (names_of (frame_at fs i).variables ++ names_of m)) (sym (frame_links f.frames vs i))
    ∙ ap (λ (n : Standing). frame_names (active_frame (store_of cs n))) view

-- ---- changes

module _ (f : Standing) (vs : List Variables) (even : length f.frames ≡ length vs) (cs : Commands) where
  abbrev stores : Result (List Variables) Refusal → Result Store Refusal
  stores (Ok ws) = Ok (store_of cs (joined f ws))
  stores (Err refusal) = Err refusal

  pub one_changed : (i : ℕ) (g : Variables → Variables)
      → set_frame (with_variables f.frames vs) i (record (frame_at (with_variables f.frames vs) i) { variables = g (frame_at (with_variables f.frames vs) i).variables }) ≡ with_variables f.frames (slice_set vs i (g (variables_of vs i)))
  one_changed i g =
      ap (λ m. set_frame (with_variables f.frames vs) i (record (frame_at (with_variables f.frames vs) i) { variables = g m })) (variables_joined f.frames vs i even)
      ∙ changed_joined f.frames vs i (g (variables_of vs i)) even

  abbrev as_store : List Frame → Result Store Refusal
  as_store fs = Ok (store_of cs (record { frames = fs; active = f.active }))

  pub stored_applied : (p : Spot) (r : Result Variable Refusal) → applied (stored p r) (store_of cs (joined f vs)) ≡ stores (stored_at vs p r)
  stored_applied p (Ok v) = ap as_store (one_changed p.frame (λ m. map.insert m p.name v))
  stored_applied p (Err refusal) = refl

  pub removed_applied : (p : Spot) (r : Result (Option Variable) Refusal) → applied (removed p r) (store_of cs (joined f vs)) ≡ stores (removed_at vs p r)
  removed_applied p (Ok (Some v)) = ap as_store (one_changed p.frame (λ m. map.insert m p.name v))
  removed_applied p (Ok None) = ap as_store (one_changed p.frame (λ m. map.remove m p.name))
  removed_applied p (Err refusal) = refl

  -- a change that was made, and one that was refused
  pub done_joined : {A E : Type 0} (r : Result A E) (now : Standing) (new : List Variables) (change change' : Result Change Refusal) (answer : Result (List Variables) Refusal) → joined f vs ≡ now → change ≡ change'
      → applied change' (store_of cs (joined f vs)) ≡ stores answer → OnOk r (answer ≡ Ok new) → OnOk r (applied change (store_of cs now) ≡ Ok (store_of cs (joined f new)))
  done_joined (Ok x) now new change change' answer view same step h = ap (λ (n : Standing). applied change (store_of cs n)) (sym view) ∙ ap (λ ch. applied ch (store_of cs (joined f vs))) same ∙ step ∙ ap stores h
  done_joined (Err e) now new change change' answer view same step h = tt

pub refused_stored : {A : Type 0} (r : Result A VarFault) (p : Spot) (answer : Result Variable Refusal) (change : Result Change Refusal) → change ≡ stored p answer → IfErr r (Refuses answer) → IfErr r (Refuses change)
refused_stored (Ok x) p answer change e h = tt
refused_stored (Err fault.Memory) p answer change e h = tt
refused_stored (Err (fault.Refused refusal)) p answer change e h = e ∙ ap (stored p) h

pub refused_removed : {A : Type 0} (r : Result A Refusal) (p : Spot) (answer : Result (Option Variable) Refusal) (change : Result Change Refusal) → change ≡ removed p answer → IfErr r (λ refusal. answer ≡ Err refusal)
    → IfErr r (λ refusal. change ≡ Err refusal)
refused_removed (Ok x) p answer change e h = tt
refused_removed (Err refusal) p answer change e h = e ∙ ap (removed p) h

-- ---- levels and calls

pub level_joined : (fs : List Frame) (vs : List Variables) (i : ℕ) → (frame_at (with_variables fs vs) i).level ≡ (frame_at fs i).level
level_joined [] vs i = refl
level_joined (f ∷ fs) [] i = refl
level_joined (f ∷ fs) (v ∷ vs) zero = refl
level_joined (f ∷ fs) (v ∷ vs) (suc i) = level_joined fs vs i

pub caller_joined : (fs : List Frame) (vs : List Variables) (i : ℕ) → (frame_at (with_variables fs vs) i).caller ≡ (frame_at fs i).caller
caller_joined [] vs i = refl
caller_joined (f ∷ fs) [] i = refl
caller_joined (f ∷ fs) (v ∷ vs) zero = refl
caller_joined (f ∷ fs) (v ∷ vs) (suc i) = caller_joined fs vs i

-- as many frames
pub count_joined : (f : Standing) (vs : List Variables) (now : Standing) → joined f vs ≡ now → length f.frames ≡ length now.frames
count_joined f vs now view = sym (length_joined f.frames vs) ∙ ap (λ (n : Standing). length n.frames) view

more_joined : (fs : List Frame) (vs : List Variables) (g : Frame) (v : Variables) → length fs ≡ length vs → with_variables (fs ++ g ∷ []) (vs ++ v ∷ []) ≡ with_variables fs vs ++ record g { variables = v } ∷ []
more_joined [] [] g v h = refl
more_joined [] (w ∷ vs) g v h = absurd (omega (arith, h))
more_joined (f ∷ fs) [] g v h = absurd (omega (arith, h))
more_joined (f ∷ fs) (w ∷ vs) g v h = ap (λ l. record f { variables = w } ∷ l) (more_joined fs vs g v (omega (arith, h)))

pub take_joined : (n : ℕ) (fs : List Frame) (vs : List Variables) → with_variables (take n fs) (take n vs) ≡ take n (with_variables fs vs)
take_joined zero fs vs = refl
take_joined (suc n) [] vs = refl
take_joined (suc n) (f ∷ fs) [] = refl
take_joined (suc n) (f ∷ fs) (v ∷ vs) = ap (λ l. record f { variables = v } ∷ l) (take_joined n fs vs)

pub call_joined : (f : Standing) (vs : List Variables) (now : Standing) (v : Variables) (cs : Commands) → joined f vs ≡ now → length f.frames ≡ length vs → store_of cs (joined (called f) (vs ++ v ∷ [])) ≡ with_call v (store_of cs now)
call_joined f vs now v cs view even =
    let level = sym (level_joined f.frames vs f.active) in
    let count = sym (length_joined f.frames vs) in
    let as_call : ℕ → ℕ → List Frame → Store = λ l n fs. store_of cs (record { frames = fs ++ record { caller = f.active; level = suc l; variables = v; links = map.empty } ∷ []; active = n }) in
    ap (λ l. store_of cs (record { frames = l; active = length f.frames })) (more_joined f.frames vs _ v even)
    ∙ ap (λ l. as_call l (length f.frames) (with_variables f.frames vs)) level ∙ ap (λ n. as_call (frame_at (with_variables f.frames vs) f.active).level n (with_variables f.frames vs)) count
    ∙ ap (λ (n : Standing). with_call v (store_of cs n)) view

pub left_joined : (f : Standing) (vs : List Variables) (now : Standing) → joined f vs ≡ now → length f.frames ≡ length vs → joined (left f) (take (length vs - 1) vs) ≡ left now
left_joined f vs now view even =
    let n = length f.frames - 1 in
    ap (λ k. joined (left f) (take (k - 1) vs)) (sym even)
    ∙ ap (λ l. record { frames = l; active = (frame_at f.frames n).caller }) (take_joined n f.frames vs)
    ∙ ap (λ i. record { frames = take n (with_variables f.frames vs); active = i }) (sym (caller_joined f.frames vs n))
    ∙ ap (λ k. record { frames = take (k - 1) (with_variables f.frames vs); active = (frame_at (with_variables f.frames vs) (k - 1)).caller }) (sym (length_joined f.frames vs))
    ∙ ap left view

-- ---- levels

chain_joined : (n : ℕ) (fs : List Frame) (vs : List Variables) (i : ℕ) → chain_of n (with_variables fs vs) i ≡ chain_of n fs i
chain_joined zero fs vs i = refl
chain_joined (suc n) fs vs i = ap (λ is. i ∷ is) (ap (chain_of n (with_variables fs vs)) (caller_joined fs vs i) ∙ chain_joined n fs vs (frame_at fs i).caller)

among_joined : (l : ℕ) (fs : List Frame) (vs : List Variables) (is : List ℕ) → of_level (with_variables fs vs) l is ≡ of_level fs l is
among_joined l fs vs [] = refl
among_joined l fs vs (i ∷ is) = ap (λ k. if k == l then Some i else of_level (with_variables fs vs) l is) (level_joined fs vs i) ∙ ap (λ o. if (frame_at fs i).level == l then Some i else o) (among_joined l fs vs is)

all_joined : (fs : List Frame) (vs : List Variables) (i : ℕ) → chain (with_variables fs vs) i ≡ chain fs i
all_joined fs vs i = ap (λ n. chain_of n (with_variables fs vs) i) (level_joined fs vs i) ∙ chain_joined (frame_at fs i).level fs vs i

pub level_of_joined : (fs : List Frame) (vs : List Variables) (i : ℕ) (level : Level) → frame_of_level (with_variables fs vs) i level ≡ frame_of_level fs i level
level_of_joined fs vs i (up k) = ap (nth k) (all_joined fs vs i)
level_of_joined fs vs i (at l) = ap (of_level (with_variables fs vs) l) (all_joined fs vs i) ∙ among_joined l fs vs (chain fs i)

pub if_within : (o : Option ℕ) (m n : ℕ) → m ≡ n → IfSome o (λ i. i < m) → IfSome o (λ i. i < n)
if_within None m n e h = tt
if_within (Some i) m n e h = omega (arith, e, h)

-- ---- texts that are lent

pub if_frame : {E : Type 0} (r : Result Spot E) (p : Spot) (n : ℕ) → IfOk r (λ t. t ≡ p) → p.frame < n → IfOk r (λ t. t.frame < n)
if_frame (Ok t) p n e lt = subst (λ (q : Spot). q.frame < n) (sym e) lt
if_frame (Err x) p n e lt = tt

pub get_place : (s : Store) (name : Text) (p : Spot) (miss : Refusal) → p ≡ spot_of s (divided_name name) → miss ≡ missing (divided_name name).part → get s name ≡ get_part miss (variable_at s p) p.part
unfolding get
get_place s name p miss leads e = ap (λ q. get_part (missing (divided_name name).part) (variable_at s q) q.part) (sym leads) ∙ ap (λ x. get_part x (variable_at s p) p.part) (sym e)

set_same : (fs : List Frame) (i : ℕ) → set_frame fs i (frame_at fs i) ≡ fs
set_same [] i = refl
set_same (f ∷ fs) zero = refl
set_same (f ∷ fs) (suc i) = ap (λ l. f ∷ l) (set_same fs i)

text_by : (f : Standing) (q : Spot) (r : Result Variable Refusal) → let k = frame_at f.frames q.frame in
    record f { frames = set_frame f.frames q.frame (record k { variables = or_else k.variables (stored_in k.variables q.name r) }) } ≡ after f (applied (stored q r) (store_of map.empty f))
text_by f q (Ok v) = refl
text_by f q (Err refusal) = ap (λ l. record f { frames = l }) (set_same f.frames q.frame)

-- a place gets a text as its name does
pub put_place : (f : Standing) (name : Text) (p : Spot) (t : Text) → p ≡ spot_of (store_of map.empty f) (divided_name name) → with_text_in f p t ≡ with_put f name t
unfolding put_change
put_place f name p t leads =
    let q = spot_of (store_of map.empty f) (divided_name name) in
    ap (λ (r : Spot). with_text_in f r t) leads ∙ text_by f q (put_part (variable_at (store_of map.empty f) q) q.part t)

module _ (f : Standing) (vs : List Variables) (now : Standing) (view : joined f vs ≡ now) (even : length f.frames ≡ length vs) where
  pub named_joined : (cs : Commands) (n : Name) → spot_of (store_of cs now) n ≡ spot_in f.frames f.active n
  named_joined cs n = ap (λ (k : Standing). spot_of (store_of cs k) n) (sym view) ∙ spot_joined f.frames vs f.active n

  pub variable_is : (cs : Commands) (p : Spot) → variable_at (store_of cs now) p ≡ variable_in vs p
  variable_is cs p = ap (λ (k : Standing). variable_at (store_of cs k) p) (sym view) ∙ ap (λ v. map.get v p.name) (variables_joined f.frames vs p.frame even)

  pub text_joined : (p : Spot) (t : Text) → joined f (with_text_at vs p t) ≡ with_text_in now p t
  text_joined p t =
      ap (λ l. record { frames = l; active = f.active }) (sym (one_changed f vs even map.empty p.frame (λ m. with_text m p.name p.part t))) ∙ ap (λ (n : Standing). with_text_in n p t) view
