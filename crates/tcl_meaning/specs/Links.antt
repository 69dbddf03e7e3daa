-- Links between variables: upvar(n), global(n).
use Rattle.std.specs.Prelude.{◌≡◌, ℕ, zero, suc, ◌+◌, ◌≤◌, ◌<◌, Bool, true, not, nat_eq, is_some, ◌&&◌, ◌||◌, List, [], ◌∷◌, length, map as each, Option, Some, None, if◌then◌else◌}
use Rattle.std.specs.FinMap as map
use Rattle.tcl_names.specs.Named.{Named}
use Rattle.tcl_pages.specs.Texts.{Text, same_text}
use Rattle.tcl_meaning.specs.declared.refusal.LinkRefusal.{LinkRefusal}
use Rattle.tcl_meaning.specs.declared.refusal.LinkRefusal.TheVariants.{BadLevel, BadName, Itself, Exists}
use Rattle.tcl_meaning.specs.Frames.{Part, whole, element, deeper, Spot, Frame, frame_at, Level, frame_of_level}
use Rattle.tcl_meaning.specs.Names.{Name, divided_name, is_element}
use Rattle.tcl_meaning.specs.State.{Store, active_frame, with_link}

-- ---- where a name leads

-- the part j of what is itself the part i
abbrev pub under : Part → Part → Part
under whole j = j
under (element a) whole = element a
under (element a) (element b) = deeper
under (element a) deeper = deeper
under deeper j = deeper

-- where a part of a name leads that is linked to a place
abbrev pub through : Spot → Part → Spot
through t j = record t { part = under t.part j }

-- the links of each frame
abbrev pub links_of : List Frame → List (Named Spot)
links_of fs = each (λ f. f.links) fs

-- the link that a name of the frame i is
abbrev pub link_at : List (Named Spot) → ℕ → Text → Option Spot
link_at [] i n = None
link_at (m ∷ ms) zero n = map.get m n
link_at (m ∷ ms) (suc i) n = link_at ms i n

-- on where there is a link, and else here
abbrev pub hop : {A : Type 0} → Option Spot → A → (Spot → A) → A
hop None here on = here
hop (Some t) here on = on t

-- at most k links followed
abbrev pub walk : ℕ → List (Named Spot) → Spot → Spot
walk zero ls p = p
walk (suc k) ls p = hop (link_at ls p.frame p.name) p (λ t. walk k ls (through t p.part))

-- how many links the frames up to i have
abbrev pub room : List (Named Spot) → ℕ → ℕ
room [] i = 0
room (m ∷ ms) zero = map.len m
room (m ∷ ms) (suc i) = map.len m + room ms i

-- The place to which a name leads: links are followed until a name is no link. They lead to no later frame and close no
-- circle (below), so there are no more to follow than there are.
unfoldable pub destination : List Frame → Spot → Spot
destination fs p = walk (room (links_of fs) p.frame) (links_of fs) p

-- Where a name leads that is written in the frame i. Leading colons mean the global frame.
abbrev pub home : ℕ → Name → ℕ
home i n = if n.global then 0 else i

abbrev pub spot_in : List Frame → ℕ → Name → Spot
spot_in fs i n = destination fs (record { frame = home i n; name = n.base; part = n.part })

-- ---- making a link

-- does the place belong to this name of the active frame, or to an element of it
abbrev pub is_own : Store → Text → Spot → Bool
is_own s local target = nat_eq target.frame s.active && same_text target.name local

-- is the name a variable, and no link
abbrev pub is_variable : Store → Text → Bool
is_variable s local = let f = active_frame s in not (is_some (map.get f.links local)) && is_some (map.get f.variables local)

-- why there is no link, if there is none, and what scripts keep then
abbrev pub Linked : Type 0
Linked = Option LinkRefusal × Store

abbrev pub link_to : Store → Text → Name → Spot → Linked
link_to s local n target =
    if n.global || is_element n.part then (Some BadName, s)
    else if is_own s local target then (Some Itself, s)
    else if is_variable s local then (Some Exists, s)
    else (None, with_link local target s)

abbrev pub link_from : Store → Option ℕ → Text → Text → Linked
link_from s None other local = (Some BadLevel, s)
link_from s (Some i) other local = link_to s local (divided_name local) (spot_in s.frames i (divided_name other))

-- `local` in the active frame means from now on what `other` means in the frame of a level: the place that is found now. A
-- link that stands under that name goes.
unfoldable pub link : Store → Level → Text → Text → Linked
link s level other local = link_from s (frame_of_level s.frames s.active level) other local

-- ---- links close no circle

-- k links are enough from a name
abbrev pub ends_within : ℕ → List (Named Spot) → ℕ → Text → Bool
ends_within zero ls i n = not (is_some (link_at ls i n))
ends_within (suc k) ls i n = hop (link_at ls i n) true (λ t. ends_within k ls t.frame t.name)

-- links lead to no later frame, and from each name they end
pub record IsTower (ls : List (Named Spot)) : Type 0 where
  pub down : (i : ℕ) (n : Text) (t : Spot) → link_at ls i n ≡ Some t → t.frame ≤ i
  pub end : (i : ℕ) (n : Text) → ends_within (room ls i) ls i n ≡ true

-- The active frame is there, no frame is called by a later one, and links end. Every run keeps it so: see Laws.
pub record IsSound (s : Store) : Type 0 where
  pub active : s.active < length s.frames
  pub callers : (i : ℕ) → (frame_at s.frames i).caller ≤ i
  pub tower : IsTower (links_of s.frames)
