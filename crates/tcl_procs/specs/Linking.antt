-- Links between variables of frames: upvar(n), global(n).
use Rattle.std.specs.Prelude.{◌≡◌, [], Option, Some, None, Result, Ok, Err}
use Rattle.tcl_chars.specs.Texts.{literal}
use Rattle.tcl_frames.specs.Standing.{Standing, store_of}
use Rattle.tcl_meaning.specs.Effects.{Plain}
use Rattle.tcl_meaning.specs.Frames.{Level, at}
use Rattle.tcl_meaning.specs.Links.{link}
use Rattle.tcl_meaning.specs.Names.{without_colons}
use Rattle.tcl_meaning.specs.ProcedurePages.{link_name}
use Rattle.tcl_meaning.specs.State.{Commands}
use Rattle.tcl_meaning.specs.Value.{Value}
use Rattle.tcl_pages.specs.Texts.{Text}

-- a name becomes a link to the global variable of that name
abbrev pub global_link : Text → Plain (Value (Unit {0}))
global_link name = link_name (literal "#0") (at 0) (without_colons name) (without_colons name)

-- the link is made, and the answer is the empty text, or nothing is changed; or memory was refused
abbrev pub LinksAtOnce : {E : Type 0} → Level → (other local : Text) → Standing → Result (Option Text) E → Standing → Type 0
LinksAtOnce level other local f (Ok (Some t)) g = (t ≡ []) × ((cs : Commands) → link (store_of cs f) level other local ≡ (None, store_of cs g))
LinksAtOnce level other local f (Ok None) g = g ≡ f
LinksAtOnce level other local f (Err refused) g = Unit {0}
