-- Places, levels and links, as the definitions see them.
use Rattle.std.specs.Prelude.{ℕ}
use Rattle.std.specs.Str.{chars}
use Rattle.tcl_names.specs.Named.{text_of}
use Rattle.tcl_pages.specs.Texts.{Text}
use Rattle.tcl_meaning.specs.Frames.{Part, whole, element, deeper, Spot}
use Rattle.tcl_frames.specs.Parts.{part_of}
use Rattle.tcl_frames.specs.declared.place.Place.{Place}
use Rattle.tcl_frames.specs.declared.place.Kept.{Kept}
use Rattle.tcl_frames.specs.declared.place.Kept.TheVariants as kept
use Rattle.tcl_frames.specs.declared.place.Link.TheInside as link

abbrev pub spot : ℕ → Text → Part → Spot
spot i n j = record { frame = i; name = n; part = j }

abbrev pub spot_of : Place → Spot
spot_of p = spot p.frame (chars p.name.now) (part_of p.part)

abbrev pub kept_of : Kept → Part
kept_of kept.Whole = whole
kept_of (kept.Element i) = element (text_of i)
kept_of kept.Deeper = deeper

abbrev pub link_spot : link.Inside → Spot
link_spot l = spot l.frame (text_of l.name) (kept_of l.part)
