use Rattle.std.proofs.Common.{◌≡◌, ◌≤◌}
use denote.Text.{Utf8}
use denote.Shadow.{shadow}
use Rattle.std.specs.Str.{chars}
use Rattle.tcl_meaning.specs.Links.{links_of, destination}
use Rattle.tcl_frames.specs.Parts.{part_of}
use Rattle.tcl_frames.specs.Places.{spot}
use Rattle.tcl_frames.proofs.Chains.{way}
use Rattle.tcl_frames.proofs.stack.Stack.follow_links.Given as goal

abbrev pub decreases-loop-link : goal.decreases-loop-link
decreases-loop-link l = way (links_of l.self.frames) l.at_frame (chars l.at_name)

abbrev pub invariant-loop-link : goal.invariant-loop-link
invariant-loop-link l = record {
  earlier : l.at_frame ≤ l.fn.frame;
  text : shadow (Utf8 l.at_name);
  leads : destination l.self.frames (spot l.at_frame (chars l.at_name) (part_of l.at_part)) ≡ destination l.self.frames (spot l.fn.frame (chars l.fn.name) (part_of l.fn.part));
}
